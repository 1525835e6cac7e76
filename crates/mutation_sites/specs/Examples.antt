-- Ports of one and of two bits, and their sites.
use Rattle.std.specs.Prelude.{◌≡◌, ℕ, true, [], ◌∷◌}
use Rattle.netlist_core.specs.declared.bit.Bit.TheVariants.{Net}
use Rattle.mutation_sites.specs.declared.mode.Mode.{Mode}
use Rattle.mutation_sites.specs.declared.mode.Mode.TheVariants.{Inv, Const0, Const1, Cnot0, Cnot1}
use Rattle.mutation_sites.specs.declared.mode.ModeSet.{ModeSet}
use Rattle.mutation_sites.specs.declared.site.Place.TheVariants.{Cell}
use Rattle.mutation_sites.specs.declared.site.Site.{Site}
use Rattle.mutation_sites.specs.Sites.{port_sites}

abbrev pub every_mode : ModeSet
every_mode = record { inv = true; const0 = true; const1 = true; cnot0 = true; cnot1 = true }

-- the site at bit i of port 2 of cell 0
abbrev pub at : ℕ → Mode → Site
at i mode = record { mode = mode; place = Cell 0; port = 2; bit = i }

-- a port of one bit has three sites
abbrev pub OneBitHasThree : Type 0
OneBitHasThree = port_sites every_mode (Cell 0) 2 (Net 5 ∷ []) ≡ at 0 Inv ∷ at 0 Const0 ∷ at 0 Const1 ∷ []

-- a port of two bits has ten: those at bit 0, then those at bit 1
abbrev pub TwoBitsHaveTen : Type 0
TwoBitsHaveTen = port_sites every_mode (Cell 0) 2 (Net 5 ∷ Net 6 ∷ []) ≡ at 0 Inv ∷ at 0 Const0 ∷ at 0 Const1 ∷ at 0 Cnot0 ∷ at 0 Cnot1 ∷ at 1 Inv ∷ at 1 Const0 ∷ at 1 Const1 ∷ at 1 Cnot0 ∷ at 1 Cnot1 ∷ []
