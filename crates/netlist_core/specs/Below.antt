-- Bits that are constants, or nets below a number.
use Rattle.std.specs.Prelude.{ℕ, ◌<◌, List, [], ◌∷◌}
use Rattle.netlist_core.specs.declared.bit.Bit.{Bit}
use Rattle.netlist_core.specs.declared.bit.Bit.TheVariants.{Fixed, Net}

abbrev pub AllBelow : ℕ → List Bit → Type 0
AllBelow limit [] = Unit {0}
AllBelow limit (Fixed b ∷ more) = AllBelow limit more
AllBelow limit (Net n ∷ more) = (n < limit) × AllBelow limit more

abbrev pub PortsBelow : ℕ → List (List Bit) → Type 0
PortsBelow limit [] = Unit {0}
PortsBelow limit (bits ∷ more) = AllBelow limit bits × PortsBelow limit more
