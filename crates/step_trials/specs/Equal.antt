-- When a mutant does what its design does.
use Rattle.std.specs.Prelude.{◌≡◌, ℕ, List}
use Rattle.netlist_core.specs.declared.raw.RawNetlist.{RawNetlist}
use Rattle.mutation_sites.specs.declared.site.Site.{Site}
use Rattle.netlist_core.specs.Runs.{Nets, Sight, plain, Holds, shown, taken, IsRunBy, outputs_by}
use Rattle.mutation_sites.specs.Mutants.{sight_at}

-- a netlist, and what its readers see
pub record Machine : Type 0 where
  pub netlist : RawNetlist
  pub sight : Nets → Sight

abbrev pub design : RawNetlist → Machine
design netlist = record { netlist = netlist; sight = plain }

abbrev pub mutant : RawNetlist → Site → Machine
mutant netlist site = record { netlist = netlist; sight = sight_at netlist site }

-- the same is shown, and the registers take the same
pub record StepsAlike (a b : Machine) (x y : Nets) : Type 0 where
  pub outputs : shown (a.sight x) a.netlist ≡ shown (b.sight y) b.netlist
  pub next : taken (a.sight x) 0 a.netlist.registers ≡ taken (b.sight y) 0 b.netlist.registers

-- One-step equality: equal outputs and equal next registers for all values of the inputs and of the registers.
abbrev pub OneStepEqual : Machine → Machine → Type 0
OneStepEqual a b = (inputs state : List ℕ) (x y : Nets) → Holds (a.sight x) x a.netlist inputs state → Holds (b.sight y) y b.netlist inputs state → StepsAlike a b x y

-- equal outputs on every list of inputs, from equal registers
abbrev pub EqualOnAllRuns : Machine → Machine → Type 0
EqualOnAllRuns a b = (state : List ℕ) (inputs : List (List ℕ)) (xs ys : List Nets) → IsRunBy a.sight a.netlist state inputs xs → IsRunBy b.sight b.netlist state inputs ys → outputs_by a.sight a.netlist xs ≡ outputs_by b.sight b.netlist ys

-- A cycle has a solution, and any two show the same, and the registers take the same.
pub record HasOneSolution (m : Machine) (inputs state : List ℕ) : Type 0 where
  pub solution : (nets : Nets) × Holds (m.sight nets) nets m.netlist inputs state
  pub one : (x y : Nets) → Holds (m.sight x) x m.netlist inputs state → Holds (m.sight y) y m.netlist inputs state → StepsAlike m m x y
