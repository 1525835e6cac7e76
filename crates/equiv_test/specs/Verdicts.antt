-- What the verdicts of an equivalence test show.
use Rattle.std.specs.Prelude.{◌≡◌, ◌≢◌, ℕ, ◌<◌, ◌^◌, List, slice_get}
use Rattle.netlist_core.specs.declared.raw.RawNetlist.{RawNetlist}
use Rattle.netlist_core.specs.Runs.{Nets, plain, Holds, bits_at, q_bits, shown, taken}
use Rattle.netlist_core.specs.Checked.{Plan, IsFirst, free_bits}
use Rattle.lrat_checker.specs.LegalLogs.{Log, IsRefutation, IsAttempt}
use Rattle.cycle_sim.specs.Simulated.{HaveWidths, numbers_of}
use Rattle.step_trials.specs.Equal.{design, OneStepEqual}
use Rattle.pair_gates.specs.Copies.{pair_clauses}
use Rattle.equiv_test.specs.declared.verdict.DiffPlace.{DiffPlace}
use Rattle.equiv_test.specs.declared.verdict.DiffPlace.TheVariants.{Output, Register}
use Rattle.equiv_test.specs.declared.verdict.Difference.{Difference}
use Rattle.equiv_test.specs.declared.verdict.EqVerdict.{EqVerdict}
use Rattle.equiv_test.specs.declared.verdict.EqVerdict.TheVariants.{NoChange, Change, Unknown}

-- The place at which two lists of numbers differ first.
abbrev pub DifferFirst : List ℕ → List ℕ → ℕ → Type 0
DifferFirst xs ys place = IsFirst (λ k. slice_get xs k ≢ slice_get ys k) place

-- the first output that differs, or where all are the same, the first register that takes another number
abbrev pub IsFirstPlace : RawNetlist → RawNetlist → Nets → Nets → DiffPlace → Type 0
IsFirstPlace a b x y (Output place) = DifferFirst (shown (plain x) a) (shown (plain y) b) place
IsFirstPlace a b x y (Register place) = (shown (plain x) a ≡ shown (plain y) b) × DifferFirst (taken (plain x) 0 a.registers) (taken (plain y) 0 b.registers) place

-- With these inputs and registers, a step of each netlist, and the first place at which they differ.
pub record DifferAt (a b : RawNetlist) (inputs state : List ℕ) (place : DiffPlace) : Type 0 where
  pub first : Nets
  pub second : Nets
  pub in_first : Holds (plain first) first a inputs state
  pub in_second : Holds (plain second) second b inputs state
  pub is_first : IsFirstPlace a b first second place

-- A difference is what it says: words of the widths of inputs and registers, and the first place with these.
pub record Shows (a b : RawNetlist) (difference : Difference) : Type 0 where
  pub inputs : HaveWidths (bits_at a.inputs) difference.inputs
  pub registers : HaveWidths (q_bits a.registers) difference.registers
  pub differ : DifferAt a b (numbers_of difference.inputs) (numbers_of difference.registers) difference.place

-- a log of the pair's clauses and free bits
abbrev pub IsOfPair : Plan → Plan → Log → Type 0
IsOfPair a b log = (log.clauses ≡ pair_clauses a b) × (log.free ≡ free_bits a.raw)

-- What a verdict hands out and what is then true, for a limit on the lemmas.
abbrev pub Tells : Plan → Plan → ℕ → EqVerdict → Type 0
Tells a b limit (NoChange refutation) = IsOfPair a b refutation × IsRefutation refutation.clauses refutation.free refutation.lemmas × OneStepEqual (design a.raw) (design b.raw)
Tells a b limit (Change difference) = Shows a.raw b.raw difference × ¬ OneStepEqual (design a.raw) (design b.raw)
Tells a b limit (Unknown attempt) = IsOfPair a b attempt × IsAttempt attempt.clauses attempt.free limit attempt.lemmas × (limit < 3 ^ free_bits a.raw)
