-- Machines, number by number over their free bits.
use Rattle.std.specs.Prelude.{◌≡◌, ℕ, ◌<◌, List, [], ◌++◌, length, slice_index_or}
use Rattle.netlist_core.specs.Runs.{Nets, Holds, shown, taken}
use Rattle.step_trials.specs.Equal.{Machine, StepsAlike}
use Rattle.step_trials.specs.Inputs.{inputs_of, state_of}

-- For proofs alone.

-- a cycle with the inputs and registers whose bits together are this number's
abbrev pub HoldsAt : Machine → ℕ → Nets → Type 0
HoldsAt a n x = Holds (a.sight x) x a.netlist (inputs_of a.netlist n) (state_of a.netlist n)

-- what a cycle gives: what stands at the outputs, and then what the registers take
abbrev pub given : Machine → Nets → List ℕ
given a x = shown (a.sight x) a.netlist ++ taken (a.sight x) 0 a.netlist.registers

-- machines of one netlist step alike at this number
abbrev pub EqualAt : Machine → Machine → ℕ → Type 0
EqualAt a b n = (x y : Nets) → HoldsAt a n x → HoldsAt b n y → StepsAlike a b x y

-- each cycle at this number gives this
abbrev pub GivesAt : Machine → ℕ → List ℕ → Type 0
GivesAt a n list = (x : Nets) → HoldsAt a n x → given a x ≡ list

-- the same for each number, from 0 on
abbrev pub GivesAll : Machine → List (List ℕ) → Type 0
GivesAll a lists = (n : ℕ) → n < length lists → GivesAt a n (slice_index_or lists n [])
