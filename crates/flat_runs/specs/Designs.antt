-- A flattened design, and its runs: equations on the values of all signals in all cycles.
use Rattle.std.specs.Prelude.{◌≡◌, ℕ, ◌^◌, ◌<◌, List, [], ◌∷◌, map}
use Rattle.std.specs.List.{Contains}
use Rattle.std.specs.Int.{bit_at}
use Rattle.vlog_meaning.specs.Scopes.{Store}
use Rattle.flat_runs.specs.Meanings.{Meaning, AllSay, all_leave, taken_by, SomeWrites}

-- The items in order, the width and start value of each signal, and by their numbers the inputs, without the clock, the
-- outputs, and the registers in order of declaration.
pub record Design : Type 0 where
  pub items : List Meaning
  pub width : ℕ → ℕ
  pub start : ℕ → ℕ
  pub inputs : List ℕ
  pub outputs : List ℕ
  pub registers : List ℕ

-- no input has the bit, and no item writes it
pub record IsFree (design : Design) (k i : ℕ) : Type 0 where
  pub inside : i < design.width k
  pub no_input : ¬ Contains design.inputs k
  pub none_writes : ¬ SomeWrites design.items k i

-- The equations of one cycle, with these inputs and values of the registers. A bit that nothing writes is that of the
-- start value, which is 0 where none is given.
pub record Cycle (design : Design) (store : Store) (inputs state : List ℕ) : Type 0 where
  pub fits : (k : ℕ) → store k < 2 ^ design.width k
  pub entered : map store design.inputs ≡ inputs
  pub stored : map store design.registers ≡ state
  pub said : AllSay design.items store
  pub unwritten : (k i : ℕ) → IsFree design k i → bit_at (store k) i ≡ bit_at (design.start k) i

-- what is read off at the outputs, and what the registers take
abbrev pub outputs_of : Design → Store → List ℕ
outputs_of design store = map store design.outputs

abbrev pub next_of : Design → Store → List ℕ
next_of design store = map (taken_by (all_leave design.items store)) design.registers

-- A source run: for each cycle the values of the signals, from a state and the inputs of each cycle.
abbrev pub IsSourceRun : Design → List ℕ → List (List ℕ) → List Store → Type 0
IsSourceRun design state [] [] = Unit {0}
IsSourceRun design state (inputs ∷ later) (store ∷ more) = Cycle design store inputs state × IsSourceRun design (next_of design store) later more
IsSourceRun design state inputs cycles = ⊥

-- the outputs of each cycle
abbrev pub source_outputs : Design → List Store → List (List ℕ)
source_outputs design cycles = map (outputs_of design) cycles

-- the registers at the start of each cycle
abbrev pub source_states : Design → List Store → List (List ℕ)
source_states design cycles = map (λ store. map store design.registers) cycles
