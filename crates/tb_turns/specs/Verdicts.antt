-- The word of a simulation, by what it came to.
use Rattle.std.specs.Prelude.{◌≡◌, ℕ, true, false, List}
use Rattle.tb_watch.specs.Occurs.{Occurs}
use Rattle.tb_machine.specs.Phases.{Setting, State}
use Rattle.tb_machine.specs.Simulations.{Outcome, IsSimulation, phases_of}
use Rattle.tb_machine.specs.Laws.{SettlesOnce}
use Rattle.tb_turns.specs.declared.verdict.SimVerdict.{SimVerdict}
use Rattle.tb_turns.specs.declared.verdict.SimVerdict.TheVariants as v

-- where a simulation is finished, its transcript passes if the pass text occurs in it and the fail text doesn't
abbrev pub Passes : List ℕ → List ℕ → List ℕ → Type 0
Passes text pass fail = Occurs pass text × ¬ Occurs fail text

abbrev pub IsWord : Outcome → List ℕ → List ℕ → SimVerdict → Type 0
IsWord o pass fail v.Pass = (o.finished ≡ true) × Passes o.text pass fail
IsWord o pass fail v.Fail = (o.finished ≡ true) × (¬ Passes o.text pass fail)
IsWord o pass fail v.Hang = o.finished ≡ false

-- the verdict is the word of the simulation that starts here, with a limit of cycles
pub record IsVerdict (g : Setting) (start : State) (limit : ℕ) (pass fail : List ℕ) (verdict : SimVerdict) : Type 0 where
  pub outcome : Outcome
  pub simulated : IsSimulation g (phases_of limit) start outcome
  pub word : IsWord outcome pass fail verdict

-- a simulation has one verdict, where what settles is determined
abbrev pub OneVerdict : Type 0
OneVerdict = (g : Setting) (start : State) (limit : ℕ) (pass fail : List ℕ) (a b : SimVerdict) → SettlesOnce g → IsVerdict g start limit pass fail a → IsVerdict g start limit pass fail b → a ≡ b
