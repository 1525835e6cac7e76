-- How far a simulation has come.
use Rattle.std.specs.Prelude.{◌≡◌, ℕ, ◌+◌, ◌*◌, ◌<◌, ◌≤◌, ◌⊎◌, max, List}
use Rattle.tb_machine.specs.Phases.{Setting, State, Ending, Finish, Limit, IsPhase}
use Rattle.tb_machine.specs.Simulations.{Reaches, phases_of}
use Rattle.tb_machine.specs.declared.phase_end.PhaseEnd.{PhaseEnd}
use Rattle.tb_machine.specs.declared.phase_end.PhaseEnd.TheVariants as e

-- So many phases went on: where a run stands now, and that what they printed was heard.
pub record IsAt (g : Setting) (stands : State → Type 0) (heard : List ℕ → Type 0) (start : State) (phases : ℕ) : Type 0 where
  pub state : State
  pub reached : Reaches g phases start state
  pub run : stands state
  pub text : heard state.text

-- So many phases went on, which is how many the run counts, and the limit of cycles has more.
pub record IsOpen (is_going : Type 0) (counted phases limit : ℕ) : Type 0 where
  pub going : is_going
  pub counted_is : counted ≡ phases
  pub more : phases < phases_of limit

-- the phases up to the end of so many cycles more: phase 0 goes before the first cycle
abbrev pub phases_after : ℕ → ℕ → ℕ
phases_after phases cycles = max phases 1 + 2 * cycles

-- a phase among the first so many ended the simulation, by `$finish` or by too many statements
pub record HasEnded (g : Setting) (start : State) (phases : ℕ) : Type 0 where
  pub before : ℕ
  pub fewer : before < phases
  pub state : State
  pub reached : Reaches g before start state
  pub ending : Ending
  pub after : State
  pub phase : IsPhase g state ending after
  pub last : (ending ≡ Finish) ⊎ (ending ≡ Limit)

-- `$finish` or a limit is met within so many phases
abbrev pub MeetsEnd : Setting → State → ℕ → ℕ → Type 0
MeetsEnd g start limit phases = HasEnded g start phases ⊎ (phases_of limit ≤ phases)

-- For proofs alone.

-- Fewer phases than so many went on, and the next one was the last, with this ending: what was printed was heard.
pub record IsLast (g : Setting) (heard : List ℕ → Type 0) (start : State) (phases : ℕ) (ending : Ending) : Type 0 where
  pub before : ℕ
  pub fewer : before < phases
  pub state : State
  pub reached : Reaches g before start state
  pub after : State
  pub phase : IsPhase g state ending after
  pub text : heard after.text

-- how a simulation has come so many phases on, or ended before
abbrev pub IsRunTo : Setting → (State → Type 0) → (List ℕ → Type 0) → State → ℕ → PhaseEnd → Type 0
IsRunTo g stands heard start phases e.Going = IsAt g stands heard start phases
IsRunTo g stands heard start phases e.Finished = IsLast g heard start phases Finish
IsRunTo g stands heard start phases e.TooLong = IsLast g heard start phases Limit
