-- Simulations: lists of phases up to `$finish` or a limit, and their transcripts.
use Rattle.std.specs.Prelude.{◌≡◌, ℕ, zero, suc, ◌+◌, ◌*◌, Bool, true, false, List}
use Rattle.tb_machine.specs.Phases.{Setting, State, Ending, Going, Finish, Limit, IsPhase}

-- What a simulation comes to: whether `$finish` was reached, and the transcript.
pub record Outcome : Type 0 where
  pub finished : Bool
  pub text : List ℕ

-- so many phases that all go on
abbrev pub Reaches : Setting → ℕ → State → State → Type 0
Reaches g zero s t = t ≡ s
Reaches g (suc n) s t = (u : State) × IsPhase g s Going u × Reaches g n u t

abbrev pub outcome : Bool → List ℕ → Outcome
outcome finished text = record { finished = finished; text = text }

-- At most so many phases, and what the simulation comes to: it ends at `$finish`, in a phase with too many statements,
-- or after the last phase.
abbrev pub IsSimulation : Setting → ℕ → State → Outcome → Type 0
IsSimulation g zero s o = o ≡ outcome false s.text
IsSimulation g (suc n) s o = (e : Ending) × (t : State) × IsPhase g s e t × elim e [ Going ↦ IsSimulation g n t o | Finish ↦ o ≡ outcome true t.text | Limit ↦ o ≡ outcome false t.text ]

-- the phases 0 to 2C
abbrev pub phases_of : ℕ → ℕ
phases_of cycles = 2 * cycles + 1
