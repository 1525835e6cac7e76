-- A turn of a loop while it is built (IEEE 1364-2005, 9.6).
use Rattle.std.specs.Prelude.{◌≡◌, ℕ, ◌%◌, ◌^◌, Option, None, Some}
use Rattle.vlog_meaning.specs.Scopes.{Names}
use Rattle.vlog_effects.specs.Steps.{Steps, Done, Loop, InNames, followed}
use Rattle.elab_proc.specs.Turns.{turn_steps, next_value}
use Rattle.proc_muxes.specs.declared.statement.Turn.{Turn}
use Rattle.proc_muxes.specs.Builds.{Work}
use Rattle.proc_muxes.specs.Clear.{IsReady}
use Rattle.proc_muxes.specs.Working.{Built}

-- For proofs alone.

-- No turn came, or the body of one was built, and another comes in which the loop's variable has this value.
abbrev pub IsBuiltTurn : Loop → InNames → Names → Option Turn → Work → Work → Type 0
IsBuiltTurn loop body here None a b = (b ≡ a) × ((later : ℕ → Steps) → turn_steps loop body here later ≡ Done)
IsBuiltTurn loop body here (Some t) a b =
    (t.next.width ≡ loop.width) × (t.next.bits ≡ next_value loop here % 2 ^ loop.width) × Built (body here) a b t.changes ×
    ((later : ℕ → Steps) → turn_steps loop body here later ≡ followed (body here) (later (next_value loop here)))

-- what the code of a turn asks, whatever comes after it
abbrev pub AsksTurn : Loop → InNames → Names → Work → Type 0
AsksTurn loop body here a = (v : ℕ → Steps) × IsReady here (turn_steps loop body here v) a
