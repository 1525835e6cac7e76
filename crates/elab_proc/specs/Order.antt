-- Which of several refusals is answered: the one that stands first. Of two that differ one comes before the other, so it is one.
use Rattle.std.specs.Prelude.{List, Option}
use Rattle.vlog_meaning.specs.Answers.{rank as cause_rank}
use Rattle.vlog_refusals.specs.declared.precedence.Precedence.{Precedence}
use Rattle.vlog_refusals.specs.Features.{feature_rank}
use Rattle.vlog_refusals.specs.Order.{IsFirst as IsFirstBy}
use Rattle.elab_proc.specs.declared.refusal.Refusal.{Refusal}
use Rattle.elab_proc.specs.declared.refusal.Refusal.TheVariants as r

-- by its place, its kind, and its cause, feature or signal
abbrev pub place : Refusal → Precedence
place (r.Wrong f) = record { span = f.span; kind = 0; detail = cause_rank f.cause }
place (r.Unsupported span feature) = record { span = span; kind = 1; detail = feature_rank feature }
place (r.TwoWriters span number) = record { span = span; kind = 2; detail = number }
place (r.Latch span number) = record { span = span; kind = 3; detail = number }
place (r.LoopTurns span) = record { span = span; kind = 4; detail = 0 }

abbrev pub IsFirst : List Refusal → Option Refusal → Type 0
IsFirst = IsFirstBy place
