-- Which of several reasons is told: the one that stands first. Of two that differ one comes before the other, so it is one.
use Rattle.std.specs.Prelude.{List, Option}
use Rattle.vlog_meaning.specs.Answers.{rank as cause_rank}
use Rattle.vlog_refusals.specs.declared.precedence.Precedence.{Precedence}
use Rattle.vlog_refusals.specs.Features.{feature_rank}
use Rattle.vlog_refusals.specs.Order.{earlier as earlier_by, FirstIsOne as FirstIsOneBy, IsFirst as IsFirstBy}
use Rattle.tb_faults.specs.declared.fault.BenchFault.{BenchFault}
use Rattle.tb_faults.specs.declared.fault.BenchFault.TheVariants as b

-- by its place, its kind, and its cause or feature
abbrev pub place : BenchFault → Precedence
place (b.Wrong f) = record { span = f.span; kind = 0; detail = cause_rank f.cause }
place (b.Twice span) = record { span = span; kind = 1; detail = 0 }
place (b.Unsupported span feature) = record { span = span; kind = 2; detail = feature_rank feature }
place (b.PortMismatch span) = record { span = span; kind = 3; detail = 0 }
place (b.TwoClocks span) = record { span = span; kind = 4; detail = 0 }

-- the earlier of two
abbrev pub earlier : Option BenchFault → Option BenchFault → Option BenchFault
earlier = earlier_by place

abbrev pub IsFirst : List BenchFault → Option BenchFault → Type 0
IsFirst = IsFirstBy place

-- Of several reasons just one stands first, or there is none.
abbrev pub FirstIsOne : Type 0
FirstIsOne = FirstIsOneBy place
