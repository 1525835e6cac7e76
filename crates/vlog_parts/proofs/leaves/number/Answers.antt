use Rattle.std.proofs.Common.{ap, sym, ◌∙◌}
use Rattle.vlog_parts.specs.Leaves.{number}
use Rattle.vlog_parts.proofs.NumberWords.{number_value}
use Rattle.vlog_parts.proofs.leaves.number.Goals as goal

pub returns-in-Some-number : goal.returns-in-Some-number
returns-in-Some-number c = number_value c.in-Some.token c.in-Some-number.number c.in-Some-number.ensures ∙ ap number (sym c.in-Some.is)
