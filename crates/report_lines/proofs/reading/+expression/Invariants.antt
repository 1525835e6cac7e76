use Rattle.std.proofs.Common.{ℕ, ◌+◌, ◌*◌, length}
use Rattle.report_lines.specs.declared.parting.Level.{Level}
use Rattle.report_lines.specs.declared.parting.Level.TheVariants as level
use Rattle.report_lines.specs.Grammar.{part, term_in}
use Rattle.report_lines.proofs.ShareList.{Whole}
use Rattle.report_lines.proofs.reading.+expression.Given as goal

abbrev rank : Level → ℕ
rank level.Comma = 0
rank level.Or = 20
rank level.And = 16
rank level.Comparison = 8
rank level.Sum = 4
rank level.Product = 0

abbrev pub decreases-chain : goal.decreases-chain
decreases-chain l = 40 * l.room + 6 + rank l.level

abbrev pub decreases-terms : goal.decreases-terms
decreases-terms l = 40 * l.room + 5 + rank l.level

abbrev pub decreases-term : goal.decreases-term
decreases-term l = 40 * l.room + 4 + rank l.level

abbrev pub decreases-part : goal.decreases-part
decreases-part l = 40 * l.room + 3 + rank l.level

abbrev pub decreases-operand : goal.decreases-operand
decreases-operand l = 40 * l.room + 16

abbrev pub decreases-negation : goal.decreases-negation
decreases-negation l = 40 * l.room + 15

abbrev pub decreases-deeper : goal.decreases-deeper
decreases-deeper l = 40 * l.room + 2

abbrev pub decreases-atom : goal.decreases-atom
decreases-atom l = 40 * l.room + 1

abbrev pub decreases-inner : goal.decreases-inner
decreases-inner l = 40 * l.room

abbrev pub invariant-terms-signs : goal.invariant-terms-signs
invariant-terms-signs l = Whole (term_in (part l.tags l.room l.level)) l.level l.terms l.rest l.tokens

abbrev pub decreases-terms-signs : goal.decreases-terms-signs
decreases-terms-signs l = length l.rest
