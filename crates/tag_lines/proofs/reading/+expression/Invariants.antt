use Rattle.std.proofs.Common.{ℕ, ◌+◌, ◌*◌, length}
use Rattle.tag_lines.specs.declared.parting.Separator.{Separator}
use Rattle.tag_lines.specs.declared.parting.Separator.TheVariants as sep
use Rattle.tag_lines.specs.Grammar.{known_words, part}
use Rattle.tag_lines.proofs.PartList.{Whole}
use Rattle.tag_lines.proofs.reading.+expression.Given as goal

abbrev rank : Separator → ℕ
rank sep.Or = 3
rank sep.And = 0
rank sep.Comparison = 0

abbrev pub decreases-chain : goal.decreases-chain
decreases-chain l = 12 * l.room + 7 + rank l.separator

abbrev pub decreases-operands : goal.decreases-operands
decreases-operands l = 12 * l.room + 6 + rank l.separator

abbrev pub decreases-part : goal.decreases-part
decreases-part l = 12 * l.room + 5 + rank l.separator

abbrev pub decreases-operand : goal.decreases-operand
decreases-operand l = 12 * l.room + 4

abbrev pub decreases-negation : goal.decreases-negation
decreases-negation l = 12 * l.room + 3

abbrev pub decreases-deeper : goal.decreases-deeper
decreases-deeper l = 12 * l.room + 2

abbrev pub decreases-comparison : goal.decreases-comparison
decreases-comparison l = 12 * l.room + 2

abbrev pub decreases-atom : goal.decreases-atom
decreases-atom l = 12 * l.room + 1

abbrev pub decreases-inner : goal.decreases-inner
decreases-inner l = 12 * l.room

abbrev pub invariant-operands-parts : goal.invariant-operands-parts
invariant-operands-parts l = Whole (part (known_words l.tests l.names) l.room l.separator) l.separator l.operands l.rest l.tokens

abbrev pub decreases-operands-parts : goal.decreases-operands-parts
decreases-operands-parts l = length l.rest
