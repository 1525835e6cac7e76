use Rattle.vlog_meaning.proofs.Common.{◌≡◌, ◌≤◌, ◌*◌, take, names_of, senses, total_width}
use Rattle.vlog_meaning.proofs.once.sum_of_widths.Given as goal

abbrev pub invariant-loop-part : goal.invariant-loop-part
invariant-loop-part l = (l.total ≡ total_width (senses (names_of l.scope) (take l.part-index l.parts))) × (l.total ≤ 128 * l.part-index)
