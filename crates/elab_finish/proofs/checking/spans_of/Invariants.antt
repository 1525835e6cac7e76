use Rattle.elab_finish.proofs.Common.{◌≡◌, map, take, span_of}
use Rattle.elab_finish.proofs.checking.spans_of.Given as goal

abbrev pub invariant-loop-cell : goal.invariant-loop-cell
invariant-loop-cell l = l.spans.items ≡ map span_of (take l.cell-index l.cells)
