use Rattle.elab_proc.proofs.Common.{◌≡◌, take, Selection, always}
use Rattle.elab_proc.proofs.cases.always.Given as goal

abbrev pub invariant-loop-label : goal.invariant-loop-label
invariant-loop-label l = (c : Selection) → c.kind ≡ l.fn.kind → c.width ≡ l.fn.width → l.found ≡ always c (take l.label-index l.labels)
