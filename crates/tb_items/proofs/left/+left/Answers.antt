use Rattle.tb_items.proofs.Common.{add-one, arith, sym, ap, ◌∙◌, List, Some, LeftSide}
use Rattle.tb_items.proofs.Forms.{lefts_more, lefts_none}
use Rattle.tb_items.proofs.left.+left.Goals as goal

pub lefts_of-returns-in-None : goal.lefts_of-returns-in-None
lefts_of-returns-in-None t c = sym (lefts_none c.args.parts.now c.loop-part.part-index c.part-item.result c.part-item.is (omega arith) (sym c.in_ok-left.ensures ∙ c.in-None.is))

pub lefts_of-loop-part-preserved : goal.lefts_of-loop-part-preserved
lefts_of-loop-part-preserved t c =
    rw add-one (lefts_more c.args.parts.now c.loop-part.part-index c.part-item.result c.loop-part.lefts c.in-Some.left c.part-item.is (omega arith) c.loop-part.invariant (sym c.in_ok-left.ensures ∙ c.in-Some.is) ∙ ap (λ (ls : List LeftSide). Some ls) (sym c.in_ok-push-in-Some.ensures.ok))
