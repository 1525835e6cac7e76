use Rattle.mcy_top.proofs.Common.{◌∙◌, sym, ap, blank}
use Rattle.mcy_keeper.specs.CleanKeeper.{Kept}
use Rattle.mcy_top.proofs.demo.settled_keeper.Goals as goal

-- the book that was loaded is the empty one, and is the one that is kept
pub returns-clause-empty : goal.returns-clause-empty
returns-clause-empty c =
    sym (c.in_ok-load.ensures.answer tt).told ∙ c.in_ok-load.ensures.same tt blank (sym (ap (λ (k : Kept). k.book) c.new-keeper.ensures))
