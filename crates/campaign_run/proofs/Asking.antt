-- The rows of a run are of the tests that were wanted.
use Rattle.std.proofs.Common.{List, [], ◌∷◌, ◌++◌, sym, subst, append_assoc}
use Rattle.std.proofs.lemmas.List.{append-nil}
use Rattle.mcy_keeper.specs.declared.book.Entry.{Entry}
use Rattle.result_book.specs.declared.goal.Goal.{Goal}
use Rattle.campaign_plan.specs.declared.prepared.Prepared.{Prepared}
use Rattle.campaign_run.specs.Running.{AreWanted, IsWanted}

-- and so are all, with one more at the end
pub wanted_more : (c : Prepared) (goal : Goal) (earlier rows : List Entry) (e : Entry) → AreWanted c goal earlier rows → IsWanted c goal (earlier ++ rows) e → AreWanted c goal earlier (rows ++ e ∷ [])
wanted_more c goal earlier [] e all is = (subst (λ (rs : List Entry). IsWanted c goal rs e) (append-nil earlier) is, tt)
wanted_more c goal earlier (x ∷ rows) e all is =
    (all.0, wanted_more c goal (earlier ++ x ∷ []) rows e all.1 (subst (λ (rs : List Entry). IsWanted c goal rs e) (sym (append_assoc earlier (x ∷ []) rows)) is))
