use Rattle.campaign_core.proofs.Common.{◌∙◌, ◌∷◌, ◌++◌, ap, List, Option, [], Want, wanted, each_from}
use Rattle.campaign_core.proofs.Begins.{each_next}
use Rattle.campaign_core.proofs.under_way.wants.Goals as goal

pub loop-mutation-preserved : goal.loop-mutation-preserved
loop-mutation-preserved c =
    c.in_ok-push.ensures.items
    ∙ ap (λ (items : List (Option Want)). items ++ c.want.result ∷ []) c.loop-mutation.invariant
    ∙ ap (λ (w : Option Want). each_from (λ m. wanted c.args.campaign.now c.args.state.now.rows m c.args.goal.now) 0 c.loop-mutation.mutation ++ w ∷ []) c.want.ensures
    ∙ each_next (λ m. wanted c.args.campaign.now c.args.state.now.rows m c.args.goal.now) c.loop-mutation.mutation
