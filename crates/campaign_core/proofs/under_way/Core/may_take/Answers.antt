use Rattle.campaign_core.proofs.Common.{refl}
use Rattle.campaign_core.proofs.StageLemmas.{commit_told, kept_stage, turn_told}
use Rattle.campaign_core.proofs.under_way.Core.may_take.Goals as goal

pub returns-in-Turn : goal.returns-in-Turn
returns-in-Turn g c =
    turn_told c.args.self.now c.in-Turn.slot c.args.event c.eq-in-Turn.result c.stage_at-in-Turn.result c.requires
    (kept_stage _ _ c.args.self.now c.deref-in-Turn.result.now c.self.inside.slots.items c.in-Turn.slot c.stage_at-in-Turn.result c.self.view_is refl c.deref-in-Turn.ensures.value c.stage_at-in-Turn.ensures) c.in-Turn.is c.eq-in-Turn.ensures

pub returns-in-Commit : goal.returns-in-Commit
returns-in-Commit g c =
    commit_told c.args.self.now c.in-Commit.slot c.args.event c.eq-in-Commit.result c.stage_at-in-Commit.result c.requires
    (kept_stage _ _ c.args.self.now c.deref-in-Commit.result.now c.self.inside.slots.items c.in-Commit.slot c.stage_at-in-Commit.result c.self.view_is refl c.deref-in-Commit.ensures.value c.stage_at-in-Commit.ensures) c.in-Commit.is c.eq-in-Commit.ensures
