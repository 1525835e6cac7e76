use Rattle.std.proofs.Common.{◌∙◌}
use Rattle.mcy_cases.proofs.Driving.{begins_kept}
use Rattle.mcy_cases.proofs.events.begin.Goals as goal
use Rattle.mcy_top.proofs.Kept.{plan_begun}

-- what the keeper tells is the loaded book, which is empty
pub begin-requires-clause-empty : goal.begin-requires-clause-empty
begin-requires-clause-empty g c was held =
    let kept = c.in_ok-loaded.ensures.answer (g.met.K.Keeper.told c.load.new.self was held) in
    g.met.K.Keeper.one c.load.new.self was c.in_ok-loaded.loaded held kept.told ∙ c.is_blank.ensures.0 c.if-is_blank.true

pub begin-requires-clause-meta : goal.begin-requires-clause-meta
begin-requires-clause-meta g c = plan_begun c.args.prepared.now c.requires.plan

pub returns-then-is_blank-clause-kept : goal.returns-then-is_blank-clause-kept
returns-then-is_blank-clause-kept g c tells =
    let kept = c.in_ok-loaded.ensures.answer (c.begin.ensures.tells tells) in
    begins_kept (g.K.Keeper.holds c.load.new.self) (g.K.Keeper.holds c.begin.new.self) (g.K.Keeper.leaves c.begin.new.self) c.begin.result c.args.prepared.now.campaign c.in_ok-loaded.loaded kept.told (c.begin.ensures.done tells)
