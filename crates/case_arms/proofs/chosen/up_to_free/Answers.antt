use Rattle.case_arms.proofs.Common.{subst, sym, take, option_map, IsFirstFree, item_body}
use Rattle.case_arms.proofs.Bounds.{free_before, bound_arms}
use Rattle.case_arms.proofs.chosen.up_to_free.Goals as goal

pub returns-in-Some-clause-arms : goal.returns-in-Some-clause-arms
returns-in-Some-clause-arms c = λ s k w. free_before s c.args.items.now c.in-Some.place c.args.ends.before (option_map (item_body c.args.items.now) c.args.ends.last) c.requires.before (subst (IsFirstFree s c.args.items.now c.args.ends.before) c.in-Some.is (c.free_in.ensures.free s k w))

pub returns-in-None-clause-arms : goal.returns-in-None-clause-arms
returns-in-None-clause-arms c = λ s k w. sym (bound_arms s (take c.args.ends.before c.args.items.now) (option_map (item_body c.args.items.now) c.args.ends.last) (subst (IsFirstFree s c.args.items.now c.args.ends.before) c.in-None.is (c.free_in.ensures.free s k w)))
