use Rattle.case_arms.proofs.Common.{map, names_of, item_steps, selection_of, arms_within}
use Rattle.case_arms.proofs.Bounds.{ends_default, ends_open, ends_full}
use Rattle.case_arms.proofs.chosen.ends_of.Goals as goal

pub returns-in-Some-clause-arms : goal.returns-in-Some-clause-arms
returns-in-Some-clause-arms c = ends_default (selection_of (names_of c.args.scope.now) c.args.kind c.args.selector.now (map item_steps c.args.items.now)) c.args.items.now c.default_in.result c.default_in.ensures.body c.in-Some.place c.in-Some.is

pub returns-then-is_full-clause-arms : goal.returns-then-is_full-clause-arms
returns-then-is_full-clause-arms c =
    let s = selection_of (names_of c.args.scope.now) c.args.kind c.args.selector.now (map item_steps c.args.items.now) in
    ends_full s c.args.items.now c.default_in.result c.default_in.ensures.body c.in_ok-is_full-in-None.is_full (arms_within s c.args.items.now c.all_but_last.result) c.in-None.is c.in_ok-is_full-in-None.ensures c.if-is_full.true (c.all_but_last.ensures.arms s)

pub returns-else-is_full-clause-arms : goal.returns-else-is_full-clause-arms
returns-else-is_full-clause-arms c = ends_open (selection_of (names_of c.args.scope.now) c.args.kind c.args.selector.now (map item_steps c.args.items.now)) c.args.items.now c.default_in.result c.default_in.ensures.body c.in_ok-is_full-in-None.is_full c.in-None.is c.in_ok-is_full-in-None.ensures c.if-is_full.false
