use Rattle.campaign_core.proofs.Common.{◌≡◌, length, refl, ap, ◌∙◌, arith, option_map, length-map, slot_after, busy_of, seen}
use Rattle.campaign_core.proofs.Turning.{job_there, on_err, refused_kept, refused_order, refused_same, turn_kept, turn_order, turn_taken}
use Rattle.campaign_core.proofs.under_way.Core.turn.Goals as goal

pub take_turn-requires-clause-job : goal.take_turn-requires-clause-job
take_turn-requires-clause-job g c =
    job_there g.T.Tester.left g.T.Tester.asked g.T.Tester.word g.T.Tester.gives g.T.Tester.most g.T.Tester.has g.T.Tester.mutations g.T.Tester.kinds
    _ c.args.self.now c.self.view_is c.self.inside.slots.items refl c.self.inside.waiting c.self.invariant c.args.slot c.requires.1 c.index_mut.result.now c.index_mut.ensures.value c.in-Some.seat c.in-Some.is

pub invariant_of-self-in_err-take_turn : goal.invariant_of-self-in_err-take_turn
invariant_of-self-in_err-take_turn g c =
    refused_kept g.T.Tester.left g.T.Tester.asked g.T.Tester.word g.T.Tester.gives g.T.Tester.most g.T.Tester.has g.T.Tester.mutations g.T.Tester.kinds
    _ c.args.self.now c.self.view_is c.self.inside.slots.items refl c.self.inside.waiting c.self.invariant c.args.slot c.requires.1 c.index_mut.result.now c.index_mut.ensures.value c.in-Some.seat c.in-Some.is
    c.take_turn.new.tester c.take_turn.new.seat c.take_turn.ensures.pair c.take_turn.ensures.same c.take_turn.ensures.others c.take_turn.ensures.job c.in_err-take_turn.ensures.err

pub returns-in_err-take_turn-clause-refused : goal.returns-in_err-take_turn-clause-refused
returns-in_err-take_turn-clause-refused g c =
    on_err c.from_residual.result _ (refused_same g.T.Tester.left g.T.Tester.asked g.T.Tester.word g.T.Tester.gives g.T.Tester.most g.T.Tester.has g.T.Tester.mutations g.T.Tester.kinds
    _ c.args.self.now c.self.view_is c.self.inside.slots.items refl c.self.inside.waiting c.self.invariant c.args.slot c.requires.1 c.index_mut.result.now c.index_mut.ensures.value c.in-Some.seat c.in-Some.is
    c.take_turn.new.tester c.take_turn.new.seat c.take_turn.ensures.pair c.take_turn.ensures.same c.take_turn.ensures.others c.take_turn.ensures.job c.in_err-take_turn.ensures.err)

pub returns-in_err-take_turn-clause-order : goal.returns-in_err-take_turn-clause-order
returns-in_err-take_turn-clause-order g c =
    refused_order g.T.Tester.left g.T.Tester.asked g.T.Tester.word g.T.Tester.gives g.T.Tester.most g.T.Tester.has g.T.Tester.mutations g.T.Tester.kinds
    _ c.args.self.now c.self.view_is c.self.inside.slots.items refl c.self.inside.waiting c.self.invariant c.args.slot c.requires.1 c.index_mut.result.now c.index_mut.ensures.value c.in-Some.seat c.in-Some.is
    c.take_turn.new.tester c.take_turn.new.seat c.take_turn.ensures.pair c.take_turn.ensures.same c.take_turn.ensures.others c.take_turn.ensures.job c.in_err-take_turn.ensures.err

pub invariant_of-self-2 : goal.invariant_of-self-2
invariant_of-self-2 g c =
    let count : c.len.result ≡ length (seen g.T.Tester.left c.self.inside.slots.items) = (let long = length-map c.self.inside.slots.items (option_map (busy_of g.T.Tester.left)) in omega (arith, c.len.ensures, c.self.inside.slots.ok.0, long)) in
    turn_kept g.T.Tester.left g.T.Tester.asked g.T.Tester.word g.T.Tester.gives g.T.Tester.most g.T.Tester.has g.T.Tester.mutations g.T.Tester.kinds
    _ c.args.self.now c.self.view_is c.self.inside.slots.items refl c.self.inside.waiting c.self.invariant c.args.slot c.requires.1 c.index_mut.result.now c.index_mut.ensures.value c.in-Some.seat c.in-Some.is
    c.take_turn.new.tester c.take_turn.new.seat c.take_turn.ensures.pair c.take_turn.ensures.same c.take_turn.ensures.others c.take_turn.ensures.job
    c.slot_after-self-inside.result (c.slot_after-self-inside.ensures ∙ ap (slot_after c.args.slot) count) c.in_ok-take_turn.ensures.told

pub returns-clause-taken : goal.returns-clause-taken
returns-clause-taken g c =
    let count : c.len.result ≡ length (seen g.T.Tester.left c.self.inside.slots.items) = (let long = length-map c.self.inside.slots.items (option_map (busy_of g.T.Tester.left)) in omega (arith, c.len.ensures, c.self.inside.slots.ok.0, long)) in
    turn_taken g.T.Tester.left g.T.Tester.asked g.T.Tester.word g.T.Tester.gives g.T.Tester.most g.T.Tester.has g.T.Tester.mutations g.T.Tester.kinds
    _ c.args.self.now c.self.view_is c.self.inside.slots.items refl c.self.inside.waiting c.self.invariant c.args.slot c.requires.1 c.index_mut.result.now c.index_mut.ensures.value c.in-Some.seat c.in-Some.is
    c.take_turn.new.tester c.take_turn.new.seat c.take_turn.ensures.pair c.take_turn.ensures.same c.take_turn.ensures.others c.take_turn.ensures.job
    c.slot_after-self-inside.result (c.slot_after-self-inside.ensures ∙ ap (slot_after c.args.slot) count) c.in_ok-take_turn.ensures.told

pub returns-clause-order : goal.returns-clause-order
returns-clause-order g c =
    let count : c.len.result ≡ length (seen g.T.Tester.left c.self.inside.slots.items) = (let long = length-map c.self.inside.slots.items (option_map (busy_of g.T.Tester.left)) in omega (arith, c.len.ensures, c.self.inside.slots.ok.0, long)) in
    turn_order g.T.Tester.left g.T.Tester.asked g.T.Tester.word g.T.Tester.gives g.T.Tester.most g.T.Tester.has g.T.Tester.mutations g.T.Tester.kinds
    _ c.args.self.now c.self.view_is c.self.inside.slots.items refl c.self.inside.waiting c.self.invariant c.args.slot c.requires.1 c.index_mut.result.now c.index_mut.ensures.value c.in-Some.seat c.in-Some.is
    c.take_turn.new.tester c.take_turn.new.seat c.take_turn.ensures.pair c.take_turn.ensures.same c.take_turn.ensures.others c.take_turn.ensures.job
    c.slot_after-self-inside.result (c.slot_after-self-inside.ensures ∙ ap (slot_after c.args.slot) count) c.in_ok-take_turn.ensures.told
