use Rattle.campaign_core.proofs.Common.{◌≡◌, length, refl, ap, ◌∙◌, arith, option_map, length-map, slot_after, busy_of, seen}
use Rattle.campaign_core.proofs.KeptLemmas.{few_counts}
use Rattle.campaign_core.proofs.Starting.{mutation_within, refused_kept, refused_order, slot_within, start_asks, start_kept, start_order, start_taken}
use Rattle.campaign_core.proofs.under_way.Core.start.Goals as goal

pub start-requires : goal.start-requires
start-requires g c =
    start_asks g.T.Tester.left g.T.Tester.asked g.T.Tester.word g.T.Tester.gives g.T.Tester.most g.T.Tester.has g.T.Tester.mutations g.T.Tester.kinds
    _ c.args.self.now c.self.view_is c.self.inside.slots.items refl c.self.inside.waiting c.self.invariant c.args.slot c.args.mutation c.args.want c.requires.1

pub invariant_of-self : goal.invariant_of-self
invariant_of-self g c =
    refused_kept g.T.Tester.left g.T.Tester.asked g.T.Tester.word g.T.Tester.gives g.T.Tester.most g.T.Tester.has g.T.Tester.mutations g.T.Tester.kinds
    _ c.args.self.now c.self.view_is c.self.inside.slots.items refl c.self.inside.waiting c.self.invariant c.args.slot c.args.mutation c.args.want c.requires.1
    c.start.new.self c.start.ensures.same c.start.ensures.others

pub returns-in_err-job-clause-order : goal.returns-in_err-job-clause-order
returns-in_err-job-clause-order g c =
    refused_order g.T.Tester.left g.T.Tester.asked g.T.Tester.word g.T.Tester.gives g.T.Tester.most g.T.Tester.has g.T.Tester.mutations g.T.Tester.kinds
    _ c.args.self.now c.self.view_is c.self.inside.slots.items refl c.self.inside.waiting c.self.invariant c.args.slot c.args.mutation c.args.want c.requires.1
    c.start.new.self c.start.ensures.same c.start.ensures.others

pub index_mut-requires : goal.index_mut-requires
index_mut-requires g c =
    let within = slot_within g.T.Tester.left g.T.Tester.asked g.T.Tester.word g.T.Tester.gives g.T.Tester.most g.T.Tester.has g.T.Tester.mutations g.T.Tester.kinds
    _ c.args.self.now c.self.view_is c.self.inside.slots.items refl c.self.inside.waiting c.self.invariant c.args.slot c.args.mutation c.args.want c.requires.1 in
    omega (arith, within, c.self.inside.slots.ok.0)

pub set-requires : goal.set-requires
set-requires g c =
    mutation_within g.T.Tester.left g.T.Tester.asked g.T.Tester.word g.T.Tester.gives g.T.Tester.most g.T.Tester.has g.T.Tester.mutations g.T.Tester.kinds
    _ c.args.self.now c.self.view_is c.self.inside.slots.items refl c.self.inside.waiting c.self.invariant c.args.slot c.args.mutation c.args.want c.requires.1

pub overflow_add-self : goal.overflow_add-self
overflow_add-self g c =
    let few = (few_counts (g.T.Tester.gives c.self.inside.tester) _ c.self.invariant.order).0 in
    omega (arith, few)

pub invariant_of-self-2 : goal.invariant_of-self-2
invariant_of-self-2 g c =
    let count : c.len.result ≡ length (seen g.T.Tester.left c.self.inside.slots.items) = (let long = length-map c.self.inside.slots.items (option_map (busy_of g.T.Tester.left)) in omega (arith, c.len.ensures, c.self.inside.slots.ok.0, long)) in
    start_kept g.T.Tester.left g.T.Tester.asked g.T.Tester.word g.T.Tester.gives g.T.Tester.most g.T.Tester.has g.T.Tester.mutations g.T.Tester.kinds
    _ c.args.self.now c.self.view_is c.self.inside.slots.items refl c.self.inside.waiting c.self.invariant c.args.slot c.args.mutation c.args.want c.requires.1
    c.start.new.self c.start.ensures.same c.start.ensures.others
    c.in_ok-job.job c.in_ok-job.ensures.mine c.in_ok-job.ensures.asked c.in_ok-job.ensures.new.0 c.in_ok-job.ensures.new.1
    c.slot_after-self-inside.result (c.slot_after-self-inside.ensures ∙ ap (slot_after c.args.slot) count) c.set.new.self c.set.ensures

pub returns-clause-taken : goal.returns-clause-taken
returns-clause-taken g c =
    let count : c.len.result ≡ length (seen g.T.Tester.left c.self.inside.slots.items) = (let long = length-map c.self.inside.slots.items (option_map (busy_of g.T.Tester.left)) in omega (arith, c.len.ensures, c.self.inside.slots.ok.0, long)) in
    start_taken g.T.Tester.left g.T.Tester.asked g.T.Tester.word g.T.Tester.gives g.T.Tester.most g.T.Tester.has g.T.Tester.mutations g.T.Tester.kinds
    _ c.args.self.now c.self.view_is c.self.inside.slots.items refl c.self.inside.waiting c.self.invariant c.args.slot c.args.mutation c.args.want c.requires.1
    c.start.new.self c.start.ensures.same c.start.ensures.others
    c.in_ok-job.job c.in_ok-job.ensures.mine c.in_ok-job.ensures.asked c.in_ok-job.ensures.new.0 c.in_ok-job.ensures.new.1
    c.slot_after-self-inside.result (c.slot_after-self-inside.ensures ∙ ap (slot_after c.args.slot) count) c.set.new.self c.set.ensures

pub returns-clause-order : goal.returns-clause-order
returns-clause-order g c =
    let count : c.len.result ≡ length (seen g.T.Tester.left c.self.inside.slots.items) = (let long = length-map c.self.inside.slots.items (option_map (busy_of g.T.Tester.left)) in omega (arith, c.len.ensures, c.self.inside.slots.ok.0, long)) in
    start_order g.T.Tester.left g.T.Tester.asked g.T.Tester.word g.T.Tester.gives g.T.Tester.most g.T.Tester.has g.T.Tester.mutations g.T.Tester.kinds
    _ c.args.self.now c.self.view_is c.self.inside.slots.items refl c.self.inside.waiting c.self.invariant c.args.slot c.args.mutation c.args.want c.requires.1
    c.start.new.self c.start.ensures.same c.start.ensures.others
    c.in_ok-job.job c.in_ok-job.ensures.mine c.in_ok-job.ensures.asked c.in_ok-job.ensures.new.0 c.in_ok-job.ensures.new.1
    c.slot_after-self-inside.result (c.slot_after-self-inside.ensures ∙ ap (slot_after c.args.slot) count) c.set.new.self c.set.ensures
