use Rattle.campaign_core.proofs.Common.{◌≡◌, Err, Some, length, set, slice_get, refl, sym, ap, ◌∙◌, arith, option_map, length-map, err_from_is_err_and, slot_after, busy_of, seen, answered_at, Turns}
use Rattle.campaign_core.proofs.Appends.{next_told, row_added, row_refused}
use Rattle.campaign_core.proofs.Committing.{commit_kept, commit_order, commit_taken, has_room, row_here, told_follows, told_mutation, told_place, told_slot, told_word}
use Rattle.campaign_core.proofs.KeptLemmas.{few_counts}
use Rattle.campaign_core.proofs.under_way.Core.commit.Goals as goal

pub entry_for-entry-requires-clause-mutation : goal.entry_for-entry-requires-clause-mutation
entry_for-entry-requires-clause-mutation g c =
    let is : answered_at (slice_get c.self.inside.slots.items c.args.slot) ≡ Some c.in-Some.told = sym (c.told_at.ensures ∙ ap (λ slots. answered_at (slice_get slots c.args.slot)) c.deref.ensures.value) ∙ c.in-Some.is in
    told_mutation g.T.Tester.left g.T.Tester.asked g.T.Tester.word g.T.Tester.gives g.T.Tester.has g.T.Tester.mutations g.T.Tester.kinds
    _ c.args.self.now c.self.view_is c.self.inside.slots.items refl c.self.inside.waiting c.self.invariant c.args.slot c.requires.allowed.1 c.in-Some.told is

pub entry_for-entry-requires-clause-follows : goal.entry_for-entry-requires-clause-follows
entry_for-entry-requires-clause-follows g c =
    let is : answered_at (slice_get c.self.inside.slots.items c.args.slot) ≡ Some c.in-Some.told = sym (c.told_at.ensures ∙ ap (λ slots. answered_at (slice_get slots c.args.slot)) c.deref.ensures.value) ∙ c.in-Some.is in
    told_follows g.T.Tester.left g.T.Tester.asked g.T.Tester.word g.T.Tester.gives g.T.Tester.has g.T.Tester.mutations g.T.Tester.kinds
    _ c.args.self.now c.self.view_is c.self.inside.slots.items refl c.self.inside.waiting c.self.invariant c.args.slot c.requires.allowed.1 c.in-Some.told is

pub entry_for-entry-requires-clause-word : goal.entry_for-entry-requires-clause-word
entry_for-entry-requires-clause-word g c =
    let is : answered_at (slice_get c.self.inside.slots.items c.args.slot) ≡ Some c.in-Some.told = sym (c.told_at.ensures ∙ ap (λ slots. answered_at (slice_get slots c.args.slot)) c.deref.ensures.value) ∙ c.in-Some.is in
    told_word g.T.Tester.left g.T.Tester.asked g.T.Tester.word g.T.Tester.gives g.T.Tester.has g.T.Tester.mutations g.T.Tester.kinds
    _ c.args.self.now c.self.view_is c.self.inside.slots.items refl c.self.inside.waiting c.self.invariant c.args.slot c.requires.allowed.1 c.in-Some.told is

pub append-requires-clause-next : goal.append-requires-clause-next
append-requires-clause-next g c was holds =
    next_told c.self.inside.campaign.now c.self.inside.state.rows was c.entry_for-entry.result c.self.invariant.order.form.form ((c.requires.told was holds).0 ∙ ap (λ (s : Turns _). s.state.rows) (sym c.self.view_is)) c.entry_for-entry.ensures.row

pub returns-in_err-append-clause-kept : goal.returns-in_err-append-clause-kept
returns-in_err-append-clause-kept g c tells =
    let is : answered_at (slice_get c.self.inside.slots.items c.args.slot) ≡ Some c.in-Some.told = sym (c.told_at.ensures ∙ ap (λ slots. answered_at (slice_get slots c.args.slot)) c.deref.ensures.value) ∙ c.in-Some.is in
    let refused = c.in_err-append.field-0.0 in
    let p = err_from_is_err_and c.from_residual.result c.from_residual.ensures.1 in
    rw (p.1, p.2) (row_refused c.args.self.now c.args.slot c.entry_for-entry.result (row_here g.T.Tester.left g.T.Tester.asked g.T.Tester.word g.T.Tester.gives g.T.Tester.has g.T.Tester.mutations g.T.Tester.kinds
    _ c.args.self.now c.self.view_is c.self.inside.slots.items refl c.self.inside.waiting c.self.invariant c.args.slot c.requires.allowed.1 c.in-Some.told is
    c.entry_for-entry.result c.entry_for-entry.ensures.row c.entry_for-entry.ensures.pair c.entry_for-entry.ensures.word c.entry_for-entry.ensures.bound)
    (g.K.Keeper.holds c.args.keeper.now) (g.K.Keeper.holds c.append.new.self) (g.K.Keeper.leaves c.args.keeper.now) (g.K.Keeper.leaves c.append.new.self) refused
    (λ is. c.append.ensures.either tells (c.in_err-append.was ∙ ap Err is)) (λ is. c.append.ensures.same tells (c.in_err-append.was ∙ ap Err is)) (λ is. c.append.ensures.refused tells (c.in_err-append.was ∙ ap Err is)))

pub add-requires-clause-room : goal.add-requires-clause-room
add-requires-clause-room g c =
    let is : answered_at (slice_get c.self.inside.slots.items c.args.slot) ≡ Some c.in-Some.told = sym (c.told_at.ensures ∙ ap (λ slots. answered_at (slice_get slots c.args.slot)) c.deref.ensures.value) ∙ c.in-Some.is in
    has_room g.T.Tester.left g.T.Tester.asked g.T.Tester.word g.T.Tester.gives g.T.Tester.has g.T.Tester.mutations g.T.Tester.kinds
    _ c.args.self.now c.self.view_is c.self.inside.slots.items refl c.self.inside.waiting c.self.invariant c.args.slot c.requires.allowed.1 c.in-Some.told is
    c.entry_for-entry.result c.entry_for-entry.ensures.row c.entry_for-entry.ensures.pair c.entry_for-entry.ensures.word c.entry_for-entry.ensures.bound

pub index_mut-requires : goal.index_mut-requires
index_mut-requires g c =
    let is : answered_at (slice_get c.self.inside.slots.items c.args.slot) ≡ Some c.in-Some.told = sym (c.told_at.ensures ∙ ap (λ slots. answered_at (slice_get slots c.args.slot)) c.deref.ensures.value) ∙ c.in-Some.is in
    let within = told_slot g.T.Tester.left g.T.Tester.asked g.T.Tester.word g.T.Tester.gives g.T.Tester.has g.T.Tester.mutations g.T.Tester.kinds
    _ c.args.self.now c.self.view_is c.self.inside.slots.items refl c.self.inside.waiting c.self.invariant c.args.slot c.requires.allowed.1 c.in-Some.told is in
    omega (arith, within, c.self.inside.slots.ok.0)

pub set-requires : goal.set-requires
set-requires g c =
    let is : answered_at (slice_get c.self.inside.slots.items c.args.slot) ≡ Some c.in-Some.told = sym (c.told_at.ensures ∙ ap (λ slots. answered_at (slice_get slots c.args.slot)) c.deref.ensures.value) ∙ c.in-Some.is in
    told_place g.T.Tester.left g.T.Tester.asked g.T.Tester.word g.T.Tester.gives g.T.Tester.has g.T.Tester.mutations g.T.Tester.kinds
    _ c.args.self.now c.self.view_is c.self.inside.slots.items refl c.self.inside.waiting c.self.invariant c.args.slot c.requires.allowed.1 c.in-Some.told is

pub overflow_add-self : goal.overflow_add-self
overflow_add-self g c =
    let few = (few_counts (g.T.Tester.gives c.self.inside.tester) _ c.self.invariant.order).1 in
    omega (arith, few)

pub invariant_of-self : goal.invariant_of-self
invariant_of-self g c =
    let is : answered_at (slice_get c.self.inside.slots.items c.args.slot) ≡ Some c.in-Some.told = sym (c.told_at.ensures ∙ ap (λ slots. answered_at (slice_get slots c.args.slot)) c.deref.ensures.value) ∙ c.in-Some.is in
    let count : c.len.result ≡ length (seen g.T.Tester.left c.self.inside.slots.items) = (let long = length-map c.self.inside.slots.items (option_map (busy_of g.T.Tester.left)) in omega (arith, c.len.ensures, c.self.inside.slots.ok.0, long)) in
    commit_kept g.T.Tester.left g.T.Tester.asked g.T.Tester.word g.T.Tester.gives g.T.Tester.has g.T.Tester.mutations g.T.Tester.kinds
    _ c.args.self.now c.self.view_is c.self.inside.slots.items refl c.self.inside.waiting c.self.invariant c.args.slot c.requires.allowed.1 c.in-Some.told is
    c.entry_for-entry.result c.entry_for-entry.ensures.row c.entry_for-entry.ensures.pair c.entry_for-entry.ensures.word c.entry_for-entry.ensures.bound
    c.add.new.self c.add.ensures.state c.add.ensures.spare c.slot_after-self-inside.result (c.slot_after-self-inside.ensures ∙ ap (slot_after c.args.slot) count)
    c.set.new.self (c.set.ensures ∙ ap (set c.self.inside.waiting c.in-Some.told.mutation) c.want-next.ensures)

pub returns-clause-taken : goal.returns-clause-taken
returns-clause-taken g c =
    let is : answered_at (slice_get c.self.inside.slots.items c.args.slot) ≡ Some c.in-Some.told = sym (c.told_at.ensures ∙ ap (λ slots. answered_at (slice_get slots c.args.slot)) c.deref.ensures.value) ∙ c.in-Some.is in
    let count : c.len.result ≡ length (seen g.T.Tester.left c.self.inside.slots.items) = (let long = length-map c.self.inside.slots.items (option_map (busy_of g.T.Tester.left)) in omega (arith, c.len.ensures, c.self.inside.slots.ok.0, long)) in
    commit_taken g.T.Tester.left g.T.Tester.asked g.T.Tester.word g.T.Tester.gives g.T.Tester.has g.T.Tester.mutations g.T.Tester.kinds
    _ c.args.self.now c.self.view_is c.self.inside.slots.items refl c.self.inside.waiting c.self.invariant c.args.slot c.requires.allowed.1 c.in-Some.told is
    c.entry_for-entry.result c.entry_for-entry.ensures.row c.entry_for-entry.ensures.pair c.entry_for-entry.ensures.word c.entry_for-entry.ensures.bound
    c.add.new.self c.add.ensures.state c.add.ensures.spare c.slot_after-self-inside.result (c.slot_after-self-inside.ensures ∙ ap (slot_after c.args.slot) count)
    c.set.new.self (c.set.ensures ∙ ap (set c.self.inside.waiting c.in-Some.told.mutation) c.want-next.ensures)

pub returns-clause-order : goal.returns-clause-order
returns-clause-order g c =
    let is : answered_at (slice_get c.self.inside.slots.items c.args.slot) ≡ Some c.in-Some.told = sym (c.told_at.ensures ∙ ap (λ slots. answered_at (slice_get slots c.args.slot)) c.deref.ensures.value) ∙ c.in-Some.is in
    let count : c.len.result ≡ length (seen g.T.Tester.left c.self.inside.slots.items) = (let long = length-map c.self.inside.slots.items (option_map (busy_of g.T.Tester.left)) in omega (arith, c.len.ensures, c.self.inside.slots.ok.0, long)) in
    commit_order g.T.Tester.left g.T.Tester.asked g.T.Tester.word g.T.Tester.gives g.T.Tester.has g.T.Tester.mutations g.T.Tester.kinds
    _ c.args.self.now c.self.view_is c.self.inside.slots.items refl c.self.inside.waiting c.self.invariant c.args.slot c.requires.allowed.1 c.in-Some.told is
    c.entry_for-entry.result c.entry_for-entry.ensures.row c.entry_for-entry.ensures.pair c.entry_for-entry.ensures.word c.entry_for-entry.ensures.bound
    c.add.new.self c.add.ensures.state c.add.ensures.spare c.slot_after-self-inside.result (c.slot_after-self-inside.ensures ∙ ap (slot_after c.args.slot) count)
    c.set.new.self (c.set.ensures ∙ ap (set c.self.inside.waiting c.in-Some.told.mutation) c.want-next.ensures)

pub returns-clause-kept : goal.returns-clause-kept
returns-clause-kept g c tells =
    let is : answered_at (slice_get c.self.inside.slots.items c.args.slot) ≡ Some c.in-Some.told = sym (c.told_at.ensures ∙ ap (λ slots. answered_at (slice_get slots c.args.slot)) c.deref.ensures.value) ∙ c.in-Some.is in
    row_added c.args.self.now c.args.slot c.entry_for-entry.result (row_here g.T.Tester.left g.T.Tester.asked g.T.Tester.word g.T.Tester.gives g.T.Tester.has g.T.Tester.mutations g.T.Tester.kinds
    _ c.args.self.now c.self.view_is c.self.inside.slots.items refl c.self.inside.waiting c.self.invariant c.args.slot c.requires.allowed.1 c.in-Some.told is
    c.entry_for-entry.result c.entry_for-entry.ensures.row c.entry_for-entry.ensures.pair c.entry_for-entry.ensures.word c.entry_for-entry.ensures.bound)
    (g.K.Keeper.holds c.args.keeper.now) (g.K.Keeper.holds c.append.new.self) (g.K.Keeper.leaves c.args.keeper.now) (g.K.Keeper.leaves c.append.new.self) (c.in_ok-append.ensures.done tells)
