use Rattle.net_order.proofs.Common.{◌<◌, ℕ, Bool, List, length, get_or, ap, subst, arith, Contains, length-map, Contains-get_or, IsNext}
use Rattle.net_order.proofs.Stages.{at_place, stage-ready, stage-waits}
use Rattle.net_order.proofs.listing.Listing.place.Goals as goal

pub next_unlisted-requires : goal.next_unlisted-requires
next_unlisted-requires c = λ k d below.
    (let s = c.args.self.now in
    let row = c.index_mut.result.now.items in
    let inside : c.args.c < length s.reads.items = omega (arith, c.requires.node, c.requires.sized.rows, length-map s.reads.items (λ v. v.items)) in
    let has = subst (λ (l : List ℕ). Contains l (get_or row k d)) (at_place (λ v. v.items) s.reads.items c.args.c c.index_mut.result.now inside c.index_mut.ensures.value) (Contains-get_or row k d below) in
    let small = c.requires.sized.inside c.args.c (get_or row k d) has in
    omega (arith, small, ap length c.deref.ensures.value))

pub index_mut-requires-in-Some : goal.index_mut-requires-in-Some
index_mut-requires-in-Some c =
    let s = c.args.self.now in
    let inside : c.args.c < length s.reads.items = omega (arith, c.requires.node, c.requires.sized.rows, length-map s.reads.items (λ v. v.items)) in
    let old = c.in_ok-next_unlisted.ensures.fewer c.in-Some.d (c.in_ok-next_unlisted.ensures.some c.in-Some.d c.in-Some.is).0 in
    let has = subst (λ (l : List ℕ). Contains l c.in-Some.d) (at_place (λ v. v.items) s.reads.items c.args.c c.index_mut.result.now inside c.index_mut.ensures.value) old in
    let small = c.requires.sized.inside c.args.c c.in-Some.d has in
    omega (arith, small, c.requires.sized.wide, length-map s.waiting.items (λ v. v.items), s.waiting.ok)

pub returns-in_ok-insert-in-None : goal.returns-in_ok-insert-in-None
returns-in_ok-insert-in-None c =
    let s = c.args.self.now in
    let inside : c.args.c < length s.reads.items = omega (arith, c.requires.node, c.requires.sized.rows, length-map s.reads.items (λ v. v.items)) in
    let next = subst (λ (l : List Bool). IsNext l c.index_mut.result.now.items c.next_unlisted.new.reads.items c.in_ok-next_unlisted.field-0) c.deref.ensures.value c.in_ok-next_unlisted.ensures in
    stage-ready (λ v. v.items) s.listed.items s.reads.items s.ready.keys s.waiting.items s.order.items c.args.c c.index_mut.result.now c.next_unlisted.new.reads inside c.index_mut.ensures.value c.insert.new.self.keys c.in_ok-next_unlisted.field-0 c.in-None.is next c.in_ok-insert-in-None.ensures.keys

pub returns-in_ok-push-in-Some : goal.returns-in_ok-push-in-Some
returns-in_ok-push-in-Some c =
    let s = c.args.self.now in
    let inside : c.args.c < length s.reads.items = omega (arith, c.requires.node, c.requires.sized.rows, length-map s.reads.items (λ v. v.items)) in
    let old = c.in_ok-next_unlisted.ensures.fewer c.in-Some.d (c.in_ok-next_unlisted.ensures.some c.in-Some.d c.in-Some.is).0 in
    let has = subst (λ (l : List ℕ). Contains l c.in-Some.d) (at_place (λ v. v.items) s.reads.items c.args.c c.index_mut.result.now inside c.index_mut.ensures.value) old in
    let small = c.requires.sized.inside c.args.c c.in-Some.d has in
    let below : c.in-Some.d < length s.waiting.items = omega (arith, small, c.requires.sized.wide, length-map s.waiting.items (λ v. v.items)) in
    let next = subst (λ (l : List Bool). IsNext l c.index_mut.result.now.items c.next_unlisted.new.reads.items c.in_ok-next_unlisted.field-0) c.deref.ensures.value c.in_ok-next_unlisted.ensures in
    stage-waits (λ v. v.items) s.listed.items s.reads.items s.ready.keys s.waiting.items s.order.items c.args.c c.index_mut.result.now c.next_unlisted.new.reads inside c.index_mut.ensures.value c.in-Some.d c.index_mut-in-Some.result.now c.push.new.self c.in_ok-next_unlisted.field-0 c.in-Some.is next below c.index_mut-in-Some.ensures.value c.in_ok-push-in-Some.ensures.items
