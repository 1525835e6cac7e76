use Rattle.net_order.proofs.Common.{◌≡◌, ◌≤◌, ◌<◌, ℕ, false, [], List, length, map, replicate, refl, ap, ◌∙◌, arith, length-map, Stage, stage_of}
use Rattle.net_order.proofs.Staged.{stage-start, stage-from, stage-sized, placed-order}
use Rattle.net_order.proofs.listing.Listing.start.Goals as goal

pub loop-c-init : goal.loop-c-init
loop-c-init c =
    let graph : List (List ℕ) = map (λ v. v.items) c.args.reads.items in
    let s : Stage = stage_of (record { listed = c.in_ok-vec.field-0; reads = c.args.reads; ready = c.new.result; waiting = c.in_ok-empty_lists.field-0; order = c.new-2.result }) in
    let size : c.len-count.result ≡ length graph = omega (arith, length-map c.args.reads.items (λ v. v.items)) in
    let listed : s.listed ≡ replicate (length graph) false = c.in_ok-vec.ensures.items_if_clones_equal (λ y h. h) ∙ ap (λ (n : ℕ). replicate n false) size in
    let waiting : s.waiting ≡ replicate (length graph) [] = c.in_ok-empty_lists.ensures ∙ ap (λ (n : ℕ). replicate n []) size in
    (stage-start graph s c.requires.inside listed refl c.new.ensures.empty waiting c.new-2.ensures.items, c.new-2.ensures.items)

pub place-requires-clause-sized : goal.place-requires-clause-sized
place-requires-clause-sized c = stage-sized (map (λ v. v.items) c.args.reads.items) (stage_of c.loop-c.listing) (λ x. c.loop-c.c ≤ x) c.loop-c.invariant.0

pub place-requires-clause-node : goal.place-requires-clause-node
place-requires-clause-node c = omega (arith, c.loop-c.invariant.0.room, length-map c.args.reads.items (λ v. v.items))

pub loop-c-preserved : goal.loop-c-preserved
loop-c-preserved c =
    let graph : List (List ℕ) = map (λ v. v.items) c.args.reads.items in
    let s : Stage = stage_of c.loop-c.listing in
    let t : Stage = stage_of c.place.new.self in
    let inside : c.loop-c.c < length graph = omega (arith, length-map c.args.reads.items (λ v. v.items)) in
    (stage-from graph s t c.loop-c.c inside c.loop-c.invariant.1 c.in_ok-place.ensures c.loop-c.invariant.0, placed-order c.loop-c.c s t c.in_ok-place.ensures ∙ c.loop-c.invariant.1)
