use Rattle.net_order.proofs.Common.{◌≡◌, ◌<◌, ◌+◌, ℕ, false, [], List, length, map, replicate, refl, sym, ap, ◌∙◌, subst, inl, inr, arith, length-map, length-replicate, length_push, nil_from_length}
use Rattle.net_order.proofs.Common.{get_or_read, row_of, none_left, is_listed, Trail, trail_of, after_nodes, unfound, IsTrail}
use Rattle.net_order.proofs.Chains.{reached-inside}
use Rattle.net_order.proofs.Trails.{row-all, trail-start, trail-look, trail-pop, popped-found, look-size, trail-end, popped-none}
use Rattle.net_order.proofs.loops.is_on_loop.Goals as goal

pub look-requires : goal.look-requires
look-requires c =
    let graph : List (List ℕ) = map (λ v. v.items) c.args.reads.now in
    let none : c.in_ok-vec.field-0.items ≡ replicate (length c.args.reads.now) false = c.in_ok-vec.ensures.items_if_clones_equal (λ y h. h) in
    let room : length c.in_ok-vec.field-0.items ≡ length graph = ap length none ∙ length-replicate (length c.args.reads.now) false ∙ sym (length-map c.args.reads.now (λ v. v.items)) in
    row-all graph c.args.node (length c.in_ok-vec.field-0.items) c.row.result.now c.requires.inside room c.row.ensures

pub loop-next-init : goal.loop-next-init
loop-next-init c =
    let graph : List (List ℕ) = map (λ v. v.items) c.args.reads.now in
    let s : Trail = trail_of (record { found = c.in_ok-vec.field-0; open_nodes = c.new.result }) in
    let size : length c.args.reads.now ≡ length graph = sym (length-map c.args.reads.now (λ v. v.items)) in
    let none : s.found ≡ replicate (length graph) false = c.in_ok-vec.ensures.items_if_clones_equal (λ y h. h) ∙ ap (λ (n : ℕ). replicate n false) size in
    let after : trail_of c.look.new.self ≡ after_nodes (row_of graph c.args.node) s = c.in_ok-look.ensures.trail ∙ ap (λ (row : List ℕ). after_nodes row s) c.row.ensures in
    subst (λ (t : Trail). IsTrail graph c.args.node t none_left) (sym after) (trail-look graph c.args.node c.args.node s (inl refl) (trail-start graph c.args.node s c.requires.inside none c.new.ensures.items))

pub row-requires-in-Some : goal.row-requires-in-Some
row-requires-in-Some c =
    let graph : List (List ℕ) = map (λ v. v.items) c.args.reads.now in
    let s : Trail = trail_of c.loop-next.search in
    let found = popped-found graph c.args.node c.in-Some.next s c.pop.new.self.items c.in-Some.ensures.items c.loop-next.invariant in
    let reach = c.loop-next.invariant.sound c.in-Some.next found in
    let below : c.in-Some.next < length graph = reached-inside graph c.requires.inside c.args.node reach.0 c.in-Some.next reach.1 in
    omega (arith, below, length-map c.args.reads.now (λ v. v.items))

pub look-requires-in-Some : goal.look-requires-in-Some
look-requires-in-Some c =
    let graph : List (List ℕ) = map (λ v. v.items) c.args.reads.now in
    row-all graph c.in-Some.next (length c.loop-next.search.found.items) c.row-in-Some.result.now c.requires.inside c.loop-next.invariant.room c.row-in-Some.ensures

pub loop-next-smaller : goal.loop-next-smaller
loop-next-smaller c =
    let graph : List (List ℕ) = map (λ v. v.items) c.args.reads.now in
    let s : Trail = trail_of c.loop-next.search in
    let mid : Trail = record { found = s.found; open_nodes = c.pop.new.self.items } in
    let after : trail_of c.look-in-Some.new.self ≡ after_nodes (row_of graph c.in-Some.next) mid = c.in_ok-look-2.ensures.trail ∙ ap (λ (row : List ℕ). after_nodes row mid) c.row-in-Some.ensures in
    let size = ap (λ (t : Trail). length t.open_nodes + unfound t.found) after ∙ look-size graph c.in-Some.next mid c.requires.inside c.loop-next.invariant.room in
    let popped = ap length c.in-Some.ensures.items ∙ length_push c.pop.new.self.items c.in-Some.next in
    omega (arith, size, popped)

pub loop-next-preserved : goal.loop-next-preserved
loop-next-preserved c =
    let graph : List (List ℕ) = map (λ v. v.items) c.args.reads.now in
    let s : Trail = trail_of c.loop-next.search in
    let mid : Trail = record { found = s.found; open_nodes = c.pop.new.self.items } in
    let after : trail_of c.look-in-Some.new.self ≡ after_nodes (row_of graph c.in-Some.next) mid = c.in_ok-look-2.ensures.trail ∙ ap (λ (row : List ℕ). after_nodes row mid) c.row-in-Some.ensures in
    let found = popped-found graph c.args.node c.in-Some.next s c.pop.new.self.items c.in-Some.ensures.items c.loop-next.invariant in
    subst (λ (t : Trail). IsTrail graph c.args.node t none_left) (sym after) (trail-look graph c.args.node c.in-Some.next mid (inr found) (trail-pop graph c.args.node c.in-Some.next s c.pop.new.self.items c.in-Some.ensures.items c.loop-next.invariant))

pub returns : goal.returns
returns c =
    let graph : List (List ℕ) = map (λ v. v.items) c.args.reads.now in
    let s : Trail = trail_of c.loop-next.search in
    let none = popped-none c.pop.result _ _ c.in_default.not-Some c.pop.ensures.cases in
    let open_nodes = c.loop-next.search.open_nodes in
    let empty : s.open_nodes ≡ [] = nil_from_length s.open_nodes (omega (arith, none.0, open_nodes.ok)) in
    let ends = trail-end graph c.args.node s empty c.loop-next.invariant in
    let inside : c.args.node < length s.found = omega (arith, c.loop-next.invariant.room, c.requires.node, length-map c.args.reads.now (λ v. v.items)) in
    let is : c.index.result.now ≡ is_listed s.found c.args.node = get_or_read s.found c.args.node c.index.result.now inside c.index.ensures false in
    (λ t. ends.0 (sym is ∙ t), λ loop. is ∙ ends.1 loop)
