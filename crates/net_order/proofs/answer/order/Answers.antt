use Rattle.net_order.proofs.Common.{ℕ, Bool, List, Option, length, map, sym, ap, ◌∙◌, subst, arith, length-map, AreInside, Reads, IsOnLoop, IsOrder, Never, IsFirst, IsLeast, is_listed, Stage}
use Rattle.net_order.proofs.Common.{stage_of}
use Rattle.net_order.proofs.Chains.{listed-no_loop, all-listed}
use Rattle.net_order.proofs.Left.{loop-left, loop-whole, left-inside}
use Rattle.net_order.proofs.answer.order.Goals as goal

pub least_on_loop-requires-clause-inside : goal.least_on_loop-requires-clause-inside
least_on_loop-requires-clause-inside c =
    let graph : List (List ℕ) = map (λ v. v.items) c.args.reads.items in
    subst AreInside (sym c.left.ensures) (left-inside graph (stage_of c.in_ok-listing.listing) c.in_ok-listing.ensures.0)

pub least_on_loop-requires-clause-room : goal.least_on_loop-requires-clause-room
least_on_loop-requires-clause-room c =
    let stage = c.in_ok-listing.ensures.0 in
    omega (arith, stage.room, stage.rows, ap length c.listed.ensures, ap length c.left.ensures, length-map c.left.result.now (λ v. v.items))

pub least_on_loop-requires-clause-listed : goal.least_on_loop-requires-clause-listed
least_on_loop-requires-clause-listed c = λ d t loop.
    (let graph : List (List ℕ) = map (λ v. v.items) c.args.reads.items in
    let s : Stage = stage_of c.in_ok-listing.listing in
    let stage = c.in_ok-listing.ensures.0 in
    listed-no_loop graph s.order stage.order d (stage.told d (sym (ap (λ (l : List Bool). is_listed l d) c.listed.ensures) ∙ t)) (loop-whole graph s stage d (subst (λ (rows : List (List ℕ)). IsOnLoop (Reads rows) d) c.left.ensures loop)))

pub returns-in-Some : goal.returns-in-Some
returns-in-Some c =
    let graph : List (List ℕ) = map (λ v. v.items) c.args.reads.items in
    let s : Stage = stage_of c.in_ok-listing.listing in
    let stage = c.in_ok-listing.ensures.0 in
    let first : IsFirst (IsOnLoop (Reads s.reads)) c.in-Some.node = subst (λ (rows : List (List ℕ)). IsFirst (IsOnLoop (Reads rows)) c.in-Some.node) c.left.ensures (subst (λ (o : Option ℕ). IsLeast (IsOnLoop (Reads (map (λ v. v.items) c.left.result.now))) o) c.in-Some.is c.in_ok-node.ensures) in
    record { here = loop-whole graph s stage c.in-Some.node first.here; before = λ k below loop. first.before k below (loop-left graph s stage k loop) }

pub returns-in-None : goal.returns-in-None
returns-in-None c =
    let graph : List (List ℕ) = map (λ v. v.items) c.args.reads.items in
    let s : Stage = stage_of c.in_ok-listing.listing in
    let stage = c.in_ok-listing.ensures.0 in
    let left : Never (IsOnLoop (Reads s.reads)) = subst (λ (rows : List (List ℕ)). Never (IsOnLoop (Reads rows))) c.left.ensures (subst (λ (o : Option ℕ). IsLeast (IsOnLoop (Reads (map (λ v. v.items) c.left.result.now))) o) c.in-None.is c.in_ok-node.ensures) in
    let never : Never (IsOnLoop (Reads graph)) = λ d loop. left d (loop-left graph s stage d loop) in
    let whole : IsOrder (length graph) (Reads graph) s.order = record { places = stage.order; each = all-listed graph s stage c.in_ok-listing.ensures.1 never } in
    (subst (IsOrder (length graph) (Reads graph)) (sym c.into_order.ensures) whole, never)
