use Rattle.net_order.proofs.Common.{◌<◌, ℕ, true, List, map, length, set, sym, ap, ◌∙◌, subst, arith, All, Contains, length-map, length-set, row_of, Stage, stage_of, IsSized, IsStage, CanBePlaced}
use Rattle.net_order.proofs.Stages.{at_place, stage-marked}
use Rattle.net_order.proofs.Staged.{marked-sized}
use Rattle.net_order.proofs.listing.Listing.list.Goals as goal

pub place_all-requires-clause-sized : goal.place_all-requires-clause-sized
place_all-requires-clause-sized c =
    let s = c.args.self.now in
    let empty = ap (λ v. v.items) c.replace-woken.ensures.after ∙ c.new.ensures.items in
    let mid = stage-marked (λ v. v.items) s.listed.items (map (λ v. v.items) s.reads.items) s.ready.keys s.waiting.items s.order.items c.push.new.self.items c.args.c c.replace-woken.new.dest empty c.in_ok-push.ensures.items in
    subst IsSized (sym mid) (marked-sized c.args.c (stage_of s) c.requires.sized)

pub place_all-requires-clause-nodes : goal.place_all-requires-clause-nodes
place_all-requires-clause-nodes c = λ k d below.
    (let s = c.args.self.now in
    let inside : c.args.c < length s.waiting.items = omega (arith, c.requires.node, c.requires.sized.wide, length-map s.waiting.items (λ v. v.items)) in
    let woken = c.deref.ensures.value ∙ ap (λ v. v.items) c.replace-woken.ensures.value ∙ at_place (λ v. v.items) s.waiting.items c.args.c c.index_mut.result.now inside c.index_mut.ensures.value in
    let all = subst (λ (l : List ℕ). All (λ x. x < length s.listed.items) l) (sym woken) c.requires.nodes in
    let small = all k d below in
    omega (arith, small, length-set s.listed.items c.args.c true))

pub returns-clause-stage : goal.returns-clause-stage
returns-clause-stage c = λ graph h can.
    (let s = c.args.self.now in
    let inside : c.args.c < length s.waiting.items = omega (arith, c.requires.node, c.requires.sized.wide, length-map s.waiting.items (λ v. v.items)) in
    let empty = ap (λ v. v.items) c.replace-woken.ensures.after ∙ c.new.ensures.items in
    let mid = stage-marked (λ v. v.items) s.listed.items (map (λ v. v.items) s.reads.items) s.ready.keys s.waiting.items s.order.items c.push.new.self.items c.args.c c.replace-woken.new.dest empty c.in_ok-push.ensures.items in
    let woken = c.deref.ensures.value ∙ ap (λ v. v.items) c.replace-woken.ensures.value ∙ at_place (λ v. v.items) s.waiting.items c.args.c c.index_mut.result.now inside c.index_mut.ensures.value in
    let row : List ℕ = row_of (map (λ v. v.items) s.waiting.items) c.args.c in
    let now : Stage = record { listed = set s.listed.items c.args.c true; reads = map (λ v. v.items) s.reads.items; ready = s.ready.keys; waiting = map (λ v. v.items) (set s.waiting.items c.args.c c.replace-woken.new.dest); order = c.push.new.self.items } in
    let stage : IsStage graph now (Contains row) = subst (λ (t : Stage). IsStage graph t (Contains row)) (sym mid) h in
    c.in_ok-place_all.ensures.stage graph (subst (λ (l : List ℕ). IsStage graph now (Contains l)) (sym woken) stage) (subst (λ (l : List ℕ). CanBePlaced graph (set s.listed.items c.args.c true) l) (sym woken) can))
