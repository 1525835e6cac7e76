use Rattle.sat_solver.proofs.Common.{◌≡◌, ◌<◌, ◌-◌, ◌+◌, ◌∙◌, ℕ, List, pos, length, take, map, get_or, sym, ap, subst, rules, arith, FitsSigned, w32, to_z-of_z, length-map, length-set, place_of}
use Rattle.sat_solver.proofs.Common.{list-changed}
use Rattle.sat_solver.proofs.Listed.{IsDropped, dropped-more}
use Rattle.sat_solver.proofs.occurrences.drop_last.Goals as goal

pub loop-l-preserved : goal.loop-l-preserved
loop-l-preserved c =
    let fits : FitsSigned w32 (get_or c.args.clause.now c.loop-l.l-index (pos 0)) = search rules in
    let place : c.place_of.result ≡ place_of (get_or c.args.clause.now c.loop-l.l-index (pos 0)) = rw (to_z-of_z w32 (get_or c.args.clause.now c.loop-l.l-index (pos 0)) fits) at c.place_of.ensures in
    let within : c.place_of.result < length c.loop-l.lists.items = omega (arith, place, c.requires c.loop-l.l-index (pos 0) c.loop-l-test.true, c.loop-l.invariant.0) in
    let shorter : c.pop.new.self.items ≡ take (length c.index_mut.result.now.items - 1) c.index_mut.result.now.items = c.pop.ensures.rest ∙ ap (λ (n : ℕ). take (n - 1) c.index_mut.result.now.items) c.index_mut.result.now.ok.0 in
    let lists = list-changed (λ v. v.items) (λ xs. take (length xs - 1) xs) c.loop-l.lists.items c.place_of.result (place_of (get_or c.args.clause.now c.loop-l.l-index (pos 0))) c.index_mut.result.now c.pop.new.self within c.index_mut.ensures.value place shorter in
    let inside : place_of (get_or c.args.clause.now c.loop-l.l-index (pos 0)) < length (map (λ v. v.items) c.loop-l.lists.items) = omega (arith, place, within, length-map c.loop-l.lists.items (λ v. v.items)) in
    let P : List (List ℕ) → Type 0 = IsDropped (take (c.loop-l.l-index + 1) c.args.clause.now) (map (λ v. v.items) c.args.lists.now.items) in
    (length-set c.loop-l.lists.items c.place_of.result c.pop.new.self ∙ c.loop-l.invariant.0, subst P (sym lists) (dropped-more c.args.clause.now c.loop-l.l-index (map (λ v. v.items) c.args.lists.now.items) (map (λ v. v.items) c.loop-l.lists.items) c.loop-l-test.true inside c.loop-l.invariant.1))
