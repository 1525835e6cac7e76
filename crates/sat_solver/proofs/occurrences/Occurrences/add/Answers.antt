use Rattle.sat_solver.proofs.Common.{◌≡◌, ◌<◌, ◌+◌, ◌++◌, ◌∷◌, ◌∙◌, ℕ, ℤ, List, [], pos, length, take, map, get_or, set, sym, ap, subst, rules, arith, FitsSigned, w32, to_z-of_z, length-map, take_all}
use Rattle.sat_solver.proofs.Common.{place_of, IsAdded, list-changed}
use Rattle.std.proofs.Math.Seq.{map-set_same}
use Rattle.sat_solver.proofs.Listed.{added-more, added-dropped}
use Rattle.sat_solver.proofs.occurrences.Occurrences.add.Goals as goal

pub loop-place-preserved : goal.loop-place-preserved
loop-place-preserved c =
    let fits : FitsSigned w32 (get_or c.args.clause.now c.loop-place.place (pos 0)) = search rules in
    let place : c.place_of.result ≡ place_of (get_or c.args.clause.now c.loop-place.place (pos 0)) = rw (to_z-of_z w32 (get_or c.args.clause.now c.loop-place.place (pos 0)) fits) at c.place_of.ensures in
    let old = map (λ v. v.items) c.self.inside.lists.items in
    let now = map (λ v. v.items) c.loop-place.self-inside.lists.items in
    let len : length (map (λ v. v.items) c.loop-place.self-inside.lists.items) ≡ length (map (λ v. v.items) c.self.inside.lists.items) = c.loop-place.invariant.len in
    let inside : place_of (get_or c.args.clause.now c.loop-place.place (pos 0)) < length (map (λ v. v.items) c.loop-place.self-inside.lists.items) = omega (arith, c.requires c.loop-place.place (pos 0) c.loop-place-test.true, len, ap (length {A = List ℕ}) c.self.view_is) in
    let within : c.place_of.result < length c.loop-place.self-inside.lists.items = omega (arith, place, inside, length-map c.loop-place.self-inside.lists.items (λ v. v.items)) in
    let lists = list-changed (λ v. v.items) (λ xs. xs ++ c.args.number ∷ []) c.loop-place.self-inside.lists.items c.place_of.result (place_of (get_or c.args.clause.now c.loop-place.place (pos 0))) c.index_mut.result.now c.push.new.self within c.index_mut.ensures.value place c.in-Ok.ensures.items in
    let P : List (List ℕ) → Type 0 = IsAdded c.args.number (take (c.loop-place.place + 1) c.args.clause.now) (map (λ v. v.items) c.self.inside.lists.items) in
    subst P (sym lists) (added-more c.args.number c.args.clause.now c.loop-place.place (map (λ v. v.items) c.self.inside.lists.items) (map (λ v. v.items) c.loop-place.self-inside.lists.items) c.loop-place-test.true inside c.loop-place.invariant)

pub returns-in-Err-clause-err : goal.returns-in-Err-clause-err
returns-in-Err-clause-err c =
    let same : map (λ v. v.items) (set c.loop-place.self-inside.lists.items c.place_of.result c.push.new.self) ≡ map (λ v. v.items) c.loop-place.self-inside.lists.items = map-set_same (λ v. v.items) c.loop-place.self-inside.lists.items c.place_of.result c.push.new.self c.index_mut.result.now (c.in-Err.ensures.items ∙ ap (λ v. v.items) c.index_mut.ensures.value) in
    let P : List (List ℕ) → Type 0 = IsAdded c.args.number (take c.loop-place.place c.args.clause.now) (map (λ v. v.items) c.self.inside.lists.items) in
    let added : IsAdded c.args.number (take c.loop-place.place c.args.clause.now) (map (λ v. v.items) c.self.inside.lists.items) (map (λ v. v.items) (set c.loop-place.self-inside.lists.items c.place_of.result c.push.new.self)) = subst P (sym same) c.loop-place.invariant in
    let len : length (map (λ v. v.items) c.drop_last.new.lists.items) ≡ length (map (λ v. v.items) (set c.loop-place.self-inside.lists.items c.place_of.result c.push.new.self)) = length-map c.drop_last.new.lists.items (λ v. v.items) ∙ c.drop_last.ensures.len ∙ sym (length-map (set c.loop-place.self-inside.lists.items c.place_of.result c.push.new.self) (λ v. v.items)) in
    let Q : List (List ℕ) → Type 0 = λ xs. IsAdded c.args.number [] xs (map (λ v. v.items) c.drop_last.new.lists.items) in
    subst Q c.self.view_is (added-dropped c.args.number (take c.loop-place.place c.args.clause.now) (map (λ v. v.items) c.self.inside.lists.items) (map (λ v. v.items) (set c.loop-place.self-inside.lists.items c.place_of.result c.push.new.self)) (map (λ v. v.items) c.drop_last.new.lists.items) added len c.drop_last.ensures.lists)

pub returns-clause-ok : goal.returns-clause-ok
returns-clause-ok c =
    let whole : take c.loop-place.place c.args.clause.now ≡ c.args.clause.now = take_all c.loop-place.place c.args.clause.now c.loop-place-test.false in
    let P : List ℤ → Type 0 = λ clause. IsAdded c.args.number clause (map (λ v. v.items) c.self.inside.lists.items) (map (λ v. v.items) c.loop-place.self-inside.lists.items) in
    let Q : List (List ℕ) → Type 0 = λ xs. IsAdded c.args.number c.args.clause.now xs (map (λ v. v.items) c.loop-place.self-inside.lists.items) in
    subst Q c.self.view_is (subst P whole c.loop-place.invariant)
