use Rattle.lrat_checker.proofs.Common.{◌≡◌, ◌<◌, ◌++◌, ◌∷◌, ◌∙◌, [], true, false, length, ap, arith, rules, FitsSigned, w32, map-set_same, to_z-of_z, length-map, place_of, lists_of}
use Rattle.lrat_checker.proofs.Guarding.{list-changed, are-same, are-kept, are-pushed}
use Rattle.lrat_checker.proofs.guards.Guards.put.Goals as goal

pub returns-then-place-len-clause-ok : goal.returns-then-place-len-clause-ok
returns-then-place-len-clause-ok c = λ lemmas lemma count own guarded all n h. absurd (let wrong : false ≡ true = all in cc)

pub returns-then-place-len-clause-kept : goal.returns-then-place-len-clause-kept
returns-then-place-len-clause-kept c = λ lemmas guarded all n h. absurd (let wrong : false ≡ true = all in cc)

pub returns-in_err-push-clause-kept : goal.returns-in_err-push-clause-kept
returns-in_err-push-clause-kept c = λ lemmas guarded.
    are-same lemmas c.args.self.now _ (map-set_same (λ v. v.items) c.args.self.now.lists.items c.place_of-place.result c.push.new.self c.index_mut.result.now (c.in_err-push.ensures.items ∙ ap (λ v. v.items) c.index_mut.ensures.value)) guarded

pub returns-clause-kept : goal.returns-clause-kept
returns-clause-kept c = λ lemmas guarded.
    let fits : FitsSigned w32 c.args.l = search rules in
    let place : c.place_of-place.result ≡ place_of c.args.l = rw (to_z-of_z w32 c.args.l fits) at c.place_of-place.ensures in
    let within : c.place_of-place.result < length c.args.self.now.lists.items = omega arith in
    let lists = list-changed (λ v. v.items) (λ xs. xs ++ c.args.number ∷ []) c.args.self.now.lists.items c.place_of-place.result (place_of c.args.l) c.index_mut.result.now c.push.new.self within c.index_mut.ensures.value place c.in_ok-push.ensures.items in
    let there : place_of c.args.l < length (lists_of c.args.self.now) = omega (arith, place, within, length-map c.args.self.now.lists.items (λ v. v.items)) in
    are-kept lemmas c.args.self.now _ (place_of c.args.l) c.args.number lists there guarded

pub returns-clause-ok : goal.returns-clause-ok
returns-clause-ok c = λ lemmas lemma count own guarded.
    let fits : FitsSigned w32 c.args.l = search rules in
    let place : c.place_of-place.result ≡ place_of c.args.l = rw (to_z-of_z w32 c.args.l fits) at c.place_of-place.ensures in
    let within : c.place_of-place.result < length c.args.self.now.lists.items = omega arith in
    let lists = list-changed (λ v. v.items) (λ xs. xs ++ c.args.number ∷ []) c.args.self.now.lists.items c.place_of-place.result (place_of c.args.l) c.index_mut.result.now c.push.new.self within c.index_mut.ensures.value place c.in_ok-push.ensures.items in
    let there : place_of c.args.l < length (lists_of c.args.self.now) = omega (arith, place, within, length-map c.args.self.now.lists.items (λ v. v.items)) in
    are-pushed lemmas lemma c.args.self.now _ c.args.number c.args.l lists count there own guarded
