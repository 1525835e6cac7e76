use Rattle.lrat_checker.proofs.Common.{◌≡◌, ◌<◌, ◌-◌, ◌++◌, ◌∷◌, ◌∙◌, ℕ, [], length, take, map, set, ap, refl, arith, map-set_same, length-set}
use Rattle.lrat_checker.proofs.Guarding.{list-changed, moved-by, on-err}
use Rattle.lrat_checker.proofs.guards.move_number.Goals as goal

pub returns-in_err-push-clause-err : goal.returns-in_err-push-clause-err
returns-in_err-push-clause-err c = on-err _ c.from_residual.result (map-set_same (λ v. v.items) c.args.lists.now.items c.args.to c.push.new.self c.index_mut.result.now (c.in_err-push.ensures.items ∙ ap (λ v. v.items) c.index_mut.ensures.value))

pub returns-clause-ok : goal.returns-clause-ok
returns-clause-ok c =
    let shorter : c.pop.new.self.items ≡ take (length c.index_mut-2.result.now.items - 1) c.index_mut-2.result.now.items = c.pop.ensures.rest ∙ ap (λ (n : ℕ). take (n - 1) c.index_mut-2.result.now.items) c.index_mut-2.result.now.ok.0 in
    let first = list-changed (λ v. v.items) (λ xs. xs ++ c.args.number ∷ []) c.args.lists.now.items c.args.to c.args.to c.index_mut.result.now c.push.new.self c.requires.to c.index_mut.ensures.value refl c.in_ok-push.ensures.items in
    let long : length (set c.args.lists.now.items c.args.to c.push.new.self) ≡ length c.args.lists.now.items = length-set c.args.lists.now.items c.args.to c.push.new.self in
    let within : c.args.from < length (set c.args.lists.now.items c.args.to c.push.new.self) = omega (arith, long, c.requires.from) in
    let second = list-changed (λ v. v.items) (λ xs. take (length xs - 1) xs) (set c.args.lists.now.items c.args.to c.push.new.self) c.args.from c.args.from c.index_mut-2.result.now c.pop.new.self within c.index_mut-2.ensures.value refl shorter in
    moved-by (map (λ v. v.items) c.args.lists.now.items) (map (λ v. v.items) (set c.args.lists.now.items c.args.to c.push.new.self)) _ c.args.from c.args.to c.args.number c.requires.apart first second
