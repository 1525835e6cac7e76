use Rattle.lrat_checker.proofs.Common.{◌≡◌, ◌++◌, ◌∷◌, [], ℤ, List, take, drop, length, sym, subst, refl, ap, ◌∙◌, arith, IsTrue, Decides-eqb, same_from_push, nil_from_length, IsModel, Log, EndsEmpty}
use Rattle.lrat_checker.proofs.Logs.{last-dropped}
use Rattle.lrat_checker.proofs.Sound.{refuted-no_model}
use Rattle.lrat_checker.proofs.checker.Checker.refuted.Goals as goal

-- the last lemma is the last clause of the store
last : (c : goal.After-is_empty) → (before : List (List ℤ)) × (drop c.self.inside.clauses c.self.inside.store ≡ before ++ c.clause.result.now ∷ [])
last c = last-dropped c.self.inside.store c.self.inside.clauses c.clause.result.now (omega (arith, c.if-last-self.true, c.len-last.ensures.number)) (rw c.len-last.ensures.number at c.clause.ensures)

ends : (c : goal.After-is_empty) → IsTrue c.is_empty.result → EndsEmpty (drop c.self.inside.clauses c.self.inside.store)
ends c h =
    let none : length c.clause.result.now ≡ 0 = (Decides-eqb (length c.clause.result.now) 0).0 (sym c.is_empty.ensures ∙ h) in
    ((last c).0, (last c).1 ∙ ap (λ (x : List ℤ). (last c).0 ++ x ∷ []) (nil_from_length c.clause.result.now none))

pub returns-then-last-self-clause-empty : goal.returns-then-last-self-clause-empty
returns-then-last-self-clause-empty c =
    let P : Log → Type 0 = λ log. (IsTrue c.is_empty.result → EndsEmpty log.lemmas) × (EndsEmpty log.lemmas → IsTrue c.is_empty.result) in
    subst P c.self.view_is (
      ends c,
      λ empty.
          let same : c.clause.result.now ≡ [] = (same_from_push (last c).0 empty.0 c.clause.result.now [] (sym (last c).1 ∙ empty.1)).1 in
          c.is_empty.ensures ∙ rw same refl,
    )

pub returns-then-last-self-clause-unsatisfiable : goal.returns-then-last-self-clause-unsatisfiable
returns-then-last-self-clause-unsatisfiable c = λ values h.
    let P : Log → Type 0 = λ log. IsModel values log.clauses → ⊥ in
    subst P c.self.view_is (refuted-no_model values (take c.self.inside.clauses c.self.inside.store) c.self.inside.free (drop c.self.inside.clauses c.self.inside.store) c.self.invariant.legal (ends c h))
