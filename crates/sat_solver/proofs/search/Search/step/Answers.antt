use Rattle.sat_solver.proofs.Common.{◌≡◌, ◌≢◌, ◌<◌, ◌≤◌, ◌+◌, ◌++◌, ◌∷◌, [], ℕ, None, length, ap, sym, ◌∙◌, subst, arith, All, sum_by, length_push, sum_by_push, Values, IsModel, AreOver, Known}
use Rattle.sat_solver.proofs.Common.{IsQuiet, known_of, Hunt, listed_values, values_of, IsDone}
use Rattle.sat_solver.proofs.Hunts.{end-found, end-none}
use Rattle.sat_solver.proofs.Models.{settled, model-by_quiet, quiet-left}
use Rattle.sat_solver.proofs.search.Search.step.Goals as goal

pub invariant_of-self-in-Some : goal.invariant_of-self-in-Some
invariant_of-self-in-Some c =
    let step = c.in_ok-learn-in-Some.ensures.ok in
    let fewer : length c.self.inside.checker.lemmas < c.self.inside.limit = rw (← c.self.view_is) at c.requires.fewer in
    let count : length (c.self.inside.checker.lemmas ++ step.lemma ∷ []) ≡ length c.self.inside.checker.lemmas + 1 = length_push c.self.inside.checker.lemmas step.lemma in
    let sum : sum_by length (c.self.inside.checker.lemmas ++ step.lemma ∷ []) ≡ sum_by length c.self.inside.checker.lemmas + length step.lemma = sum_by_push length c.self.inside.checker.lemmas step.lemma in
    record {
      miter = rw step.added c.self.invariant.miter;
      free = rw step.added c.self.invariant.free;
      limit = c.self.invariant.limit;
      lemmas = rw step.added (omega (arith, count, fewer));
      literals = rw step.added (omega (arith, count, sum, step.few, c.self.invariant.literals));
      variables = rw step.added c.self.invariant.variables;
      len = rw step.added (c.learn.ensures.len ∙ c.conflict.ensures.len ∙ ap (λ (n : ℕ). n + 1) c.self.invariant.variables);
      probing = c.learn.ensures.probing;
    }

pub returns-in_ok-model-in-None-clause-found : goal.returns-in_ok-model-in-None-clause-found
returns-in_ok-model-in-None-clause-found c =
    let done : IsDone (c.self.inside.checker.clauses ++ c.self.inside.checker.lemmas) c.self.inside.checker.free c.conflict.new.self.propagator.trail.values.items = rw (c.in-None.is, c.self.invariant.free) at c.in_ok-conflict.ensures.end in
    let known : Known = known_of c.conflict.new.self.propagator.trail.values.items in
    let over : AreOver c.self.inside.checker.variables c.self.inside.checker.clauses = c.self.invariant.miter.over in
    let quiet : All (IsQuiet (known_of c.conflict.new.self.propagator.trail.values.items)) c.self.inside.checker.clauses = quiet-left (known_of c.conflict.new.self.propagator.trail.values.items) c.self.inside.checker.clauses c.self.inside.checker.lemmas done.quiet in
    let all : (v : ℕ) → 0 < v → v ≤ c.self.inside.checker.variables → known_of c.conflict.new.self.propagator.trail.values.items v ≢ None = λ v low high. settled c.self.inside.checker.clauses c.self.inside.checker.variables c.self.inside.checker.free (known_of c.conflict.new.self.propagator.trail.values.items) c.self.invariant.miter.settles quiet done.bits (v + 1) v (omega arith) low high in
    let model : IsModel (values_of (known_of c.conflict.new.self.propagator.trail.values.items)) c.self.inside.checker.clauses = model-by_quiet c.self.inside.checker.clauses c.self.inside.checker.variables (known_of c.conflict.new.self.propagator.trail.values.items) over all quiet in
    let same : listed_values c.in_ok-model-in-None.field-0 ≡ values_of (known_of c.conflict.new.self.propagator.trail.values.items) = λ i v. (rw c.deref.ensures.value at (c.in_ok-model-in-None.ensures v)) i in
    let P : Values → Type 0 = λ values. IsModel values c.self.inside.checker.clauses in
    (subst P (sym same) model, rw (← c.self.view_is) at c.requires)

pub returns-in_ok-learn-in-Some-clause-found : goal.returns-in_ok-learn-in-Some-clause-found
returns-in_ok-learn-in-Some-clause-found c =
    let step = c.in_ok-learn-in-Some.ensures.ok in
    let some : All (λ e. 0 < length e) c.self.inside.checker.lemmas = rw (← c.self.view_is) at c.requires.none_empty in
    let hunt : Hunt = record { log = c.learn.new.checker; limit = c.self.inside.limit } in
    end-found hunt c.self.inside.checker.lemmas step.lemma c.end.result (ap (λ log. log.lemmas) step.added) some c.end.ensures

pub returns-in_ok-learn-in-Some-clause-none : goal.returns-in_ok-learn-in-Some-clause-none
returns-in_ok-learn-in-Some-clause-none c =
    let step = c.in_ok-learn-in-Some.ensures.ok in
    let some : All (λ e. 0 < length e) c.self.inside.checker.lemmas = rw (← c.self.view_is) at c.requires.none_empty in
    let fewer : length c.self.inside.checker.lemmas < c.self.inside.limit = rw (← c.self.view_is) at c.requires.fewer in
    let hunt : Hunt = record { log = c.learn.new.checker; limit = c.self.inside.limit } in
    rw (← c.self.view_is) (end-none hunt c.self.inside.checker.lemmas step.lemma c.end.result (ap (λ log. log.lemmas) step.added) some fewer c.end.ensures)
