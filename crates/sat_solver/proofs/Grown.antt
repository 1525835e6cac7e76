-- Trails to which literals were added.
use Rattle.sat_solver.proofs.Common.{◌≡◌, ℕ, ◌+◌, ◌*◌, ◌<◌, ◌≤◌, Bool, List, [], ◌∷◌, ◌++◌, length, get_or, set, ℤ, Option, Some, None, is_some, cond, refl, ◌∙◌, arith, count_by, take-append-le}
use Rattle.sat_solver.proofs.Common.{length_push, length-set, sum_by-le, variable, is_positive, IsUnit, clause_at, known_of, Trail, IsGrown}
use Rattle.sat_solver.proofs.Pushes.{trail-unit, count-with, variable-open}

pub grown-refl : (clauses : List (List ℤ)) (t : Trail) → IsGrown clauses t t
grown-refl clauses t = record { trail = λ free is. is; starts = refl; len = refl; prefix = λ n h. (h, refl); count = omega arith }

pub grown-trans : (clauses : List (List ℤ)) (a b c : Trail) → IsGrown clauses a b → IsGrown clauses b c → IsGrown clauses a c
grown-trans clauses a b c p q = record {
  trail = λ free is. q.trail free (p.trail free is);
  starts = q.starts ∙ p.starts;
  len = q.len ∙ p.len;
  prefix = λ n h. (let first = p.prefix n h in let second = q.prefix n first.0 in (second.0, second.1 ∙ first.1));
  count = omega (arith, p.count, q.count);
}

-- a unit clause's literal was made true
pub grown-unit : (clauses : List (List ℤ)) (old new : Trail) (l : ℤ) (id : ℕ) (clause : List ℤ) → variable l < length old.values.items → clause_at clauses id ≡ Some clause → IsUnit (known_of old.values.items) clause l → new.values.items ≡ set old.values.items (variable l) (Some (is_positive l)) → new.literals.items ≡ old.literals.items ++ l ∷ [] → new.reasons.items ≡ old.reasons.items ++ id ∷ [] → new.starts.items ≡ old.starts.items → IsGrown clauses old new × (count_by is_some old.values.items < count_by is_some new.values.items)
grown-unit clauses old new l id clause within at unit values literals reasons starts =
    let more : count_by is_some new.values.items ≡ count_by is_some old.values.items + 1 = rw values (count-with old.values.items (variable l) (is_positive l) within (variable-open (known_of old.values.items) l unit.open_)) in (
      record {
        trail = λ free is. rw (values, literals, reasons, starts) (trail-unit clauses free old.values.items old.literals.items old.reasons.items old.starts.items l id clause is within at unit);
        starts = starts;
        len = rw values (length-set old.values.items (variable l) (Some (is_positive l)));
        prefix = λ n h. rw literals (let e : length (old.literals.items ++ l ∷ []) ≡ length old.literals.items + 1 = length_push old.literals.items l in omega (arith, h, e), take-append-le n old.literals.items (l ∷ []) h);
        count = omega (arith, more);
      },
      omega (arith, more),
    )

-- not more variables have a value than there are
pub count-le : (table : List (Option Bool)) → count_by is_some table ≤ length table
count-le table = let bound : count_by is_some table ≤ length table * 1 = sum_by-le (λ (o : Option Bool). cond (is_some o) 1 0) 1 table (λ k d h. one (get_or table k d)) in omega (arith, bound) where
  one : (o : Option Bool) → cond (is_some o) 1 0 ≤ 1
  one None = omega arith
  one (Some b) = omega arith
