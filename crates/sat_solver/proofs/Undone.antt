-- How what holds of propagation is kept where levels are taken back.
use Rattle.sat_solver.proofs.Common.{◌≡◌, ℕ, ◌+◌, ◌<◌, ◌≤◌, List, length, take, get_or, ℤ, None, ap, sym, ◌∙◌, subst, arith, All, length-take-le, get_or-take, variable, Known, with_true, IsQuiet}
use Rattle.sat_solver.proofs.Common.{known_of, Propagator, assigned, literal_at, IsUnwound, IsSettled, IsIndexed, IsKept}
use Rattle.std.specs.Prelude.{◌-◌}
use Rattle.sat_solver.proofs.Walks.{assigned-more}
use Rattle.sat_solver.proofs.Pushes.{take-all}
use Rattle.sat_solver.proofs.Settled.{IsBelow, below-take, settled-quiet}
use Rattle.sat_solver.proofs.Guarded.{guarded-undone, starts-take}

-- Levels were taken back to where all clauses were quiet.

pub kept-undone : (clauses : List (List ℤ)) (old new : Propagator) (level start : ℕ) (kept : IsKept clauses old) → level < length old.trail.starts.items → start ≡ get_or old.trail.starts.items level 0 → All (IsQuiet (assigned (take start old.trail.literals.items))) clauses → new.taken ≡ old.taken → new.head ≤ start → new.occurrences ≡ old.occurrences → new.watches ≡ old.watches → new.trail.starts.items ≡ take level old.trail.starts.items → IsIndexed kept.counted (assigned (take start old.trail.literals.items)) new.occurrences new.counts.falses.items new.counts.trues.items → IsUnwound new.trail.values.items new.trail.literals.items old.trail.literals.items → length new.trail.literals.items ≡ start → length new.trail.values.items ≡ length old.trail.values.items → IsKept clauses new
kept-undone clauses old new level start kept there begins quiet taken head lists watches starts indexed un count len =
    let literals : new.trail.literals.items ≡ take start old.trail.literals.items = un.first ∙ ap (λ (n : ℕ). take n old.trail.literals.items) count in
    let known : assigned (take start old.trail.literals.items) ≡ known_of new.trail.values.items = ap assigned (sym literals) ∙ sym un.known in
    let P : Known → Type 0 = λ k. IsIndexed kept.counted k new.occurrences new.counts.falses.items new.counts.trues.items in
    let R : Known → Type 0 = λ k. All (IsQuiet k) clauses in
    let now_quiet : All (IsQuiet (known_of new.trail.values.items)) clauses = subst R known quiet in
    let inside : new.head ≤ length new.trail.literals.items = omega (arith, head, count) in
    let S : Known → Type 0 = λ k. IsBelow (assigned (take new.head new.trail.literals.items)) k in
    let below : IsBelow (assigned (take new.head new.trail.literals.items)) (known_of new.trail.values.items) = subst S (sym un.known) (below-take (length new.trail.values.items) new.trail.literals.items new.head un.apart inside) in
    record {
      few = rw taken kept.few;
      counted = kept.counted;
      watched = rw (taken, watches) kept.watched;
      indexed = subst P known indexed;
      guarded = rw (watches, starts) (guarded-undone (length new.trail.values.items) old.watches old.trail.literals.items new.trail.literals.items old.trail.starts.items level new.head old.head start kept.begun there begins literals un.apart head kept.guarded);
      wide = rw (lists, len) kept.wide;
      lists_wide = rw (watches, len) kept.lists_wide;
      begun = rw (starts, count, begins) (starts-take (length old.trail.literals.items) level old.trail.starts.items kept.begun there);
      unwound = record { known = un.known; apart = un.apart; counted = un.counted; first = sym (take-all new.trail.literals.items) };
      within = inside;
      settled = λ k d h.
          let few : new.taken ≤ length clauses = rw taken kept.few in
          let number : length (take new.taken clauses) ≡ new.taken = length-take-le new.taken clauses few in
          let at : get_or (take new.taken clauses) k d ≡ get_or clauses k d = get_or-take new.taken clauses k d (omega (arith, h, number)) in
          let T : List ℤ → Type 0 = IsSettled (assigned (take new.head new.trail.literals.items)) (known_of new.trail.values.items) in
          subst T (sym at) (settled-quiet (assigned (take new.head new.trail.literals.items)) (known_of new.trail.values.items) (get_or clauses k d) below (now_quiet k d (omega (arith, h, number, few))));
    }

-- the literal at the place before is open where the counts are without it
pub kept-lower : (clauses counted : List (List ℤ)) (old : Propagator) (place : ℕ) (m : ℤ) (lists : List (List ℕ)) (falses trues : List ℕ) → IsKept clauses old → 0 < place → place ≤ length old.trail.literals.items → literal_at old.trail.literals.items (place - 1) ≡ m → IsIndexed counted (assigned (take place old.trail.literals.items)) lists falses trues → IsIndexed counted (with_true (assigned (take (place - 1) old.trail.literals.items)) m) lists falses trues × (assigned (take (place - 1) old.trail.literals.items) (variable m) ≡ None)
kept-lower clauses counted old place m lists falses trues kept low high is indexed =
    let next : place ≡ place - 1 + 1 = omega (arith, low) in
    let inside : place - 1 < length old.trail.literals.items = omega (arith, low, high) in
    let more : assigned (take place old.trail.literals.items) ≡ with_true (assigned (take (place - 1) old.trail.literals.items)) m = ap (λ (n : ℕ). assigned (take n old.trail.literals.items)) next ∙ assigned-more old.trail.literals.items (place - 1) inside ∙ ap (with_true (assigned (take (place - 1) old.trail.literals.items))) is in
    let P : Known → Type 0 = λ k. IsIndexed counted k lists falses trues in
    (subst P more indexed, ap (λ (l : ℤ). assigned (take (place - 1) old.trail.literals.items) (variable l)) (sym is) ∙ kept.unwound.apart.open_ (place - 1) inside)
