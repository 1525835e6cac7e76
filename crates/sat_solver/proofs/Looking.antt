-- A look at a clause that may be watched at a literal that has become false.
use Rattle.sat_solver.proofs.Common.{◌≡◌, ◌≢◌, ℕ, ◌+◌, ◌<◌, ◌≤◌, Bool, true, false, cond, List, [], ◌∷◌, ◌++◌, length, take, get_or, set, replicate, ℤ, pos, neg_ℤ, Option, Some, None, refl, ap, sym}
use Rattle.sat_solver.proofs.Common.{◌∙◌, inl, inr, ◌⊎◌, subst, arith, All, Contains, swap_remove, eqb_tells, get_or-take, length-take-le, append-nil, sum_by-cons, variable, AreOver, Known, with_true}
use Rattle.sat_solver.proofs.Common.{literal, is_some_false, is_positive, IsQuiet, known_of, Propagator, Pair, Watches, assigned, literal_at, IsGrown, IsConflict, place_of, is_literal, times}
use Rattle.sat_solver.proofs.Common.{numbered, list_of, IsAdded, IsKept, IsSteady, IsExamined, pair_of, IsPair, IsOther, IsGuard, AreGuards, AreWatched, AreSettled, KeepsCounted, IsNext, propagated}
use Rattle.sat_solver.proofs.Common.{HasMoved, HasGuard}
use Rattle.sat_solver.proofs.Pushes.{take-all}
use Rattle.sat_solver.proofs.Walks.{assigned-more, assigned-at}
use Rattle.sat_solver.proofs.Settled.{IsBelow, below-take, literal-below}
use Rattle.sat_solver.proofs.Steps.{neg-false}
use Rattle.sat_solver.proofs.Listed.{variable-neg}
use Rattle.sat_solver.proofs.Grown.{grown-refl, grown-trans}
use Rattle.sat_solver.proofs.Guards.{place-tells, literal-tells, guard-next, guard-true, guard-moved, guard-kept, last-true}
use Rattle.sat_solver.proofs.Watched.{pairs-changed, pairs-others, some-same, watched-changed, watched-removed}
use Rattle.sat_solver.proofs.Guarded.{guarded-same, guarded-changed, start-within, settled-all}
use Rattle.sat_solver.proofs.Kept.{numbered-take, literal-over, known-below, examined-quiet, kept-moved}
use Rattle.sat_solver.proofs.Taken.{kept-watches}

-- The next literal.

pub propagated-same : (clauses : List (List ℤ)) (old new : Propagator) → IsGrown clauses old.trail new.trail → new.head ≡ old.head → old.head < length old.trail.literals.items → propagated new ≡ propagated old
propagated-same clauses old new grown head next = ap assigned (ap (λ (n : ℕ). take (n + 1) new.trail.literals.items) head ∙ (grown.prefix (old.head + 1) (omega (arith, next))).1)

pub next-same : (clauses : List (List ℤ)) (l : ℤ) (old new : Propagator) → IsGrown clauses old.trail new.trail → new.head ≡ old.head → IsNext l old → IsNext l new
next-same clauses l old new grown head next =
    let longer = grown.prefix (length old.trail.literals.items) (omega arith) in
    let part : take (old.head + 1) new.trail.literals.items ≡ take (old.head + 1) old.trail.literals.items = (grown.prefix (old.head + 1) (omega (arith, next.within))).1 in
    let same : literal_at new.trail.literals.items new.head ≡ literal_at old.trail.literals.items old.head =
    ap (literal_at new.trail.literals.items) head ∙ sym (get_or-take (old.head + 1) new.trail.literals.items old.head (pos 0) (omega arith))
    ∙ ap (λ (ls : List ℤ). literal_at ls old.head) part ∙ get_or-take (old.head + 1) old.trail.literals.items old.head (pos 0) (omega arith) in
    record { within = omega (arith, head, next.within, longer.0); is = next.is ∙ ap neg_ℤ (sym same) }

pub propagated-below : (clauses : List (List ℤ)) (p : Propagator) → IsKept clauses p → p.head < length p.trail.literals.items → IsBelow (propagated p) (known_of p.trail.values.items)
propagated-below clauses p kept next =
    let P : Known → Type 0 = IsBelow (propagated p) in
    subst P (sym kept.unwound.known) (below-take (length p.trail.values.items) p.trail.literals.items (p.head + 1) kept.unwound.apart (omega (arith, next)))

some-false : (o : Option Bool) → is_some_false o ≡ true → o ≡ Some false
some-false None e = absurd (let wrong : false ≡ true = e in cc)
some-false (Some true) e = absurd (let wrong : false ≡ true = e in cc)
some-false (Some false) e = refl

next-false : (clauses : List (List ℤ)) (p : Propagator) (l : ℤ) → IsKept clauses p → IsNext l p → 0 < variable l → literal (known_of p.trail.values.items) l ≡ Some false
next-false clauses p l kept next some =
    let m : ℤ = literal_at p.trail.literals.items p.head in
    let size : variable l ≡ variable (literal_at p.trail.literals.items p.head) = ap variable next.is ∙ variable-neg (literal_at p.trail.literals.items p.head) in
    let at : assigned (take (length p.trail.literals.items) p.trail.literals.items) (variable (literal_at p.trail.literals.items p.head)) ≡ Some (is_positive (literal_at p.trail.literals.items p.head)) = assigned-at (length p.trail.values.items) p.trail.literals.items p.head (length p.trail.literals.items) kept.unwound.apart next.within (omega arith) in
    let known : assigned (take (length p.trail.literals.items) p.trail.literals.items) ≡ known_of p.trail.values.items = ap assigned (take-all p.trail.literals.items) ∙ sym kept.unwound.known in
    let value : known_of p.trail.values.items (variable (literal_at p.trail.literals.items p.head)) ≡ Some (is_positive (literal_at p.trail.literals.items p.head)) = ap (λ (k : Known). k (variable (literal_at p.trail.literals.items p.head))) (sym known) ∙ at in
    ap (literal (known_of p.trail.values.items)) next.is ∙ some-false (literal (known_of p.trail.values.items) (neg_ℤ (literal_at p.trail.literals.items p.head))) (neg-false (known_of p.trail.values.items) (literal_at p.trail.literals.items p.head) (omega (arith, size, some)) value)

-- The pair of a clause.

pub pair-clause : (clauses : List (List ℤ)) (p : Propagator) (n : ℕ) (pair : Pair) → IsKept clauses p → pair_of p.watches n ≡ Some pair → (1 ≤ n) × (n ≤ length clauses) × IsPair (numbered clauses n) pair
pair-clause clauses p n pair kept e =
    let is = kept.watched.watched n pair e in
    let count : length (take p.taken clauses) ≡ p.taken = length-take-le p.taken clauses kept.few in
    let P : List ℤ → Type 0 = λ c. IsPair c pair in
    (is.low, omega (arith, is.high, count, kept.few), subst P (numbered-take clauses p.taken n (omega (arith, is.high, count))) is.of_clause)

pub other-in : (clause : List ℤ) (pair : Pair) (l other : ℤ) → IsPair clause pair → IsOther pair l other → Contains clause l × Contains clause other × (other ≢ l)
other-in clause pair l other of_ (inl is) =
    let P : ℤ → Type 0 = Contains clause in
    (subst P is.0 of_.first_in, subst P is.1 of_.second_in, λ e. of_.apart (is.0 ∙ sym e ∙ sym is.1))
other-in clause pair l other of_ (inr is) =
    let P : ℤ → Type 0 = Contains clause in
    (subst P is.0 of_.second_in, subst P is.1 of_.first_in, λ e. of_.apart (is.1 ∙ e ∙ sym is.0))

-- Where the clause isn't watched at the literal.

guard-apart : (count : ℕ) (clauses : List (List ℤ)) (p : Propagator) (l : ℤ) (n : ℕ) (pair : Pair) → AreOver count clauses → IsKept clauses p → IsNext l p → pair_of p.watches n ≡ Some pair → pair.first ≢ l → pair.second ≢ l → IsGuard (propagated p) (known_of p.trail.values.items) pair
guard-apart count clauses p l n pair over kept next e not_first not_second =
    let of_ = (pair-clause clauses p n pair kept e).2 in
    let more : propagated p ≡ with_true (assigned (take p.head p.trail.literals.items)) (literal_at p.trail.literals.items p.head) = assigned-more p.trail.literals.items p.head next.within in
    let P : Known → Type 0 = λ k. IsGuard k (known_of p.trail.values.items) pair in
    let Q : Known → Type 0 = λ k. IsGuard (assigned (take p.head p.trail.literals.items)) k pair in
    subst P (sym more) (guard-next (assigned (take p.head p.trail.literals.items)) (known_of p.trail.values.items) (literal_at p.trail.literals.items p.head) pair
    (literal-over count clauses n pair.first over of_.first_in).0 (literal-over count clauses n pair.second over of_.second_in).0
    (λ w. not_first (w ∙ sym next.is)) (λ w. not_second (w ∙ sym next.is)) (subst Q (sym kept.unwound.known) (kept.guarded.now n pair e)))

pub look-apart : (count : ℕ) (clauses : List (List ℤ)) (p : Propagator) (l : ℤ) (number : ℕ) → AreOver count clauses → IsKept clauses p → IsNext l p → ((pair : Pair) → pair_of p.watches number ≡ Some pair → (pair.first ≢ l) × (pair.second ≢ l)) → HasGuard number p p
look-apart count clauses p l number over kept next apart pair e = guard-apart count clauses p l number pair over kept next e (apart pair e).0 (apart pair e).1

-- a pair is still a guard, or the clause is in the list
pub guard-or : (count : ℕ) (clauses : List (List ℤ)) (p : Propagator) (l : ℤ) (n : ℕ) (pair : Pair) → AreOver count clauses → IsKept clauses p → IsNext l p → pair_of p.watches n ≡ Some pair → IsGuard (propagated p) (known_of p.trail.values.items) pair ⊎ Contains (list_of p.watches.lists l) n
guard-or count clauses p l n pair over kept next e =
    let is = kept.watched.watched n pair e in
    let P : ℤ → Type 0 = λ m. Contains (list_of p.watches.lists m) n in
    elim (literal-tells pair.first l) [
      | inl same ↦ inr (subst P same is.first_listed)
      | inr not_first ↦ elim (literal-tells pair.second l) [
        | inl same ↦ inr (subst P same is.second_listed)
        | inr not_second ↦ inl (guard-apart count clauses p l n pair over kept next e not_first not_second)
      ]
    ]

-- Where the other literal is true, or all others are false.

pub look-true : (clauses : List (List ℤ)) (p new : Propagator) (l other : ℤ) (number : ℕ) (pair : Pair) → pair_of p.watches number ≡ Some pair → IsOther pair l other → new.watches ≡ p.watches → IsBelow (propagated p) (known_of new.trail.values.items) → literal (known_of new.trail.values.items) other ≡ Some true → HasGuard number p new
look-true clauses p new l other number pair at is watches below true_ q e =
    let same : pair ≡ q = some-same (pair_of p.watches number) pair q at (ap (λ (w : Watches). pair_of w number) (sym watches) ∙ e) in
    let P : Pair → Type 0 = IsGuard (propagated p) (known_of new.trail.values.items) in
    subst P same (guard-true (propagated p) (known_of new.trail.values.items) pair l other below is true_)

pub below-grown : (clauses : List (List ℤ)) (p new : Propagator) → IsKept clauses p → IsKept clauses new → IsGrown clauses p.trail new.trail → p.head < length p.trail.literals.items → IsBelow (propagated p) (known_of new.trail.values.items)
below-grown clauses p new kept later grown next v b e = known-below clauses p.trail new.trail kept.unwound later.unwound grown v b (propagated-below clauses p kept next v b e)

pub look-last : (clauses : List (List ℤ)) (p new : Propagator) (l other : ℤ) (number : ℕ) (pair : Pair) (b : Bool) → IsKept clauses p → IsNext l p → pair_of p.watches number ≡ Some pair → IsOther pair l other → All (λ m. m ≢ other → literal (known_of p.trail.values.items) m ≡ Some false) (numbered clauses number) → IsKept clauses new → IsGrown clauses p.trail new.trail → new.watches ≡ p.watches → b ≡ false → IsExamined clauses (known_of new.trail.values.items) number b → HasGuard number p new
look-last clauses p new l other number pair b kept next at is all later grown watches no_ examined =
    let found = pair-clause clauses p number pair kept at in
    let quiet : IsQuiet (known_of new.trail.values.items) (numbered clauses number) = examined-quiet clauses (known_of new.trail.values.items) number b found.0 found.1 no_ examined in
    let below : IsBelow (known_of p.trail.values.items) (known_of new.trail.values.items) = known-below clauses p.trail new.trail kept.unwound later.unwound grown in
    let in_ = other-in (numbered clauses number) pair l other found.2 is in
    look-true clauses p new l other number pair at is watches (below-grown clauses p new kept later grown next.within)
    (last-true (known_of new.trail.values.items) (numbered clauses number) other found.2.different in_.1 (λ k d h w. literal-below (known_of p.trail.values.items) (known_of new.trail.values.items) below (get_or (numbered clauses number) k d) false (all k d h w)) quiet)

-- a clause that was found false
pub examined-conflict : (clauses : List (List ℤ)) (known : Known) (number : ℕ) (b : Bool) → b ≡ true → IsExamined clauses known number b → IsConflict clauses known number
examined-conflict clauses known number true yes_ examined = examined
examined-conflict clauses known number false yes_ examined = absurd (let wrong : false ≡ true = yes_ in cc)

pub moved-steady : (clauses : List (List ℤ)) (l : ℤ) (number : ℕ) (old new : Propagator) → IsGrown clauses old.trail new.trail → IsSteady old new → HasMoved clauses l number old new
moved-steady clauses l number old new grown steady = record {
  grown = grown;
  taken = steady.taken;
  head = steady.head;
  len = ap (λ (w : Watches). length w.lists) steady.watches;
  list = ap (λ (w : Watches). list_of w.lists l) steady.watches;
  others = λ n apart. ap (λ (w : Watches). pair_of w n) steady.watches;
  counted = λ n e. ap (λ (w : Watches). pair_of w n) (sym steady.watches) ∙ e;
}

pub moved-same : (clauses : List (List ℤ)) (l : ℤ) (number : ℕ) (p : Propagator) → HasMoved clauses l number p p
moved-same clauses l number p = moved-steady clauses l number p p (grown-refl clauses p.trail) (record { occurrences = refl; taken = refl; head = refl; watches = refl })

-- there was no memory for one more number in a list
pub moved-listed : (clauses : List (List ℤ)) (l : ℤ) (number : ℕ) (p : Propagator) (w : Watches) → w.pairs.items ≡ p.watches.pairs.items → IsAdded number [] p.watches.lists w.lists → HasMoved clauses l number p (record p { watches = w })
moved-listed clauses l number p w same added = record {
  grown = grown-refl clauses p.trail;
  taken = refl;
  head = refl;
  len = added.len;
  list = added.lists l ∙ append-nil (list_of p.watches.lists l);
  others = λ n apart. ap (λ (xs : List (Option Pair)). get_or xs n None) same;
  counted = λ n e. ap (λ (xs : List (Option Pair)). get_or xs n None) (sym same) ∙ e;
}

-- a number was taken out of the list
pub kept-removed : (clauses : List (List ℤ)) (p : Propagator) (w : Watches) (l : ℤ) (place : ℕ) → IsKept clauses p → w.pairs.items ≡ p.watches.pairs.items → place < length (list_of p.watches.lists l) → length w.lists ≡ length p.watches.lists → list_of w.lists l ≡ swap_remove (list_of p.watches.lists l) place 0 → ((m : ℤ) → place_of m ≢ place_of l → list_of w.lists m ≡ list_of p.watches.lists m) → ((pair : Pair) → pair_of p.watches (get_or (list_of p.watches.lists l) place 0) ≡ Some pair → (pair.first ≢ l) × (pair.second ≢ l)) → IsKept clauses (record p { watches = w })
kept-removed clauses p w l place kept same inside len list others apart =
    kept-watches clauses p w kept (watched-removed (take p.taken clauses) kept.counted p.watches w l place kept.watched same inside list others apart)
    (guarded-same p.watches w p.trail.literals.items p.trail.starts.items p.head same kept.guarded) len

-- the clauses in which the next literal is false were looked at
pub next-step : (store : List (List ℤ)) (old mid new : Propagator) → IsKept store old → IsKept store mid → IsKept store new → old.head < length old.trail.literals.items → IsGrown store old.trail mid.trail → IsSteady old mid → IsGrown store mid.trail new.trail → new.taken ≡ mid.taken → new.head ≡ mid.head → KeepsCounted mid.watches new.watches → AreSettled (propagated old) (known_of mid.trail.values.items) (take old.taken store) old.watches → AreGuards (propagated mid) (known_of new.trail.values.items) new.watches → IsKept store (record new { head = new.head + 1 })
next-step store old mid new kept between later next grown steady more taken head counted settled guards =
    let all : IsGrown store old.trail new.trail = grown-trans store old.trail mid.trail new.trail grown more in
    let clauses : take new.taken store ≡ take old.taken store = ap (λ (n : ℕ). take n store) (taken ∙ steady.taken) in
    let P : List (List ℤ) → Type 0 = λ cs. AreWatched cs later.counted new.watches in
    let Q : Known → Type 0 = λ k. AreGuards k (known_of new.trail.values.items) new.watches in
    let guarding : AreGuards (propagated old) (known_of new.trail.values.items) new.watches = subst Q (propagated-same store old mid grown steady.head next) guards in
    kept-moved store old new later (taken ∙ steady.taken) (head ∙ steady.head) all next
    (settled-all (take old.taken store) later.counted old.watches new.watches (propagated old) (known_of mid.trail.values.items) (known_of new.trail.values.items) settled
    (known-below store mid.trail new.trail between.unwound later.unwound more) (below-grown store old new kept later all next)
    (λ n e. ap (λ (w : Watches). pair_of w n) (sym steady.watches) ∙ counted n e) (subst P clauses later.watched) guarding) guarding

-- Where the clause is watched at another literal from now on.

times-other : (l next : ℤ) → next ≢ l → times l (next ∷ []) ≡ 0
times-other l next apart =
    let more : times l (next ∷ []) ≡ cond (is_literal l next) 1 0 + times l [] = sum_by-cons (λ (k : ℤ). cond (is_literal l k) 1 0) next [] in
    let none_ : times l [] ≡ 0 = refl in
    let f : Bool → ℕ = λ b. cond b 1 0 in
    elim (eqb_tells (place_of l) (place_of next)) [
      | inl same ↦ absurd (elim (place-tells next l) [ inl e ↦ apart e | inr other ↦ other (sym same.1) ])
      | inr other ↦ (let here : f (is_literal l next) ≡ 0 = ap f other.0 in omega (arith, more, none_, here))
    ]

module _ (count : ℕ) (clauses : List (List ℤ)) (p : Propagator) (w : Watches) (l other next : ℤ) (number : ℕ) (pair : Pair) (over : AreOver count clauses) (kept : IsKept clauses p) (is_next : IsNext l p) (at : pair_of p.watches number ≡ Some pair) (is : IsOther pair l other) (has : Contains (numbered clauses number) next) (apart : next ≢ other) (open_ : literal (known_of p.trail.values.items) next ≢ Some false) (changed : w.pairs.items ≡ set p.watches.pairs.items number (Some (record { first = other; second = next }))) (added : IsAdded number (next ∷ []) p.watches.lists w.lists) where
  of_ : IsPair (numbered clauses number) pair
  of_ = (pair-clause clauses p number pair kept at).2

  l-false : literal (known_of p.trail.values.items) l ≡ Some false
  l-false = next-false clauses p l kept is_next (literal-over count clauses number l over (other-in (numbered clauses number) pair l other of_ is).0).0

  next-apart : next ≢ l
  next-apart e = open_ (ap (literal (known_of p.trail.values.items)) e ∙ l-false)

  below-known : (n : ℕ) → n ≤ length p.trail.literals.items → IsBelow (assigned (take n p.trail.literals.items)) (known_of p.trail.values.items)
  below-known n h = let P : Known → Type 0 = IsBelow (assigned (take n p.trail.literals.items)) in subst P (sym kept.unwound.known) (below-take (length p.trail.values.items) p.trail.literals.items n kept.unwound.apart h)

  within : number < length p.watches.pairs.items
  within = let was = kept.watched.watched number pair at in omega (arith, was.high, kept.watched.pairs)

  pub kept-changed : IsKept clauses (record p { watches = w })
  kept-changed =
      let count_ : length (take p.taken clauses) ≡ p.taken = length-take-le p.taken clauses kept.few in
      let high : number ≤ p.taken = (let was = kept.watched.watched number pair at in omega (arith, was.high, count_)) in
      let P : List ℤ → Type 0 = λ c. Contains c next in
      let Q : Known → Type 0 = λ k. IsGuard (assigned (take p.head p.trail.literals.items)) k (record { first = other; second = next }) in
      let R : Known → Type 0 = λ k. IsGuard (assigned (take p.head p.trail.literals.items)) k pair in
      kept-watches clauses p w kept
      (watched-changed (take p.taken clauses) kept.counted p.watches w number l other next pair kept.watched at is (subst P (sym (numbered-take clauses p.taken number high)) has) apart changed added)
      (guarded-changed p.watches w p.trail.literals.items p.trail.starts.items p.head number (record { first = other; second = next }) changed within
      (subst Q kept.unwound.known (guard-kept (assigned (take p.head p.trail.literals.items)) (known_of p.trail.values.items) (known_of p.trail.values.items) pair l other next (subst R (sym kept.unwound.known) (kept.guarded.now number pair at)) is l-false open_ (below-known p.head kept.within) (λ v b e. e)))
      (λ s starts. let inside : s < length p.trail.literals.items = start-within (length p.trail.literals.items) p.trail.starts.items s kept.begun starts in
      guard-kept (assigned (take s p.trail.literals.items)) (assigned (take s p.trail.literals.items)) (known_of p.trail.values.items) pair l other next (kept.guarded.levels s starts number pair at) is l-false open_ (below-known s (omega (arith, inside))) (below-known s (omega (arith, inside))))
      kept.guarded)
      added.len

  pub moved-changed : HasMoved clauses l number p (record p { watches = w })
  moved-changed =
      let none_ : times l (next ∷ []) ≡ 0 = times-other l next next-apart in
      record {
        grown = grown-refl clauses p.trail;
        taken = refl;
        head = refl;
        len = added.len;
        list = added.lists l ∙ ap (λ (t : ℕ). list_of p.watches.lists l ++ replicate t number) none_ ∙ append-nil (list_of p.watches.lists l);
        others = λ n elsewhere. pairs-others p.watches w number n (record { first = other; second = next }) changed elsewhere;
        counted = λ n e. elim (eqb_tells n number) [
          | inl same ↦ absurd (let wrong : None ≡ Some (record { first = other; second = next }) = sym e ∙ ap (pair_of w) same.1 ∙ pairs-changed p.watches w number (record { first = other; second = next }) changed within in cc)
          | inr elsewhere ↦ sym (pairs-others p.watches w number n (record { first = other; second = next }) changed elsewhere.1) ∙ e
        ];
      }

  pub look-changed : HasGuard number p (record p { watches = w }) × ((q : Pair) → pair_of w number ≡ Some q → (q.first ≢ l) × (q.second ≢ l))
  look-changed =
      let now : pair_of w number ≡ Some (record { first = other; second = next }) = pairs-changed p.watches w number (record { first = other; second = next }) changed within in
      let in_ = other-in (numbered clauses number) pair l other of_ is in
      let more : propagated p ≡ with_true (assigned (take p.head p.trail.literals.items)) (literal_at p.trail.literals.items p.head) = assigned-more p.trail.literals.items p.head is_next.within in
      let P : Known → Type 0 = λ k. IsGuard k (known_of p.trail.values.items) (record { first = other; second = next }) in
      let Q : ℤ → Type 0 = λ m. IsOther pair m other in
      let R : Known → Type 0 = λ k. IsGuard (assigned (take p.head p.trail.literals.items)) k pair in
      let S : Known → Type 0 = λ k. IsBelow k (known_of p.trail.values.items) in
      let guard : IsGuard (propagated p) (known_of p.trail.values.items) (record { first = other; second = next }) =
      subst P (sym more) (guard-moved (assigned (take p.head p.trail.literals.items)) (known_of p.trail.values.items) (literal_at p.trail.literals.items p.head) pair other next (subst R (sym kept.unwound.known) (kept.guarded.now number pair at)) (subst Q is_next.is is) (ap (literal (known_of p.trail.values.items)) (sym is_next.is) ∙ l-false) (literal-over count clauses number other over in_.1).0 (λ e. in_.2 (e ∙ sym is_next.is)) open_ (subst S more (propagated-below clauses p kept is_next.within))) in (
        λ q e. (let T : Pair → Type 0 = IsGuard (propagated p) (known_of p.trail.values.items) in subst T (some-same (pair_of w number) (record { first = other; second = next }) q now e) guard),
        λ q e. (let T : Pair → Type 0 = λ r. (r.first ≢ l) × (r.second ≢ l) in subst T (some-same (pair_of w number) (record { first = other; second = next }) q now e) (in_.2, next-apart)),
      )
