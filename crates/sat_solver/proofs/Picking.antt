-- Some of all clauses, with their numbers.
use Rattle.sat_solver.proofs.Common.{◌≡◌, ℕ, zero, suc, ◌+◌, ◌<◌, ◌≤◌, Bool, true, false, List, [], ◌∷◌, ◌++◌, length, take, map, get_or, ℤ, Some, None, refl, ap, sym, ◌∙◌, inl, inr, subst, arith}
use Rattle.sat_solver.proofs.Common.{All, sum_by, slice_get, take_more, take-append-le, length-take-le, length_push, get_or_append_left, get_or_push, map-append, All-cons, All-push, sum_by-cons}
use Rattle.sat_solver.proofs.Common.{sum_by_more, sum_by-take-le, slice_get-get_or, slice_get_within, Known, with_true, clause_at, Propagates, EndsInConflict, picked, AreNumbers, number_of, IsPart}
use Rattle.std.proofs.Common.{length-append}
use Rattle.sat_solver.specs.declared.part.Part.{Part}
use Rattle.sat_solver.proofs.Pushes.{last_or}
use Rattle.sat_solver.proofs.Ready.{at-more}

-- What is picked.

pub picked-nil : (flags : List Bool) → picked flags [] ≡ []
picked-nil [] = refl
picked-nil (flag ∷ flags) = refl

pub picked-append : (flags : List Bool) (xs ys : List (List ℤ)) → length flags ≤ length xs → picked flags (xs ++ ys) ≡ picked flags xs ++ ys
picked-append [] xs ys h = refl
picked-append (flag ∷ flags) [] ys h = absurd (omega (arith, h))
picked-append (true ∷ flags) (x ∷ xs) ys h = picked-append flags xs ys (omega (arith, h))
picked-append (false ∷ flags) (x ∷ xs) ys h = ap (λ (zs : List (List ℤ)). x ∷ zs) (picked-append flags xs ys (omega (arith, h)))

picked-keep : (flags : List Bool) (xs : List (List ℤ)) (clause : List ℤ) → get_or flags (length xs) false ≡ false → picked flags (xs ++ clause ∷ []) ≡ picked flags xs ++ clause ∷ []
picked-keep [] xs clause h = refl
picked-keep (true ∷ flags) [] clause h = absurd (let wrong : true ≡ false = h in cc)
picked-keep (false ∷ flags) [] clause h = ap (λ (zs : List (List ℤ)). clause ∷ zs) (picked-nil flags)
picked-keep (true ∷ flags) (x ∷ xs) clause h = picked-keep flags xs clause h
picked-keep (false ∷ flags) (x ∷ xs) clause h = ap (λ (zs : List (List ℤ)). x ∷ zs) (picked-keep flags xs clause h)

picked-skip : (flags : List Bool) (xs : List (List ℤ)) (clause : List ℤ) → get_or flags (length xs) false ≡ true → picked flags (xs ++ clause ∷ []) ≡ picked flags xs
picked-skip [] xs clause h = absurd (let wrong : false ≡ true = h in cc)
picked-skip (true ∷ flags) [] clause h = picked-nil flags
picked-skip (false ∷ flags) [] clause h = absurd (let wrong : false ≡ true = h in cc)
picked-skip (true ∷ flags) (x ∷ xs) clause h = picked-skip flags xs clause h
picked-skip (false ∷ flags) (x ∷ xs) clause h = ap (λ (zs : List (List ℤ)). x ∷ zs) (picked-skip flags xs clause h)

picked-few : (flags : List Bool) (xs : List (List ℤ)) → length (picked flags xs) ≤ length xs
picked-few [] xs = omega arith
picked-few (flag ∷ flags) [] = omega arith
picked-few (true ∷ flags) (x ∷ xs) = omega (arith, picked-few flags xs)
picked-few (false ∷ flags) (x ∷ xs) = omega (arith, picked-few flags xs)

picked-sum : (flags : List Bool) (xs : List (List ℤ)) → sum_by length (picked flags xs) ≤ sum_by length xs
picked-sum [] xs = omega arith
picked-sum (flag ∷ flags) [] = omega arith
picked-sum (true ∷ flags) (x ∷ xs) = let whole : sum_by length (x ∷ xs) ≡ length x + sum_by length xs = sum_by-cons length x xs in omega (arith, picked-sum flags xs, whole)
picked-sum (false ∷ flags) (x ∷ xs) =
    let whole : sum_by length (x ∷ xs) ≡ length x + sum_by length xs = sum_by-cons length x xs in
    let part : sum_by length (x ∷ picked flags xs) ≡ length x + sum_by length (picked flags xs) = sum_by-cons length x (picked flags xs) in
    omega (arith, picked-sum flags xs, whole, part)

-- Parts that grow.

-- there is room for the next clause
pub part-room : (flags : List Bool) (clauses : List (List ℤ)) (p : Part) → IsPart flags clauses p → p.seen < length clauses → (length p.store < length clauses) × (sum_by length p.store + length (get_or clauses p.seen []) ≤ sum_by length clauses)
part-room flags clauses p is next =
    let count : length (take p.seen clauses) ≡ p.seen = length-take-le p.seen clauses is.few in
    let few : length p.store ≤ length (take p.seen clauses) = rw is.store (picked-few flags (take p.seen clauses)) in
    let sum : sum_by length p.store ≤ sum_by length (take p.seen clauses) = rw is.store (picked-sum flags (take p.seen clauses)) in
    let more : sum_by length (take (p.seen + 1) clauses) ≡ sum_by length (take p.seen clauses) + length (get_or clauses p.seen []) = sum_by_more length clauses p.seen [] next in
    let whole : sum_by length (take (p.seen + 1) clauses) ≤ sum_by length clauses = sum_by-take-le length clauses (p.seen + 1) in
    (omega (arith, few, count, next), omega (arith, sum, more, whole))

at-number : (clauses : List (List ℤ)) (n number : ℕ) → number ≡ n + 1 → n < length clauses → clause_at clauses number ≡ Some (get_or clauses n [])
at-number clauses n zero e h = absurd (omega (arith, e))
at-number clauses n (suc k) e h = let same : k ≡ n = omega (arith, e) in ap (slice_get clauses) same ∙ slice_get-get_or clauses n [] h

numbers-push : (clauses part : List (List ℤ)) (numbers : List ℕ) (clause : List ℤ) (number : ℕ) → clause_at clauses number ≡ Some clause → AreNumbers clauses part numbers → AreNumbers clauses (part ++ clause ∷ []) (numbers ++ number ∷ [])
numbers-push clauses part numbers clause number at are = record {
  paired = length_push numbers number ∙ ap (λ (n : ℕ). n + 1) are.paired ∙ sym (length_push part clause);
  each = λ k h. elim (last_or (length part) k (let e : length (part ++ clause ∷ []) ≡ length part + 1 = length_push part clause in omega (arith, h, e))) [
    | inl early ↦ rw (get_or_append_left numbers (number ∷ []) 0 k (omega (arith, early, are.paired)), get_or_append_left part (clause ∷ []) [] k early) (are.each k early)
    | inr last ↦ rw (last, get_or_push numbers number 0 (length part) are.paired, get_or_push part clause [] (length part) refl) at
  ];
}

-- the next clause was taken
pub part-taken : (flags : List Bool) (clauses : List (List ℤ)) (old new : Part) (number : ℕ) → IsPart flags clauses old → old.seen < length clauses → get_or flags old.seen false ≡ false → number ≡ old.seen + 1 → new.store ≡ old.store ++ get_or clauses old.seen [] ∷ [] → new.numbers.items ≡ old.numbers.items ++ number ∷ [] → new.seen ≡ old.seen + 1 → IsPart flags clauses new
part-taken flags clauses old new number is next flag named store numbers seen =
    let count : length (take old.seen clauses) ≡ old.seen = length-take-le old.seen clauses is.few in
    let more : take new.seen clauses ≡ take old.seen clauses ++ get_or clauses old.seen [] ∷ [] = ap (λ (n : ℕ). take n clauses) seen ∙ take_more clauses old.seen [] next in
    let here : get_or flags (length (take old.seen clauses)) false ≡ false = ap (λ (n : ℕ). get_or flags n false) count ∙ flag in
    record {
      few = omega (arith, seen, next);
      store = store ∙ ap (λ (cs : List (List ℤ)). cs ++ get_or clauses old.seen [] ∷ []) is.store ∙ sym (picked-keep flags (take old.seen clauses) (get_or clauses old.seen []) here) ∙ ap (picked flags) (sym more);
      numbers = rw (store, numbers) (numbers-push clauses old.store old.numbers.items (get_or clauses old.seen []) number (at-number clauses old.seen number named next) is.numbers);
    }

-- the next clause was left out
pub part-skipped : (flags : List Bool) (clauses : List (List ℤ)) (old new : Part) → IsPart flags clauses old → old.seen < length clauses → get_or flags old.seen false ≡ true → new.store ≡ old.store → new.numbers.items ≡ old.numbers.items → new.seen ≡ old.seen + 1 → IsPart flags clauses new
part-skipped flags clauses old new is next flag store numbers seen =
    let count : length (take old.seen clauses) ≡ old.seen = length-take-le old.seen clauses is.few in
    let more : take new.seen clauses ≡ take old.seen clauses ++ get_or clauses old.seen [] ∷ [] = ap (λ (n : ℕ). take n clauses) seen ∙ take_more clauses old.seen [] next in
    let here : get_or flags (length (take old.seen clauses)) false ≡ true = ap (λ (n : ℕ). get_or flags n false) count ∙ flag in
    record {
      few = omega (arith, seen, next);
      store = store ∙ is.store ∙ sym (picked-skip flags (take old.seen clauses) (get_or clauses old.seen []) here) ∙ ap (picked flags) (sym more);
      numbers = rw (store, numbers) is.numbers;
    }

-- more clauses stand behind
pub part-more : (flags : List Bool) (clauses more : List (List ℤ)) (p : Part) → IsPart flags clauses p → IsPart flags (clauses ++ more) p
part-more flags clauses more p is = record {
  few = let e : length (clauses ++ more) ≡ length clauses + length more = length-append clauses more in omega (arith, e, is.few);
  store = is.store ∙ ap (picked flags) (sym (take-append-le p.seen clauses more is.few));
  numbers = record { paired = is.numbers.paired; each = λ k h. at-more clauses more (get_or p.numbers.items k 0) (get_or p.store k []) (is.numbers.each k h) };
}

-- no clause was seen
pub part-none : (flags : List Bool) (clauses : List (List ℤ)) (p : Part) → p.store ≡ [] → p.numbers.items ≡ [] → p.seen ≡ 0 → IsPart flags clauses p
part-none flags clauses p store numbers seen =
    let none_ : take p.seen clauses ≡ [] = ap (λ (n : ℕ). take n clauses) seen in
    record {
      few = omega (arith, seen);
      store = store ∙ sym (picked-nil flags) ∙ ap (picked flags) (sym none_);
      numbers = rw (store, numbers) (record { paired = refl; each = λ k h. absurd (omega (arith, h)) });
    }

-- Conflicts.

module _ (clauses part : List (List ℤ)) (numbers : List ℕ) (are : AreNumbers clauses part numbers) where
  named-at : (hint : ℕ) (clause : List ℤ) → clause_at part hint ≡ Some clause → clause_at clauses (number_of numbers hint) ≡ Some clause
  named-at zero clause at = absurd (let wrong : None ≡ Some clause = at in cc)
  named-at (suc k) clause at =
      let within : k < length part = slice_get_within part k clause at in
      are.each k within ∙ sym (slice_get-get_or part k [] within) ∙ at

  propagates-named : (hints : List ℕ) (known end : Known) → Propagates part known hints end → Propagates clauses known (map (number_of numbers) hints) end
  propagates-named [] known end p = p
  propagates-named (hint ∷ more) known end p = (p.0, p.1, named-at hint p.0 p.2, p.3, propagates-named more (with_true known p.1) end p.4)

  -- a conflict of the part is one of all clauses
  pub conflict-named : (start : Known) (hints : List ℕ) → EndsInConflict part start hints → EndsInConflict clauses start (map (number_of numbers) hints)
  conflict-named start hints ends = record {
    before = map (number_of numbers) ends.before;
    last = number_of numbers ends.last;
    hinted = ap (map (number_of numbers)) ends.hinted ∙ map-append (number_of numbers) ends.before (ends.last ∷ []);
    known = ends.known;
    propagates = propagates-named ends.before start ends.known ends.propagates;
    clause = ends.clause;
    there = named-at ends.last ends.clause ends.there;
    falsified = ends.falsified;
  }

pub at-within : (part : List (List ℤ)) (hint : ℕ) (clause : List ℤ) → clause_at part hint ≡ Some clause → (1 ≤ hint) × (hint ≤ length part)
at-within part zero clause at = absurd (let wrong : None ≡ Some clause = at in cc)
at-within part (suc k) clause at = (omega arith, omega (arith, slice_get_within part k clause at))

propagates-within : (part : List (List ℤ)) (hints : List ℕ) (known end : Known) → Propagates part known hints end → All (λ hint. (1 ≤ hint) × (hint ≤ length part)) hints
propagates-within part [] known end p = λ k d h. absurd (omega (arith, h))
propagates-within part (hint ∷ more) known end p = All-cons (λ n. (1 ≤ n) × (n ≤ length part)) hint more (at-within part hint p.0 p.2) (propagates-within part more (with_true known p.1) end p.4)

-- hints number clauses of the part
pub conflict-within : (part : List (List ℤ)) (start : Known) (hints : List ℕ) → EndsInConflict part start hints → All (λ hint. (1 ≤ hint) × (hint ≤ length part)) hints
conflict-within part start hints ends =
    let P : ℕ → Type 0 = λ n. (1 ≤ n) × (n ≤ length part) in
    let all : All (λ n. (1 ≤ n) × (n ≤ length part)) (ends.before ++ ends.last ∷ []) = All-push P ends.before ends.last (propagates-within part ends.before start ends.known ends.propagates) (at-within part ends.last ends.clause ends.there) in
    let Q : List ℕ → Type 0 = All (λ n. (1 ≤ n) × (n ≤ length part)) in
    subst Q (sym ends.hinted) all
