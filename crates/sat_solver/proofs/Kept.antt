-- What always holds of propagation, step by step.
use Rattle.sat_solver.proofs.Common.{◌≡◌, ℕ, zero, suc, ◌+◌, ◌^◌, ◌<◌, ◌≤◌, Bool, true, false, List, [], ◌∷◌, ◌++◌, length, take, get_or, set, ℤ, neg_ℤ, Option, Some, None, refl, ap, sym, ◌∙◌, inl}
use Rattle.sat_solver.proofs.Common.{inr, subst, arith, All, Contains, sum_by, slice_get, length_push, length-set, take-append-le, get_or-take, slice_get-get_or, slice_get_within, All-contains}
use Rattle.sat_solver.proofs.Common.{get_or-le-sum_by, variable, AreOver, Known, with_true, is_positive, IsQuiet, known_of, Trail, Propagator, Watches, assigned, literal_at, AreStarts, IsUnwound}
use Rattle.sat_solver.proofs.Common.{IsGrown, times, numbered, list_of, valued, IsSettled, pair_of, AreGuarded, AreGuards, AreSettled, IsKept, IsSteady, IsAssigned, IsExamined, CanCount, AreRaised}
use Rattle.std.specs.Prelude.{◌-◌}
use Rattle.sat_solver.proofs.Walks.{assigned-more}
use Rattle.sat_solver.proofs.Pushes.{take-all, apart-push, assigned-push, table-with, count-with, starts-grow, starts-push}
use Rattle.sat_solver.proofs.Settled.{IsBelow, below-with, below-take, settled-more, settled-quiet, settled-next, quiet-settled}
use Rattle.sat_solver.proofs.Indexed.{held-or, numbered-all, indexed-raised, can-count}
use Rattle.sat_solver.proofs.Guarded.{guarded-assigned, guarded-decided}
use Rattle.sat_solver.proofs.Listed.{place-within, variable-neg}
use Rattle.sat_solver.proofs.Valued.{quiet-by_counts}

-- Clauses of a store.

pub clause-is : (store : List (List ℤ)) (k : ℕ) (clause : List ℤ) → slice_get store k ≡ Some clause → get_or store k [] ≡ clause
clause-is store k clause at =
    let got : Some (get_or store k []) ≡ Some clause = sym (slice_get-get_or store k [] (slice_get_within store k clause at)) ∙ at in
    cc

pub clause-short : (store : List (List ℤ)) (k : ℕ) (clause : List ℤ) → slice_get store k ≡ Some clause → sum_by length store < 2 ^ 31 → length clause < 2 ^ 32
clause-short store k clause at small =
    let part : length (get_or store k []) ≤ sum_by length store = get_or-le-sum_by length store k [] (slice_get_within store k clause at) in
    omega (arith, part, small, ap (length {A = ℤ}) (clause-is store k clause at))

pub clause-positive : (store : List (List ℤ)) (count k : ℕ) (clause : List ℤ) → AreOver count store → slice_get store k ≡ Some clause → All (λ l. 0 < variable l) clause
clause-positive store count k clause over at =
    let P : List ℤ → Type 0 = All (λ l. (0 < variable l) × (variable l ≤ count)) in
    let all : All (λ l. (0 < variable l) × (variable l ≤ count)) clause = subst P (clause-is store k clause at) (over k [] (slice_get_within store k clause at)) in
    λ i d h. (all i d h).0

pub numbered-at : (clauses : List (List ℤ)) (number n : ℕ) → number ≡ n + 1 → numbered clauses number ≡ get_or clauses n []
numbered-at clauses zero n e = absurd (omega (arith, e))
numbered-at clauses (suc k) n e = let same : k ≡ n = omega (arith, e) in ap (λ (i : ℕ). get_or clauses i []) same

pub numbered-take : (clauses : List (List ℤ)) (count n : ℕ) → n ≤ count → numbered (take count clauses) n ≡ numbered clauses n
numbered-take clauses count zero h = refl
numbered-take clauses count (suc k) h = get_or-take count clauses k [] (omega (arith, h))

pub numbered-is : (store : List (List ℤ)) (number : ℕ) (clause : List ℤ) → 1 ≤ number → slice_get store (number - 1) ≡ Some clause → numbered store number ≡ clause
numbered-is store number clause low at = let next : number ≡ number - 1 + 1 = omega (arith, low) in numbered-at store number (number - 1) next ∙ clause-is store (number - 1) clause at

-- a clause by its number is the one of the store
pub same-clause : (store : List (List ℤ)) (number : ℕ) (clause other : List ℤ) → slice_get store (number - 1) ≡ Some clause → Rattle.clause_store.specs.Propagation.clause_at store number ≡ Some other → clause ≡ other
same-clause store zero clause other at is = let wrong : None ≡ Some other = is in cc
same-clause store (suc k) clause other at is =
    let same : suc k - 1 ≡ k = omega arith in
    let got : Some clause ≡ Some other = sym at ∙ ap (slice_get store) same ∙ is in
    cc

-- the literals of a clause
pub clause-over : (count : ℕ) (clauses : List (List ℤ)) (n : ℕ) → AreOver count clauses → All (λ m. (0 < variable m) × (variable m ≤ count)) (numbered clauses n)
clause-over count clauses n over = numbered-all (All (λ m. (0 < variable m) × (variable m ≤ count))) clauses over (λ k d h. absurd (omega (arith, h))) n

pub literal-over : (count : ℕ) (clauses : List (List ℤ)) (n : ℕ) (l : ℤ) → AreOver count clauses → Contains (numbered clauses n) l → (0 < variable l) × (variable l ≤ count)
literal-over count clauses n l over has = let P : ℤ → Type 0 = λ m. (0 < variable m) × (variable m ≤ count) in All-contains P (numbered clauses n) l (clause-over count clauses n over) has

-- A step of the counts.

-- an open literal can be counted
pub kept-count : (clauses : List (List ℤ)) (p : Propagator) (l : ℤ) → IsKept clauses p → variable l < length p.trail.values.items → known_of p.trail.values.items (variable l) ≡ None → CanCount l p.occurrences p.counts
kept-count clauses p l kept within open_ =
    can-count kept.counted (known_of p.trail.values.items) l open_ p.occurrences p.counts kept.indexed
    (place-within l (length p.trail.values.items) (length p.occurrences) within kept.wide)
    (place-within (neg_ℤ l) (length p.trail.values.items) (length p.occurrences) (omega (arith, within, variable-neg l)) kept.wide)

-- a clause whose counts show it is quiet
pub kept-shown : (clauses : List (List ℤ)) (p : Propagator) (number : ℕ) (clause : List ℤ) → IsKept clauses p → number ≤ p.taken → pair_of p.watches number ≡ None → numbered clauses number ≡ clause → Rattle.sat_solver.specs.Occurrences.ShowQuiet (length clause) (get_or p.counts.falses.items number 0) (get_or p.counts.trues.items number 0) → IsQuiet (known_of p.trail.values.items) clause
kept-shown clauses p number clause kept few none_ is shown =
    let same : numbered kept.counted number ≡ clause = kept.watched.others number none_ ∙ numbered-take clauses p.taken number few ∙ is in
    let falses : get_or p.counts.falses.items number 0 ≡ valued (known_of p.trail.values.items) false clause = kept.indexed.false_counts.each number ∙ ap (valued (known_of p.trail.values.items) false) same in
    let trues : get_or p.counts.trues.items number 0 ≡ valued (known_of p.trail.values.items) true clause = kept.indexed.true_counts.each number ∙ ap (valued (known_of p.trail.values.items) true) same in
    quiet-by_counts (known_of p.trail.values.items) clause (rw (falses, trues) at shown)

-- more clauses stand behind
pub kept-more : (clauses more : List (List ℤ)) (p : Propagator) → IsKept clauses p → IsKept (clauses ++ more) p
kept-more clauses more p kept =
    let same : take p.taken (clauses ++ more) ≡ take p.taken clauses = take-append-le p.taken clauses more kept.few in
    record {
      few = (let e : length (clauses ++ more) ≡ length clauses + length more = Rattle.std.proofs.Common.length-append clauses more in omega (arith, e, kept.few));
      counted = kept.counted;
      watched = rw same kept.watched;
      indexed = kept.indexed;
      guarded = kept.guarded;
      wide = kept.wide;
      lists_wide = kept.lists_wide;
      begun = kept.begun;
      unwound = kept.unwound;
      within = kept.within;
      settled = rw same kept.settled;
    }

unwound-assigned : (values : List (Option Bool)) (literals : List ℤ) (l : ℤ) → IsUnwound values literals literals → variable l < length values → known_of values (variable l) ≡ None → IsUnwound (set values (variable l) (Some (is_positive l))) (literals ++ l ∷ []) (literals ++ l ∷ [])
unwound-assigned values literals l un within open_ =
    let opens : assigned literals (variable l) ≡ None = ap (λ (k : Known). k (variable l)) (sym un.known) ∙ open_ in
    record {
      known = table-with values (variable l) (is_positive l) within ∙ ap (λ (k : Known). with_true k l) un.known ∙ sym (assigned-push literals l);
      apart = rw (length-set values (variable l) (Some (is_positive l))) (apart-push (length values) literals l un.apart opens within);
      counted = count-with values (variable l) (is_positive l) within open_ ∙ ap (λ (n : ℕ). n + 1) un.counted ∙ sym (length_push literals l);
      first = sym (take-all (literals ++ l ∷ []));
    }

-- an open literal was made true and counted, at the beginning of a level or in it
kept-pushed : (clauses : List (List ℤ)) (old new : Propagator) (l : ℤ) (reason : ℕ) → IsKept clauses old → variable l < length old.trail.values.items → known_of old.trail.values.items (variable l) ≡ None → IsAssigned l reason old.trail new.trail → IsSteady old new → AreRaised l old.occurrences old.counts new.counts → AreGuarded old.watches (old.trail.literals.items ++ l ∷ []) new.trail.starts.items old.head → AreStarts (length old.trail.literals.items + 1) new.trail.starts.items → IsKept clauses new
kept-pushed clauses old new l reason kept within open_ assigned_ steady raised guarded begun =
    let known : known_of new.trail.values.items ≡ with_true (known_of old.trail.values.items) l = ap known_of assigned_.values ∙ table-with old.trail.values.items (variable l) (is_positive l) within in
    let head : take old.head (old.trail.literals.items ++ l ∷ []) ≡ take old.head old.trail.literals.items = take-append-le old.head old.trail.literals.items (l ∷ []) kept.within in
    let longer : length (old.trail.literals.items ++ l ∷ []) ≡ length old.trail.literals.items + 1 = length_push old.trail.literals.items l in
    record {
      few = rw steady.taken kept.few;
      counted = kept.counted;
      watched = rw (steady.taken, steady.watches) kept.watched;
      indexed = rw (steady.occurrences, known) (indexed-raised kept.counted (known_of old.trail.values.items) l open_ old.occurrences old.counts new.counts kept.indexed raised);
      guarded = rw (steady.watches, steady.head, assigned_.literals) guarded;
      wide = rw (steady.occurrences, assigned_.values, length-set old.trail.values.items (variable l) (Some (is_positive l))) kept.wide;
      lists_wide = rw (steady.watches, assigned_.values, length-set old.trail.values.items (variable l) (Some (is_positive l))) kept.lists_wide;
      begun = rw (assigned_.literals, longer) begun;
      unwound = rw (assigned_.values, assigned_.literals) (unwound-assigned old.trail.values.items old.trail.literals.items l kept.unwound within open_);
      within = rw (steady.head, assigned_.literals) (omega (arith, longer, kept.within));
      settled = rw (steady.taken, steady.head, known, assigned_.literals, head) (λ k d h. settled-more (assigned (take old.head old.trail.literals.items)) (known_of old.trail.values.items) (with_true (known_of old.trail.values.items) l) (get_or (take old.taken clauses) k d) (below-with (known_of old.trail.values.items) l open_) (kept.settled k d h));
    }

open-literal : (values : List (Option Bool)) (literals : List ℤ) (l : ℤ) → IsUnwound values literals literals → known_of values (variable l) ≡ None → assigned literals (variable l) ≡ None
open-literal values literals l un open_ = ap (λ (k : Known). k (variable l)) (sym un.known) ∙ open_

pub kept-assigned : (clauses : List (List ℤ)) (old new : Propagator) (l : ℤ) (reason : ℕ) → IsKept clauses old → variable l < length old.trail.values.items → known_of old.trail.values.items (variable l) ≡ None → IsAssigned l reason old.trail new.trail → new.trail.starts.items ≡ old.trail.starts.items → IsSteady old new → AreRaised l old.occurrences old.counts new.counts → IsKept clauses new
kept-assigned clauses old new l reason kept within open_ assigned_ starts steady raised =
    let opens : assigned old.trail.literals.items (variable l) ≡ None = open-literal old.trail.values.items old.trail.literals.items l kept.unwound open_ in
    let P : List ℕ → Type 0 = λ xs. AreGuarded old.watches (old.trail.literals.items ++ l ∷ []) xs old.head in
    let Q : List ℕ → Type 0 = AreStarts (length old.trail.literals.items + 1) in
    kept-pushed clauses old new l reason kept within open_ assigned_ steady raised
    (subst P (sym starts) (guarded-assigned old.watches old.trail.literals.items old.trail.starts.items old.head l kept.begun kept.within opens kept.guarded))
    (subst Q (sym starts) (starts-grow (length old.trail.literals.items) (length old.trail.literals.items + 1) old.trail.starts.items (omega arith) kept.begun))

pub kept-decided : (clauses : List (List ℤ)) (old new : Propagator) (l : ℤ) (reason : ℕ) → IsKept clauses old → variable l < length old.trail.values.items → known_of old.trail.values.items (variable l) ≡ None → old.head ≡ length old.trail.literals.items → IsAssigned l reason old.trail new.trail → new.trail.starts.items ≡ old.trail.starts.items ++ length old.trail.literals.items ∷ [] → IsSteady old new → AreRaised l old.occurrences old.counts new.counts → IsKept clauses new
kept-decided clauses old new l reason kept within open_ whole assigned_ starts steady raised =
    let opens : assigned old.trail.literals.items (variable l) ≡ None = open-literal old.trail.values.items old.trail.literals.items l kept.unwound open_ in
    let P : List ℕ → Type 0 = λ xs. AreGuarded old.watches (old.trail.literals.items ++ l ∷ []) xs old.head in
    let Q : List ℕ → Type 0 = AreStarts (length old.trail.literals.items + 1) in
    kept-pushed clauses old new l reason kept within open_ assigned_ steady raised
    (subst P (sym starts) (guarded-decided old.watches old.trail.literals.items old.trail.starts.items old.head l kept.begun whole opens kept.guarded))
    (subst Q (sym starts) (starts-push (length old.trail.literals.items) old.trail.starts.items kept.begun))

-- The values of a trail that has grown.

pub grown-below : (clauses : List (List ℤ)) (old new : Trail) (n : ℕ) → IsUnwound new.values.items new.literals.items new.literals.items → IsGrown clauses old new → n ≤ length old.literals.items → IsBelow (assigned (take n old.literals.items)) (known_of new.values.items)
grown-below clauses old new n un grown h =
    let prefix = grown.prefix n h in
    let below : IsBelow (assigned (take n new.literals.items)) (assigned new.literals.items) = below-take (length new.values.items) new.literals.items n un.apart prefix.0 in
    let P : List ℤ → Type 0 = λ ls. IsBelow (assigned ls) (known_of new.values.items) in
    let Q : Known → Type 0 = λ k. IsBelow (assigned (take n new.literals.items)) k in
    subst P prefix.1 (subst Q (sym un.known) below)

pub known-below : (clauses : List (List ℤ)) (old new : Trail) → IsUnwound old.values.items old.literals.items old.literals.items → IsUnwound new.values.items new.literals.items new.literals.items → IsGrown clauses old new → IsBelow (known_of old.values.items) (known_of new.values.items)
known-below clauses old new was un grown =
    let all : IsBelow (assigned (take (length old.literals.items) old.literals.items)) (known_of new.values.items) = grown-below clauses old new (length old.literals.items) un grown (omega arith) in
    let P : Known → Type 0 = λ k. IsBelow k (known_of new.values.items) in
    subst P (ap assigned (take-all old.literals.items) ∙ sym was.known) all

-- One more literal is propagated.

-- the counted clauses in which it is false were examined, and the others are settled as before
pub settled-visited : (clauses : List (List ℤ)) (old new : Propagator) (l : ℤ) → IsKept clauses new → IsSteady old new → IsGrown clauses old.trail new.trail → old.head < length old.trail.literals.items → literal_at old.trail.literals.items old.head ≡ l → IsUnwound old.trail.values.items old.trail.literals.items old.trail.literals.items → All (λ n. IsSettled (assigned (take (old.head + 1) old.trail.literals.items)) (known_of new.trail.values.items) (numbered (take old.taken clauses) n)) (list_of new.occurrences (neg_ℤ l)) → AreSettled (assigned (take (old.head + 1) old.trail.literals.items)) (known_of new.trail.values.items) (take old.taken clauses) old.watches
settled-visited clauses old new l kept steady grown next is was visited zero low h none_ = absurd (omega (arith, low))
settled-visited clauses old new l kept steady grown next is was visited (suc k) low h none_ =
    let taken : take new.taken clauses ≡ take old.taken clauses = ap (λ (n : ℕ). take n clauses) steady.taken in
    let alone : pair_of new.watches (suc k) ≡ None = ap (λ (w : Watches). pair_of w (suc k)) steady.watches ∙ none_ in
    let same : numbered kept.counted (suc k) ≡ get_or (take old.taken clauses) k [] = kept.watched.others (suc k) alone ∙ ap (λ (cs : List (List ℤ)). get_or cs k []) taken in
    let literals : take new.head new.trail.literals.items ≡ take old.head old.trail.literals.items = ap (λ (n : ℕ). take n new.trail.literals.items) steady.head ∙ (grown.prefix old.head (omega (arith, next))).1 in
    let opens : assigned (take old.head old.trail.literals.items) (variable l) ≡ None = rw is at (was.apart.open_ old.head next) in
    let more : assigned (take (old.head + 1) old.trail.literals.items) ≡ with_true (assigned (take old.head old.trail.literals.items)) l = assigned-more old.trail.literals.items old.head next ∙ ap (with_true (assigned (take old.head old.trail.literals.items))) is in
    let here : IsSettled (assigned (take old.head old.trail.literals.items)) (known_of new.trail.values.items) (get_or (take old.taken clauses) k []) =
    (let P : List ℤ → Type 0 = λ ls. IsSettled (assigned ls) (known_of new.trail.values.items) (get_or (take old.taken clauses) k []) in
    let Q : List (List ℤ) → Type 0 = λ cs. k < length cs → IsSettled (assigned (take new.head new.trail.literals.items)) (known_of new.trail.values.items) (get_or cs k []) in
    subst P literals (subst Q taken (kept.settled k []) (omega (arith, h)))) in
    let positive : All (λ m. 0 < variable m) (get_or (take old.taken clauses) k []) = (let P : List ℤ → Type 0 = All (λ m. 0 < variable m) in subst P same (numbered-all P kept.counted kept.indexed.positive (λ i d w. absurd (omega (arith, w))) (suc k))) in
    let R : Known → Type 0 = λ k'. IsSettled k' (known_of new.trail.values.items) (get_or (take old.taken clauses) k []) in
    elim (held-or kept.counted new.occurrences (neg_ℤ l) (suc k) kept.indexed.holders) [
      | inl none_ ↦
          let zero_ : times (neg_ℤ l) (get_or (take old.taken clauses) k []) ≡ 0 = ap (times (neg_ℤ l)) (sym same) ∙ none_ in
          subst R (sym more) (settled-next (assigned (take old.head old.trail.literals.items)) (known_of new.trail.values.items) l (get_or (take old.taken clauses) k []) opens positive zero_ here)
      | inr some ↦
          let S : ℕ → Type 0 = λ n. IsSettled (assigned (take (old.head + 1) old.trail.literals.items)) (known_of new.trail.values.items) (numbered (take old.taken clauses) n) in
          subst S (some.2 0) (visited some.0 0 some.1)
    ]

-- where all literals are propagated and all clauses taken in, all clauses are quiet
pub kept-quiet : (clauses : List (List ℤ)) (p : Propagator) → IsKept clauses p → p.head ≡ length p.trail.literals.items → p.taken ≡ length clauses → All (IsQuiet (known_of p.trail.values.items)) clauses
kept-quiet clauses p kept head taken =
    let all : take p.taken clauses ≡ clauses = ap (λ (n : ℕ). take n clauses) taken ∙ Rattle.std.proofs.lemmas.List.take_all (length clauses) clauses (omega arith) in
    let whole : assigned (take p.head p.trail.literals.items) ≡ known_of p.trail.values.items = ap (λ (n : ℕ). assigned (take n p.trail.literals.items)) head ∙ ap assigned (take-all p.trail.literals.items) ∙ sym kept.unwound.known in
    let P : Known → Type 0 = λ k. All (IsSettled k (known_of p.trail.values.items)) (take p.taken clauses) in
    let Q : List (List ℤ) → Type 0 = All (IsSettled (known_of p.trail.values.items) (known_of p.trail.values.items)) in
    let settled : All (IsSettled (known_of p.trail.values.items) (known_of p.trail.values.items)) clauses = subst Q all (subst P whole kept.settled) in
    λ k d h. quiet-settled (known_of p.trail.values.items) (get_or clauses k d) (settled k d h)

-- a clause by its number stands in the store
numbered-there : (store : List (List ℤ)) (n : ℕ) → 1 ≤ n → n ≤ length store → Rattle.clause_store.specs.Propagation.clause_at store n ≡ Some (numbered store n)
numbered-there store zero low high = absurd (omega (arith, low))
numbered-there store (suc k) low high = slice_get-get_or store k [] (omega (arith, high))

-- a clause that was found quiet
pub examined-quiet : (store : List (List ℤ)) (known : Known) (n : ℕ) (b : Bool) → 1 ≤ n → n ≤ length store → b ≡ false → IsExamined store known n b → IsQuiet known (numbered store n)
examined-quiet store known n true low high e examined = absurd (let wrong : true ≡ false = e in cc)
examined-quiet store known n false low high e examined = examined (numbered store n) (numbered-there store n low high)

-- is settled where the next literal is propagated
pub examined-settled : (store : List (List ℤ)) (initial new : Propagator) (n : ℕ) → IsKept store new → IsGrown store initial.trail new.trail → initial.head < length initial.trail.literals.items → n ≤ initial.taken → IsQuiet (known_of new.trail.values.items) (numbered store n) → IsSettled (assigned (take (initial.head + 1) initial.trail.literals.items)) (known_of new.trail.values.items) (numbered (take initial.taken store) n)
examined-settled store initial new n kept grown next few quiet =
    let below = grown-below store initial.trail new.trail (initial.head + 1) kept.unwound grown (omega (arith, next)) in
    let P : List ℤ → Type 0 = IsSettled (assigned (take (initial.head + 1) initial.trail.literals.items)) (known_of new.trail.values.items) in
    subst P (sym (numbered-take store initial.taken n few)) (settled-quiet (assigned (take (initial.head + 1) initial.trail.literals.items)) (known_of new.trail.values.items) (numbered store n) below quiet)

-- the next literal is propagated
pub kept-moved : (store : List (List ℤ)) (old new : Propagator) → IsKept store new → new.taken ≡ old.taken → new.head ≡ old.head → IsGrown store old.trail new.trail → old.head < length old.trail.literals.items → All (IsSettled (assigned (take (old.head + 1) old.trail.literals.items)) (known_of new.trail.values.items)) (take old.taken store) → AreGuards (assigned (take (old.head + 1) old.trail.literals.items)) (known_of new.trail.values.items) new.watches → IsKept store (record new { head = new.head + 1 })
kept-moved store old new kept taken head grown next settled guards =
    let longer = grown.prefix (length old.trail.literals.items) (omega arith) in
    let inside : new.head < length new.trail.literals.items = omega (arith, head, next, longer.0) in
    let same : take (old.head + 1) old.trail.literals.items ≡ take (new.head + 1) new.trail.literals.items = sym (ap (λ (n : ℕ). take (n + 1) new.trail.literals.items) head ∙ (grown.prefix (old.head + 1) (omega (arith, next))).1) in
    let P : List ℤ → Type 0 = λ ls. All (IsSettled (assigned ls) (known_of new.trail.values.items)) (take old.taken store) in
    let Q : ℕ → Type 0 = λ n. All (IsSettled (assigned (take (new.head + 1) new.trail.literals.items)) (known_of new.trail.values.items)) (take n store) in
    let R : List ℤ → Type 0 = λ ls. AreGuards (assigned ls) (known_of new.trail.values.items) new.watches in
    let S : Known → Type 0 = λ k. AreGuards (assigned (take (new.head + 1) new.trail.literals.items)) k new.watches in
    record {
      few = kept.few;
      counted = kept.counted;
      watched = kept.watched;
      indexed = kept.indexed;
      guarded = record { now = subst S kept.unwound.known (subst R same guards); levels = kept.guarded.levels };
      wide = kept.wide;
      lists_wide = kept.lists_wide;
      begun = kept.begun;
      unwound = kept.unwound;
      within = omega (arith, inside);
      settled = subst Q (sym taken) (subst P same settled);
    }
