-- Logs that grow.
use Rattle.lrat_checker.proofs.Common.{◌≡◌, ℕ, ◌+◌, ◌<◌, ◌≤◌, ◌-◌, List, [], ◌∷◌, ◌++◌, length, take, drop, get_or, ℤ, Some, slice_get, refl, sym, ◌∙◌, arith, All, append-nil, append_assoc}
use Rattle.lrat_checker.proofs.Common.{take-append-le, drop-append-le, length-drop, get_or-drop, take_all, take_more, slice_get-get_or, All-nil, All-cons, All-push, variable, AreOver, AreFree}
use Rattle.lrat_checker.proofs.Common.{GoesOnBy, IsLegalAfter, IsLegalLog}

-- a legal log with one more lemma
pub legal-push : (clauses : List (List ℤ)) (free : ℕ) (earlier lemmas : List (List ℤ)) (lemma : List ℤ) (hints : List ℕ) → IsLegalAfter clauses free earlier lemmas → GoesOnBy clauses free (earlier ++ lemmas) lemma hints → IsLegalAfter clauses free earlier (lemmas ++ lemma ∷ [])
legal-push clauses free earlier [] lemma hints legal on = ((hints, rw append-nil at on), tt)
legal-push clauses free earlier (x ∷ more) lemma hints legal on =
    (legal.0, legal-push clauses free (earlier ++ x ∷ []) more lemma hints legal.1 (rw (append_assoc earlier (x ∷ []) more) on))

pub free-within : (free variables : ℕ) (lits : List ℤ) → free ≤ variables → AreFree free lits → All (λ l. (0 < variable l) × (variable l ≤ variables)) lits
free-within free variables [] h are = All-nil (λ l. (0 < variable l) × (variable l ≤ variables))
free-within free variables (l ∷ more) h are = All-cons (λ m. (0 < variable m) × (variable m ≤ variables)) l more (are.0, omega (arith, are.1, h)) (free-within free variables more h are.3)

pub over-push : (variables free : ℕ) (store : List (List ℤ)) (lemma : List ℤ) → AreOver variables store → free ≤ variables → AreFree free lemma → AreOver variables (store ++ lemma ∷ [])
over-push variables free store lemma over h are = All-push (All (λ l. (0 < variable l) × (variable l ≤ variables))) store lemma over (free-within free variables lemma h are)

-- the lemmas of a store with one more
pub log-push : (n free : ℕ) (store : List (List ℤ)) (lemma : List ℤ) (hints : List ℕ) → n ≤ length store → IsLegalLog (take n store) free (drop n store) → GoesOnBy (take n store) free (drop n store) lemma hints → IsLegalLog (take n (store ++ lemma ∷ [])) free (drop n (store ++ lemma ∷ []))
log-push n free store lemma hints split legal on = rw (take-append-le n store (lemma ∷ []) split, drop-append-le n store (lemma ∷ []) split) (legal-push (take n store) free [] (drop n store) lemma hints legal on)

-- the last of a list whose first n are dropped
pub last-dropped : (store : List (List ℤ)) (n : ℕ) (last : List ℤ) → n < length store → slice_get store (length store - 1) ≡ Some last → (before : List (List ℤ)) × (drop n store ≡ before ++ last ∷ [])
last-dropped store n last h at =
    let rest : List (List ℤ) = drop n store in
    let count : length rest ≡ length store - n = length-drop n store in
    let within : length rest - 1 < length rest = omega (arith, count) in
    let place : n + (length rest - 1) ≡ length store - 1 = omega (arith, count) in
    let got : Some (get_or store (length store - 1) []) ≡ Some last = sym (slice_get-get_or store (length store - 1) [] (omega arith)) ∙ at in
    let same : get_or rest (length rest - 1) [] ≡ last = get_or-drop n store (length rest - 1) [] ∙ rw place cc in
    let next : length rest - 1 + 1 ≡ length rest = omega (arith, count) in
    let whole : take (length rest - 1 + 1) rest ≡ rest = take_all (length rest - 1 + 1) rest (omega (arith, next)) in
    (take (length rest - 1) rest, sym whole ∙ take_more rest (length rest - 1) [] within ∙ rw same refl)
