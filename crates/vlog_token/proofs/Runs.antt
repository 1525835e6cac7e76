-- Runs of bytes that pass a test.
use Rattle.vlog_token.proofs.Common.{◌≡◌, ℕ, suc, ◌+◌, ◌≤◌, Bool, false, List, [], ◌∷◌, ◌++◌, length, take, drop, refl, sym, ap, ◌∙◌, subst, arith, prefix_len, cond-true, cond-false, cond_both}
use Rattle.vlog_token.proofs.Common.{AllAre}

pub one_more : (n : ℕ) → 1 + n ≡ suc n
one_more n = omega arith

-- the run at the front passes
pub run_fits : (p : ℕ → Bool) (xs : List ℕ) → AllAre p (take (prefix_len p xs) xs)
run_fits p [] = tt
run_fits p (x ∷ xs) =
    cond_both (p x) (1 + prefix_len p xs) 0 (λ n. AllAre p (take n (x ∷ xs)))
    (λ yes. subst (λ n. AllAre p (take n (x ∷ xs))) (sym (one_more (prefix_len p xs))) (yes, run_fits p xs))
    (λ no. tt)

-- what passes at the front is no longer than the run
pub run_covers : (p : ℕ → Bool) (ys more : List ℕ) → AllAre p ys → length ys ≤ prefix_len p (ys ++ more)
run_covers p [] more h = omega arith
run_covers p (y ∷ ys) more h =
    let longer = run_covers p ys more h.1 in
    subst (λ n. suc (length ys) ≤ n) (sym (cond-true (p y) (1 + prefix_len p (ys ++ more)) 0 h.0)) (omega (arith, longer))

pub run_longest : (p : ℕ → Bool) (xs ys more : List ℕ) → AllAre p ys → xs ≡ ys ++ more → length ys ≤ prefix_len p xs
run_longest p xs ys more h e = subst (λ zs. length ys ≤ prefix_len p zs) (sym e) (run_covers p ys more h)

-- the first byte, if there is one, fails
abbrev pub Stops : (ℕ → Bool) → List ℕ → Type 0
Stops p [] = Unit {0}
Stops p (c ∷ cs) = p c ≡ false

-- behind the run stands no byte that passes
pub run_stops : (p : ℕ → Bool) (xs : List ℕ) → Stops p (drop (prefix_len p xs) xs)
run_stops p [] = tt
run_stops p (x ∷ xs) =
    cond_both (p x) (1 + prefix_len p xs) 0 (λ n. Stops p (drop n (x ∷ xs)))
    (λ yes. subst (λ n. Stops p (drop n (x ∷ xs))) (sym (one_more (prefix_len p xs))) (run_stops p xs))
    (λ no. no)

-- what passes and is followed by a byte that fails is the run
pub run_is : (p : ℕ → Bool) (ys more : List ℕ) → AllAre p ys → Stops p more → prefix_len p (ys ++ more) ≡ length ys
run_is p [] [] h s = refl
run_is p [] (c ∷ cs) h s = cond-false (p c) (1 + prefix_len p cs) 0 s
run_is p (y ∷ ys) more h s =
    cond-true (p y) (1 + prefix_len p (ys ++ more)) 0 h.0 ∙ ap (λ n. 1 + n) (run_is p ys more h.1 s) ∙ one_more (length ys)

pub run_length : (p : ℕ → Bool) (xs ys more : List ℕ) → AllAre p ys → Stops p more → xs ≡ ys ++ more → prefix_len p xs ≡ length ys
run_length p xs ys more h s e = ap (prefix_len p) e ∙ run_is p ys more h s
