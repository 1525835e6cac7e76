-- How many mutations want a test.
use Rattle.mcy_top.proofs.Common.{◌≡◌, arith, ℕ, zero, suc, ◌+◌, ◌<◌, ◌≤◌, true, false, List, Option, None, Some, refl, ap, subst, is_some, Entry, Goal, Want, wanted, Prepared, groups, done_outcome}
use Rattle.mcy_top.proofs.Common.{run_outcome, falls_short, wanting, wanting_from}

-- where none wants a test, none is counted
pub counted_none : (c : Prepared) (goal : Goal) (rows : List Entry) (m n : ℕ) → ((k : ℕ) → k < n → wanted c.campaign rows (m + k) goal ≡ None) → wanting_from c goal rows m n ≡ 0
counted_none c goal rows m zero each = refl
counted_none c goal rows m (suc n) each =
    let here : m + 0 ≡ m = omega arith in
    let first : wanted c.campaign rows m goal ≡ None = subst (λ (j : ℕ). wanted c.campaign rows j goal ≡ None) here (each 0 (omega arith)) in
    let rest : wanting_from c goal rows (m + 1) n ≡ 0 = counted_none c goal rows (m + 1) n (λ k below. let place : m + suc k ≡ (m + 1) + k = omega arith in subst (λ (j : ℕ). wanted c.campaign rows j goal ≡ None) place (each (suc k) (omega (arith, below)))) in
    rw first (omega (arith, rest))

-- the first of them, and the others
split_none : (c : Prepared) (goal : Goal) (rows : List Entry) (m n : ℕ) (o : Option Want) → wanted c.campaign rows m goal ≡ o → wanting_from c goal rows m (suc n) ≡ 0 → (o ≡ None) × (wanting_from c goal rows (m + 1) n ≡ 0)
split_none c goal rows m n None is none = let rest : 0 + wanting_from c goal rows (m + 1) n ≡ 0 = rw is at none in (refl, omega (arith, rest))
split_none c goal rows m n (Some want) is none = let one : 1 + wanting_from c goal rows (m + 1) n ≡ 0 = rw is at none in absurd (omega (arith, one))

-- where none is counted, none wants a test
pub none_counted : (c : Prepared) (goal : Goal) (rows : List Entry) (m n k : ℕ) → wanting_from c goal rows m n ≡ 0 → k < n → wanted c.campaign rows (m + k) goal ≡ None
none_counted c goal rows m zero k none below = absurd (omega (arith, below))
none_counted c goal rows m (suc n) zero none below =
    let here : m ≡ m + 0 = omega arith in
    subst (λ (j : ℕ). wanted c.campaign rows j goal ≡ None) here (split_none c goal rows m n (wanted c.campaign rows m goal) refl none).0
none_counted c goal rows m (suc n) (suc k) none below =
    let place : (m + 1) + k ≡ m + suc k = omega arith in
    subst (λ (j : ℕ). wanted c.campaign rows j goal ≡ None) place (none_counted c goal rows (m + 1) n k (split_none c goal rows m n (wanted c.campaign rows m goal) refl none).1 (omega (arith, below)))

-- where none is counted the run is done
pub outcome_none : (c : Prepared) (goal : Goal) (rows : List Entry) → wanting c goal rows ≡ 0 → done_outcome (falls_short c (groups c.campaign rows)) ≡ run_outcome c goal rows
outcome_none c goal rows none = rw none refl

-- no more are counted than there are
pub counted_few : (c : Prepared) (goal : Goal) (rows : List Entry) (m n : ℕ) → wanting_from c goal rows m n ≤ n
counted_few c goal rows m zero = omega arith
counted_few c goal rows m (suc n) = go (counted_few c goal rows (m + 1) n) (wanted c.campaign rows m goal) refl
  where
    go : wanting_from c goal rows (m + 1) n ≤ n → (o : Option Want) → wanted c.campaign rows m goal ≡ o → wanting_from c goal rows m (suc n) ≤ suc n
    go few None is = rw is (omega (arith, few))
    go few (Some want) is = rw is (omega (arith, few))

none_before : (count more : ℕ) → count ≡ more → count ≡ 0 + more
none_before count more is = omega (arith, is)

-- one mutation more at the end
pub count_push : (c : Prepared) (goal : Goal) (rows : List Entry) (m n : ℕ) → wanting_from c goal rows m (suc n) ≡ wanting_from c goal rows m n + wanting_from c goal rows (m + n) 1
count_push c goal rows m zero =
    let here : m ≡ m + 0 = omega arith in
    none_before (wanting_from c goal rows m 1) (wanting_from c goal rows (m + 0) 1) (ap (λ (j : ℕ). wanting_from c goal rows j 1) here)
count_push c goal rows m (suc n) =
    let place : (m + 1) + n ≡ m + suc n = omega arith in
    let rest = count_push c goal rows (m + 1) n in
    let there : wanting_from c goal rows ((m + 1) + n) 1 ≡ wanting_from c goal rows (m + suc n) 1 = ap (λ (j : ℕ). wanting_from c goal rows j 1) place in
    omega (arith, rest, there)

-- one mutation more, which wants a test or none
count_next : (c : Prepared) (goal : Goal) (rows : List Entry) (m count more : ℕ) → count ≡ wanting_from c goal rows 0 m → wanting_from c goal rows m 1 ≡ more → count + more ≡ wanting_from c goal rows 0 (m + 1)
count_next c goal rows m count more so_far is =
    let place : 0 + m ≡ m = omega arith in
    let there : wanting_from c goal rows (0 + m) 1 ≡ wanting_from c goal rows m 1 = ap (λ (j : ℕ). wanting_from c goal rows j 1) place in
    let next : suc m ≡ m + 1 = omega arith in
    let all : count + more ≡ wanting_from c goal rows 0 (suc m) = omega (arith, so_far, is, there, count_push c goal rows 0 m) in
    subst (λ (n : ℕ). count + more ≡ wanting_from c goal rows 0 n) next all

pub count_some : (c : Prepared) (goal : Goal) (rows : List Entry) (m count : ℕ) (o : Option Want) → count ≡ wanting_from c goal rows 0 m → wanted c.campaign rows m goal ≡ o → is_some o ≡ true → count + 1 ≡ wanting_from c goal rows 0 (m + 1)
count_some c goal rows m count None so_far is some = absurd (let never : false ≡ true = some in cc)
count_some c goal rows m count (Some want) so_far is some = count_next c goal rows m count 1 so_far (rw is refl)

pub count_none : (c : Prepared) (goal : Goal) (rows : List Entry) (m count : ℕ) (o : Option Want) → count ≡ wanting_from c goal rows 0 m → wanted c.campaign rows m goal ≡ o → is_some o ≡ false → count ≡ wanting_from c goal rows 0 (m + 1)
count_none c goal rows m count (Some want) so_far is none = absurd (let never : true ≡ false = none in cc)
count_none c goal rows m count None so_far is none = omega (arith, count_next c goal rows m count 0 so_far (rw is refl))
