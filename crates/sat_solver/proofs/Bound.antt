-- A legal log without the empty lemma has fewer than 3 ^ k lemmas over k free bits.
use Rattle.sat_solver.proofs.Common.{◌≡◌, ℕ, zero, suc, ◌+◌, ◌-◌, ◌*◌, ◌^◌, ◌<◌, ◌≤◌, Bool, true, false, List, [], ◌∷◌, ◌++◌, length, get_or, map, ℤ, pos, Option, Some, None, refl, ap, sym, ◌∙◌, inl}
use Rattle.sat_solver.proofs.Common.{inr, subst, arith, All, Contains, eqb_tells, leb_tells, length-map, Contains-append_left, Contains-push, All-head, All-tail, variable, Known, none, with_false}
use Rattle.sat_solver.proofs.Common.{is_some_false, is_named, AreFree, IsWithin, IsLegalAfter, IsLegalLog, IsFalse, literal-same, false-from_in, within-from_false}
use Rattle.std.proofs.Math.Nat.{pow-succ'}
use Rattle.lrat_checker.proofs.Logs.{free-within}
use Rattle.sat_solver.proofs.Counting.{length-free}

-- the digit of base 3 of a variable: open, true or false
abbrev digit : Option Bool → ℕ
digit None = 0
digit (Some true) = 1
digit (Some false) = 2

-- the number with the digits of the variables 1 to k
abbrev code : ℕ → Known → ℕ
code zero known = 0
code (suc k) known = digit (known (suc k)) * 3 ^ k + code k known

power : (k : ℕ) → 3 ^ suc k ≡ 3 * 3 ^ k
power k = pow-succ' 3 k

top-small : (o : Option Bool) (t r : ℕ) → r < t → digit o * t + r < 3 * t
top-small None t r h = omega (arith, h)
top-small (Some true) t r h = omega (arith, h)
top-small (Some false) t r h = omega (arith, h)

code-small : (k : ℕ) (known : Known) → code k known < 3 ^ k
code-small zero known = omega arith
code-small (suc k) known = rw power (top-small (known (suc k)) (3 ^ k) (code k known) (code-small k known))

top-same : (o p : Option Bool) (t r s : ℕ) → r < t → s < t → digit o * t + r ≡ digit p * t + s → (o ≡ p) × (r ≡ s)
top-same None None t r s h k e = (refl, omega (arith, e))
top-same None (Some true) t r s h k e = absurd (omega (arith, e, h))
top-same None (Some false) t r s h k e = absurd (omega (arith, e, h))
top-same (Some true) None t r s h k e = absurd (omega (arith, e, k))
top-same (Some true) (Some true) t r s h k e = (refl, omega (arith, e))
top-same (Some true) (Some false) t r s h k e = absurd (omega (arith, e, h))
top-same (Some false) None t r s h k e = absurd (omega (arith, e, k))
top-same (Some false) (Some true) t r s h k e = absurd (omega (arith, e, k))
top-same (Some false) (Some false) t r s h k e = (refl, omega (arith, e))

-- equal numbers have equal digits
code-same : (k : ℕ) (a b : Known) → code k a ≡ code k b → (v : ℕ) → 0 < v → v ≤ k → a v ≡ b v
code-same zero a b e v low high = absurd (omega (arith, low, high))
code-same (suc k) a b e v low high =
    let both = top-same (a (suc k)) (b (suc k)) (3 ^ k) (code k a) (code k b) (code-small k a) (code-small k b) e in
    elim (leb_tells v k) [
      | inl less ↦ code-same k a b both.1 v low less.1
      | inr top ↦ (let is : v ≡ suc k = omega (arith, top.1, high) in ap a is ∙ both.0 ∙ ap b (sym is))
    ]

-- lemmas with equal numbers have the same literals
code-within : (free : ℕ) (l m : List ℤ) → AreFree free l → code free (with_false none l) ≡ code free (with_false none m) → IsWithin l m
code-within free l m are e = within-from_false m l (λ k d h.
    let x : ℤ = get_or l k d in
    let range = free-within free free l (omega arith) are k d h in
    let own : IsFalse (with_false none l) (get_or l k d) = false-from_in free none l (get_or l k d) are (k, h, Rattle.std.proofs.lemmas.List.get_or_default l k (get_or l k d) d h) in
    let same : with_false none m (variable (get_or l k d)) ≡ with_false none l (variable (get_or l k d)) = sym (code-same free (with_false none l) (with_false none m) e (variable (get_or l k d)) range.0 range.1) in
    ap is_some_false (literal-same (with_false none m) (with_false none l) (get_or l k d) same) ∙ own)

-- the number of a lemma
abbrev number_of : ℕ → List ℤ → ℤ
number_of free lemma = pos (code free (with_false none lemma))

-- no later lemma contains one of the log
later-new : (clauses : List (List ℤ)) (free : ℕ) (earlier lemmas : List (List ℤ)) (l : List ℤ) → IsLegalAfter clauses free earlier lemmas → Contains earlier l → All (λ m. AreFree free m × (IsWithin l m → ⊥)) lemmas
later-new clauses free earlier [] l legal in' k d h = absurd (omega (arith, h))
later-new clauses free earlier (m ∷ more) l legal in' zero d h = (legal.0.1.over_free, (let P : List ℤ → Type 0 = λ e. IsWithin e m → ⊥ in subst P in'.2 (legal.0.1.new in'.0 l in'.1)))
later-new clauses free earlier (m ∷ more) l legal in' (suc k) d h = later-new clauses free (earlier ++ m ∷ []) more l legal.1 (Contains-append_left earlier (m ∷ []) l in') k d (omega (arith, h))

unnamed-later : (free : ℕ) (l : List ℤ) (more : List (List ℤ)) → AreFree free l → All (λ m. AreFree free m × (IsWithin l m → ⊥)) more → is_named (map (number_of free) more) (code free (with_false none l)) ≡ false
unnamed-later free l [] are all = refl
unnamed-later free l (m ∷ more) are all =
    let P : List ℤ → Type 0 = λ m. AreFree free m × (IsWithin l m → ⊥) in
    elim (eqb_tells (code free (with_false none l)) (code free (with_false none m))) [
      | inl same ↦ absurd ((All-head P m more all).1 (code-within free l m are same.1))
      | inr other ↦ rw other.0 (unnamed-later free l more are (All-tail P m more all))
    ]

none-code : (k : ℕ) → code k none ≡ 0
none-code zero = refl
none-code (suc k) = omega (arith, none-code k)

numbers-free : (clauses : List (List ℤ)) (free : ℕ) (earlier lemmas : List (List ℤ)) → IsLegalAfter clauses free earlier lemmas → All (λ l. 0 < length l) lemmas → AreFree (3 ^ free - 1) (map (number_of free) lemmas)
numbers-free clauses free earlier [] legal some = tt
numbers-free clauses free earlier (l ∷ more) legal some =
    let are : AreFree free l = legal.0.1.over_free in
    let small : code free (with_false none l) < 3 ^ free = code-small free (with_false none l) in
    let Q : List ℤ → Type 0 = λ m. 0 < length m in
    let positive : 0 < code free (with_false none l) = elim (leb_tells 1 (code free (with_false none l))) [
      | inl is ↦ is.1
      | inr isnt ↦
          let zero_code : code free (with_false none l) ≡ code free (with_false none []) = (let a : code free (with_false none l) ≡ 0 = omega (arith, isnt.1) in a ∙ sym (none-code free)) in
          let within : IsWithin l [] = code-within free l [] are zero_code in
          let first : Contains [] (get_or l 0 (pos 0)) = within 0 (pos 0) (All-head Q l more some) in
          let no_one : first.0 < 0 = first.1 in
          absurd (omega arith)
    ] in
    (positive, omega (arith, small), unnamed-later free l more are (later-new clauses free (earlier ++ l ∷ []) more l legal.1 (Contains-push earlier l)), numbers-free clauses free (earlier ++ l ∷ []) more legal.1 (All-tail Q l more some))

-- a legal log without the empty lemma is shorter than 3 ^ free
pub short_log : (clauses : List (List ℤ)) (free : ℕ) (lemmas : List (List ℤ)) → IsLegalLog clauses free lemmas → All (λ l. 0 < length l) lemmas → length lemmas < 3 ^ free
short_log clauses free lemmas legal some =
    let numbers : length (map (number_of free) lemmas) ≤ 3 ^ free - 1 = length-free (3 ^ free - 1) (map (number_of free) lemmas) (numbers-free clauses free [] lemmas legal some) in
    let count : length (map (number_of free) lemmas) ≡ length lemmas = length-map lemmas (number_of free) in
    let one : code free none < 3 ^ free = code-small free none in
    omega (arith, numbers, count, one)
