-- Sums over numbers of which none stands twice: those of an order are at most those of all nodes.
use Rattle.net_order.proofs.Common.{◌≡◌, ℕ, zero, suc, ◌+◌, ◌<◌, ◌≤◌, Bool, true, List, [], ◌∷◌, length, take, get_or, inl, inr, refl, sym, ap, arith, Contains, cases_lt, eqb_tells, IsOrder}
use Rattle.std.specs.Prelude.{◌≢◌, eqb, if◌then◌else◌}

-- over listed numbers
abbrev pub listed : (ℕ → ℕ) → List ℕ → ℕ
listed f [] = 0
listed f (c ∷ more) = f c + listed f more

-- over all numbers below one
abbrev pub total : (ℕ → ℕ) → ℕ → ℕ
total f zero = 0
total f (suc n) = f n + total f n

abbrev without : ℕ → (ℕ → ℕ) → ℕ → ℕ
without c f k = if eqb k c then 0 else f k

without-self : (f : ℕ → ℕ) (c k : ℕ) → eqb k c ≡ true → without c f k ≡ 0
without-self f c k same = ap (λ (b : Bool). if b then 0 else f k) same

without-other : (f : ℕ → ℕ) (c k : ℕ) → k ≢ c → without c f k ≡ f k
without-other f c k other = elim (eqb_tells k c) [
  | inl same ↦ absurd (other same.1)
  | inr not ↦ ap (λ (b : Bool). if b then 0 else f k) not.0
]

total-past : (f : ℕ → ℕ) (c n : ℕ) → n ≤ c → total (without c f) n ≡ total f n
total-past f c zero le = refl
total-past f c (suc n) le =
    let rest = total-past f c n (omega (arith, le)) in
    let here : without c f n ≡ f n = without-other f c n (λ same. absurd (omega (arith, le, same))) in
    omega (arith, rest, here)

total-with : (f : ℕ → ℕ) (c n : ℕ) → c < n → total f n ≡ f c + total (without c f) n
total-with f c zero below = absurd (omega (arith, below))
total-with f c (suc n) below = elim (eqb_tells n c) [
  | inl same ↦ (
      let rest : total (without c f) n ≡ total f n = total-past f c n (omega (arith, same.1)) in
      let here : without c f n ≡ 0 = without-self f c n same.0 in
      let it : f n ≡ f c = ap f same.1 in
      omega (arith, rest, here, it))
  | inr other ↦ (
      let less : c < n = elim (cases_lt c n) [ inl l ↦ l | inr m ↦ absurd (other.1 (omega (arith, below, m))) ] in
      let rest = total-with f c n less in
      let here : without c f n ≡ f n = without-other f c n other.1 in
      omega (arith, rest, here))
]

listed-without : (f : ℕ → ℕ) (c : ℕ) (more : List ℕ) → ((k : ℕ) → k < length more → get_or more k 0 ≢ c) → listed (without c f) more ≡ listed f more
listed-without f c [] none = refl
listed-without f c (x ∷ more) none =
    let here : without c f x ≡ f x = without-other f c x (none 0 (omega arith)) in
    let rest = listed-without f c more (λ k below. none (suc k) (omega (arith, below))) in
    omega (arith, here, rest)

listed-total : (f : ℕ → ℕ) (n : ℕ) (order : List ℕ) → ((k : ℕ) → k < length order → get_or order k 0 < n) → ((k : ℕ) → k < length order → ¬ Contains (take k order) (get_or order k 0)) → listed f order ≤ total f n
listed-total f n [] inside apart = omega arith
listed-total f n (c ∷ more) inside apart =
    let g : ℕ → ℕ = without c f in
    let first : total f n ≡ f c + total g n = total-with f c n (inside 0 (omega arith)) in
    let same : listed g more ≡ listed f more = listed-without f c more (λ k below is. apart (suc k) (omega (arith, below)) (0, omega arith, sym is)) in
    let rest : listed g more ≤ total g n = listed-total g n more (λ k below. inside (suc k) (omega (arith, below))) (λ k below there. apart (suc k) (omega (arith, below)) (suc there.0, omega (arith, there.1), there.2)) in
    omega (arith, first, same, rest)

pub order-total : (f : ℕ → ℕ) (count : ℕ) (R : ℕ → ℕ → Type 0) (order : List ℕ) → IsOrder count R order → listed f order ≤ total f count
order-total f count R order h = listed-total f count order (λ k below. (h.places k below).ready.node) (λ k below. (h.places k below).ready.unlisted)

listed-ones : (xs : List ℕ) → listed (λ k. 1) xs ≡ length xs
listed-ones [] = refl
listed-ones (x ∷ xs) = (let rest = listed-ones xs in omega (arith, rest))

total-ones : (n : ℕ) → total (λ k. 1) n ≡ n
total-ones zero = refl
total-ones (suc n) = (let rest = total-ones n in omega (arith, rest))

pub order-few : (count : ℕ) (R : ℕ → ℕ → Type 0) (order : List ℕ) → IsOrder count R order → length order ≤ count
order-few count R order h = omega (arith, order-total (λ k. 1) count R order h, listed-ones order, total-ones count)
