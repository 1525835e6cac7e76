-- Pairs that can be guards from now on.
use Rattle.sat_solver.proofs.Common.{◌≡◌, ◌≢◌, ℕ, ◌<◌, ◌≤◌, Bool, true, false, not, List, length, take, get_or, ◌-◌, ℤ, pos, negsuc, Option, Some, None, refl, ap, sym, ◌∙◌, inl, inr, ◌⊎◌, arith}
use Rattle.sat_solver.proofs.Common.{Contains, OnTrue, leb_tells, get_or_default, variable, Known, literal, is_some_false, known_of, Pair, assigned, literal_at, AreApart, AreStarts, IsUnwound, IsSafe}
use Rattle.sat_solver.proofs.Walks.{open-before}
use Rattle.sat_solver.proofs.Settled.{IsBelow, below-take, literal-below}
use Rattle.sat_solver.proofs.Guards.{clash}
use Rattle.sat_solver.proofs.Guarded.{start-within}

-- the literal got its value after each level began
abbrev pub IsRecent : List ℤ → List ℕ → ℤ → Type 0
IsRecent literals starts l = (s : ℕ) → Contains starts s → assigned (take s literals) (variable l) ≡ None

pub is-open : (known : Known) (l : ℤ) → known (variable l) ≡ None → literal known l ≡ None
is-open known (pos n) e = e
is-open known (negsuc n) e = rw e refl

not-both : {P : Type 0} (o : Option Bool) → o ≡ None → o ≡ Some false → P
not-both o a b = absurd (let wrong : None ≡ Some false = sym a ∙ b in cc)

-- the first literal isn't false now, and the second one isn't, or became so after each level began while the first is true
pub safe-pair : (limit : ℕ) (literals : List ℤ) (starts : List ℕ) (pair : Pair) → AreApart limit literals → AreStarts (length literals) starts → literal (assigned literals) pair.first ≢ Some false → (literal (assigned literals) pair.second ≢ Some false) ⊎ ((literal (assigned literals) pair.first ≡ Some true) × IsRecent literals starts pair.second) → IsSafe literals starts pair
safe-pair limit literals starts pair apart begun first second = record {
  now = record {
    first_false = λ e. absurd (first e);
    second_false = λ e. elim second [ inl open_ ↦ absurd (open_ e) | inr recent ↦ recent.0 ];
  };
  levels = λ s has.
      let below : IsBelow (assigned (take s literals)) (assigned literals) = (let inside : s < length literals = start-within (length literals) starts s begun has in below-take limit literals s apart (omega (arith, inside))) in
      record {
        first_false = λ e. absurd (first (literal-below (assigned (take s literals)) (assigned literals) below pair.first false e));
        second_false = λ e. elim second [
          | inl open_ ↦ absurd (open_ (literal-below (assigned (take s literals)) (assigned literals) below pair.second false e))
          | inr recent ↦ not-both (literal (assigned (take s literals)) pair.second) (is-open (assigned (take s literals)) pair.second (recent.1 s has)) e
        ];
      };
}

pub on-true : {P Q : Type 0} (b : Bool) → (P → Q) → OnTrue b P → OnTrue b Q
on-true true f p = f p
on-true false f p = p

-- so where the second literal isn't false
pub safe-unless : (values : List (Option Bool)) (literals : List ℤ) (starts : List ℕ) (pair : Pair) (second_false : Bool) → IsUnwound values literals literals → AreStarts (length literals) starts → second_false ≡ is_some_false (literal (known_of values) pair.second) → literal (known_of values) pair.first ≢ Some false → OnTrue (not second_false) (IsSafe literals starts pair)
safe-unless values literals starts pair true un begun e first = tt
safe-unless values literals starts pair false un begun e first =
    let same : literal (known_of values) ≡ literal (assigned literals) = ap literal un.known in
    safe-pair (length values) literals starts pair un.apart begun (λ w. first (ap (λ (f : ℤ → Option Bool). f pair.first) same ∙ w))
    (inl (λ w. let wrong : false ≡ true = e ∙ ap is_some_false (ap (λ (f : ℤ → Option Bool). f pair.second) same ∙ w) in cc))

-- or became so after each level began, while the first is true
pub safe-recent : (values : List (Option Bool)) (literals : List ℤ) (starts : List ℕ) (pair : Pair) (recent : Bool) → IsUnwound values literals literals → AreStarts (length literals) starts → literal (known_of values) pair.first ≡ Some true → OnTrue recent (IsRecent literals starts pair.second) → OnTrue recent (IsSafe literals starts pair)
safe-recent values literals starts pair recent un begun first is =
    let here : literal (assigned literals) pair.first ≡ Some true = ap (λ (k : Known). literal k pair.first) (sym un.known) ∙ first in
    on-true recent (λ r. safe-pair (length values) literals starts pair un.apart begun (λ w. clash (literal (assigned literals) pair.first) w here) (inr (here, r))) is

pub not-false-true : (o : Option Bool) → o ≡ Some true → o ≢ Some false
not-false-true o yes_ no_ = clash o no_ yes_

pub not-false-none : (o : Option Bool) → o ≡ None → o ≢ Some false
not-false-none o none_ no_ = not-both o none_ no_

-- a literal that stands in the trail at the last start or behind it
recent-at : (limit : ℕ) (literals : List ℤ) (starts : List ℕ) (l : ℤ) (place : ℕ) → AreApart limit literals → AreStarts (length literals) starts → (0 < length starts → get_or starts (length starts - 1) 0 ≤ place) → place < length literals → variable (literal_at literals place) ≡ variable l → IsRecent literals starts l
recent-at limit literals starts l place apart begun low within is s has =
    let before : s ≤ get_or starts (length starts - 1) 0 = last-start (length literals) starts s begun has in
    ap (assigned (take s literals)) (sym is) ∙ open-before limit literals place s apart (omega (arith, before, low (omega (arith, has.1)))) within where
      last-start : (count : ℕ) (starts : List ℕ) (s : ℕ) → AreStarts count starts → Contains starts s → s ≤ get_or starts (length starts - 1) 0
      last-start count starts s are (k, h, e) =
          let at : get_or starts k 0 ≡ s = get_or_default starts k 0 s h ∙ e in
          elim (leb_tells (length starts - 1) k) [
            | inl last ↦ (let same : k ≡ length starts - 1 = omega (arith, last.1, h) in let w : get_or starts k 0 ≡ get_or starts (length starts - 1) 0 = ap (λ (i : ℕ). get_or starts i 0) same in omega (arith, at, w))
            | inr less ↦ omega (arith, are.ascend k (length starts - 1) less.1 (omega (arith, h)), at)
          ]

pub recent-from : (values : List (Option Bool)) (literals : List ℤ) (starts : List ℕ) (l : ℤ) (start : ℕ) (found : Bool) → IsUnwound values literals literals → AreStarts (length literals) starts → start ≡ get_or starts (length starts - 1) start → OnTrue found ((place : ℕ) × (start ≤ place) × (place < length literals) × (variable (literal_at literals place) ≡ variable l)) → OnTrue found (IsRecent literals starts l)
recent-from values literals starts l start found un begun is there = on-true found (λ at. recent-at (length values) literals starts l at.0 un.apart begun (λ some. let last : start ≡ get_or starts (length starts - 1) 0 = is ∙ get_or_default starts (length starts - 1) start 0 (omega (arith, some)) in omega (arith, last, at.1)) at.2 at.3) there
