-- Where nets are driven.
use Rattle.cycle_sim.proofs.Common.{◌≡◌, ℕ, zero, suc, ◌+◌, ◌<◌, ◌≤◌, Bool, List, [], ◌∷◌, ◌++◌, length, take, get_or, set, slice_get, Some, refl, sym, ◌∙◌, ap, subst, inl, inr, arith, cases_lt}
use Rattle.cycle_sim.proofs.Common.{take_more, get_or-set_same, get_or-set_other, slice_get-get_or, Bit, Fixed, Net, times, times_at, Place, place_of, IsAt, AreMarked}
use Rattle.cycle_sim.proofs.Laid.{times-cases, times_at-append}

pub times-append : (n : ℕ) (xs ys : List Bit) → times n (xs ++ ys) ≡ times n xs + times n ys
times-append n [] ys = omega arith
times-append n (Fixed b ∷ xs) ys = times-append n xs ys
times-append n (Net m ∷ xs) ys = (let rest = times-append n xs ys in omega (arith, rest))

-- one bit more
pub times-more : (n : ℕ) (bits : List Bit) (i : ℕ) (d : Bit) → i < length bits → times n (take (i + 1) bits) ≡ times n (take i bits) + times n (get_or bits i d ∷ [])
times-more n bits i d inside = ap (times n) (take_more bits i d inside) ∙ times-append n (take i bits) (get_or bits i d ∷ [])

pub times_at-more : (n : ℕ) (ports : List (List Bit)) (i : ℕ) (d : List Bit) → i < length ports → times_at n (take (i + 1) ports) ≡ times_at n (take i ports) + times n (get_or ports i d)
times_at-more n ports i d inside =
    let one : times_at n (get_or ports i d ∷ []) ≡ times n (get_or ports i d) = omega arith in
    ap (times_at n) (take_more ports i d inside) ∙ times_at-append n (take i ports) (get_or ports i d ∷ []) ∙ ap (λ (k : ℕ). times_at n (take i ports) + k) one

-- a bit that stands there is among the bits
pub times-at : (n : ℕ) (bits : List Bit) (i : ℕ) (d : Bit) → i < length bits → times n (get_or bits i d ∷ []) ≤ times n bits
times-at n [] i d inside = absurd (omega (arith, inside))
times-at n (Fixed b ∷ more) zero d inside = omega arith
times-at n (Net m ∷ more) zero d inside = omega arith
times-at n (Fixed b ∷ more) (suc i) d inside = times-at n more i d (omega (arith, inside))
times-at n (Net m ∷ more) (suc i) d inside = (let rest = times-at n more i d (omega (arith, inside)) in omega (arith, rest))

pub times_at-at : (n : ℕ) (ports : List (List Bit)) (i : ℕ) (d : List Bit) → i < length ports → times n (get_or ports i d) ≤ times_at n ports
times_at-at n [] i d inside = absurd (omega (arith, inside))
times_at-at n (bits ∷ more) zero d inside = omega arith
times_at-at n (bits ∷ more) (suc i) d inside = (let rest = times_at-at n more i d (omega (arith, inside)) in omega (arith, rest))

-- a net is itself
pub times-self : (n : ℕ) → 1 ≤ times n (Net n ∷ [])
times-self n = elim (times-cases n n []) [ inl h ↦ (let e = h.1 in omega (arith, e)) | inr h ↦ absurd (h.0 refl) ]

-- Marking.

abbrev nowhere : Place
nowhere = record { driver = 0; bit = 0 }

-- a net more
module _ (driver : ℕ) (bits whole : List Bit) (old new : List Place) (i m : ℕ) (d : Bit) (are : AreMarked driver (take i bits) whole old new) (inside : i < length bits) (same : bits ≡ whole) (is : get_or bits i d ≡ Net m) (room : m < length new) where
  abbrev here : Place
  here = record { driver = driver; bit = i }

  found : slice_get whole i ≡ Some (Net m)
  found = ap (λ (b : List Bit). slice_get b i) (sym same) ∙ slice_get-get_or bits i d inside ∙ ap (λ (b : Bit). Some b) is

  counted : (n : ℕ) → times n (take (i + 1) bits) ≡ times n (take i bits) + times n (Net m ∷ [])
  counted n = times-more n bits i d inside ∙ ap (λ (b : Bit). times n (take i bits) + times n (b ∷ [])) is

  now-marked : (n : ℕ) → 1 ≤ times n (take (i + 1) bits) → ((place_of (set new m here) n).driver ≡ driver) × (slice_get whole (place_of (set new m here) n).bit ≡ Some (Net n))
  now-marked n some = elim (times-cases m n []) [
    | inl equal ↦
        (let there : place_of (set new m here) n ≡ here = subst (λ (k : ℕ). place_of (set new m here) k ≡ here) equal.0 (get_or-set_same new m here nowhere room) in
        (ap (λ (p : Place). p.driver) there, ap (λ (p : Place). slice_get whole p.bit) there ∙ found ∙ ap (λ (k : ℕ). Some (Net k)) equal.0))
    | inr other ↦
        (let before : 1 ≤ times n (take i bits) = (let t = counted n in let o = other.1 in omega (arith, some, t, o)) in
        let keeps : place_of (set new m here) n ≡ place_of new n = get_or-set_other new m n here nowhere (λ e. other.0 (sym e)) in
        let was = are.marked n before in
        (ap (λ (p : Place). p.driver) keeps ∙ was.0, ap (λ (p : Place). slice_get whole p.bit) keeps ∙ was.1))
  ]

  now-kept : (n : ℕ) → times n (take (i + 1) bits) ≡ 0 → place_of (set new m here) n ≡ place_of old n
  now-kept n none = elim (times-cases m n []) [
    | inl equal ↦ absurd (let t = counted n in let o = equal.1 in omega (arith, none, t, o))
    | inr other ↦ get_or-set_other new m n here nowhere (λ e. other.0 (sym e)) ∙ are.kept n (let t = counted n in omega (arith, none, t))
  ]

  pub marked-net : AreMarked driver (take (i + 1) bits) whole old (set new m here)
  marked-net = record { marked = now-marked; kept = now-kept }

-- a constant more
pub marked-constant : (driver : ℕ) (bits whole : List Bit) (old new : List Place) (i : ℕ) (b : Bool) (d : Bit) → AreMarked driver (take i bits) whole old new → i < length bits → get_or bits i d ≡ Fixed b → AreMarked driver (take (i + 1) bits) whole old new
marked-constant driver bits whole old new i b d are inside is = record {
  marked = λ n some. are.marked n (let t = counted n in omega (arith, some, t));
  kept = λ n none. are.kept n (let t = counted n in omega (arith, none, t));
}
  where
    counted : (n : ℕ) → times n (take (i + 1) bits) ≡ times n (take i bits)
    counted n = times-more n bits i d inside ∙ ap (λ (b : Bit). times n (take i bits) + times n (b ∷ [])) is ∙ (omega arith)

-- the nets of the first drivers have their places
abbrev pub FirstPlaced : List (List Bit) → ℕ → List Place → Type 0
FirstPlaced drivers count places = (n : ℕ) → 1 ≤ times_at n (take count drivers) → IsAt drivers (place_of places n) n

pub placed-more : (drivers : List (List Bit)) (count : ℕ) (old new : List Place) → FirstPlaced drivers count old → count < length drivers → AreMarked count (get_or drivers count []) (get_or drivers count []) old new → FirstPlaced drivers (count + 1) new
placed-more drivers count old new first inside are n some =
    let bits : List Bit = get_or drivers count [] in
    let t = times_at-more n drivers count [] inside in
    elim (cases_lt 0 (times n bits)) [
      | inl here ↦
          (let at = are.marked n (omega (arith, here)) in
          subst (λ (k : ℕ). slice_get (get_or drivers k []) (place_of new n).bit ≡ Some (Net n)) (sym at.0) at.1)
      | inr none ↦
          (let keeps = are.kept n (omega (arith, none)) in
          subst (λ (p : Place). IsAt drivers p n) (sym keeps) (first n (omega (arith, some, t, none))))
    ]
