-- Without a latch a combinational process leaves the same from any values of the variables that it assigns.
use Rattle.vlog_effects.proofs.Common.{◌≡◌, ℕ, zero, suc, ◌<◌, ◌≤◌, Bool, true, false, not, ◌||◌, ◌⊎◌, List, [], ◌∷◌, ◌++◌, length, Option, Some, None, get_or, refl, sym, ◌∙◌, ap, subst, inl, inr}
use Rattle.vlog_effects.proofs.Common.{arith, ext_get_or, if◌then◌else◌, eqb_tells, leb_tells, Decl, Signal, Constant, Names, no_bits, Part, parts_of, vector_of, Steps, Done, Assign, Choose, Case}
use Rattle.vlog_effects.proofs.Common.{Refuse, Arms, Otherwise, Arm, steps_of, Values, State, updated_all, settled, effect, started, left_by, IsBlocking, HasWidth, covered, early, Target}
use Rattle.vlog_effects.proofs.Common.{part_targets, parts_targets, targets, arms_targets, is_assigned, some_bit, is_latch, latches, earlier, first_of, LeavesOne}
use Rattle.vlog_effects.proofs.Bools.{or-left, or-right, or-same, not-false}
use Rattle.vlog_effects.proofs.Sizes.{IsSized, AreSized, Sized, SizedArms, sized-steps}
use Rattle.vlog_effects.proofs.Alike.{Alike, alike-effect}
use Rattle.vlog_effects.proofs.Pointwise.{covered-at, early-at, covered-all, early-all}

-- A bit is no matter where it has one value at the start, or is assigned on every path and not read before.
abbrev IsFree : Steps → Values → Values → ℕ → ℕ → Type 0
IsFree steps x y n i = (get_or (x n) i false ≡ get_or (y n) i false) ⊎ ((covered steps no_bits n i ≡ true) × (early steps no_bits n i ≡ false))

abbrev marked : {A B : Type 0} → A ⊎ B → Bool
marked (inl a) = true
marked (inr b) = false

quiet : (s : State) → s.scheduled ≡ [] → (n : ℕ) → settled s n ≡ s.now n
quiet s e n = ap (λ us. updated_all us s.now n) e

unlatched : (size : ℕ → ℕ) (steps : Steps) (x y : Values) → Sized size steps → IsBlocking steps → ((n : ℕ) → length (x n) ≡ size n) → ((n : ℕ) → length (y n) ≡ size n) → ((n i : ℕ) → IsFree steps x y n i) → (n : ℕ) → left_by steps x n ≡ left_by steps y n
unlatched size steps x y z k first second free n =
    let whole : Alike size (covered steps (λ n i. marked (free n i))) (effect steps (started x)) (effect steps (started y)) = alike-effect size steps (λ n i. marked (free n i)) (started x) (started y) z k none_early begins in
    let ends : (effect steps (started x)).now n ≡ (effect steps (started y)).now n = ext_get_or false _ _ (whole.first n ∙ sym (whole.second n)) (λ i h. whole.same n i (covers n i)) in
    quiet (effect steps (started x)) whole.none n ∙ ends ∙ sym (quiet (effect steps (started y)) whole.none_too n) where
      at_start : (n i : ℕ) (f : IsFree steps x y n i) → marked f ≡ true → get_or (x n) i false ≡ get_or (y n) i false
      at_start n i (inl e) g = e
      at_start n i (inr e) g = cc

      begins : Alike size (λ n i. marked (free n i)) (started x) (started y)
      begins = record { first = first; second = second; same = λ n i e. at_start n i (free n i) e; none = refl; none_too = refl }

      none_early : (n i : ℕ) → early steps (λ n i. marked (free n i)) n i ≡ false
      none_early n i = pick (free n i) refl where
        pick : (f : IsFree steps x y n i) → marked (free n i) ≡ marked f → early steps (λ n i. marked (free n i)) n i ≡ false
        pick (inl e) g = early-all steps (λ n i. marked (free n i)) n i g
        pick (inr e) g = early-at steps (λ n i. marked (free n i)) no_bits n i g ∙ e.1

      covers : (n i : ℕ) → covered steps (λ n i. marked (free n i)) n i ≡ true
      covers n i = pick (free n i) refl where
        pick : (f : IsFree steps x y n i) → marked (free n i) ≡ marked f → covered steps (λ n i. marked (free n i)) n i ≡ true
        pick (inl e) g = covered-all steps (λ n i. marked (free n i)) n i g
        pick (inr e) g = covered-at steps (λ n i. marked (free n i)) no_bits n i g ∙ e.0

-- The definition of a latch gives it.

some_bit-false : (w : ℕ) (p : ℕ → Bool) (i : ℕ) → some_bit w p ≡ false → i < w → p i ≡ false
some_bit-false zero p i e h = absurd (omega arith)
some_bit-false (suc w) p i e h = elim (eqb_tells i w) [
  | inl k ↦ rw k.1 (or-left (p w) (some_bit w p) e)
  | inr k ↦ some_bit-false w p i (or-right (p w) (some_bit w p) e) (let j = k.1 in omega arith)
]

past : (xs : List Bool) (i : ℕ) → length xs ≤ i → get_or xs i false ≡ false
past [] i h = refl
past (x ∷ xs) zero h = absurd (omega arith)
past (x ∷ xs) (suc i) h = past xs i (omega arith)

none-first : (xs : List Target) → first_of xs ≡ None → xs ≡ []
none-first [] e = refl
none-first (x ∷ xs) e = go (first_of xs) e where
  go : (o : Option Target) → earlier x o ≡ None → (x ∷ xs) ≡ []
  go None f = cc
  go (Some y) f = cc

no-latch-first : (steps : Steps) (t : Target) (ts : List Target) → latches steps (t ∷ ts) ≡ [] → (is_latch steps t ≡ false) × (latches steps ts ≡ [])
no-latch-first steps t ts e = pick (is_latch steps t) refl e where
  pick : (b : Bool) → is_latch steps t ≡ b → (if b then t ∷ latches steps ts else latches steps ts) ≡ [] → (is_latch steps t ≡ false) × (latches steps ts ≡ [])
  pick true f g = cc
  pick false f g = (f, g)

-- each target has its width
abbrev AreWide : (ℕ → ℕ) → List Target → Type 0
AreWide size [] = Unit {0}
AreWide size (t ∷ ts) = (size t.number ≡ t.width) × AreWide size ts

free-of : (size : ℕ → ℕ) (steps : Steps) (ts : List Target) (x y : Values) → latches steps ts ≡ [] → AreWide size ts → ((n : ℕ) → length (x n) ≡ size n) → ((n : ℕ) → length (y n) ≡ size n) → (n i : ℕ) → (is_assigned ts n ≡ false → x n ≡ y n) → IsFree steps x y n i
free-of size steps [] x y e w first second n i other = inl (ap (λ (l : List Bool). get_or l i false) (other refl))
free-of size steps (t ∷ ts) x y e w first second n i other =
    let both = no-latch-first steps t ts e in
    elim (eqb_tells n t.number) [
      | inl k ↦ let P : ℕ → Type 0 = λ (m : ℕ). IsFree steps x y m i in subst P (sym k.1) (elim (leb_tells (suc i) t.width) [
        | inl h ↦
            let bit : (not (covered steps no_bits t.number i) || early steps no_bits t.number i) ≡ false = some_bit-false t.width (λ j. not (covered steps no_bits t.number j) || early steps no_bits t.number j) i both.0 h.1 in
            inr (not-false (covered steps no_bits t.number i) (or-left (not (covered steps no_bits t.number i)) (early steps no_bits t.number i) bit), or-right (not (covered steps no_bits t.number i)) (early steps no_bits t.number i) bit)
        | inr h ↦ inl (past (x t.number) i (let f = first t.number in let v = w.0 in let g = h.1 in omega arith) ∙ sym (past (y t.number) i (let f = second t.number in let v = w.0 in let g = h.1 in omega arith)))
      ])
      | inr k ↦ free-of size steps ts x y both.1 w.1 first second n i (λ f. other (or-same _ false _ false k.0 f))
    ]

-- The widths of targets are those of the declarations.

wide-both : (size : ℕ → ℕ) (ts us : List Target) → AreWide size ts → AreWide size us → AreWide size (ts ++ us)
wide-both size [] us k l = l
wide-both size (t ∷ ts) us k l = (k.0, wide-both size ts us k.1 l)

wide-part : (size : ℕ → ℕ) (is_blocking : Bool) (p : Part) (d : Option Decl) → IsSized size d → AreWide size (part_targets is_blocking p (vector_of d))
wide-part size is_blocking p (Some (Signal width low is_signed number)) k = (k, tt)
wide-part size is_blocking p (Some (Constant value low is_signed)) k = tt
wide-part size is_blocking p None k = tt

wide-parts : (size : ℕ → ℕ) (is_blocking : Bool) (names : Names) (ps : List Part) → AreSized size names → AreWide size (parts_targets is_blocking names ps)
wide-parts size is_blocking names [] k = tt
wide-parts size is_blocking names (p ∷ ps) k = wide-both size _ _ (wide-part size is_blocking p (names p.name.name) (k p.name.name)) (wide-parts size is_blocking names ps k)

mutual
  wide-targets : (size : ℕ → ℕ) (steps : Steps) → Sized size steps → AreWide size (targets steps)
  wide-targets size Done z = tt
  wide-targets size (Assign a more) z = wide-both size _ _ (wide-parts size a.is_blocking a.names (parts_of a.left) z.0) (wide-targets size more z.1)
  wide-targets size (Choose at c then_part else_part more) z = wide-both size _ _ (wide-targets size then_part z.1) (wide-both size _ _ (wide-targets size else_part z.2) (wide-targets size more z.3))
  wide-targets size (Case c arms bodies more) z = wide-both size _ _ (wide-arms size arms z.1) (wide-targets size more z.2)
  wide-targets size (Refuse x more) z = wide-targets size more z

  wide-arms : (size : ℕ → ℕ) (arms : Arms) → SizedArms size arms → AreWide size (arms_targets arms)
  wide-arms size (Otherwise body) z = wide-targets size body z
  wide-arms size (Arm at labels body others) z = wide-both size _ _ (wide-targets size body z.0) (wide-arms size others z.1)

sizes-of : (store : Values) (d : Option Decl) → HasWidth store d → IsSized (λ n. length (store n)) d
sizes-of store (Some (Signal width low is_signed number)) k = k
sizes-of store (Some (Constant value low is_signed)) k = tt
sizes-of store None k = tt

-- an assigned variable has one size by both
one-size : (a b : ℕ → ℕ) (ts : List Target) (n : ℕ) → AreWide a ts → AreWide b ts → is_assigned ts n ≡ true → b n ≡ a n
one-size a b [] n k l e = cc
one-size a b (t ∷ ts) n k l e = elim (eqb_tells n t.number) [
  | inl h ↦ ap b h.1 ∙ l.0 ∙ sym k.0 ∙ ap a (sym h.1)
  | inr h ↦ one-size a b ts n k.1 l.1 (rw h.0 at e)
]

pub leaves-one : LeavesOne
leaves-one s names x y xs ys k e other =
    let steps : Steps = steps_of s names in
    let size : ℕ → ℕ = λ n. length (x n) in
    let size_too : ℕ → ℕ = λ n. length (y n) in
    let sized : Sized size steps = sized-steps size s names (λ name. sizes-of x (names name) (xs name)) in
    let sized_too : Sized size_too steps = sized-steps size_too s names (λ name. sizes-of y (names name) (ys name)) in
    let wide : AreWide size (targets steps) = wide-targets size steps sized in
    let wide_too : AreWide size_too (targets steps) = wide-targets size_too steps sized_too in
    let equal : (n : ℕ) → size_too n ≡ size n = λ n. by n (is_assigned (targets steps) n) refl wide wide_too in
    unlatched size steps x y sized k (λ n. refl) equal (λ n i. free-of size steps (targets steps) x y (none-first (latches steps (targets steps)) e) wide (λ m. refl) equal n i (other n)) where
      by : (n : ℕ) (b : Bool) → is_assigned (targets (steps_of s names)) n ≡ b → AreWide (λ m. length (x m)) (targets (steps_of s names)) → AreWide (λ m. length (y m)) (targets (steps_of s names)) → length (y n) ≡ length (x n)
      by n true f w v = one-size (λ m. length (x m)) (λ m. length (y m)) (targets (steps_of s names)) n w v f
      by n false f w v = ap length (sym (other n f))
