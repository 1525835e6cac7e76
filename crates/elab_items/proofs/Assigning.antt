-- What items assign.
use Rattle.elab_items.proofs.Common.{◌≡◌, inl, inr, ℕ, zero, suc, Bool, true, false, List, [], ◌∷◌, ◌++◌, map, Option, Some, None, refl, sym, ap, ◌∙◌, subst, option_map, if◌then◌else◌, Contains}
use Rattle.elab_items.proofs.Common.{Contains-append_cases, Contains-append_left, Contains-append_right, Span, Expr, Process, LeftSide, Names, Part, parts_of, Steps, steps_of, Refusal, IsFirst}
use Rattle.elab_items.proofs.Common.{same_form, Write, sound, target_of, writes, statement, CanBeBuilt, variables, steps_are, Written, places_from, WrittenBit, form_parts, Slice, all_places, placed}
use Rattle.elab_items.proofs.Common.{slice_places, slices, Target, bit_targets, targets, form_is, Place, Found, process_writes, names_at, some_same, has_cases, has_first, has_more, has_none}
use Rattle.vlog_syntax.specs.declared.stmt.Stmt.{Stmt, out-Stmt}
use Rattle.vlog_effects.specs.Latches.{Target as Assigned}
use Rattle.process_latches.specs.declared.marks.Marks.{Marks}
use Rattle.process_latches.specs.Marking.{AreBlank, Marked}
use Rattle.proc_muxes.specs.Builds.{distinct_after, stands}
use Rattle.flat_assigns.specs.Bits.{targets_of}

-- The code's lists.

pub bits_at : (places : List Place) (k : ℕ) (names : Names) (left : LeftSide) (bits : List WrittenBit) → names_at places k ≡ names → targets_of bits ≡ targets (slices names (parts_of left)) → targets_of bits ≡ targets (slices (names_at places k) (parts_of left))
bits_at places k names left bits is told = told ∙ ap (λ (n : Names). targets (slices n (parts_of left))) (sym is)

pub bits_of_form : (names : Names) (left : LeftSide) (value : Expr) (bits : List WrittenBit) → same_form left ≡ value → targets_of bits ≡ targets (slices names (parts_of left)) → targets_of bits ≡ targets (slices names (form_parts value))
bits_of_form names left value bits form told = told ∙ ap (λ (ps : List Part). targets (slices names ps)) (sym (form_is left) ∙ ap form_parts form)

signals_same : (bits : List WrittenBit) → map (λ (b : WrittenBit). b.signal) bits ≡ map (λ (t : Target). t.place.signal) (targets_of bits)
signals_same [] = refl
signals_same (b ∷ more) = ap (λ (l : List ℕ). b.signal ∷ l) (signals_same more)

pub bits_numbered : (bits : List WrittenBit) (ts : List Target) (numbers : List ℕ) → targets_of bits ≡ ts → numbers ≡ map (λ (b : WrittenBit). b.signal) bits → numbers ≡ map (λ (t : Target). t.place.signal) ts
bits_numbered bits ts numbers told is = is ∙ signals_same bits ∙ ap (map (λ (t : Target). t.place.signal)) told

pub writes_marked : (names : Names) (p : Process) (body inner : Stmt) (a b : Marks) → body ≡ p.body → inner ≡ statement body (out-Stmt body) → AreBlank a → Marked (sound (steps_of inner names)) a b → b.writes.items ≡ process_writes names p
writes_marked names p body inner a b is behind blank marked =
    marked.writes_are ∙ ap (λ (l : List Write). l ++ writes (sound (steps_of inner names))) blank.writes_are ∙ ap (λ (s : Steps). writes (sound s)) (steps_are names names p body inner refl is behind)

-- Bits of left sides.

pub contains_map : {A B : Type 0} (f : A → B) (xs : List A) (x : A) → Contains xs x → Contains (map f xs) (f x)
contains_map f [] x c = absurd (has_none x c)
contains_map {A} {B} f (y ∷ ys) x c = elim (has_cases ys y x c) [
  | inl e ↦ subst (λ (z : A). Contains (f y ∷ map f ys) (f z)) e (has_first (map f ys) (f y))
  | inr m ↦ has_more (map f ys) (f y) (f x) (contains_map f ys x m)
]

-- one of the bits is this place
abbrev pub Met : List Target → Written → Type 0
Met ts p = (t : Target) × Contains ts t × (t.place ≡ p)

bits_met : (span : Span) (s : ℕ) (bits : List (Option ℕ)) (p : Written) → Contains (map (placed s) bits) (Some p) → Met (bit_targets span s bits) p
bits_met span s [] p c = absurd (has_none (Some p) c)
bits_met span s (None ∷ more) p c = elim (has_cases (map (placed s) more) None (Some p) c) [
  | inl e ↦ absurd cc
  | inr m ↦ bits_met span s more p m
]
bits_met span s (Some j ∷ more) p c = elim (has_cases (map (placed s) more) (Some (record { signal = s; bit = j })) (Some p) c) [
  | inl e ↦ (record { span = span; place = record { signal = s; bit = j } }, has_first (bit_targets span s more) (record { span = span; place = record { signal = s; bit = j } }), some_same e)
  | inr m ↦ let t = bits_met span s more p m in (t.0, has_more (bit_targets span s more) (record { span = span; place = record { signal = s; bit = j } }) t.0 t.1, t.2)
] where
  some_same : Some (record { signal = s; bit = j }) ≡ Some p → record { signal = s; bit = j } ≡ p
  some_same e = cc

pub places_met : (ss : List Slice) (p : Written) → Contains (all_places ss) (Some p) → Met (targets ss) p
places_met [] p c = absurd (has_none (Some p) c)
places_met (s ∷ more) p c = elim (Contains-append_cases (all_places more) (slice_places s) (Some p) c) [
  | inl m ↦ let t = places_met more p m in (t.0, Contains-append_right (bit_targets s.span s.signal s.bits) (targets more) t.0 t.1, t.2)
  | inr m ↦ let t = bits_met s.span s.signal s.bits p m in (t.0, Contains-append_left (bit_targets s.span s.signal s.bits) (targets more) t.0 t.1, t.2)
]

-- Variables.

among_all : (seen ts : List Assigned) (k : ℕ) → Contains (map (λ (x : Assigned). x.number) (distinct_after seen ts)) k → Contains (map (λ (x : Assigned). x.number) ts) k
among_all seen [] k c = c
among_all seen (x ∷ more) k c = go (stands x.is_blocking seen x.number) (λ h. among_all seen more k h) (λ h. among_all (x ∷ seen) more k h) c where
  go : (b : Bool) → (Contains (map (λ (y : Assigned). y.number) (distinct_after seen more)) k → Contains (map (λ (y : Assigned). y.number) more) k) → (Contains (map (λ (y : Assigned). y.number) (distinct_after (x ∷ seen) more)) k → Contains (map (λ (y : Assigned). y.number) more) k)
      → Contains (map (λ (y : Assigned). y.number) (if b then distinct_after seen more else x ∷ distinct_after (x ∷ seen) more)) k → Contains (map (λ (y : Assigned). y.number) (x ∷ more)) k
  go true same other h = has_more (map (λ (y : Assigned). y.number) more) x.number k (same h)
  go false same other h = elim (has_cases (map (λ (y : Assigned). y.number) (distinct_after (x ∷ seen) more)) x.number k h) [
    | inl e ↦ subst (Contains (map (λ (y : Assigned). y.number) (x ∷ more))) e (has_first (map (λ (y : Assigned). y.number) more) x.number)
    | inr m ↦ has_more (map (λ (y : Assigned). y.number) more) x.number k (other m)
  ]

numbers_same : (ws : List Write) → map (λ (x : Assigned). x.number) (map target_of ws) ≡ map (λ (w : Write). w.number) ws
numbers_same [] = refl
numbers_same (w ∷ more) = ap (λ (l : List ℕ). w.number ∷ l) (numbers_same more)

-- a variable of a process that can be built is one that its statements assign
pub variable_met : (is_combinational : Bool) (steps : Steps) (k : ℕ) → CanBeBuilt is_combinational steps → Contains (variables steps) k → Contains (map (λ (w : Write). w.number) (writes (sound steps))) k
variable_met is_combinational steps k fit c =
    let ws = writes (sound steps) in
    subst (λ (l : List ℕ). Contains l k) (numbers_same ws) (among_all [] (map target_of ws) k (subst (λ (l : List ℕ). Contains l k) (sym fit.numbers) c))

-- What an item means.

pub none_not : {A : Type 0} (x : A) → Some x ≡ None → ⊥
none_not x e = cc

signal_same : (p q : Written) → Some p ≡ Some q → p.signal ≡ q.signal
signal_same p q e = ap (λ (x : Written). x.signal) (some_same p q e)

-- the places of a port are its own
pub port_is : (k i n j b : ℕ) → Contains (places_from k i n) (Some (record { signal = j; bit = b })) → k ≡ j
port_is k i zero j b c = absurd (has_none (Some (record { signal = j; bit = b })) c)
port_is k i (suc n) j b c = elim (has_cases (places_from k (suc i) n) (Some (record { signal = k; bit = i })) (Some (record { signal = j; bit = b })) c) [
  | inl e ↦ signal_same (record { signal = k; bit = i }) (record { signal = j; bit = b }) e
  | inr m ↦ port_is k (suc i) n j b m
]

pub not_refused : (x : Option Refusal) (xs : List Refusal) → IsFirst xs x → None ≡ option_map Found x → xs ≡ []
not_refused None xs h e = h
not_refused (Some r) xs h e = cc
