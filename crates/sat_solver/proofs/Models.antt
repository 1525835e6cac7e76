-- A quiet trail under which no free bit is open gives a model.
use Rattle.sat_solver.proofs.Common.{◌≡◌, ◌≢◌, ℕ, zero, suc, ◌+◌, ◌<◌, ◌≤◌, Bool, true, false, not, ◌||◌, List, [], ◌∷◌, ◌++◌, length, get_or, ℤ, pos, negsuc, Option, Some, None, option_map, refl}
use Rattle.sat_solver.proofs.Common.{inl, inr, subst, arith, All, leb_tells, All-head, All-tail, variable, value, IsModel, AreOver, Known, literal, is_some_false, left, IsQuiet, is_some_true}
use Rattle.sat_solver.proofs.Common.{values_of}
use Rattle.std.specs.List.{list_any}
use Rattle.clause_encoder.specs.Miters.{Settles}

-- where the free bits have values and nothing is false or unit, all variables have values
pub settled : (clauses : List (List ℤ)) (variables free : ℕ) (known : Known) → Settles clauses variables free → All (IsQuiet known) clauses → ((v : ℕ) → 0 < v → v ≤ free → known v ≢ None) → (n v : ℕ) → v < n → 0 < v → v ≤ variables → known v ≢ None
settled clauses variables free known settles quiet bits zero v h low high = absurd (omega (arith, h))
settled clauses variables free known settles quiet bits (suc n) v h low high = elim (leb_tells v free) [
  | inl bit ↦ bits v low bit.1
  | inr other ↦ λ open_. settles known v other.1 high (λ w pos_ less. settled clauses variables free known settles quiet bits n w (omega (arith, less, h)) pos_ (omega (arith, less, high))) open_ quiet
]

-- a literal with a value is false where its value under these values is
literal-value : (known : Known) (l : ℤ) → known (variable l) ≢ None → value (values_of known) l ≡ false → is_some_false (literal known l) ≡ true
literal-value known (pos n) h e = at (known n) h e where
  at : (o : Option Bool) → o ≢ None → is_some_true o ≡ false → is_some_false o ≡ true
  at None h e = absurd (h refl)
  at (Some true) h e = cc
  at (Some false) h e = refl
literal-value known (negsuc n) h e = at (known (suc n)) h e where
  at : (o : Option Bool) → o ≢ None → not (is_some_true o) ≡ false → is_some_false (option_map not o) ≡ true
  at None h e = absurd (h refl)
  at (Some true) h e = refl
  at (Some false) h e = cc

none-left : (known : Known) (clause : List ℤ) → All (λ l. known (variable l) ≢ None) clause → list_any (value (values_of known)) clause ≡ false → left known clause ≡ []
none-left known [] all e = refl
none-left known (l ∷ more) all e =
    let P : ℤ → Type 0 = λ m. known (variable m) ≢ None in
    let parts : (value (values_of known) l ≡ false) × (list_any (value (values_of known)) more ≡ false) = split (value (values_of known) l) (list_any (value (values_of known)) more) e in
    rw (literal-value known l (All-head P l more all) parts.0) (none-left known more (All-tail P l more all) parts.1) where
      split : (a b : Bool) → (a || b) ≡ false → (a ≡ false) × (b ≡ false)
      split true b e = (e, let wrong : true ≡ false = e in cc)
      split false b e = (refl, e)

pub model-by_quiet : (clauses : List (List ℤ)) (variables : ℕ) (known : Known) → AreOver variables clauses → ((v : ℕ) → 0 < v → v ≤ variables → known v ≢ None) → All (IsQuiet known) clauses → IsModel (values_of known) clauses
model-by_quiet clauses variables known over all quiet k d h =
    let clause : List ℤ = get_or clauses k d in
    let named : All (λ l. known (variable l) ≢ None) (get_or clauses k d) = λ i e within. (let range = over k d h i e within in all (variable (get_or (get_or clauses k d) i e)) range.0 range.1) in
    let P : Bool → Type 0 = λ b. list_any (value (values_of known)) (get_or clauses k d) ≡ b → b ≡ true in
    elim (list_any (value (values_of known)) (get_or clauses k d)) as P [
      | true ↦ λ e. refl
      | false ↦ λ e. absurd ((quiet k d h).not_false (none-left known (get_or clauses k d) named e))
    ] refl

pub quiet-left : (known : Known) (clauses lemmas : List (List ℤ)) → All (IsQuiet known) (clauses ++ lemmas) → All (IsQuiet known) clauses
quiet-left known clauses lemmas all k d h =
    let longer : k < length (clauses ++ lemmas) = (let e : length (clauses ++ lemmas) ≡ length clauses + length lemmas = Rattle.std.proofs.Common.length-append clauses lemmas in omega (arith, h, e)) in
    let P : List ℤ → Type 0 = IsQuiet known in
    subst P (Rattle.std.proofs.lemmas.List.get_or_append_left clauses lemmas d k h) (all k d longer)
