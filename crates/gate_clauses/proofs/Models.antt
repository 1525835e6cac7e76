-- The clauses of gates are true exactly where the gates hold.
use Rattle.gate_clauses.proofs.Common.{◌≡◌, ℕ, suc, ◌<◌, ◌⊎◌, inl, inr, Bool, true, false, not, ◌&&◌, ◌||◌, List, [], ◌∷◌, refl, sym, ◌∙◌, arith, true≢false, ℤ, pos, if◌then◌else◌, ◌↔◌}
use Rattle.gate_clauses.proofs.Common.{AllPass-from_list_all, list_all-from_AllPass, Values, value, IsModel, Gate, And, Xor, Mux, GateLit, Fixed, Var, Gates, Reads, AreOrdered, gate_value, HoldFrom}
use Rattle.gate_clauses.proofs.Common.{Hold, value-neg, gate_clauses, clauses_from, has_one, open_lits, one_true, miter_clauses, IsSome}
use Rattle.std.specs.List.{list_any, list_all}
use Rattle.std.proofs.lemmas.List.Folds.{list_all-append}
use Rattle.std.proofs.lemmas.Bool.{or_cases, or_left, or_right}
use Rattle.gate_list.proofs.Same.{both}

-- whether every clause is true
abbrev all_true : Values → List (List ℤ) → Bool
all_true values clauses = list_all (list_any (value values)) clauses

abbrev same : Bool → Bool → Bool
same a b = if a then b else not b

same-equal : (a b : Bool) → same a b ≡ true → a ≡ b
same-equal true true e = refl
same-equal true false e = absurd (true≢false (sym e))
same-equal false true e = absurd (true≢false (sym e))
same-equal false false e = refl

equal-same : (a b : Bool) → a ≡ b → same a b ≡ true
equal-same true true e = refl
equal-same true false e = absurd (true≢false e)
equal-same false true e = absurd (true≢false (sym e))
equal-same false false e = refl

joined : (a b : Bool) → a ≡ true → b ≡ true → (a && b) ≡ true
joined true true p q = refl
joined true false p q = absurd (true≢false (sym q))
joined false b p q = absurd (true≢false (sym p))

and-table : (y a b : Bool) → ((not y || (a || false)) && ((not y || (b || false)) && ((y || (not a || (not b || false))) && true))) ≡ same y (if a then b else false)
and-table true true true = refl
and-table true true false = refl
and-table true false true = refl
and-table true false false = refl
and-table false true true = refl
and-table false true false = refl
and-table false false true = refl
and-table false false false = refl

xor-table : (y a b : Bool) → ((not y || (a || (b || false))) && ((not y || (not a || (not b || false))) && ((y || (not a || (b || false))) && ((y || (a || (not b || false))) && true)))) ≡ same y (if a then not b else b)
xor-table true true true = refl
xor-table true true false = refl
xor-table true false true = refl
xor-table true false false = refl
xor-table false true true = refl
xor-table false true false = refl
xor-table false false true = refl
xor-table false false false = refl

mux-table : (y s a b : Bool) → ((not s || (not b || (y || false))) && ((not s || (b || (not y || false))) && ((s || (not a || (y || false))) && ((s || (a || (not y || false))) && true)))) ≡ same y (if s then b else a)
mux-table true true true true = refl
mux-table true true true false = refl
mux-table true true false true = refl
mux-table true true false false = refl
mux-table true false true true = refl
mux-table true false true false = refl
mux-table true false false true = refl
mux-table true false false false = refl
mux-table false true true true = refl
mux-table false true true false = refl
mux-table false true false true = refl
mux-table false true false false = refl
mux-table false false true true = refl
mux-table false false true false = refl
mux-table false false false true = refl
mux-table false false false false = refl

gate-test : (values : Values) (y most : ℕ) (gate : Gate) → 0 < y → Reads most gate → all_true values (gate_clauses (pos y) gate) ≡ same (values y) (gate_value values gate)
gate-test values y most (And a b) some reads = rw (value-neg values (pos y) some, value-neg values a reads.0.0, value-neg values b reads.1.0) (and-table (values y) (value values a) (value values b))
gate-test values y most (Xor a b) some reads = rw (value-neg values (pos y) some, value-neg values a reads.0.0, value-neg values b reads.1.0) (xor-table (values y) (value values a) (value values b))
gate-test values y most (Mux s a b) some reads = rw (value-neg values (pos y) some, value-neg values s reads.0.0, value-neg values a reads.1.0, value-neg values b reads.2.0) (mux-table (values y) (value values s) (value values a) (value values b))

holds-from : (values : Values) (next most : ℕ) (gates : List Gate) → 0 < next → AreOrdered most gates → all_true values (clauses_from next gates) ≡ true → HoldFrom next gates values
holds-from values next most [] some ordered e = tt
holds-from values next most (gate ∷ more) some ordered e =
    let parts : (all_true values (gate_clauses (pos next) gate) ≡ true) × (all_true values (clauses_from (suc next) more) ≡ true) = both (all_true values (gate_clauses (pos next) gate)) (all_true values (clauses_from (suc next) more)) (sym (list_all-append (list_any (value values)) (gate_clauses (pos next) gate) (clauses_from (suc next) more)) ∙ e) in
    (same-equal (values next) (gate_value values gate) (sym (gate-test values next most gate some ordered.0) ∙ parts.0), holds-from values (suc next) (suc most) more (omega arith) ordered.1 parts.1)

from-holds : (values : Values) (next most : ℕ) (gates : List Gate) → 0 < next → AreOrdered most gates → HoldFrom next gates values → all_true values (clauses_from next gates) ≡ true
from-holds values next most [] some ordered holds = refl
from-holds values next most (gate ∷ more) some ordered holds =
    list_all-append (list_any (value values)) (gate_clauses (pos next) gate) (clauses_from (suc next) more)
    ∙ joined (all_true values (gate_clauses (pos next) gate)) (all_true values (clauses_from (suc next) more))
    (gate-test values next most gate some ordered.0 ∙ equal-same (values next) (gate_value values gate) holds.0)
    (from-holds values (suc next) (suc most) more (omega arith) ordered.1 holds.1)

one-some : (values : Values) (lits : List GateLit) → has_one lits ≡ true → IsSome values lits
one-some values [] e = absurd (true≢false (sym e))
one-some values (Fixed true ∷ more) e = inl refl
one-some values (Fixed false ∷ more) e = inr (one-some values more e)
one-some values (Var l ∷ more) e = inr (one-some values more e)

some-of : (values : Values) (l : ℤ) (more : List GateLit) → (list_any (value values) (open_lits more) ≡ true → IsSome values more) → (value values l ≡ true) ⊎ (list_any (value values) (open_lits more) ≡ true) → IsSome values (Var l ∷ more)
some-of values l more rest (inl e) = inl e
some-of values l more rest (inr e) = inr (rest e)

open-some : (values : Values) (lits : List GateLit) → list_any (value values) (open_lits lits) ≡ true → IsSome values lits
open-some values [] e = absurd (true≢false (sym e))
open-some values (Fixed b ∷ more) e = inr (open-some values more e)
open-some values (Var l ∷ more) e = some-of values l more (open-some values more) (or_cases (value values l) (list_any (value values) (open_lits more)) e)

some-open : (values : Values) (lits : List GateLit) → has_one lits ≡ false → IsSome values lits → list_any (value values) (open_lits lits) ≡ true
some-open values [] none some = absurd some
some-open values (Fixed true ∷ more) none some = absurd (true≢false none)
some-open values (Fixed false ∷ more) none (inl e) = absurd (true≢false (sym e))
some-open values (Fixed false ∷ more) none (inr rest) = some-open values more none rest
some-open values (Var l ∷ more) none (inl e) = or_left (value values l) (list_any (value values) (open_lits more)) e
some-open values (Var l ∷ more) none (inr rest) = or_right (value values l) (list_any (value values) (open_lits more)) (some-open values more none rest)

and-one : (b : Bool) → (b && true) ≡ b
and-one true = refl
and-one false = refl

one-out : (values : Values) (lits : List GateLit) → all_true values (one_true lits) ≡ true → IsSome values lits
one-out values lits e = by (has_one lits) refl where
  by : (b : Bool) → has_one lits ≡ b → IsSome values lits
  by true is = one-some values lits is
  by false is = open-some values lits (sym (and-one (list_any (value values) (open_lits lits))) ∙ (sym (rw is refl) ∙ e))

one-in : (values : Values) (lits : List GateLit) → IsSome values lits → all_true values (one_true lits) ≡ true
one-in values lits some = by (has_one lits) refl where
  by : (b : Bool) → has_one lits ≡ b → all_true values (one_true lits) ≡ true
  by true is = rw is refl
  by false is = rw is (and-one (list_any (value values) (open_lits lits)) ∙ some-open values lits is some)

-- the clauses of a miter have the models in which its gates hold and one of its literals is true
pub models-are : (values : Values) (gates : Gates) (lits : List GateLit) → AreOrdered gates.free gates.made → IsModel values (miter_clauses gates lits) ↔ (Hold gates values × IsSome values lits)
models-are values gates lits ordered = (out, in_) where
  whole : all_true values (miter_clauses gates lits) ≡ (all_true values (clauses_from (suc gates.free) gates.made) && all_true values (one_true lits))
  whole = list_all-append (list_any (value values)) (clauses_from (suc gates.free) gates.made) (one_true lits)

  out : IsModel values (miter_clauses gates lits) → Hold gates values × IsSome values lits
  out model =
      let parts : (all_true values (clauses_from (suc gates.free) gates.made) ≡ true) × (all_true values (one_true lits) ≡ true) = both (all_true values (clauses_from (suc gates.free) gates.made)) (all_true values (one_true lits)) (sym whole ∙ list_all-from_AllPass (list_any (value values)) (miter_clauses gates lits) model) in
      (holds-from values (suc gates.free) gates.free gates.made (omega arith) ordered parts.0, one-out values lits parts.1)

  in_ : Hold gates values × IsSome values lits → IsModel values (miter_clauses gates lits)
  in_ both-hold = AllPass-from_list_all (list_any (value values)) (miter_clauses gates lits) (whole ∙ joined (all_true values (clauses_from (suc gates.free) gates.made)) (all_true values (one_true lits)) (from-holds values (suc gates.free) gates.free gates.made (omega arith) ordered both-hold.0) (one-in values lits both-hold.1))
