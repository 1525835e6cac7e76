-- Known values of what a gate reads make one of its clauses unit, and the miter's clauses name its variables alone.
use Rattle.gate_clauses.proofs.Common.{◌≡◌, ◌≢◌, ℕ, zero, suc, ◌+◌, ◌^◌, ◌<◌, ◌≤◌, ◌⊎◌, inl, inr, Bool, true, false, not, List, [], ◌∷◌, ◌++◌, length, refl, ap, subst, arith, ℤ, pos, negsuc, neg_ℤ}
use Rattle.gate_clauses.proofs.Common.{All, Option, Some, None, option_map, sum_by, eqb, length-append, append_assoc, sum_by-append, variable, AreOver, Gate, And, Xor, Mux, GateLit, Fixed, Var, Gates}
use Rattle.gate_clauses.proofs.Common.{count, IsLiteral, IsLit, Reads, AreOrdered, literal-neg, gate_clauses, clauses_from, has_one, open_lits, one_true, miter_clauses}
use Rattle.std.proofs.lemmas.List.Elements.{All-append}
use Rattle.std.proofs.lemmas.Bool.Decides.{eqb_tells}
use Rattle.clause_store.specs.Propagation.{Known, literal, IsQuiet}
use Rattle.clause_encoder.specs.Miters.{IsMiter}
use Rattle.gate_clauses.proofs.Pushing.{clauses-few, open-few}

known-neg : (known : Known) (l : ℤ) → 0 < variable l → literal known (neg_ℤ l) ≡ option_map not (literal known l)
known-neg known (pos zero) some = absurd (omega (arith, some))
known-neg known (pos (suc n)) some = refl
known-neg known (negsuc n) some = by (known (suc n)) refl where
  by : (o : Option Bool) → known (suc n) ≡ o → known (suc n) ≡ option_map not (option_map not (known (suc n)))
  by None is = rw is refl
  by (Some true) is = rw is refl
  by (Some false) is = rw is refl

-- a literal of a variable that has a value
known-lit : (known : Known) (l : ℤ) → known (variable l) ≢ None → (b : Bool) × (literal known l ≡ Some b)
known-lit known (pos n) has = by (known n) refl where
  by : (o : Option Bool) → known n ≡ o → (b : Bool) × (known n ≡ Some b)
  by None is = absurd (has is)
  by (Some b) is = (b, is)
known-lit known (negsuc n) has = by (known (suc n)) refl where
  by : (o : Option Bool) → known (suc n) ≡ o → (b : Bool) × (option_map not (known (suc n)) ≡ Some b)
  by None is = absurd (has is)
  by (Some b) is = (not b, ap (option_map not) is)

all-cons : {X : Type 0} (P : X → Type 0) (x : X) (xs : List X) → P x → All P xs → All P (x ∷ xs)
all-cons P x xs here rest zero d within = here
all-cons P x xs here rest (suc k) d within = rest k d (omega (arith, within))

all-nil : {X : Type 0} (P : X → Type 0) → All P []
all-nil P k d within = absurd (omega (arith, within))

all-two : {X : Type 0} (P : X → Type 0) (a b : X) → P a → P b → All P (a ∷ b ∷ [])
all-two P a b x y = all-cons P a (b ∷ []) x (all-cons P b [] y (all-nil P))

all-three : {X : Type 0} (P : X → Type 0) (a b c : X) → P a → P b → P c → All P (a ∷ b ∷ c ∷ [])
all-three P a b c x y z = all-cons P a (b ∷ c ∷ []) x (all-two P b c y z)

all-four : {X : Type 0} (P : X → Type 0) (a b c e : X) → P a → P b → P c → P e → All P (a ∷ b ∷ c ∷ e ∷ [])
all-four P a b c e x y z w = all-cons P a (b ∷ c ∷ e ∷ []) x (all-three P b c e y z w)

tail-of : {X : Type 0} (P : X → Type 0) (x : X) (xs : List X) → All P (x ∷ xs) → All P xs
tail-of P x xs all k d within = all (suc k) d (omega (arith, within))

right-of : {X : Type 0} (P : X → Type 0) (xs ys : List X) → All P (xs ++ ys) → All P ys
right-of P [] ys all = all
right-of P (x ∷ xs) ys all = right-of P xs ys (tail-of P x (xs ++ ys) all)

-- the gate's clauses are not all quiet where its inputs have values and its variable has none
and-settles : (known : Known) (y : ℕ) (a b : ℤ) (rest : List (List ℤ)) → 0 < y → 0 < variable a → 0 < variable b → known y ≡ None → (p q : Bool) → literal known a ≡ Some p → literal known b ≡ Some q → All (IsQuiet known) (gate_clauses (pos y) (And a b) ++ rest) → ⊥
and-settles known y a b rest y-some a-some b-some open_ false q a-is b-is quiet = (quiet 0 [] (omega arith)).not_unit (neg_ℤ (pos y)) (record { alone = rw (known-neg known (pos y) y-some, open_, a-is) refl; open_ = rw (known-neg known (pos y) y-some, open_) refl })
and-settles known y a b rest y-some a-some b-some open_ true false a-is b-is quiet = (quiet 1 [] (omega arith)).not_unit (neg_ℤ (pos y)) (record { alone = rw (known-neg known (pos y) y-some, open_, b-is) refl; open_ = rw (known-neg known (pos y) y-some, open_) refl })
and-settles known y a b rest y-some a-some b-some open_ true true a-is b-is quiet = (quiet 2 [] (omega arith)).not_unit (pos y) (record { alone = rw (open_, known-neg known a a-some, known-neg known b b-some, a-is, b-is) refl; open_ = open_ })

xor-settles : (known : Known) (y : ℕ) (a b : ℤ) (rest : List (List ℤ)) → 0 < y → 0 < variable a → 0 < variable b → known y ≡ None → (p q : Bool) → literal known a ≡ Some p → literal known b ≡ Some q → All (IsQuiet known) (gate_clauses (pos y) (Xor a b) ++ rest) → ⊥
xor-settles known y a b rest y-some a-some b-some open_ false false a-is b-is quiet = (quiet 0 [] (omega arith)).not_unit (neg_ℤ (pos y)) (record { alone = rw (known-neg known (pos y) y-some, open_, a-is, b-is) refl; open_ = rw (known-neg known (pos y) y-some, open_) refl })
xor-settles known y a b rest y-some a-some b-some open_ true true a-is b-is quiet = (quiet 1 [] (omega arith)).not_unit (neg_ℤ (pos y)) (record { alone = rw (known-neg known (pos y) y-some, open_, known-neg known a a-some, known-neg known b b-some, a-is, b-is) refl; open_ = rw (known-neg known (pos y) y-some, open_) refl })
xor-settles known y a b rest y-some a-some b-some open_ true false a-is b-is quiet = (quiet 2 [] (omega arith)).not_unit (pos y) (record { alone = rw (open_, known-neg known a a-some, a-is, b-is) refl; open_ = open_ })
xor-settles known y a b rest y-some a-some b-some open_ false true a-is b-is quiet = (quiet 3 [] (omega arith)).not_unit (pos y) (record { alone = rw (open_, known-neg known b b-some, a-is, b-is) refl; open_ = open_ })

mux-settles : (known : Known) (y : ℕ) (s a b : ℤ) (rest : List (List ℤ)) → 0 < y → 0 < variable s → 0 < variable a → 0 < variable b → known y ≡ None → (o p q : Bool) → literal known s ≡ Some o → literal known a ≡ Some p → literal known b ≡ Some q → All (IsQuiet known) (gate_clauses (pos y) (Mux s a b) ++ rest) → ⊥
mux-settles known y s a b rest y-some s-some a-some b-some open_ true p true s-is a-is b-is quiet = (quiet 0 [] (omega arith)).not_unit (pos y) (record { alone = rw (open_, known-neg known s s-some, known-neg known b b-some, s-is, b-is) refl; open_ = open_ })
mux-settles known y s a b rest y-some s-some a-some b-some open_ true p false s-is a-is b-is quiet = (quiet 1 [] (omega arith)).not_unit (neg_ℤ (pos y)) (record { alone = rw (known-neg known (pos y) y-some, open_, known-neg known s s-some, s-is, b-is) refl; open_ = rw (known-neg known (pos y) y-some, open_) refl })
mux-settles known y s a b rest y-some s-some a-some b-some open_ false true q s-is a-is b-is quiet = (quiet 2 [] (omega arith)).not_unit (pos y) (record { alone = rw (open_, known-neg known a a-some, s-is, a-is) refl; open_ = open_ })
mux-settles known y s a b rest y-some s-some a-some b-some open_ false false q s-is a-is b-is quiet = (quiet 3 [] (omega arith)).not_unit (neg_ℤ (pos y)) (record { alone = rw (known-neg known (pos y) y-some, open_, s-is, a-is) refl; open_ = rw (known-neg known (pos y) y-some, open_) refl })

-- what is read has values where all lesser variables have
has-value : (known : Known) (most : ℕ) (l : ℤ) → IsLiteral most l → ((w : ℕ) → 0 < w → w < suc most → known w ≢ None) → (b : Bool) × (literal known l ≡ Some b)
has-value known most l is lesser = known-lit known l (lesser (variable l) is.0 (omega (arith, is.1)))

gate-settles : (known : Known) (most : ℕ) (gate : Gate) (rest : List (List ℤ)) → Reads most gate → ((w : ℕ) → 0 < w → w < suc most → known w ≢ None) → known (suc most) ≡ None → All (IsQuiet known) (gate_clauses (pos (suc most)) gate ++ rest) → ⊥
gate-settles known most (And a b) rest reads lesser open_ quiet =
    let first = has-value known most a reads.0 lesser in
    let second = has-value known most b reads.1 lesser in
    and-settles known (suc most) a b rest (omega arith) reads.0.0 reads.1.0 open_ first.0 second.0 first.1 second.1 quiet
gate-settles known most (Xor a b) rest reads lesser open_ quiet =
    let first = has-value known most a reads.0 lesser in
    let second = has-value known most b reads.1 lesser in
    xor-settles known (suc most) a b rest (omega arith) reads.0.0 reads.1.0 open_ first.0 second.0 first.1 second.1 quiet
gate-settles known most (Mux s a b) rest reads lesser open_ quiet =
    let select = has-value known most s reads.0 lesser in
    let first = has-value known most a reads.1 lesser in
    let second = has-value known most b reads.2 lesser in
    mux-settles known (suc most) s a b rest (omega arith) reads.0.0 reads.1.0 reads.2.0 open_ select.0 first.0 second.0 select.1 first.1 second.1 quiet

above-next : (v most : ℕ) → most < v → v ≢ suc most → suc most < v
above-next v most above other = by (eqb_tells v (suc most)) where
  by : ((eqb v (suc most) ≡ true) × (v ≡ suc most)) ⊎ ((eqb v (suc most) ≡ false) × (v ≢ suc most)) → suc most < v
  by (inl is) = absurd (other is.1)
  by (inr is) = omega (arith, above, is.1)

from-settles : (known : Known) (most : ℕ) (gates : List Gate) (rest : List (List ℤ)) (v : ℕ) → AreOrdered most gates → most < v → v ≤ most + length gates → ((w : ℕ) → 0 < w → w < v → known w ≢ None) → known v ≡ None → All (IsQuiet known) (clauses_from (suc most) gates ++ rest) → ⊥
from-settles known most [] rest v ordered above within lesser open_ quiet = absurd (omega (arith, above, within))
from-settles known most (gate ∷ more) rest v ordered above within lesser open_ quiet =
    by (from-settles known (suc most) more rest v ordered.1) (subst (All (IsQuiet known)) (append_assoc (gate_clauses (pos (suc most)) gate) (clauses_from (suc (suc most)) more) rest) quiet) (eqb_tells v (suc most)) where
      by : (suc most < v → v ≤ suc most + length more → ((w : ℕ) → 0 < w → w < v → known w ≢ None) → known v ≡ None → All (IsQuiet known) (clauses_from (suc (suc most)) more ++ rest) → ⊥) → All (IsQuiet known) (gate_clauses (pos (suc most)) gate ++ (clauses_from (suc (suc most)) more ++ rest)) → ((eqb v (suc most) ≡ true) × (v ≡ suc most)) ⊎ ((eqb v (suc most) ≡ false) × (v ≢ suc most)) → ⊥
      by go all (inl here) = gate-settles known most gate (clauses_from (suc (suc most)) more ++ rest) ordered.0 (λ w some less. lesser w some (omega (arith, less, here.1))) (subst (λ n. known n ≡ None) here.1 open_) all
      by go all (inr other) = go (above-next v most above other.1) (omega (arith, within)) lesser open_ (right-of (IsQuiet known) (gate_clauses (pos (suc most)) gate) (clauses_from (suc (suc most)) more ++ rest) all)

literal-most : (most more : ℕ) (l : ℤ) → most ≤ more → IsLiteral most l → IsLiteral more l
literal-most most more l le is = (is.0, omega (arith, is.1, le))

gate-over : (total y most : ℕ) (gate : Gate) → 0 < y → y ≤ total → most ≤ total → Reads most gate → AreOver total (gate_clauses (pos y) gate)
gate-over total y most (And a b) some within le reads =
    let out : IsLiteral total (pos y) = (some, within) in
    let first : IsLiteral total a = literal-most most total a le reads.0 in
    let second : IsLiteral total b = literal-most most total b le reads.1 in
    let L = IsLiteral total in
    all-three (All L) (neg_ℤ (pos y) ∷ a ∷ []) (neg_ℤ (pos y) ∷ b ∷ []) (pos y ∷ neg_ℤ a ∷ neg_ℤ b ∷ [])
    (all-two L (neg_ℤ (pos y)) a (literal-neg total (pos y) out) first)
    (all-two L (neg_ℤ (pos y)) b (literal-neg total (pos y) out) second)
    (all-three L (pos y) (neg_ℤ a) (neg_ℤ b) out (literal-neg total a first) (literal-neg total b second))
gate-over total y most (Xor a b) some within le reads =
    let out : IsLiteral total (pos y) = (some, within) in
    let first : IsLiteral total a = literal-most most total a le reads.0 in
    let second : IsLiteral total b = literal-most most total b le reads.1 in
    let L = IsLiteral total in
    all-four (All L) (neg_ℤ (pos y) ∷ a ∷ b ∷ []) (neg_ℤ (pos y) ∷ neg_ℤ a ∷ neg_ℤ b ∷ []) (pos y ∷ neg_ℤ a ∷ b ∷ []) (pos y ∷ a ∷ neg_ℤ b ∷ [])
    (all-three L (neg_ℤ (pos y)) a b (literal-neg total (pos y) out) first second)
    (all-three L (neg_ℤ (pos y)) (neg_ℤ a) (neg_ℤ b) (literal-neg total (pos y) out) (literal-neg total a first) (literal-neg total b second))
    (all-three L (pos y) (neg_ℤ a) b out (literal-neg total a first) second)
    (all-three L (pos y) a (neg_ℤ b) out first (literal-neg total b second))
gate-over total y most (Mux s a b) some within le reads =
    let out : IsLiteral total (pos y) = (some, within) in
    let select : IsLiteral total s = literal-most most total s le reads.0 in
    let first : IsLiteral total a = literal-most most total a le reads.1 in
    let second : IsLiteral total b = literal-most most total b le reads.2 in
    let L = IsLiteral total in
    all-four (All L) (neg_ℤ s ∷ neg_ℤ b ∷ pos y ∷ []) (neg_ℤ s ∷ b ∷ neg_ℤ (pos y) ∷ []) (s ∷ neg_ℤ a ∷ pos y ∷ []) (s ∷ a ∷ neg_ℤ (pos y) ∷ [])
    (all-three L (neg_ℤ s) (neg_ℤ b) (pos y) (literal-neg total s select) (literal-neg total b second) out)
    (all-three L (neg_ℤ s) b (neg_ℤ (pos y)) (literal-neg total s select) second (literal-neg total (pos y) out))
    (all-three L s (neg_ℤ a) (pos y) select (literal-neg total a first) out)
    (all-three L s a (neg_ℤ (pos y)) select first (literal-neg total (pos y) out))

from-over : (total most : ℕ) (gates : List Gate) → AreOrdered most gates → most + length gates ≤ total → AreOver total (clauses_from (suc most) gates)
from-over total most [] ordered within = all-nil (All (IsLiteral total))
from-over total most (gate ∷ more) ordered within = All-append (All (IsLiteral total)) (gate_clauses (pos (suc most)) gate) (clauses_from (suc (suc most)) more) (gate-over total (suc most) most gate (omega arith) (omega (arith, within)) (omega (arith, within)) ordered.0) (from-over total (suc most) more ordered.1 (omega (arith, within)))

open-over : (total : ℕ) (lits : List GateLit) → All (IsLit total) lits → All (IsLiteral total) (open_lits lits)
open-over total [] over = all-nil (IsLiteral total)
open-over total (Fixed b ∷ more) over = open-over total more (tail-of (IsLit total) (Fixed b) more over)
open-over total (Var l ∷ more) over = all-cons (IsLiteral total) l (open_lits more) (over 0 (Var l) (omega arith)) (open-over total more (tail-of (IsLit total) (Var l) more over))

one-over : (total : ℕ) (lits : List GateLit) → All (IsLit total) lits → AreOver total (one_true lits)
one-over total lits over = by (has_one lits) refl where
  by : (b : Bool) → has_one lits ≡ b → AreOver total (one_true lits)
  by true is = rw is (all-nil (All (IsLiteral total)))
  by false is = rw is (all-cons (All (IsLiteral total)) (open_lits lits) [] (open-over total lits over) (all-nil (All (IsLiteral total))))

one-few : (lits : List GateLit) → (length (one_true lits) ≤ 1) × (sum_by length (one_true lits) ≤ length lits)
one-few lits = by (has_one lits) refl where
  by : (b : Bool) → has_one lits ≡ b → (length (one_true lits) ≤ 1) × (sum_by length (one_true lits) ≤ length lits)
  by true is = rw is (omega arith, omega arith)
  by false is = rw is (omega arith, omega (arith, open-few lits))

pub is-miter : (gates : Gates) (lits : List GateLit) → gates.free ≤ 2048 → length gates.made ≤ 1310720 → length lits ≤ 2 ^ 21 → AreOrdered gates.free gates.made → All (IsLit (count gates)) lits → IsMiter (miter_clauses gates lits) (count gates) gates.free
is-miter gates lits few-free few-gates few-lits ordered over =
    let few = clauses-few (suc gates.free) gates.made in
    let last = one-few lits in
    record {
      over = All-append (All (IsLiteral (count gates))) (clauses_from (suc gates.free) gates.made) (one_true lits) (from-over (count gates) gates.free gates.made ordered (omega arith)) (one-over (count gates) lits over);
      free_within = omega arith;
      few_free = few-free;
      few_variables = omega (arith, few-free, few-gates);
      few_clauses = simp (length-append) (omega (arith, few.0, last.0, few-gates));
      few_literals = rw (sum_by-append length (clauses_from (suc gates.free) gates.made) (one_true lits)) (omega (arith, few.1, last.1, few-gates, few-lits));
      settles = λ known v above within lesser open_ quiet. from-settles known gates.free gates.made (one_true lits) v ordered above within lesser open_ quiet;
    }
