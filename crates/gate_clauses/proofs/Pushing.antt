-- Clauses pushed one after the other.
use Rattle.gate_clauses.proofs.Common.{◌≡◌, ℕ, zero, suc, ◌+◌, ◌*◌, ◌<◌, ◌≤◌, List, [], ◌∷◌, ◌++◌, length, get_or, take, refl, ap, sym, arith, sum_by, ℤ, pos, neg_ℤ, append_assoc, length-append}
use Rattle.gate_clauses.proofs.Common.{append-nil, take_more, length-take, sum_by-append, Gate, And, Xor, Mux, Reads, AreOrdered, GateLit, Fixed, Var, gate_clauses, clauses_from, open_lits}

pub pushed_three : (a b c d : List (List ℤ)) (x y z : List ℤ) → b ≡ a ++ x ∷ [] → c ≡ b ++ y ∷ [] → d ≡ c ++ z ∷ [] → d ≡ a ++ x ∷ y ∷ z ∷ []
pushed_three a b c d x y z first second third = rw (third, second, first, append_assoc (a ++ x ∷ []) (y ∷ []) (z ∷ []), append_assoc a (x ∷ []) (y ∷ z ∷ [])) refl

pub pushed_four : (a b c d e : List (List ℤ)) (x y z w : List ℤ) → b ≡ a ++ x ∷ [] → c ≡ b ++ y ∷ [] → d ≡ c ++ z ∷ [] → e ≡ d ++ w ∷ [] → e ≡ a ++ x ∷ y ∷ z ∷ w ∷ []
pushed_four a b c d e x y z w first second third fourth = rw (fourth, pushed_three a b c d x y z first second third, append_assoc a (x ∷ y ∷ z ∷ []) (w ∷ [])) refl

-- one gate more
pub clauses-push : (next : ℕ) (gates : List Gate) (gate : Gate) → clauses_from next (gates ++ gate ∷ []) ≡ clauses_from next gates ++ gate_clauses (pos (next + length gates)) gate
clauses-push next [] gate = let e : next ≡ next + 0 = omega arith in rw (append-nil (gate_clauses (pos next) gate), ← e) refl
clauses-push next (first ∷ more) gate =
    let at : suc next + length more ≡ next + length (first ∷ more) = omega arith in
    rw (clauses-push (suc next) more gate, at, append_assoc (gate_clauses (pos next) first) (clauses_from (suc next) more) (gate_clauses (pos (next + length (first ∷ more))) gate)) refl

-- a gate has at most four clauses, of at most twelve literals together
gate-few : (y : ℤ) (gate : Gate) → (length (gate_clauses y gate) ≤ 4) × (sum_by length (gate_clauses y gate) ≤ 12)
gate-few y (And a b) = (omega arith, omega arith)
gate-few y (Xor a b) = (omega arith, omega arith)
gate-few y (Mux s a b) = (omega arith, omega arith)

pub clauses-few : (next : ℕ) (gates : List Gate) → (length (clauses_from next gates) ≤ 4 * length gates) × (sum_by length (clauses_from next gates) ≤ 12 * length gates)
clauses-few next [] = (omega arith, omega arith)
clauses-few next (gate ∷ more) =
    let one : (length (gate_clauses (pos next) gate) ≤ 4) × (sum_by length (gate_clauses (pos next) gate) ≤ 12) = gate-few (pos next) gate in
    let rest : (length (clauses_from (suc next) more) ≤ 4 * length more) × (sum_by length (clauses_from (suc next) more) ≤ 12 * length more) = clauses-few (suc next) more in
    (simp (length-append) (omega (arith, one.0, rest.0)), rw (sum_by-append length (gate_clauses (pos next) gate) (clauses_from (suc next) more)) (omega (arith, one.1, rest.1)))

-- gates in order read literals of 31 bits
pub reads-more : (most more : ℕ) (gate : Gate) → most ≤ more → Reads most gate → Reads more gate
reads-more most more (And a b) le reads = ((reads.0.0, omega (arith, reads.0.1, le)), (reads.1.0, omega (arith, reads.1.1, le)))
reads-more most more (Xor a b) le reads = ((reads.0.0, omega (arith, reads.0.1, le)), (reads.1.0, omega (arith, reads.1.1, le)))
reads-more most more (Mux s a b) le reads = ((reads.0.0, omega (arith, reads.0.1, le)), (reads.1.0, omega (arith, reads.1.1, le)), (reads.2.0, omega (arith, reads.2.1, le)))

pub ordered-at : (most : ℕ) (gates : List Gate) (i : ℕ) (d : Gate) → AreOrdered most gates → i < length gates → Reads (most + i) (get_or gates i d)
ordered-at most [] i d ordered within = absurd (omega (arith, within))
ordered-at most (gate ∷ more) zero d ordered within = reads-more most (most + 0) gate (omega arith) ordered.0
ordered-at most (gate ∷ more) (suc i) d ordered within = reads-more (suc most + i) (most + suc i) (get_or more i d) (omega arith) (ordered-at (suc most) more i d ordered.1 (omega (arith, within)))

pub and-pushed : (y a b oy oa ob ny na nb : ℤ) (s t u v : List (List ℤ)) → oy ≡ y → oa ≡ a → ob ≡ b → ny ≡ neg_ℤ y → na ≡ neg_ℤ a → nb ≡ neg_ℤ b → t ≡ s ++ (ny ∷ oa ∷ []) ∷ [] → u ≡ t ++ (ny ∷ ob ∷ []) ∷ [] → v ≡ u ++ (oy ∷ na ∷ nb ∷ []) ∷ [] → v ≡ s ++ gate_clauses y (And a b)
and-pushed y a b oy oa ob ny na nb s t u v y-is a-is b-is y-not a-not b-not first second third = rw (← y-not, ← a-not, ← b-not, ← y-is, ← a-is, ← b-is) (pushed_three s t u v (ny ∷ oa ∷ []) (ny ∷ ob ∷ []) (oy ∷ na ∷ nb ∷ []) first second third)

pub xor-pushed : (y a b oy oa ob ny na nb : ℤ) (s t u v w : List (List ℤ)) → oy ≡ y → oa ≡ a → ob ≡ b → ny ≡ neg_ℤ y → na ≡ neg_ℤ a → nb ≡ neg_ℤ b → t ≡ s ++ (ny ∷ oa ∷ ob ∷ []) ∷ [] → u ≡ t ++ (ny ∷ na ∷ nb ∷ []) ∷ [] → v ≡ u ++ (oy ∷ na ∷ ob ∷ []) ∷ [] → w ≡ v ++ (oy ∷ oa ∷ nb ∷ []) ∷ [] → w ≡ s ++ gate_clauses y (Xor a b)
xor-pushed y a b oy oa ob ny na nb s t u v w y-is a-is b-is y-not a-not b-not first second third fourth = rw (← y-not, ← a-not, ← b-not, ← y-is, ← a-is, ← b-is) (pushed_four s t u v w (ny ∷ oa ∷ ob ∷ []) (ny ∷ na ∷ nb ∷ []) (oy ∷ na ∷ ob ∷ []) (oy ∷ oa ∷ nb ∷ []) first second third fourth)

pub mux-pushed : (y c a b oy oc oa ob ny nc na nb : ℤ) (s t u v w : List (List ℤ)) → oy ≡ y → oc ≡ c → oa ≡ a → ob ≡ b → ny ≡ neg_ℤ y → nc ≡ neg_ℤ c → na ≡ neg_ℤ a → nb ≡ neg_ℤ b → t ≡ s ++ (nc ∷ nb ∷ oy ∷ []) ∷ [] → u ≡ t ++ (nc ∷ ob ∷ ny ∷ []) ∷ [] → v ≡ u ++ (oc ∷ na ∷ oy ∷ []) ∷ [] → w ≡ v ++ (oc ∷ oa ∷ ny ∷ []) ∷ [] → w ≡ s ++ gate_clauses y (Mux c a b)
mux-pushed y c a b oy oc oa ob ny nc na nb s t u v w y-is c-is a-is b-is y-not c-not a-not b-not first second third fourth = rw (← y-not, ← c-not, ← a-not, ← b-not, ← y-is, ← c-is, ← a-is, ← b-is) (pushed_four s t u v w (nc ∷ nb ∷ oy ∷ []) (nc ∷ ob ∷ ny ∷ []) (oc ∷ na ∷ oy ∷ []) (oc ∷ oa ∷ ny ∷ []) first second third fourth)

-- one turn of the walk over gates
pub clauses-more : (next : ℕ) (gates : List Gate) (i : ℕ) (gate : Gate) → i < length gates → get_or gates i gate ≡ gate → clauses_from next (take (i + 1) gates) ≡ clauses_from next (take i gates) ++ gate_clauses (pos (next + i)) gate
clauses-more next gates i gate within at =
    let long : length (take i gates) ≡ i = simp (length-take) (omega (arith, within)) in
    rw (take_more gates i gate within, at, clauses-push next (take i gates) gate, long) refl

open-push : (lits : List GateLit) (lit : GateLit) → open_lits (lits ++ lit ∷ []) ≡ open_lits lits ++ open_lits (lit ∷ [])
open-push [] (Fixed b) = refl
open-push [] (Var l) = refl
open-push (Fixed b ∷ more) lit = open-push more lit
open-push (Var l ∷ more) lit = ap (λ rest. l ∷ rest) (open-push more lit)

-- one turn of the walk over literals
pub open-more : (lits : List GateLit) (i : ℕ) (d lit : GateLit) → i < length lits → get_or lits i d ≡ lit → open_lits (take (i + 1) lits) ≡ open_lits (take i lits) ++ open_lits (lit ∷ [])
open-more lits i d lit within at = rw (take_more lits i d within, at) (open-push (take i lits) lit)

pub open-few : (lits : List GateLit) → length (open_lits lits) ≤ length lits
open-few [] = omega arith
open-few (Fixed b ∷ more) = omega (arith, open-few more)
open-few (Var l ∷ more) = omega (arith, open-few more)

pub variable-pushed : (next i : ℕ) (gates : List Gate) (gate : Gate) (l : ℤ) (s t : List (List ℤ)) → t ≡ s ++ gate_clauses l gate → s ≡ clauses_from next (take i gates) → l ≡ pos (next + i) → i < length gates → get_or gates i gate ≡ gate → t ≡ clauses_from next (take (i + 1) gates)
variable-pushed next i gates gate l s t pushed before is within at = rw (pushed, before, is) (sym (clauses-more next gates i gate within at))
