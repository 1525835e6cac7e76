-- Lists of gates: what one more gate changes.
use Rattle.gate_list.proofs.Common.{◌≡◌, ℕ, zero, suc, ◌+◌, ◌<◌, List, [], ◌∷◌, ◌++◌, length, get_or, ap, subst, ◌∙◌, arith, Values, Gate, Reads, AreOrdered, gate_value, HoldFrom}

pub ordered-push : (most : ℕ) (gates : List Gate) (gate : Gate) → AreOrdered most gates → Reads (most + length gates) gate → AreOrdered most (gates ++ gate ∷ [])
ordered-push most [] gate ordered reads = (subst (λ n. Reads n gate) (omega arith) reads, tt)
ordered-push most (first ∷ more) gate ordered reads = (ordered.0, ordered-push (suc most) more gate ordered.1 (subst (λ n. Reads n gate) (omega arith) reads))

pub hold-at : (next : ℕ) (gates : List Gate) (values : Values) (i : ℕ) (d : Gate) → HoldFrom next gates values → i < length gates → values (next + i) ≡ gate_value values (get_or gates i d)
hold-at next [] values i d holds within = absurd (omega arith)
hold-at next (gate ∷ more) values zero d holds within = ap values (omega arith) ∙ holds.0
hold-at next (gate ∷ more) values (suc i) d holds within = ap values (omega arith) ∙ hold-at (suc next) more values i d holds.1 (omega (arith, within))

pub hold-last : (next : ℕ) (gates : List Gate) (gate : Gate) (values : Values) → HoldFrom next (gates ++ gate ∷ []) values → values (next + length gates) ≡ gate_value values gate
hold-last next [] gate values holds = ap values (omega arith) ∙ holds.0
hold-last next (first ∷ more) gate values holds = ap values (omega arith) ∙ hold-last (suc next) more gate values holds.1
