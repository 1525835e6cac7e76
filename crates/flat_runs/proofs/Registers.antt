-- Registers of the netlist take what the items leave to their signals.
use Rattle.flat_runs.proofs.Common.{◌≡◌, ℕ, ◌+◌, ◌≤◌, List, [], ◌∷◌, map, length, refl, sym, ◌∙◌, ap, subst, inl, inr, Contains, eqb_tells, Bit, Register, number, Nets, values, plain, q_bits, taken}
use Rattle.flat_runs.proofs.Common.{Building, signal, Taken, taken_by, Design, HasOwnNets, Take, IsFirstWith, IsRegister, AreRegisters, has_first, has_more, has_none, has_cases}
use Rattle.flat_runs.proofs.Signals.{same_signal}
use Rattle.flat_runs.proofs.Led.{full, led-values}

-- the first register with a Q is one of them, and has it
pub first_is : (q : List Bit) (rs : List Register) (r : Register) → IsFirstWith q rs r → Contains rs r × (r.q ≡ q)
first_is q [] r first = absurd first
first_is q (s ∷ more) r first = elim first [
  | inl here ↦ (subst (λ (x : Register). Contains (s ∷ more) x) here.1 (has_first more s), subst (λ (x : Register). x.q ≡ q) here.1 here.0)
  | inr later ↦ let m = first_is q more r later.1 in (has_more more s r m.0, m.1)
]

pub built_of : (b : Building) (design : Design) (to : ℕ → Bit) (ks : List ℕ) (rs : List Register) → AreRegisters b design to ks rs → (k : ℕ) → Contains ks k → (r : Register) × Contains b.registers r × (r.q ≡ signal b k)
built_of b design to [] rs are k has = absurd (has_none k has)
built_of b design to (j ∷ ks) [] are k has = absurd are
built_of b design to (j ∷ ks) (r ∷ rs) are k has = elim (has_cases ks j k has) [
  | inl same ↦
      let is : IsRegister b design to j r = are.0 in
      let m = first_is (signal b j) b.registers is.built is.first in
      (is.built, m.0, m.1 ∙ ap (signal b) same)
  | inr later ↦ built_of b design to ks rs are.1 k later
]

-- what the first register of a signal takes is what was left to it
taken_first : (b : Building) → HasOwnNets b → (nets : Nets) (rs : List Register) (ts : List Taken) (k : ℕ) (r : Register) → 1 ≤ length (signal b k) → Take b nets rs ts → IsFirstWith (signal b k) rs r → number (values nets r.d) ≡ taken_by ts k
taken_first b own nets [] ts k r some take first = absurd first
taken_first b own nets (s ∷ rs) [] k r some take first = absurd take
taken_first b own nets (s ∷ rs) (t ∷ ts) k r some take first = elim (eqb_tells t.signal k) [
  | inl is ↦ elim first [
    | inl here ↦ rw is.0 (ap (λ (x : Register). number (values nets x.d)) (sym here.1) ∙ take.1)
    | inr later ↦ absurd (later.0 (take.0 ∙ ap (signal b) is.1))
  ]
  | inr other ↦ elim first [
    | inl here ↦ absurd (other.1 (same_signal b own t.signal k some (sym take.0 ∙ here.0)))
    | inr later ↦ rw other.0 (taken_first b own nets rs ts k r some take.2 later.1)
  ]
]

pub taken_all : (b : Building) → HasOwnNets b → (design : Design) (to : ℕ → Bit) (nets : Nets) (ts : List Taken) → Take b (full to nets) b.registers ts → (ks : List ℕ) (rs : List Register) (k : ℕ) → ((j : ℕ) → Contains ks j → 1 ≤ length (signal b j)) → AreRegisters b design to ks rs → map (taken_by ts) ks ≡ taken (plain nets) k rs
taken_all b own design to nets ts take [] [] k some are = refl
taken_all b own design to nets ts take [] (r ∷ rs) k some are = absurd are
taken_all b own design to nets ts take (j ∷ ks) [] k some are = absurd are
taken_all b own design to nets ts take (j ∷ ks) (r ∷ rs) k some are =
    let is : IsRegister b design to j r = are.0 in
    let head : number (values nets r.d) ≡ taken_by ts j =
    ap (λ (d : List Bit). number (values nets d)) is.d ∙ ap number (led-values to nets is.built.d) ∙ taken_first b own (full to nets) b.registers ts j is.built (some j (has_first ks j)) take is.first in
    let tail : map (taken_by ts) ks ≡ taken (plain nets) (k + 1) rs = taken_all b own design to nets ts take ks rs (k + 1) (λ i has. some i (has_more ks j i has)) are.1 in
    ap (λ (n : ℕ). n ∷ map (taken_by ts) ks) (sym head) ∙ ap (λ (ns : List ℕ). number (values nets r.d) ∷ ns) tail

pub stored_q : (b : Building) (design : Design) (to : ℕ → Bit) (ks : List ℕ) (rs : List Register) → AreRegisters b design to ks rs → q_bits rs ≡ map (signal b) ks
stored_q b design to [] [] are = refl
stored_q b design to [] (r ∷ rs) are = absurd are
stored_q b design to (k ∷ ks) [] are = absurd are
stored_q b design to (k ∷ ks) (r ∷ rs) are =
    ap (λ (q : List Bit). q ∷ q_bits rs) are.0.q ∙ ap (λ (qs : List (List Bit)). signal b k ∷ qs) (stored_q b design to ks rs are.1)

pub starts_of : (b : Building) (design : Design) (to : ℕ → Bit) (ks : List ℕ) (rs : List Register) → AreRegisters b design to ks rs → map (λ r. r.start.bits) rs ≡ map design.start ks
starts_of b design to [] [] are = refl
starts_of b design to [] (r ∷ rs) are = absurd are
starts_of b design to (k ∷ ks) [] are = absurd are
starts_of b design to (k ∷ ks) (r ∷ rs) are =
    ap (λ (n : ℕ). n ∷ map (λ r. r.start.bits) rs) are.0.start ∙ ap (λ (ns : List ℕ). design.start k ∷ ns) (starts_of b design to ks rs are.1)
