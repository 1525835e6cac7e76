-- Registers of a builder by their signals, and in the order of declaration.
use Rattle.elab_finish.proofs.Common.{◌≡◌, ◌⊎◌, ℕ, zero, suc, ◌<◌, ◌≤◌, Bool, true, false, List, [], ◌∷◌, map, length, slice_get, Option, Some, None, refl, sym, ◌∙◌, ap, subst, inl, inr, arith}
use Rattle.elab_finish.proofs.Common.{Contains, false≢true, Bit, Fixed, Net, Register, q_bits, times_at, Building, signal, led_register, stored_there, stored_told, has_first, has_more, has_none}
use Rattle.elab_finish.proofs.Common.{has_cases, HasOwnNets, IsFirstWith, get_contains, contains_get, times_get, are_apart, net_of, AreKnown, is_register, is_stored_bit, registers_in, IsRegisterOf}
use Rattle.elab_finish.proofs.Common.{AreRegistersOf, RegistersHaveSignals, SignalsHaveRegisters, IsSlot, AreSlots, IsFilled, AreFilled}
use Rattle.flat_runs.specs.Meanings.{NoneTwice}
use Rattle.flat_runs.specs.Writing.{HasOneWriter}
use Rattle.flat_runs.proofs.Writing.{stored_net}

-- Lists of numbers.

pub known_in : (b : Building) (ks : List ℕ) (k : ℕ) → AreKnown b ks → Contains ks k → k < length b.signals
known_in b [] k known has = absurd (has_none k has)
known_in b (j ∷ ks) k known has = elim (has_cases ks j k has) [
  | inl same ↦ subst (λ (x : ℕ). x < length b.signals) same known.0
  | inr later ↦ known_in b ks k known.1 later
]

-- those of the signals that have a register, by what is known of one
picked : (b : Building) (k : ℕ) (ks : List ℕ) (is : Bool) → is_register b k ≡ is → (registers_in b (k ∷ ks) ≡ registers_in b ks × (is ≡ false)) ⊎ ((registers_in b (k ∷ ks) ≡ k ∷ registers_in b ks) × (is ≡ true))
picked b k ks true e = inr (rw e refl, refl)
picked b k ks false e = inl (rw e refl, refl)

pub register_in : (b : Building) (ks : List ℕ) (k : ℕ) → Contains (registers_in b ks) k → Contains ks k × (is_register b k ≡ true)
register_in b [] k has = absurd (has_none k has)
register_in b (j ∷ ks) k has = elim (picked b j ks (is_register b j) refl) [
  | inl t ↦ let r = register_in b ks k (subst (λ (l : List ℕ). Contains l k) t.0 has) in (has_more ks j k r.0, r.1)
  | inr t ↦ elim (has_cases (registers_in b ks) j k (subst (λ (l : List ℕ). Contains l k) t.0 has)) [
    | inl same ↦ (subst (λ (x : ℕ). Contains (j ∷ ks) x) same (has_first ks j), subst (λ (x : ℕ). is_register b x ≡ true) same t.1)
    | inr later ↦ let r = register_in b ks k later in (has_more ks j k r.0, r.1)
  ]
]

pub in_registers : (b : Building) (ks : List ℕ) (k : ℕ) → Contains ks k → is_register b k ≡ true → Contains (registers_in b ks) k
in_registers b [] k has is = absurd (has_none k has)
in_registers b (j ∷ ks) k has is = elim (picked b j ks (is_register b j) refl) [
  | inl t ↦ elim (has_cases ks j k has) [
    | inl same ↦ absurd (false≢true (sym t.1 ∙ ap (is_register b) same ∙ is))
    | inr later ↦ subst (λ (l : List ℕ). Contains l k) (sym t.0) (in_registers b ks k later is)
  ]
  | inr t ↦ subst (λ (l : List ℕ). Contains l k) (sym t.0) (elim (has_cases ks j k has) [
    | inl same ↦ subst (λ (x : ℕ). Contains (j ∷ registers_in b ks) x) same (has_first (registers_in b ks) j)
    | inr later ↦ has_more (registers_in b ks) j k (in_registers b ks k later is)
  ])
]

pub registers_once : (b : Building) (ks : List ℕ) → NoneTwice ks → NoneTwice (registers_in b ks)
registers_once b [] once = tt
registers_once b (k ∷ ks) once = elim (picked b k ks (is_register b k) refl) [
  | inl t ↦ subst NoneTwice (sym t.0) (registers_once b ks once.1)
  | inr t ↦ subst NoneTwice (sym t.0) ((λ has. once.0 (register_in b ks k has).0), registers_once b ks once.1)
]

-- The register of a signal.

bit_stored : (rs : List Register) (o : Option Bit) → is_stored_bit rs o ≡ true → (n : ℕ) × (o ≡ Some (Net n)) × (r : Register) × Contains rs r × Contains r.q (Net n)
bit_stored rs None e = absurd (false≢true e)
bit_stored rs (Some (Fixed v)) e = absurd (false≢true e)
bit_stored rs (Some (Net n)) e = let t = stored_there rs n e in (n, refl, t.0, t.1, t.2)

pub register_of : (b : Building) (ins : List ℕ) → HasOwnNets b → HasOneWriter b ins → (k : ℕ) → is_register b k ≡ true → (r : Register) × Contains b.registers r × (r.q ≡ signal b k)
register_of b ins own writers k is =
    let t = bit_stored b.registers (slice_get (signal b k) 0) is in
    let s = writers.stored t.2 t.3 in
    let at = contains_get t.2.q (Net t.0) t.4 in
    let bit : slice_get (signal b s.0) at.0 ≡ Some (Net t.0) = ap (λ (q : List Bit). slice_get q at.0) (sym s.1) ∙ at.1 in
    let same : s.0 ≡ k = (are_apart b own s.0 at.0 k 0 t.0 bit t.1).0 in
    (t.2, t.3, s.1 ∙ ap (signal b) same)

pub is_its : (b : Building) → HasOwnNets b → (k : ℕ) → 1 ≤ length (signal b k) → (r : Register) → Contains b.registers r → r.q ≡ signal b k → is_register b k ≡ true
is_its b own k some r has q =
    let at = net_of b own k 0 some in
    let stored = stored_told b.registers at.0 r has (subst (λ (x : List Bit). Contains x (Net at.0)) (sym q) (get_contains (signal b k) 0 (Net at.0) at.1)) in
    ap (is_stored_bit b.registers) at.1 ∙ stored

-- a register whose lowest bit no other register has is the first of its Q
first_with : (rs : List Register) (p n : ℕ) (r : Register) (q : List Bit) → slice_get rs p ≡ Some r → r.q ≡ q → slice_get q 0 ≡ Some (Net n) → times_at n (q_bits rs) ≤ 1 → IsFirstWith q rs r
first_with [] p n r q at is low once = absurd cc
first_with (s ∷ rs) zero n r q at is low once = let same : s ≡ r = cc in inl (ap (λ (x : Register). x.q) same ∙ is, same)
first_with (s ∷ rs) (suc p) n r q at is low once = inr ((λ e. twice e), first_with rs p n r q at is low (omega (arith, once)))
  where
    there : (rs : List Register) (p : ℕ) → slice_get rs p ≡ Some r → 1 ≤ times_at n (q_bits rs)
    there [] p e = absurd cc
    there (x ∷ xs) zero e =
        let same : x ≡ r = cc in
        let low_x : slice_get x.q 0 ≡ Some (Net n) = ap (λ (y : Register). slice_get y.q 0) same ∙ ap (λ (y : List Bit). slice_get y 0) is ∙ low in
        omega (arith, times_get x.q 0 n low_x)
    there (x ∷ xs) (suc p) e = omega (arith, there xs p e)

    twice : s.q ≡ q → ⊥
    twice e = (let one = times_get s.q 0 n (ap (λ (y : List Bit). slice_get y 0) e ∙ low) in let two = there rs p at in omega (arith, once, one, two))

led_at : (to : ℕ → Bit) (rs : List Register) (p : ℕ) (r : Register) → slice_get rs p ≡ Some r → slice_get (map (led_register to) rs) p ≡ Some (led_register to r)
led_at to [] p r e = absurd cc
led_at to (x ∷ rs) zero r e = let same : x ≡ r = cc in ap (λ (y : Register). Some (led_register to y)) same
led_at to (x ∷ rs) (suc p) r e = led_at to rs p r e

pub led_q : (to : ℕ → Bit) (rs : List Register) → q_bits (map (led_register to) rs) ≡ q_bits rs
led_q to [] = refl
led_q to (r ∷ rs) = ap (λ (qs : List (List Bit)). r.q ∷ qs) (led_q to rs)

-- Registers that are filled from those of the builder are those of their signals.

register_filled : (b : Building) (ins : List ℕ) → HasOwnNets b → HasOneWriter b ins → (to : ℕ → Bit) (k : ℕ) (slot r : Register) → is_register b k ≡ true → IsSlot b k slot → IsFilled (map (led_register to) b.registers) slot r → IsRegisterOf b to k r
register_filled b ins own writers to k slot r is s f =
    let t = bit_stored b.registers (slice_get (signal b k) 0) is in
    let o = register_of b ins own writers k is in
    let at = contains_get b.registers o.0 o.1 in
    let low : slice_get o.0.q 0 ≡ slice_get slot.q 0 = ap (λ (q : List Bit). slice_get q 0) (o.2 ∙ sym s.q) in
    let made : led_register to o.0 ≡ f.made = f.only at.0 (led_register to o.0) (led_at to b.registers at.0 o.0 at.1) low in
    record {
      built = o.0;
      first = first_with b.registers at.0 t.0 o.0 (signal b k) at.1 o.2 t.1 (writers.apart t.0);
      name = ap (λ (x : Register). x.name) f.is ∙ s.name;
      span = ap (λ (x : Register). x.span) f.is ∙ s.span;
      d = ap (λ (x : Register). x.d) f.is ∙ ap (λ (x : Register). x.d) (sym made);
      q = ap (λ (x : Register). x.q) f.is ∙ s.q;
      start = ap (λ (x : Register). x.start.bits) f.is ∙ s.start;
      width = ap (λ (x : Register). x.start.width) f.is ∙ s.width;
    }

pub registers_filled : (b : Building) (ins : List ℕ) → HasOwnNets b → HasOneWriter b ins → (to : ℕ → Bit) (led : List Register) → led ≡ map (led_register to) b.registers → (ks : List ℕ) (slots rs : List Register) → ((k : ℕ) → Contains ks k → is_register b k ≡ true) → AreSlots b ks slots → AreFilled led slots rs → AreRegistersOf b to ks rs
registers_filled b ins own writers to led is [] [] [] are s f = tt
registers_filled b ins own writers to led is [] [] (r ∷ rs) are s f = absurd f
registers_filled b ins own writers to led is [] (x ∷ slots) rs are s f = absurd s
registers_filled b ins own writers to led is (k ∷ ks) [] rs are s f = absurd s
registers_filled b ins own writers to led is (k ∷ ks) (x ∷ slots) [] are s f = absurd f
registers_filled b ins own writers to led is (k ∷ ks) (x ∷ slots) (r ∷ rs) are s f = (
  register_filled b ins own writers to k x r (are k (has_first ks k)) s.0 (subst (λ (l : List Register). IsFilled l x r) is f.0),
  registers_filled b ins own writers to led is ks slots rs (λ j has. are j (has_more ks k j has)) s.1 f.1,
)

-- Registers that are those of some signals.

pub registers_have : RegistersHaveSignals
registers_have b ks is r has = within b b.registers ks is r has
  where
    within : (b : Building) (rs : List Register) (ks : List ℕ) → q_bits rs ≡ map (signal b) ks → (r : Register) → Contains rs r → (k : ℕ) × Contains ks k × (r.q ≡ signal b k)
    within b [] ks is r has = absurd (has_none r has)
    within b (s ∷ rs) [] is r has = absurd cc
    within b (s ∷ rs) (k ∷ ks) is r has =
        let first : s.q ≡ signal b k = cc in
        let rest : q_bits rs ≡ map (signal b) ks = cc in
        elim (has_cases rs s r has) [
          | inl same ↦ (k, has_first ks k, subst (λ (x : Register). x.q ≡ signal b k) same first)
          | inr later ↦ let t = within b rs ks rest r later in (t.0, has_more ks k t.0 t.1, t.2)
        ]

signal_times : (b : Building) (ks : List ℕ) (k n : ℕ) → Contains ks k → slice_get (signal b k) 0 ≡ Some (Net n) → 1 ≤ times_at n (map (signal b) ks)
signal_times b [] k n has low = absurd (has_none k has)
signal_times b (j ∷ ks) k n has low = elim (has_cases ks j k has) [
  | inl same ↦ (let one = times_get (signal b j) 0 n (ap (λ (x : ℕ). slice_get (signal b x) 0) same ∙ low) in omega (arith, one))
  | inr later ↦ (let rest = signal_times b ks k n later low in omega (arith, rest))
]

pub signals_have : SignalsHaveRegisters
signals_have b ks k own is some = (there, back)
  where
    there : is_register b k ≡ true → Contains ks k
    there e =
        let t = bit_stored b.registers (slice_get (signal b k) 0) e in
        let s = registers_have b ks is t.2 t.3 in
        let at = contains_get t.2.q (Net t.0) t.4 in
        let bit : slice_get (signal b s.0) at.0 ≡ Some (Net t.0) = ap (λ (q : List Bit). slice_get q at.0) (sym s.2) ∙ at.1 in
        subst (λ (x : ℕ). Contains ks x) (are_apart b own s.0 at.0 k 0 t.0 bit t.1).0 s.1

    back : Contains ks k → is_register b k ≡ true
    back has =
        let at = net_of b own k 0 some in
        let times : 1 ≤ times_at at.0 (q_bits b.registers) = subst (λ (qs : List (List Bit)). 1 ≤ times_at at.0 qs) (sym is) (signal_times b ks k at.0 has at.1) in
        let r = stored_net at.0 b.registers times in
        ap (is_stored_bit b.registers) at.1 ∙ stored_told b.registers at.0 r.0 r.1 r.2
