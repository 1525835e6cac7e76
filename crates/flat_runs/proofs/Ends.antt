-- Where the nets of a builder lead that is finished, and its registers.
use Rattle.flat_runs.proofs.Common.{◌≡◌, ◌≢◌, ◌⊎◌, ℕ, zero, suc, ◌+◌, ◌/◌, ◌%◌, ◌<◌, ◌≤◌, Bool, true, false, ◌||◌, List, [], ◌∷◌, map, length, nat_eq, slice_get, Option, Some, None, refl, sym, ◌∙◌}
use Rattle.flat_runs.proofs.Common.{ap, subst, inl, inr, arith, slice_index_or, Contains, bit_at, false≢true, or_cases, or_left, or_right, eqb_tells, bit_at-lt, bit_at_lowest, bit_at-suc, Bit, Fixed}
use Rattle.flat_runs.proofs.Common.{Net, Register, times, times_at, digit, bits_at, Building, signal, IsJoined, joint_of, has_net, is_stored, Design, IsBit, IsWritten, LeadsTo, no_signal, of_input}
use Rattle.flat_runs.proofs.Common.{of_register, unwritten, to_constant, to_net, all_led, IsFirstWith, AreRegisters, IsPut, ArePut, IsWhole, ReadyFinishes, joint_found, joint_none, stored_there}
use Rattle.flat_runs.proofs.Common.{stored_told, has_net_there, has_net_told, has_first, has_more, has_none, has_cases, false_from_ne_true}
use Rattle.netlist_core.specs.declared.port.Port.{Port}
use Rattle.net_builder.specs.declared.steps.Step.TheVariants.{Stays, Constant, On}
use Rattle.net_builder.specs.Finished.{some_has, later, start_among, start_of, stepped, step_of, stays, fixed, goes, led_register, led_port}
use Rattle.net_builder.specs.Finished.{LeadsTo as Leads}
use Rattle.flat_runs.proofs.Lists.{get_contains, contains_get}
use Rattle.flat_runs.proofs.Signals.{bits_in, times_get, times_in, are_apart}

-- Start values.

among_none : (bits : List Bit) (v n : ℕ) → ((i : ℕ) → slice_get bits i ≢ Some (Net n)) → start_among bits v n ≡ None
among_none [] v n not = refl
among_none (Fixed b ∷ more) v n not = among_none more (v / 2) n (λ i. not (suc i))
among_none (Net m ∷ more) v n not =
    let rest : start_among more (v / 2) n ≡ None = among_none more (v / 2) n (λ i. not (suc i)) in
    elim (eqb_tells n m) [
      | inl t ↦ absurd (not zero (ap (λ (k : ℕ). Some (Net k)) (sym t.1)))
      | inr t ↦ rw (rest, t.0) refl
    ]

of_none : (signals : List (List Bit)) (starts : List ℕ) (n : ℕ) → ((k i : ℕ) → slice_get (bits_in signals k) i ≢ Some (Net n)) → start_of signals starts n ≡ None
of_none [] starts n not = refl
of_none (bits ∷ more) [] n not = refl
of_none (bits ∷ more) (v ∷ vs) n not =
    let rest : start_of more vs n ≡ None = of_none more vs n (λ k i. not (suc k) i) in
    let here : start_among bits v n ≡ None = among_none bits v n (λ i. not zero i) in
    rw (rest, here) refl

lowest : (w : Bool) → nat_eq (digit w) 1 ≡ w
lowest true = refl
lowest false = refl

among_at : (bits : List Bit) (v n i : ℕ) (w : Bool) → times n bits ≤ 1 → slice_get bits i ≡ Some (Net n) → bit_at v i ≡ digit w → start_among bits v n ≡ Some w
among_at [] v n i w one at e = absurd cc
among_at (Fixed b ∷ more) v n zero w one at e = absurd cc
among_at (Fixed b ∷ more) v n (suc i) w one at e = among_at more (v / 2) n i w one at (sym (bit_at-suc v i) ∙ e)
among_at (Net m ∷ more) v n zero w one at e = first m more v n w (let same : m ≡ n = cc in sym same) one (sym (bit_at_lowest v) ∙ e)
  where
    twice : (m n : ℕ) (more : List Bit) → n ≡ m → times n (Net m ∷ more) ≤ 1 → 1 ≤ times n more → ⊥
    twice m n more same one less = elim (eqb_tells m n) [ inl t ↦ absurd (let two : times n (Net m ∷ more) ≡ 1 + times n more = rw t.0 refl in omega (arith, two, one, less)) | inr t ↦ t.1 (sym same) ]

    first : (m : ℕ) (more : List Bit) (v n : ℕ) (w : Bool) → n ≡ m → times n (Net m ∷ more) ≤ 1 → v % 2 ≡ digit w → start_among (Net m ∷ more) v n ≡ Some w
    first m more v n w same one e = elim (eqb_tells n m) [
      | inl t ↦
          let none : start_among more (v / 2) n ≡ None = among_none more (v / 2) n (λ i is. twice m n more same one (times_get more i n is)) in
          rw (none, t.0, e, lowest w) refl
      | inr t ↦ absurd (t.1 same)
    ]
among_at (Net m ∷ more) v n (suc i) w one at e =
    let rest : start_among more (v / 2) n ≡ Some w = among_at more (v / 2) n i w (omega (arith, one)) at (sym (bit_at-suc v i) ∙ e) in
    rw rest refl

of_at : (signals : List (List Bit)) (starts : List ℕ) (n k i : ℕ) (w : Bool) → times_at n signals ≤ 1 → length starts ≡ length signals → slice_get (bits_in signals k) i ≡ Some (Net n) → bit_at (slice_index_or starts k 0) i ≡ digit w → start_of signals starts n ≡ Some w
of_at [] starts n k i w one long at e = absurd cc
of_at (bits ∷ more) [] n k i w one long at e = absurd (omega (arith, long))
of_at (bits ∷ more) (v ∷ vs) n zero i w one long at e =
    let here : start_among bits v n ≡ Some w = among_at bits v n i w (omega (arith, one)) at e in
    let none : start_of more vs n ≡ None = of_none more vs n (λ j x is. absurd (omega (arith, one, times_get bits i n at, times_in more j x n is))) in
    rw (none, here) refl
of_at (bits ∷ more) (v ∷ vs) n (suc k) i w one long at e =
    let rest : start_of more vs n ≡ Some w = of_at more vs n k i w (omega (arith, one)) (omega (arith, long)) at e in
    rw rest refl

-- Is a net a bit of a signal?

find_bit : (bits : List Bit) (n : ℕ) → ((i : ℕ) × (slice_get bits i ≡ Some (Net n))) ⊎ ((i : ℕ) → slice_get bits i ≢ Some (Net n))
find_bit [] n = inr (λ i e. absurd cc)
find_bit (x ∷ more) n = elim (find_bit more n) [
  | inl t ↦ inl (suc t.0, t.1)
  | inr not ↦ elim (is_net x n) [ inl same ↦ inl (zero, ap Some same) | inr other ↦ inr (none_more x more n other not) ]
]
  where
    is_net : (x : Bit) (n : ℕ) → (x ≡ Net n) ⊎ (x ≢ Net n)
    is_net (Fixed b) n = inr (λ e. absurd cc)
    is_net (Net m) n = elim (eqb_tells m n) [ inl t ↦ inl (ap Net t.1) | inr t ↦ inr (λ e. t.1 (let same : m ≡ n = cc in same)) ]

    none_more : (x : Bit) (more : List Bit) (n : ℕ) → x ≢ Net n → ((i : ℕ) → slice_get more i ≢ Some (Net n)) → (i : ℕ) → slice_get (x ∷ more) i ≢ Some (Net n)
    none_more x more n other not zero e = other (let same : x ≡ Net n = cc in same)
    none_more x more n other not (suc i) e = not i e

find_in : (signals : List (List Bit)) (n : ℕ) → ((k : ℕ) × (i : ℕ) × (slice_get (bits_in signals k) i ≡ Some (Net n))) ⊎ ((k i : ℕ) → slice_get (bits_in signals k) i ≢ Some (Net n))
find_in [] n = inr (λ k i e. absurd cc)
find_in (x ∷ more) n = elim (find_in more n) [
  | inl t ↦ inl (suc t.0, t.1, t.2)
  | inr not ↦ elim (find_bit x n) [ inl t ↦ inl (zero, t.0, t.1) | inr none ↦ inr (none_more x more n none not) ]
]
  where
    none_more : (x : List Bit) (more : List (List Bit)) (n : ℕ) → ((i : ℕ) → slice_get x i ≢ Some (Net n)) → ((k i : ℕ) → slice_get (bits_in more k) i ≢ Some (Net n)) → (k i : ℕ) → slice_get (bits_in (x ∷ more) k) i ≢ Some (Net n)
    none_more x more n none not zero i e = none i e
    none_more x more n none not (suc k) i e = not k i e

digit_of : (v i : ℕ) → (w : Bool) × (bit_at v i ≡ digit w)
digit_of v i = by (bit_at v i) (bit_at-lt v i)
  where
    by : (d : ℕ) → d < 2 → (w : Bool) × (d ≡ digit w)
    by zero less = (false, refl)
    by (suc zero) less = (true, refl)
    by (suc (suc d)) less = absurd (omega arith)

-- What a step tells.

pub stepped_on : (o : Option Bit) (k : Bool) (s : Option Bool) (m : ℕ) → stepped o k s ≡ On m → o ≡ Some (Net m)
stepped_on (Some (Fixed v)) k s m e = absurd cc
stepped_on (Some (Net x)) k s m e = let same : x ≡ m = cc in ap (λ (y : ℕ). Some (Net y)) same
stepped_on None true s m e = absurd cc
stepped_on None false (Some v) m e = absurd cc
stepped_on None false None m e = absurd cc

stepped_fixed : (o : Option Bit) (k : Bool) (s : Option Bool) (v : Bool) → stepped o k s ≡ Constant v → (o ≡ Some (Fixed v)) ⊎ ((o ≡ None) × (k ≡ false) × (s ≡ Some v))
stepped_fixed (Some (Fixed w)) k s v e = inl (let same : w ≡ v = cc in ap (λ (y : Bool). Some (Fixed y)) same)
stepped_fixed (Some (Net x)) k s v e = absurd cc
stepped_fixed None true s v e = absurd cc
stepped_fixed None false (Some w) v e = inr (refl, refl, (let same : w ≡ v = cc in ap Some same))
stepped_fixed None false None v e = absurd cc

stepped_stays : (o : Option Bit) (k : Bool) (s : Option Bool) → stepped o k s ≡ Stays → (o ≡ None) × ((k ≡ true) ⊎ (s ≡ None))
stepped_stays (Some (Fixed w)) k s e = absurd cc
stepped_stays (Some (Net x)) k s e = absurd cc
stepped_stays None true s e = (refl, inl refl)
stepped_stays None false (Some w) e = absurd cc
stepped_stays None false None e = (refl, inr refl)

unsigned_stays : (k : Bool) → stepped None k None ≡ Stays
unsigned_stays true = refl
unsigned_stays false = refl

not_or : (a b : Bool) → a || b ≡ false → (a ≡ false) × (b ≡ false)
not_or true b e = absurd cc
not_or false true e = absurd cc
not_or false false e = (refl, refl)

-- An input's bits.

some_there : (b : Building) (ks : List ℕ) (n : ℕ) → some_has (map (signal b) ks) n ≡ true → (k : ℕ) × (i : ℕ) × IsBit b k i n × Contains ks k
some_there b [] n e = absurd (false≢true e)
some_there b (k ∷ ks) n e = elim (or_cases (has_net (signal b k) n) (some_has (map (signal b) ks) n) e) [
  | inl here ↦ (let at = contains_get (signal b k) (Net n) (has_net_there (signal b k) n here) in (k, at.0, at.1, has_first ks k))
  | inr later ↦ (let t = some_there b ks n later in (t.0, t.1, t.2, has_more ks k t.0 t.3))
]

some_told : (b : Building) (ks : List ℕ) (n k i : ℕ) → IsBit b k i n → Contains ks k → some_has (map (signal b) ks) n ≡ true
some_told b [] n k i at has = absurd (has_none k has)
some_told b (j ∷ ks) n k i at has = elim (has_cases ks j k has) [
  | inl same ↦ or_left (has_net (signal b j) n) (some_has (map (signal b) ks) n) (has_net_told (signal b j) n (subst (λ (x : ℕ). Contains (signal b x) (Net n)) (sym same) (get_contains (signal b k) i (Net n) at)))
  | inr rest ↦ or_right (has_net (signal b j) n) (some_has (map (signal b) ks) n) (some_told b ks n k i at rest)
]

-- Where nets lead.

module _ (b : Building) (design : Design) (ins outs : List Port) (h : IsWhole b design ins outs) where
  step_by : (n : ℕ) (o : Option Bit) (k : Bool) (s : Option Bool) → joint_of b.joints n ≡ o → (is_stored b.registers n || some_has (bits_at ins) n) ≡ k → start_of b.signals b.starts n ≡ s → step_of b (bits_at ins) n ≡ stepped o k s
  step_by n o k s a c d = rw (a, c, d) refl

  joint_is : (n : ℕ) (bit : Bit) → Contains b.joints (record { net = n; bit = bit }) → joint_of b.joints n ≡ Some bit
  joint_is n bit has = by (joint_of b.joints n) refl
    where
      by : (o : Option Bit) → joint_of b.joints n ≡ o → o ≡ Some bit
      by None e = absurd (joint_none b.joints n e bit has)
      by (Some x) e = ap Some (h.once n x bit (joint_found b.joints n x e) has)

  joint_free : (n : ℕ) → (IsJoined b n → ⊥) → joint_of b.joints n ≡ None
  joint_free n not = by (joint_of b.joints n) refl
    where
      by : (o : Option Bit) → joint_of b.joints n ≡ o → o ≡ None
      by None e = refl
      by (Some x) e = absurd (not (x, joint_found b.joints n x e))

  some_input : (n k i : ℕ) → IsBit b k i n → Contains design.inputs k → some_has (bits_at ins) n ≡ true
  some_input n k i at has = ap (λ (ports : List (List Bit)). some_has ports n) h.inputs ∙ some_told b design.inputs n k i at has

  an_input : (n : ℕ) → some_has (bits_at ins) n ≡ true → (k : ℕ) × (i : ℕ) × IsBit b k i n × Contains design.inputs k
  an_input n e = some_there b design.inputs n (ap (λ (ports : List (List Bit)). some_has ports n) (sym h.inputs) ∙ e)

  starts_at : (n k i : ℕ) (v : Bool) → IsBit b k i n → bit_at (design.start k) i ≡ digit v → start_of b.signals b.starts n ≡ Some v
  starts_at n k i v at e = of_at b.signals b.starts n k i v (h.own.once n) h.started at (ap (λ (x : ℕ). bit_at x i) (h.starts k) ∙ e)

  kept_stays : (n : ℕ) → joint_of b.joints n ≡ None → (is_stored b.registers n || some_has (bits_at ins) n) ≡ true → step_of b (bits_at ins) n ≡ Stays
  kept_stays n free is = step_by n None true (start_of b.signals b.starts n) free is refl

  to_step : (n : ℕ) (end : Bit) → LeadsTo b design n end → Leads (step_of b (bits_at ins)) n end
  to_step n _ (no_signal _ not) =
      let free : joint_of b.joints n ≡ None = joint_free n (λ j. (let at = h.joined n j in not at.0 at.1 at.2)) in
      stays n (step_by n None (is_stored b.registers n || some_has (bits_at ins) n) None free refl (of_none b.signals b.starts n not) ∙ unsigned_stays (is_stored b.registers n || some_has (bits_at ins) n))
  to_step n _ (of_input _ k i at has) =
      let free : joint_of b.joints n ≡ None = joint_free n (λ j. h.apart n k i j at has) in
      stays n (kept_stays n free (or_right (is_stored b.registers n) (some_has (bits_at ins) n) (some_input n k i at has)))
  to_step n _ (of_register _ is) =
      let free : joint_of b.joints n ≡ None = joint_free n (λ j. h.single n j is) in
      stays n (kept_stays n free (or_left (is_stored b.registers n) (some_has (bits_at ins) n) (stored_told b.registers n is.0 is.1 is.2)))
  to_step n _ (unwritten _ k i v at no_input not e) =
      let free : joint_of b.joints n ≡ None = joint_free n (λ j. not (n, at, inl j)) in
      let unstored : is_stored b.registers n ≡ false = false_from_ne_true (is_stored b.registers n) (λ is. not (n, at, inr (stored_there b.registers n is))) in
      let unkept : some_has (bits_at ins) n ≡ false = false_from_ne_true (some_has (bits_at ins) n) (λ is. (let t = an_input n is in no_input (subst (λ (x : ℕ). Contains design.inputs x) (are_apart b h.own t.0 t.1 k i n t.2 at).0 t.3))) in
      fixed n v (step_by n None false (Some v) free (rw (unstored, unkept) refl) (starts_at n k i v at e))
  to_step n _ (to_constant _ v has) = fixed n v (step_by n (Some (Fixed v)) (is_stored b.registers n || some_has (bits_at ins) n) (start_of b.signals b.starts n) (joint_is n (Fixed v) has) refl refl)
  to_step n _ (to_net _ m end has leads) = goes n m end (step_by n (Some (Net m)) (is_stored b.registers n || some_has (bits_at ins) n) (start_of b.signals b.starts n) (joint_is n (Net m) has) refl refl) (to_step m end leads)

  stays_from : (n : ℕ) → step_of b (bits_at ins) n ≡ Stays → LeadsTo b design n (Net n)
  stays_from n e =
      let s = stepped_stays (joint_of b.joints n) (is_stored b.registers n || some_has (bits_at ins) n) (start_of b.signals b.starts n) e in
      elim s.1 [
        | inl is ↦ elim (or_cases (is_stored b.registers n) (some_has (bits_at ins) n) is) [
          | inl stored ↦ of_register n (stored_there b.registers n stored)
          | inr input ↦ (let t = an_input n input in of_input n t.0 t.1 t.2 t.3)
        ]
        | inr none ↦ elim (find_in b.signals n) [
          | inl t ↦ absurd (let d = digit_of (design.start t.0) t.1 in let some : start_of b.signals b.starts n ≡ Some d.0 = starts_at n t.0 t.1 d.0 t.2 d.1 in let bad : None ≡ Some d.0 = sym none ∙ some in cc)
          | inr not ↦ no_signal n not
        ]
      ]

  fixed_from : (n : ℕ) (v : Bool) → step_of b (bits_at ins) n ≡ Constant v → LeadsTo b design n (Fixed v)
  fixed_from n v e = elim (stepped_fixed (joint_of b.joints n) (is_stored b.registers n || some_has (bits_at ins) n) (start_of b.signals b.starts n) v e) [
    | inl is ↦ to_constant n v (joint_found b.joints n (Fixed v) is)
    | inr s ↦ elim (find_in b.signals n) [
      | inl t ↦
          let d = digit_of (design.start t.0) t.1 in
          let some : start_of b.signals b.starts n ≡ Some d.0 = starts_at n t.0 t.1 d.0 t.2 d.1 in
          let same : Some d.0 ≡ Some v = sym some ∙ s.2 in
          let bit : d.0 ≡ v = cc in
          let both = not_or (is_stored b.registers n) (some_has (bits_at ins) n) s.1 in
          unwritten n t.0 t.1 v t.2
          (λ has. false≢true (sym both.1 ∙ some_input n t.0 t.1 t.2 has))
          (λ is. written_not n t.0 t.1 t.2 s.0 both.0 is)
          (d.1 ∙ ap digit bit)
      | inr not ↦ absurd (let none = of_none b.signals b.starts n not in let bad : None ≡ Some v = sym none ∙ s.2 in cc)
    ]
  ]
    where
      written_not : (n k i : ℕ) → IsBit b k i n → joint_of b.joints n ≡ None → is_stored b.registers n ≡ false → IsWritten b k i → ⊥
      written_not n k i at free unstored is =
          let net : Some (Net is.0) ≡ Some (Net n) = sym is.1 ∙ at in
          let same : is.0 ≡ n = cc in
          elim is.2 [
            | inl j ↦ joint_none b.joints n free j.0 (subst (λ (x : ℕ). Contains b.joints (record { net = x; bit = j.0 })) same j.1)
            | inr s ↦ false≢true (sym unstored ∙ stored_told b.registers n s.0 s.1 (subst (λ (x : ℕ). Contains s.0.q (Net x)) same s.2))
          ]

  from_step : (n : ℕ) (end : Bit) → Leads (step_of b (bits_at ins)) n end → LeadsTo b design n end
  from_step n _ (stays _ e) = stays_from n e
  from_step n _ (fixed _ v e) = fixed_from n v e
  from_step n _ (goes _ m end e leads) = to_net n m end (joint_found b.joints n (Net m) (stepped_on (joint_of b.joints n) (is_stored b.registers n || some_has (bits_at ins) n) (start_of b.signals b.starts n) m e)) (from_step m end leads)

-- Registers, each the first of its signal.

first_led : (to : ℕ → Bit) (q : List Bit) (rs : List Register) (r : Register) → IsFirstWith q (map (led_register to) rs) r → (s : Register) × IsFirstWith q rs s × (r ≡ led_register to s)
first_led to q [] r first = absurd first
first_led to q (s ∷ rs) r first = elim first [
  | inl here ↦ (s, inl (here.0, refl), sym here.1)
  | inr later ↦ let t = first_led to q rs r later.1 in (t.0, inr (later.0, t.1), t.2)
]

registers_are : (b : Building) (design : Design) (to : ℕ → Bit) (led : List Register) → led ≡ map (led_register to) b.registers → (ks : List ℕ) (rs : List Register) → ArePut b design led ks rs → AreRegisters b design to ks rs
registers_are b design to led is [] [] put = tt
registers_are b design to led is [] (r ∷ rs) put = absurd put
registers_are b design to led is (k ∷ ks) [] put = absurd put
registers_are b design to led is (k ∷ ks) (r ∷ rs) put =
    let p : IsPut b design led k r = put.0 in
    let t = first_led to (signal b k) b.registers p.made (subst (λ (l : List Register). IsFirstWith (signal b k) l p.made) is p.first) in
    (record { built = t.0; first = t.1; q = p.q; d = p.d ∙ ap (λ (x : Register). x.d) t.2; start = p.start }, registers_are b design to led is ks rs put.1)

led_ports : (to : ℕ → Bit) (ports : List Port) → bits_at (map (led_port to) ports) ≡ map (all_led to) (bits_at ports)
led_ports to [] = refl
led_ports to (p ∷ more) = ap (λ (rest : List (List Bit)). all_led to p.bits ∷ rest) (led_ports to more)

led_signals : (to : ℕ → Bit) (b : Building) (ks : List ℕ) → map (all_led to) (map (signal b) ks) ≡ map (λ k. all_led to (signal b k)) ks
led_signals to b [] = refl
led_signals to b (k ∷ ks) = ap (λ (rest : List (List Bit)). all_led to (signal b k) ∷ rest) (led_signals to b ks)

pub ready_finishes : ReadyFinishes
ready_finishes b design ins outs netlist registers h f put = record {
  to = f.to;
  leads = λ n end. (λ a. (f.leads n end).0 (to_step b design ins outs h n end a), λ e. from_step b design ins outs h n end ((f.leads n end).1 e));
  cells = f.cells;
  inputs = ap bits_at f.inputs ∙ h.inputs;
  outputs = ap bits_at f.outputs ∙ led_ports f.to outs ∙ ap (λ (ports : List (List Bit)). map (all_led f.to) ports) h.outputs ∙ led_signals f.to b design.outputs;
  registers = registers_are b design f.to netlist.registers f.registers design.registers registers put;
}
