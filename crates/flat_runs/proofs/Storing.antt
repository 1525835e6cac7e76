-- A clocked process is added by its cells and a register for each variable.
use Rattle.flat_runs.proofs.Common.{◌≡◌, ◌⊎◌, ℕ, ◌<◌, List, [], ◌∷◌, ◌++◌, map, length, slice_get, Some, refl, sym, ◌∙◌, ap, subst, inl, inr, Contains, append-nil, Contains-append_left}
use Rattle.flat_runs.proofs.Common.{Contains-append_right, Contains-append_cases, Bit, Net, Register, number, Nets, values, q_bits, Store, Building, RunsIn, signal, store, HasOwnNets, IsBit}
use Rattle.flat_runs.proofs.Common.{IsWritten, Extended, Extends, Take, with_registers, AllMean, AreStored, ClockedAdd, has_first, has_more, has_none, has_cases}
use Rattle.flat_runs.proofs.Lists.{contains_get, get_contains}
use Rattle.flat_runs.proofs.Signals.{are_apart, net_of}
use Rattle.flat_runs.proofs.Joining.{stored_same, joined_same, bit_same}

-- what registers take in a run is what the effect gives
taken_all : (old mid : Building) (variables : List ℕ) (effect : Store → Store) (bits : List (List Bit)) (registers : List Register) → AllMean old mid variables bits effect → AreStored old variables bits registers → (nets : Nets) → RunsIn mid nets → Take old nets registers (map (λ k. record { signal = k; value = effect (store old nets) k }) variables)
taken_all old mid [] effect bits [] mean stored nets runs = tt
taken_all old mid [] effect bits (r ∷ rs) mean stored nets runs = absurd stored
taken_all old mid (k ∷ ks) effect [] registers mean stored nets runs = absurd stored
taken_all old mid (k ∷ ks) effect (x ∷ bits) [] mean stored nets runs = absurd stored
taken_all old mid (k ∷ ks) effect (x ∷ bits) (r ∷ rs) mean stored nets runs = (
  stored.0,
  ap (λ (d : List Bit). number (values nets d)) stored.1 ∙ mean.0 nets runs,
  taken_all old mid ks effect bits rs mean.1 stored.2 nets runs,
)

variable_of : (b : Building) (variables : List ℕ) (bits : List (List Bit)) (registers : List Register) → AreStored b variables bits registers → (r : Register) → Contains registers r → (k : ℕ) × Contains variables k × (r.q ≡ signal b k)
variable_of b [] bits [] stored r has = absurd (has_none r has)
variable_of b [] bits (s ∷ rs) stored r has = absurd stored
variable_of b (k ∷ ks) [] registers stored r has = absurd stored
variable_of b (k ∷ ks) (x ∷ bits) [] stored r has = absurd stored
variable_of b (k ∷ ks) (x ∷ bits) (s ∷ rs) stored r has = elim (has_cases rs s r has) [
  | inl same ↦ (k, has_first ks k, subst (λ (y : Register). y.q ≡ signal b k) same stored.0)
  | inr later ↦ let v = variable_of b ks bits rs stored.2 r later in (v.0, has_more ks k v.0 v.1, v.2)
]

register_of : (b : Building) (variables : List ℕ) (bits : List (List Bit)) (registers : List Register) → AreStored b variables bits registers → (k : ℕ) → Contains variables k → (r : Register) × Contains registers r × (r.q ≡ signal b k)
register_of b [] bits registers stored k has = absurd (has_none k has)
register_of b (j ∷ ks) [] registers stored k has = absurd stored
register_of b (j ∷ ks) (x ∷ bits) [] stored k has = absurd stored
register_of b (j ∷ ks) (x ∷ bits) (r ∷ rs) stored k has = elim (has_cases ks j k has) [
  | inl same ↦ (r, has_first rs r, stored.0 ∙ ap (signal b) same)
  | inr later ↦ let x = register_of b ks bits rs stored.2 k later in (x.0, has_more rs r x.0 x.1, x.2)
]

clocked_written : (old mid : Building) (variables : List ℕ) (bits : List (List Bit)) (registers : List Register) → HasOwnNets old → Extends old mid → AreStored old variables bits registers → (k i : ℕ) → IsWritten (with_registers mid registers) k i → IsWritten old k i ⊎ Contains variables k
clocked_written old mid variables bits registers own e stored k i w =
    let n : ℕ = w.0 in
    let at : IsBit old k i n = bit_same old mid k i n e.signals w.1 in
    elim w.2 [
      | inl joined ↦ inl (n, at, inl (joined_same old mid n e.joints joined))
      | inr held ↦ elim (Contains-append_cases mid.registers registers held.0 held.1) [
        | inl before ↦ inl (n, at, inr (stored_same old mid n e.registers (held.0, before, held.2)))
        | inr new ↦
            let v = variable_of old variables bits registers stored held.0 new in
            let place = contains_get held.0.q (Net n) held.2 in
            let bit : IsBit old v.0 place.0 n = subst (λ (q : List Bit). slice_get q place.0 ≡ Some (Net n)) v.2 place.1 in
            inr (subst (λ (x : ℕ). Contains variables x) (are_apart old own v.0 place.0 k i n bit at).0 v.1)
      ]
    ]

clocked_writes_before : (old mid : Building) (registers : List Register) → Extends old mid → (k i : ℕ) → IsWritten old k i → IsWritten (with_registers mid registers) k i
clocked_writes_before old mid registers e k i w =
    let at : IsBit mid k i w.0 = bit_same mid old k i w.0 (sym e.signals) w.1 in (
      w.0,
      at,
      elim w.2 [
        | inl joined ↦ inl (joined_same mid old w.0 (sym e.joints) joined)
        | inr stored ↦ let s = stored_same mid old w.0 (sym e.registers) stored in inr (s.0, Contains-append_left mid.registers registers s.0 s.1, s.2)
      ],
    )

clocked_writes_here : (old mid : Building) (variables : List ℕ) (bits : List (List Bit)) (registers : List Register) → HasOwnNets old → Extends old mid → AreStored old variables bits registers → (k i : ℕ) → i < length (signal old k) → Contains variables k → IsWritten (with_registers mid registers) k i
clocked_writes_here old mid variables bits registers own e stored k i inside has =
    let r = register_of old variables bits registers stored k has in
    let at = net_of old own k i inside in
    let in_q : slice_get r.0.q i ≡ Some (Net at.0) = ap (λ (q : List Bit). slice_get q i) r.2 ∙ at.1 in
    (at.0, bit_same mid old k i at.0 (sym e.signals) at.1, inr (r.0, Contains-append_right mid.registers registers r.0 r.1, get_contains r.0.q i (Net at.0) in_q))

stored_bits : (b : Building) (variables : List ℕ) (bits : List (List Bit)) (registers : List Register) → AreStored b variables bits registers → q_bits registers ≡ map (signal b) variables
stored_bits b [] bits [] stored = refl
stored_bits b [] bits (r ∷ rs) stored = absurd stored
stored_bits b (k ∷ ks) [] registers stored = absurd stored
stored_bits b (k ∷ ks) (x ∷ bits) [] stored = absurd stored
stored_bits b (k ∷ ks) (x ∷ bits) (r ∷ rs) stored =
    let head : r.q ≡ signal b k = stored.0 in
    let tail : q_bits rs ≡ map (signal b) ks = stored_bits b ks bits rs stored.2 in
    rw (head, tail) refl

pub clocked_add : ClockedAdd
clocked_add old mid variables effect bits registers own e mean stored = record {
  signals = e.signals;
  nets = e.nets;
  earlier = λ nets runs. e.earlier nets (record { computed = runs.computed; joined = runs.joined });
  says = λ nets runs. tt;
  later = λ nets runs said.
      let x : Extended old.nets nets mid = e.later nets runs in
      record { wider = x.wider; agree = x.agree; runs = record { computed = x.runs.computed; joined = x.runs.joined } };
  more = registers;
  registers = ap (λ (rs : List Register). rs ++ registers) e.registers;
  takes = λ nets runs. taken_all old mid variables effect bits registers mean stored nets (record { computed = runs.computed; joined = runs.joined });
  written = λ k i inside. clocked_written old mid variables bits registers own e stored k i;
  writes = λ k i inside written. elim written [
    | inl before ↦ clocked_writes_before old mid registers e k i before
    | inr here ↦ clocked_writes_here old mid variables bits registers own e stored k i inside here
  ];
  stores = stored_bits old variables bits registers stored;
  joints = [];
  joined = e.joints ∙ sym (append-nil old.joints);
  joins = λ j has. absurd (has_none j has);
  joins_once = λ once n x y has_x has_y. absurd (has_none (record { net = n; bit = x }) has_x);
}
