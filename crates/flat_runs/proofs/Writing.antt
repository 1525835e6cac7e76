-- Each bit has one writer at most, from item to item.
use Rattle.flat_runs.proofs.Common.{◌≡◌, ◌⊎◌, ℕ, ◌+◌, ◌≤◌, List, [], ◌∷◌, ◌++◌, map, slice_get, Some, refl, sym, ◌∙◌, ap, subst, inl, inr, arith, append_assoc, Contains, cases_lt, append-nil}
use Rattle.flat_runs.proofs.Common.{Contains-append_cases, slice_get_within, Bit, Fixed, Net, Register, q_bits, times, times_at, Joint, Building, signal, IsJoined, IsStored, Meaning, Assign}
use Rattle.flat_runs.proofs.Common.{Combinational, Clocked, Writes, WritesOnce, Joins, NoneTwice, stored_by, all_stored, HasOwnNets, IsBit, AddsItem, NothingIsWritten, OneWriterStays, OneWriterStarts}
use Rattle.flat_runs.proofs.Common.{RegistersOfItems, has_first, has_more, has_none, has_cases}
use Rattle.flat_runs.specs.Writing.{HasOneWriter, IsNew}
use Rattle.flat_runs.proofs.Lists.{contains_get}
use Rattle.flat_runs.proofs.Signals.{bits_in, one_at-cases, times_get, bits_few, are_apart}

-- How often a net stands in ports.

times_append : (n : ℕ) (xs ys : List (List Bit)) → times_at n (xs ++ ys) ≡ times_at n xs + times_at n ys
times_append n [] ys = omega arith
times_append n (x ∷ xs) ys = omega (arith, times_append n xs ys)

bits_append : (rs more : List Register) → q_bits (rs ++ more) ≡ q_bits rs ++ q_bits more
bits_append [] more = refl
bits_append (r ∷ rs) more = ap (λ (qs : List (List Bit)). r.q ∷ qs) (bits_append rs more)

-- a net that stands in ports is a bit of one of them
pub net_in : (n : ℕ) (bits : List Bit) → 1 ≤ times n bits → Contains bits (Net n)
net_in n [] some = absurd (omega (arith, some))
net_in n (Fixed b ∷ more) some = has_more more (Fixed b) (Net n) (net_in n more some)
net_in n (Net m ∷ more) some = elim (one_at-cases m n) [
  | inl same ↦ subst (λ (k : ℕ). Contains (Net k ∷ more) (Net n)) (sym same.0) (has_first more (Net n))
  | inr other ↦ has_more more (Net m) (Net n) (net_in n more (omega (arith, some, other.1)))
]

pub stored_net : (n : ℕ) (rs : List Register) → 1 ≤ times_at n (q_bits rs) → (r : Register) × Contains rs r × Contains r.q (Net n)
stored_net n [] some = absurd (omega (arith, some))
stored_net n (r ∷ rs) some = elim (cases_lt (times n r.q) 1) [
  | inl none ↦ let t = stored_net n rs (omega (arith, some, none)) in (t.0, has_more rs r t.0 t.1, t.2)
  | inr here ↦ (r, has_first rs r, net_in n r.q here)
]

pub signal_net : (b : Building) (n : ℕ) (ks : List ℕ) → 1 ≤ times_at n (map (signal b) ks) → (k : ℕ) × (i : ℕ) × Contains ks k × IsBit b k i n
signal_net b n [] some = absurd (omega (arith, some))
signal_net b n (k ∷ ks) some = elim (cases_lt (times n (signal b k)) 1) [
  | inl none ↦ let t = signal_net b n ks (omega (arith, some, none)) in (t.0, t.1, has_more ks k t.0 t.2, t.3)
  | inr here ↦ let at = contains_get (signal b k) (Net n) (net_in n (signal b k) here) in (k, at.0, has_first ks k, at.1)
]

-- signals that differ have no net in common
pub signals_once : (b : Building) → HasOwnNets b → (n : ℕ) (ks : List ℕ) → NoneTwice ks → times_at n (map (signal b) ks) ≤ 1
signals_once b own n [] once = omega arith
signals_once b own n (k ∷ ks) once = elim (cases_lt (times n (signal b k)) 1) [
  | inl none ↦ omega (arith, none, signals_once b own n ks once.1)
  | inr here ↦ elim (cases_lt (times_at n (map (signal b) ks)) 1) [
    | inl free ↦ omega (arith, free, bits_few b.signals k n, own.once n)
    | inr also ↦
        let at = contains_get (signal b k) (Net n) (net_in n (signal b k) here) in
        let t = signal_net b n ks also in
        absurd (once.0 (subst (λ (x : ℕ). Contains ks x) (are_apart b own t.0 t.1 k at.0 n t.3 at.1).0 t.2))
  ]
]

-- a net of a register
some_q : (rs : List Register) (r : Register) (n : ℕ) → Contains rs r → Contains r.q (Net n) → 1 ≤ times_at n (q_bits rs)
some_q [] r n has in_q = absurd (has_none r has)
some_q (s ∷ rs) r n has in_q = elim (has_cases rs s r has) [
  | inl same ↦ (let at = contains_get r.q (Net n) in_q in let one : 1 ≤ times n r.q = times_get r.q at.0 n at.1 in let is : times n s.q ≡ times n r.q = ap (λ (x : Register). times n x.q) same in omega (arith, one, is))
  | inr later ↦ omega (arith, some_q rs r n later in_q)
]

signal_q : (b : Building) (rs : List Register) (ks : List ℕ) → q_bits rs ≡ map (signal b) ks → (r : Register) → Contains rs r → (k : ℕ) × (r.q ≡ signal b k)
signal_q b [] ks is r has = absurd (has_none r has)
signal_q b (s ∷ rs) [] is r has = absurd cc
signal_q b (s ∷ rs) (k ∷ ks) is r has =
    let first : s.q ≡ signal b k = cc in
    let rest : q_bits rs ≡ map (signal b) ks = cc in
    elim (has_cases rs s r has) [
      | inl same ↦ (k, subst (λ (x : Register). x.q ≡ signal b k) same first)
      | inr later ↦ signal_q b rs ks rest r later
    ]

-- What an item joins or stores it writes.

stored_writes : (m : Meaning) (k i : ℕ) → Contains (stored_by m) k → Writes m k i
stored_writes (Assign left value) k i has = absurd (has_none k has)
stored_writes (Combinational variables effect) k i has = absurd (has_none k has)
stored_writes (Clocked variables effect) k i has = has

joins_writes : (m : Meaning) (k i : ℕ) → Joins m k i → Writes m k i
joins_writes (Assign left value) k i has = has
joins_writes (Combinational variables effect) k i has = has
joins_writes (Clocked variables effect) k i has = absurd has

stored_once : (m : Meaning) → WritesOnce m → NoneTwice (stored_by m)
stored_once (Assign left value) once = tt
stored_once (Combinational variables effect) once = tt
stored_once (Clocked variables effect) once = once

-- an item does not join and store
not_both : (m : Meaning) (k i j : ℕ) → Joins m k i → Contains (stored_by m) j → ⊥
not_both (Assign left value) k i j joins has = has_none j has
not_both (Combinational variables effect) k i j joins has = has_none j has
not_both (Clocked variables effect) k i j joins has = joins

-- One item more.

module _ (old new : Building) (inputs : List ℕ) (m : Meaning) (own : HasOwnNets old) (h : HasOneWriter old inputs) (is_new : IsNew old inputs m) (adds : AddsItem old new m) where
  later_bit : (k i n : ℕ) → IsBit old k i n → IsBit new k i n
  later_bit k i n = subst (λ (s : List (List Bit)). slice_get (bits_in s k) i ≡ Some (Net n)) (sym adds.signals)

  earlier_bit : (k i n : ℕ) → IsBit new k i n → IsBit old k i n
  earlier_bit k i n = subst (λ (s : List (List Bit)). slice_get (bits_in s k) i ≡ Some (Net n)) adds.signals

  joint_cases : (n : ℕ) (x : Bit) → Contains new.joints (record { net = n; bit = x }) → Contains old.joints (record { net = n; bit = x }) ⊎ Contains adds.joints (record { net = n; bit = x })
  joint_cases n x has = Contains-append_cases old.joints adds.joints (record { net = n; bit = x }) (subst (λ (js : List Joint). Contains js (record { net = n; bit = x })) adds.joined has)

  register_cases : (r : Register) → Contains new.registers r → Contains old.registers r ⊎ Contains adds.more r
  register_cases r has = Contains-append_cases old.registers adds.more r (subst (λ (rs : List Register). Contains rs r) adds.registers has)

  -- a net that the item joins or stores was not written before
  fresh : (n k i : ℕ) → IsBit old k i n → Writes m k i → IsJoined old n ⊎ IsStored old n → ⊥
  fresh n k i at writes was = is_new.unwritten k i (slice_get_within (signal old k) i (Net n) at) writes (n, at, was)

  joined_here : (n : ℕ) (x : Bit) → Contains adds.joints (record { net = n; bit = x }) → IsJoined old n ⊎ IsStored old n → ⊥
  joined_here n x has was = let j = adds.joins (record { net = n; bit = x }) has in fresh n j.0 j.1 j.2 (joins_writes m j.0 j.1 j.3) was

  -- the bit of a register that is added
  stored_bit : (r : Register) (n : ℕ) → Contains adds.more r → Contains r.q (Net n) → (k : ℕ) × (i : ℕ) × Contains (stored_by m) k × IsBit old k i n
  stored_bit r n has in_q = signal_net old n (stored_by m) (subst (λ (qs : List (List Bit)). 1 ≤ times_at n qs) adds.stores (some_q adds.more r n has in_q))

  stored_here : (n : ℕ) (r : Register) → Contains adds.more r → Contains r.q (Net n) → IsJoined old n ⊎ IsStored old n → ⊥
  stored_here n r has in_q was = let t = stored_bit r n has in_q in fresh n t.0 t.1 t.3 (stored_writes m t.0 t.1 t.2) was

  new_joined : (n : ℕ) → IsJoined new n → (k : ℕ) × (i : ℕ) × IsBit new k i n
  new_joined n j = elim (joint_cases n j.0 j.1) [
    | inl before ↦ let t = h.joined n (j.0, before) in (t.0, t.1, later_bit t.0 t.1 n t.2)
    | inr here ↦ let t = adds.joins (record { net = n; bit = j.0 }) here in (t.0, t.1, later_bit t.0 t.1 n t.2)
  ]

  new_once : (n : ℕ) (x y : Bit) → Contains new.joints (record { net = n; bit = x }) → Contains new.joints (record { net = n; bit = y }) → x ≡ y
  new_once n x y has_x has_y = elim (joint_cases n x has_x) [
    | inl before ↦ elim (joint_cases n y has_y) [
      | inl also ↦ h.once n x y before also
      | inr here ↦ absurd (joined_here n y here (inl (x, before)))
    ]
    | inr here ↦ elim (joint_cases n y has_y) [
      | inl before ↦ absurd (joined_here n x here (inl (y, before)))
      | inr also ↦ adds.joins_once is_new.once n x y here also
    ]
  ]

  new_stored : (r : Register) → Contains new.registers r → (k : ℕ) × (r.q ≡ signal new k)
  new_stored r has = elim (register_cases r has) [
    | inl before ↦ let t = h.stored r before in (t.0, t.1 ∙ same t.0)
    | inr here ↦ let t = signal_q old adds.more (stored_by m) adds.stores r here in (t.0, t.1 ∙ same t.0)
  ]
    where
      same : (k : ℕ) → signal old k ≡ signal new k
      same k = ap (λ (s : List (List Bit)). bits_in s k) (sym adds.signals)

  new_apart : (n : ℕ) → times_at n (q_bits new.registers) ≤ 1
  new_apart n =
      let sum : times_at n (q_bits new.registers) ≡ times_at n (q_bits old.registers) + times_at n (q_bits adds.more) =
      ap (λ (rs : List Register). times_at n (q_bits rs)) adds.registers ∙ ap (times_at n) (bits_append old.registers adds.more) ∙ times_append n (q_bits old.registers) (q_bits adds.more) in
      let few : times_at n (q_bits adds.more) ≤ 1 = subst (λ (qs : List (List Bit)). times_at n qs ≤ 1) (sym adds.stores) (signals_once old own n (stored_by m) (stored_once m is_new.once)) in
      elim (cases_lt (times_at n (q_bits old.registers)) 1) [
        | inl none ↦ omega (arith, sum, few, none)
        | inr some ↦ elim (cases_lt (times_at n (q_bits adds.more)) 1) [
          | inl none ↦ omega (arith, sum, h.apart n, none)
          | inr also ↦
              let r = stored_net n adds.more also in
              absurd (stored_here n r.0 r.1 r.2 (inr (stored_net n old.registers some)))
        ]
      ]

  new_single : (n : ℕ) → IsJoined new n → IsStored new n → ⊥
  new_single n j s = elim (joint_cases n j.0 j.1) [
    | inl before ↦ elim (register_cases s.0 s.1) [
      | inl also ↦ h.single n (j.0, before) (s.0, also, s.2)
      | inr here ↦ stored_here n s.0 here s.2 (inl (j.0, before))
    ]
    | inr here ↦ elim (register_cases s.0 s.1) [
      | inl before ↦ joined_here n j.0 here (inr (s.0, before, s.2))
      | inr also ↦
          let j = adds.joins (record { net = n; bit = j.0 }) here in
          let t = stored_bit s.0 n also s.2 in
          not_both m j.0 j.1 t.0 j.3 t.2
    ]
  ]

  not_input : (n k i k' i' : ℕ) → IsBit old k i n → Contains inputs k → IsBit old k' i' n → Writes m k' i' → ⊥
  not_input n k i k' i' at has there writes =
      let same : k ≡ k' = (are_apart old own k i k' i' n at there).0 in
      is_new.no_input k' i' (slice_get_within (signal old k') i' (Net n) there) writes (subst (λ (x : ℕ). Contains inputs x) same has)

  new_inputs : (n k i : ℕ) → IsJoined new n ⊎ IsStored new n → IsBit new k i n → Contains inputs k → ⊥
  new_inputs n k i (inl j) at has = elim (joint_cases n j.0 j.1) [
    | inl before ↦ h.no_input n k i (inl (j.0, before)) (earlier_bit k i n at) has
    | inr here ↦ let t = adds.joins (record { net = n; bit = j.0 }) here in not_input n k i t.0 t.1 (earlier_bit k i n at) has t.2 (joins_writes m t.0 t.1 t.3)
  ]
  new_inputs n k i (inr s) at has = elim (register_cases s.0 s.1) [
    | inl before ↦ h.no_input n k i (inr (s.0, before, s.2)) (earlier_bit k i n at) has
    | inr here ↦ let t = stored_bit s.0 n here s.2 in not_input n k i t.0 t.1 (earlier_bit k i n at) has t.3 (stored_writes m t.0 t.1 t.2)
  ]

pub writer_stays : OneWriterStays
writer_stays old new inputs m own h is_new adds = record {
  joined = new_joined old new inputs m own h is_new adds;
  once = new_once old new inputs m own h is_new adds;
  stored = new_stored old new inputs m own h is_new adds;
  apart = new_apart old new inputs m own h is_new adds;
  single = new_single old new inputs m own h is_new adds;
  no_input = new_inputs old new inputs m own h is_new adds;
}

pub writer_starts : OneWriterStarts
writer_starts b inputs k start h = record { joined = h.joined; once = h.once; stored = h.stored; apart = h.apart; single = h.single; no_input = h.no_input }

pub nothing_written : NothingIsWritten
nothing_written b inputs no_joints no_registers = record {
  joined = λ n j. absurd (unjoined n j);
  once = λ n x y has_x has_y. absurd (unjoined n (x, has_x));
  stored = λ r has. absurd (has_none r (subst (λ (rs : List Register). Contains rs r) no_registers has));
  apart = λ n. subst (λ (rs : List Register). times_at n (q_bits rs) ≤ 1) (sym no_registers) (omega arith);
  single = λ n j s. unjoined n j;
  no_input = λ n k i written at has. elim written [ inl j ↦ unjoined n j | inr s ↦ has_none s.0 (subst (λ (rs : List Register). Contains rs s.0) no_registers s.1) ];
} where
  unjoined : (n : ℕ) → IsJoined b n → ⊥
  unjoined n j = has_none (record { net = n; bit = j.0 }) (subst (λ (js : List Joint). Contains js (record { net = n; bit = j.0 })) no_joints j.1)

map_append : (f : ℕ → List Bit) (xs ys : List ℕ) → map f (xs ++ ys) ≡ map f xs ++ map f ys
map_append f [] ys = refl
map_append f (x ∷ xs) ys = ap (λ (zs : List (List Bit)). f x ∷ zs) (map_append f xs ys)

pub registers_of : RegistersOfItems
registers_of [] first last same = ap (λ (b : Building). q_bits b.registers) same ∙ sym (append-nil (q_bits first.registers))
registers_of (m ∷ items) first last steps =
    let mid : Building = steps.0 in
    let adds : AddsItem first mid m = steps.1 in
    let here : q_bits mid.registers ≡ q_bits first.registers ++ map (signal first) (stored_by m) =
    ap q_bits adds.registers ∙ bits_append first.registers adds.more ∙ ap (λ (qs : List (List Bit)). q_bits first.registers ++ qs) adds.stores in
    let rest : q_bits last.registers ≡ q_bits mid.registers ++ map (signal mid) (all_stored items) = registers_of items mid last steps.2 in
    let same : map (signal mid) (all_stored items) ≡ map (signal first) (all_stored items) = ap (λ (s : List (List Bit)). map (bits_in s) (all_stored items)) adds.signals in
    rest ∙ ap (λ (qs : List (List Bit)). qs ++ map (signal mid) (all_stored items)) here
    ∙ ap (λ (qs : List (List Bit)). (q_bits first.registers ++ map (signal first) (stored_by m)) ++ qs) same
    ∙ append_assoc (q_bits first.registers) (map (signal first) (stored_by m)) (map (signal first) (all_stored items))
    ∙ ap (λ (qs : List (List Bit)). q_bits first.registers ++ qs) (sym (map_append (signal first) (stored_by m) (all_stored items)))
