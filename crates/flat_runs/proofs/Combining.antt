-- A combinational process is the assignments of what it leaves.
use Rattle.flat_runs.proofs.Common.{◌≡◌, ℕ, zero, suc, ◌+◌, ◌/◌, ◌%◌, ◌*◌, ◌^◌, ◌<◌, ◌≤◌, List, [], ◌∷◌, ◌++◌, length, None, Some, Option, refl, sym, ◌∙◌, ap, subst, inl, inr, arith, append_assoc}
use Rattle.flat_runs.proofs.Common.{Contains, bit_at, append-nil, Contains-append_cases, bit_at_lowest, bit_at-suc, Bit, Nets, Store, Joint, Building, signal, store, Place, Meaning, Assign, LeftIs}
use Rattle.flat_runs.proofs.Common.{AllSay, SomeWrites, NoneTwice, NamesOnce, HasOwnNets, IsBit, Extends, AddsItem, with_joints, AreJoints, places_from, whole, AllMean, AllJoin, CombinationalAdd}
use Rattle.flat_runs.proofs.Common.{has_first, has_more, has_none, has_cases}
use Rattle.std.proofs.Math.Nat.{pow-suc}
use Rattle.flat_runs.proofs.Signals.{bits_in, store_in, store_fits, are_below, are_apart, own_stays}
use Rattle.flat_runs.proofs.Chain.{Whole, nothing, one_more}
use Rattle.flat_runs.proofs.Joining.{assigns_add, place_of, joined_once, runs_without, bit_same}

-- Numbers with the same bits.

half_fits : (a w : ℕ) → a < 2 ^ suc w → a / 2 < 2 ^ w
half_fits a w small = let d : 2 ^ suc w ≡ 2 ^ w * 2 = pow-suc 2 w in omega (arith, small, d)

pub same_bits : (w a b : ℕ) → a < 2 ^ w → b < 2 ^ w → ((j : ℕ) → j < w → bit_at a j ≡ bit_at b j) → a ≡ b
same_bits zero a b small_a small_b h = omega arith
same_bits (suc w) a b small_a small_b h =
    let low : a % 2 ≡ b % 2 = sym (bit_at_lowest a) ∙ h zero (omega arith) ∙ bit_at_lowest b in
    let high : a / 2 ≡ b / 2 = same_bits w (a / 2) (b / 2) (half_fits a w small_a) (half_fits b w small_b) (λ j less. sym (bit_at-suc a j) ∙ h (suc j) (omega arith) ∙ bit_at-suc b j) in
    omega arith

pub left_bits : (s : Store) (k i n v : ℕ) → LeftIs s (places_from k i n) v → (j : ℕ) → j < n → bit_at (s k) (i + j) ≡ bit_at v j
left_bits s k i zero v l j less = absurd (omega arith)
left_bits s k i (suc n) v l zero less = let e : i + 0 ≡ i = omega arith in ap (bit_at (s k)) e ∙ l.0 ∙ sym (bit_at_lowest v)
left_bits s k i (suc n) v l (suc j) less = let e : i + suc j ≡ suc i + j = omega arith in ap (bit_at (s k)) e ∙ left_bits s k (suc i) n (v / 2) l.1 j (omega arith) ∙ sym (bit_at-suc v j)

pub bits_left : (s : Store) (k i n v : ℕ) → ((j : ℕ) → j < n → bit_at (s k) (i + j) ≡ bit_at v j) → LeftIs s (places_from k i n) v
bits_left s k i zero v h = tt
bits_left s k i (suc n) v h = (
  (let e : i + 0 ≡ i = omega arith in ap (bit_at (s k)) (sym e) ∙ h zero (omega arith) ∙ bit_at_lowest v),
  bits_left s k (suc i) n (v / 2) (λ j less. let e : i + suc j ≡ suc i + j = omega arith in ap (bit_at (s k)) (sym e) ∙ h (suc j) (omega arith) ∙ bit_at-suc v j),
)

place_in : (k i n k' i' : ℕ) → Contains (places_from k i n) (Some (record { signal = k'; bit = i' })) → k ≡ k'
place_in k i zero k' i' has = absurd (has_none (Some (record { signal = k'; bit = i' })) has)
place_in k i (suc n) k' i' has = elim (has_cases (places_from k (suc i) n) (Some (record { signal = k; bit = i })) (Some (record { signal = k'; bit = i' })) has) [
  | inl same ↦ let is : record { signal = k; bit = i } ≡ record { signal = k'; bit = i' } = cc in ap (λ (p : Place). p.signal) is
  | inr later ↦ place_in k (suc i) n k' i' later
]

pub place_at : (k i n j : ℕ) → j < n → Contains (places_from k i n) (Some (record { signal = k; bit = i + j }))
place_at k i zero j less = absurd (omega arith)
place_at k i (suc n) zero less =
    let e : i ≡ i + 0 = omega arith in
    let P : ℕ → Type 0 = λ (x : ℕ). Contains (places_from k i (suc n)) (Some (record { signal = k; bit = x })) in
    subst P e (has_first (places_from k (suc i) n) (Some (record { signal = k; bit = i })))
place_at k i (suc n) (suc j) less =
    let e : suc i + j ≡ i + suc j = omega arith in
    let P : ℕ → Type 0 = λ (x : ℕ). Contains (places_from k i (suc n)) (Some (record { signal = k; bit = x })) in
    subst P e (has_more (places_from k (suc i) n) (Some (record { signal = k; bit = i })) (Some (record { signal = k; bit = suc i + j })) (place_at k (suc i) n j (omega arith)))

-- The assignments of what a process leaves to its variables.

abbrev pub one_assign : List (List Bit) → (Store → Store) → ℕ → Meaning
one_assign signals effect k = Assign (places_from k 0 (length (bits_in signals k))) (λ s. effect s k)

abbrev pub assigns : List (List Bit) → List ℕ → (Store → Store) → List Meaning
assigns signals [] effect = []
assigns signals (k ∷ ks) effect = one_assign signals effect k ∷ assigns signals ks effect

pub no_change : (b : Building) → Extends b b
no_change b = record {
  signals = refl;
  joints = refl;
  registers = refl;
  nets = omega arith;
  earlier = λ nets runs. runs;
  later = λ nets runs. record { wider = nets; agree = λ n less. refl; runs = runs };
}

-- bits that mean the same in a builder with more joints, where the signals are those of the old one
mean_later : (old b : Building) (joints : List Joint) (ks : List ℕ) (bits : List (List Bit)) (effect : Store → Store) → AllMean old b ks bits effect → AllMean old (with_joints b joints) ks bits effect
mean_later old b joints [] [] effect mean = tt
mean_later old b joints [] (x ∷ bits) effect mean = absurd mean
mean_later old b joints (k ∷ ks) [] effect mean = absurd mean
mean_later old b joints (k ∷ ks) (x ∷ bits) effect mean = ((λ nets runs. mean.0 nets (runs_without b joints nets runs)), mean_later old b joints ks bits effect mean.1)

-- the same of a builder with the same signals
mean_of : (old new b : Building) (ks : List ℕ) (bits : List (List Bit)) (effect : Store → Store) → new.signals ≡ old.signals → AllMean old b ks bits effect → AllMean new b ks bits effect
mean_of old new b [] [] effect same mean = tt
mean_of old new b [] (x ∷ bits) effect same mean = absurd mean
mean_of old new b (k ∷ ks) [] effect same mean = absurd mean
mean_of old new b (k ∷ ks) (x ∷ bits) effect same mean = (
  (λ nets runs. mean.0 nets runs ∙ ap (λ (s : Store). effect s k) (stores nets)),
  mean_of old new b ks bits effect same mean.1,
) where
  stores : (nets : Nets) → store old nets ≡ store new nets
  stores nets = ap (λ (s : List (List Bit)). store_in s nets) (sym same)

-- joints of a left side, in a builder with the same signals
places_of : (old new : Building) (left : List (Option Place)) (bits : List Bit) (joints : List Joint) → new.signals ≡ old.signals → AreJoints old left bits joints → AreJoints new left bits joints
places_of old new [] bits [] same a = tt
places_of old new [] bits (j ∷ joints) same a = absurd a
places_of old new (None ∷ left) [] joints same a = absurd a
places_of old new (None ∷ left) (x ∷ bits) joints same a = places_of old new left bits joints same a
places_of old new (Some p ∷ left) [] joints same a = absurd a
places_of old new (Some p ∷ left) (x ∷ bits) [] same a = absurd a
places_of old new (Some p ∷ left) (x ∷ bits) (j ∷ joints) same a = (bit_same new old p.signal p.bit j.net (sym same) a.0, a.1, places_of old new left bits joints same a.2)

pub join_of : (old new : Building) (ks : List ℕ) (bits : List (List Bit)) (joints : List Joint) → new.signals ≡ old.signals → AllJoin old ks bits joints → AllJoin new ks bits joints
join_of old new [] bits joints same join = join
join_of old new (k ∷ ks) [] joints same join = absurd join
join_of old new (k ∷ ks) (x ∷ bits) joints same join = (
  join.0,
  join.1,
  join.2,
  places_of old new (whole new k) x join.0 same (subst (λ (s : List (List Bit)). AreJoints old (places_from k 0 (length (bits_in s k))) x join.0) (sym same) join.3),
  join_of old new ks bits join.1 same join.4,
)

join_all : (b : Building) (ks : List ℕ) (bits : List (List Bit)) (joints : List Joint) (effect : Store → Store) → HasOwnNets b → AllMean b b ks bits effect → AllJoin b ks bits joints → Whole (assigns b.signals ks effect) b (with_joints b joints)
join_all b [] bits joints effect own mean join =
    let e : b.joints ≡ b.joints ++ joints = sym (ap (λ (js : List Joint). b.joints ++ js) join ∙ append-nil b.joints) in
    let P : List Joint → Type 0 = λ (js : List Joint). Whole [] b (record b { joints = js }) in
    subst P e (nothing b)
join_all b (k ∷ ks) [] joints effect own mean join = absurd mean
join_all b (k ∷ ks) (x ∷ bits) joints effect own mean join =
    let first : List Joint = join.0 in
    let rest : List Joint = join.1 in
    let next : Building = with_joints b first in
    let step : AddsItem b next (one_assign b.signals effect k) = assigns_add b b (whole b k) (λ s. effect s k) x first own (no_change b) mean.0 join.3 in
    let own_next : HasOwnNets next = record { nets = own.nets; below = own.below; once = own.once } in
    let mean_next : AllMean next next ks bits effect = mean_of b next next ks bits effect refl (mean_later b b first ks bits effect mean.1) in
    let more : Whole (assigns b.signals ks effect) next (with_joints next rest) = join_all next ks bits rest effect own_next mean_next (join_of b next ks bits rest refl join.4) in
    let all : Whole (assigns b.signals (k ∷ ks) effect) b (with_joints next rest) = one_more (one_assign b.signals effect k) (assigns b.signals ks effect) b next (with_joints next rest) (are_below b own) step more in
    let e : (b.joints ++ first) ++ rest ≡ b.joints ++ joints = append_assoc b.joints first rest ∙ ap (λ (js : List Joint). b.joints ++ js) (sym join.2) in
    let P : List Joint → Type 0 = λ (js : List Joint). Whole (assigns b.signals (k ∷ ks) effect) b (record b { joints = js }) in
    subst P e all

-- What the assignments say is what the process says.

said_value : (signals : List (List Bit)) (ks : List ℕ) (effect : Store → Store) (s : Store) → ((k : ℕ) → s k < 2 ^ length (bits_in signals k)) → ((k : ℕ) → Contains ks k → effect s k < 2 ^ length (bits_in signals k)) → AllSay (assigns signals ks effect) s → (k : ℕ) → Contains ks k → effect s k ≡ s k
said_value signals [] effect s small fits say k has = absurd (has_none k has)
said_value signals (j ∷ ks) effect s small fits say k has = elim (has_cases ks j k has) [
  | inl same ↦
      let w : ℕ = length (bits_in signals j) in
      let bits : (i : ℕ) → i < w → bit_at (s j) i ≡ bit_at (effect s j) i = λ i less. (let e : i ≡ 0 + i = omega arith in ap (bit_at (s j)) e ∙ left_bits s j 0 w (effect s j) say.0 i less) in
      let P : ℕ → Type 0 = λ (x : ℕ). effect s x ≡ s x in
      subst P same (sym (same_bits w (s j) (effect s j) (small j) (fits j (has_first ks j)) bits))
  | inr later ↦ said_value signals ks effect s small (λ x within. fits x (has_more ks j x within)) say.1 k later
]

value_said : (signals : List (List Bit)) (ks : List ℕ) (effect : Store → Store) (s : Store) → ((k : ℕ) → Contains ks k → effect s k ≡ s k) → AllSay (assigns signals ks effect) s
value_said signals [] effect s h = tt
value_said signals (k ∷ ks) effect s h = (
  bits_left s k 0 (length (bits_in signals k)) (effect s k) (λ j less. (let e : 0 + j ≡ j = omega arith in ap (bit_at (s k)) e ∙ ap (λ (v : ℕ). bit_at v j) (sym (h k (has_first ks k))))),
  value_said signals ks effect s (λ x within. h x (has_more ks k x within)),
)

some_write : (signals : List (List Bit)) (ks : List ℕ) (effect : Store → Store) (k i : ℕ) → SomeWrites (assigns signals ks effect) k i → Contains ks k
some_write signals [] effect k i some = absurd some
some_write signals (j ∷ ks) effect k i (inl here) = subst (λ (x : ℕ). Contains (j ∷ ks) x) (place_in j 0 (length (bits_in signals j)) k i here) (has_first ks j)
some_write signals (j ∷ ks) effect k i (inr more) = has_more ks j k (some_write signals ks effect k i more)

write_some : (signals : List (List Bit)) (ks : List ℕ) (effect : Store → Store) (k i : ℕ) → i < length (bits_in signals k) → Contains ks k → SomeWrites (assigns signals ks effect) k i
write_some signals [] effect k i inside has = absurd (has_none k has)
write_some signals (j ∷ ks) effect k i inside has = elim (has_cases ks j k has) [
  | inl same ↦
      let e : 0 + i ≡ i = omega arith in
      let P : ℕ → Type 0 = λ (x : ℕ). Contains (places_from k 0 (length (bits_in signals k))) (Some (record { signal = k; bit = x })) in
      let Q : ℕ → Type 0 = λ (x : ℕ). Contains (places_from x 0 (length (bits_in signals x))) (Some (record { signal = k; bit = i })) in
      inl (subst Q (sym same) (subst P e (place_at k 0 (length (bits_in signals k)) i inside)))
  | inr later ↦ inr (write_some signals ks effect k i inside later)
]

-- the cells, then the joints, from the builder before both
process_whole : (old mid : Building) (variables : List ℕ) (effect : Store → Store) (bits : List (List Bit)) (joints : List Joint) → HasOwnNets old → Extends old mid → AllMean old mid variables bits effect → AllJoin old variables bits joints → Whole (Assign [] (λ s. 0) ∷ assigns old.signals variables effect) old (with_joints mid joints)
process_whole old mid variables effect bits joints own e mean join =
    let own_mid : HasOwnNets mid = own_stays old mid own e.signals e.nets in
    let step : AddsItem old (with_joints mid []) (Assign [] (λ s. 0)) = assigns_add old mid [] (λ s. 0) [] [] own e (λ nets runs. refl) tt in
    let Q : List Joint → Type 0 = λ (js : List Joint). AddsItem old (record mid { joints = js }) (Assign [] (λ s. 0)) in
    let first : AddsItem old mid (Assign [] (λ s. 0)) = subst Q (append-nil mid.joints) step in
    let rest : Whole (assigns mid.signals variables effect) mid (with_joints mid joints) = join_all mid variables bits joints effect own_mid (mean_of old mid mid variables bits effect e.signals mean) (join_of old mid variables bits joints e.signals join) in
    let S : List (List Bit) → Type 0 = λ (s : List (List Bit)). Whole (assigns s variables effect) mid (with_joints mid joints) in
    one_more (Assign [] (λ s. 0)) (assigns old.signals variables effect) old mid (with_joints mid joints) (are_below old own) first (subst S e.signals rest)

-- Joints of variables.

pub places_apart : (k i n : ℕ) → NamesOnce (places_from k i n)
places_apart k i zero = tt
places_apart k i (suc n) = ((λ has. omega (arith, place_after k (suc i) n k i has)), places_apart k (suc i) n)
  where
    place_after : (k i n k' i' : ℕ) → Contains (places_from k i n) (Some (record { signal = k'; bit = i' })) → i ≤ i'
    place_after k i zero k' i' has = absurd (has_none (Some (record { signal = k'; bit = i' })) has)
    place_after k i (suc n) k' i' has = elim (has_cases (places_from k (suc i) n) (Some (record { signal = k; bit = i })) (Some (record { signal = k'; bit = i' })) has) [
      | inl same ↦ (let is : record { signal = k; bit = i } ≡ record { signal = k'; bit = i' } = cc in let bit : i ≡ i' = ap (λ (p : Place). p.bit) is in omega arith)
      | inr later ↦ omega (arith, place_after k (suc i) n k' i' later)
    ]

-- a joint of a variable is that of one of its bits
variable_joint : (b : Building) (ks : List ℕ) (bits : List (List Bit)) (joints : List Joint) → AllJoin b ks bits joints → (j : Joint) → Contains joints j → (k : ℕ) × (i : ℕ) × IsBit b k i j.net × Contains ks k
variable_joint b [] bits joints join j has = absurd (has_none j (subst (λ (js : List Joint). Contains js j) join has))
variable_joint b (k ∷ ks) [] joints join j has = absurd join
variable_joint b (k ∷ ks) (x ∷ bits) joints join j has = elim (Contains-append_cases join.0 join.1 j (subst (λ (js : List Joint). Contains js j) join.2 has)) [
  | inl first ↦
      let r = place_of b (whole b k) x join.0 join.3 j first in
      let same : k ≡ r.0.signal = place_in k 0 (length (signal b k)) r.0.signal r.0.bit r.1 in
      (r.0.signal, r.0.bit, r.2, subst (λ (n : ℕ). Contains (k ∷ ks) n) same (has_first ks k))
  | inr rest ↦ let r = variable_joint b ks bits join.1 join.4 j rest in (r.0, r.1, r.2, has_more ks k r.0 r.3)
]

variables_once : (b : Building) (ks : List ℕ) (bits : List (List Bit)) (joints : List Joint) → HasOwnNets b → AllJoin b ks bits joints → NoneTwice ks → (n : ℕ) (x y : Bit) → Contains joints (record { net = n; bit = x }) → Contains joints (record { net = n; bit = y }) → x ≡ y
variables_once b [] bits joints own join once n x y has_x has_y = absurd (has_none (record { net = n; bit = x }) (subst (λ (js : List Joint). Contains js (record { net = n; bit = x })) join has_x))
variables_once b (k ∷ ks) [] joints own join once n x y has_x has_y = absurd join
variables_once b (k ∷ ks) (z ∷ bits) joints own join once n x y has_x has_y =
    elim (Contains-append_cases join.0 join.1 (record { net = n; bit = x }) (subst (λ (js : List Joint). Contains js (record { net = n; bit = x })) join.2 has_x)) [
      | inl first ↦ elim (Contains-append_cases join.0 join.1 (record { net = n; bit = y }) (subst (λ (js : List Joint). Contains js (record { net = n; bit = y })) join.2 has_y)) [
        | inl second ↦ joined_once b (whole b k) z join.0 own join.3 (places_apart k 0 (length (signal b k))) n x y first second
        | inr later ↦ absurd (apart x y first later)
      ]
      | inr later ↦ elim (Contains-append_cases join.0 join.1 (record { net = n; bit = y }) (subst (λ (js : List Joint). Contains js (record { net = n; bit = y })) join.2 has_y)) [
        | inl second ↦ absurd (apart y x second later)
        | inr also ↦ variables_once b ks bits join.1 own join.4 once.1 n x y later also
      ]
    ]
  where
    apart : (v w : Bit) → Contains join.0 (record { net = n; bit = v }) → Contains join.1 (record { net = n; bit = w }) → ⊥
    apart v w here later =
        let r = place_of b (whole b k) z join.0 join.3 (record { net = n; bit = v }) here in
        let same : k ≡ r.0.signal = place_in k 0 (length (signal b k)) r.0.signal r.0.bit r.1 in
        let t = variable_joint b ks bits join.1 join.4 (record { net = n; bit = w }) later in
        let one : t.0 ≡ r.0.signal = (are_apart b own t.0 t.1 r.0.signal r.0.bit n t.2 r.2).0 in
        once.0 (subst (λ (q : ℕ). Contains ks q) (one ∙ sym same) t.3)

pub combinational_add : CombinationalAdd
combinational_add old mid variables effect bits joints own settled e mean join =
    let w = process_whole old mid variables effect bits joints own e mean join in
    record {
      signals = w.signals;
      nets = w.nets;
      earlier = w.earlier;
      says = λ nets runs.
          let s : Store = store old nets in
          let small : (k : ℕ) → s k < 2 ^ length (signal old k) = λ k. store_fits old nets k (length (signal old k)) refl in
          let each : (k : ℕ) → Contains variables k → effect s k ≡ s k = said_value old.signals variables effect s small (settled.fits s) (w.say nets runs).1 in
          λ from same k has. settled.by_others from s same k has ∙ each k has;
      later = λ nets runs said. w.later nets runs (tt, value_said old.signals variables effect (store old nets) (λ k has. said (store old nets) (λ j other. refl) k has));
      more = [];
      registers = e.registers ∙ sym (append-nil old.registers);
      takes = λ nets runs. tt;
      written = λ k i inside written. elim (w.written k i inside written) [
        | inl before ↦ inl before
        | inr some ↦ elim some [ inl none ↦ absurd (has_none (Some (record { signal = k; bit = i })) none) | inr here ↦ inr (some_write old.signals variables effect k i here) ]
      ];
      writes = λ k i inside written. w.writes k i inside (elim written [ inl before ↦ inl before | inr here ↦ inr (inr (write_some old.signals variables effect k i inside here)) ]);
      stores = refl;
      joints = joints;
      joined = ap (λ (js : List Joint). js ++ joints) e.joints;
      joins = λ j has. variable_joint old variables bits joints join j has;
      joins_once = λ once n x y. variables_once old variables bits joints own join once n x y;
    }
