-- A left side that is joined to bits has the bits of their number.
use Rattle.flat_runs.proofs.Common.{◌≡◌, ◌⊎◌, ℕ, zero, suc, List, [], ◌∷◌, ◌++◌, slice_get, Option, None, Some, refl, sym, ◌∙◌, ap, subst, inl, inr, Contains, append-nil, Contains-append_left}
use Rattle.flat_runs.proofs.Common.{Contains-append_right, Contains-append_cases, Bit, Fixed, Net, Register, digit, number, Nets, bit_value, values, Store, Joint, Building, RunsIn, AllBelow}
use Rattle.flat_runs.proofs.Common.{PortsBelow, signal, store, Place, LeftIs, NamesOnce, IsJoined, IsStored, HasOwnNets, IsBit, IsWritten, Extended, Extends, with_joints, AreJoints, AreJointsBelow}
use Rattle.flat_runs.proofs.Common.{StandsBelow, whole, AllJoin, AssignsAdd, JointsStandBelow, VariablesStandBelow, has_first, has_more, has_none, has_cases}
use Rattle.flat_runs.proofs.Lists.{get_contains, contains_get}
use Rattle.flat_runs.proofs.Values.{half_of, low_of, digit_injective, value_at}
use Rattle.flat_runs.proofs.Signals.{bits_in, are_below, are_apart, store_same}

-- each joint holds
abbrev pub AllHold : Nets → List Joint → Type 0
AllHold nets [] = Unit {0}
AllHold nets (j ∷ more) = (nets j.net ≡ bit_value nets j.bit) × AllHold nets more

held_at : (nets : Nets) (joints : List Joint) (k : ℕ) (joint : Joint) → AllHold nets joints → slice_get joints k ≡ Some joint → nets joint.net ≡ bit_value nets joint.bit
held_at nets [] k joint h at = absurd cc
held_at nets (j ∷ more) zero joint h at = let same : j ≡ joint = cc in subst (λ (x : Joint). nets x.net ≡ bit_value nets x.bit) same h.0
held_at nets (j ∷ more) (suc k) joint h at = held_at nets more k joint h.1 at

all_held : (nets : Nets) (joints : List Joint) → ((joint : Joint) → Contains joints joint → nets joint.net ≡ bit_value nets joint.bit) → AllHold nets joints
all_held nets [] h = tt
all_held nets (j ∷ more) h = (h j (has_first more j), all_held nets more (λ joint has. h joint (has_more more j joint has)))

pub left_of : (b : Building) (nets : Nets) (left : List (Option Place)) (bits : List Bit) (joints : List Joint) → AreJoints b left bits joints → AllHold nets joints → LeftIs (store b nets) left (number (values nets bits))
left_of b nets [] bits joints a h = tt
left_of b nets (None ∷ more) [] joints a h = absurd a
left_of b nets (None ∷ more) (x ∷ bits) joints a h =
    let P : ℕ → Type 0 = λ (v : ℕ). LeftIs (store b nets) more v in
    (tt, subst P (sym (half_of (bit_value nets x) (number (values nets bits)))) (left_of b nets more bits joints a h))
left_of b nets (Some p ∷ more) [] joints a h = absurd a
left_of b nets (Some p ∷ more) (x ∷ bits) [] a h = absurd a
left_of b nets (Some p ∷ more) (x ∷ bits) (j ∷ joints) a h =
    let held : nets j.net ≡ bit_value nets x = h.0 ∙ ap (bit_value nets) a.1 in
    let P : ℕ → Type 0 = λ (v : ℕ). LeftIs (store b nets) more v in (
      value_at nets (signal b p.signal) p.bit j.net a.0 ∙ ap digit held ∙ sym (low_of (bit_value nets x) (number (values nets bits))),
      subst P (sym (half_of (bit_value nets x) (number (values nets bits)))) (left_of b nets more bits joints a.2 h.1),
    )

pub joints_of : (b : Building) (nets : Nets) (left : List (Option Place)) (bits : List Bit) (joints : List Joint) → AreJoints b left bits joints → LeftIs (store b nets) left (number (values nets bits)) → AllHold nets joints
joints_of b nets [] bits [] a l = tt
joints_of b nets [] bits (j ∷ joints) a l = absurd a
joints_of b nets (None ∷ more) [] joints a l = absurd a
joints_of b nets (None ∷ more) (x ∷ bits) joints a l =
    let P : ℕ → Type 0 = λ (v : ℕ). LeftIs (store b nets) more v in
    joints_of b nets more bits joints a (subst P (half_of (bit_value nets x) (number (values nets bits))) l.1)
joints_of b nets (Some p ∷ more) [] joints a l = absurd a
joints_of b nets (Some p ∷ more) (x ∷ bits) [] a l = absurd a
joints_of b nets (Some p ∷ more) (x ∷ bits) (j ∷ joints) a l =
    let value : digit (nets j.net) ≡ digit (bit_value nets x) = sym (value_at nets (signal b p.signal) p.bit j.net a.0) ∙ l.0 ∙ low_of (bit_value nets x) (number (values nets bits)) in
    let P : ℕ → Type 0 = λ (v : ℕ). LeftIs (store b nets) more v in (
      digit_injective (nets j.net) (bit_value nets x) value ∙ ap (bit_value nets) (sym a.1),
      joints_of b nets more bits joints a.2 (subst P (half_of (bit_value nets x) (number (values nets bits))) l.1),
    )

-- the place of a joint
pub place_of : (b : Building) (left : List (Option Place)) (bits : List Bit) (joints : List Joint) → AreJoints b left bits joints → (joint : Joint) → Contains joints joint → (p : Place) × Contains left (Some p) × IsBit b p.signal p.bit joint.net
place_of b [] bits [] a joint has = absurd (has_none joint has)
place_of b [] bits (j ∷ joints) a joint has = absurd a
place_of b (None ∷ more) [] joints a joint has = absurd a
place_of b (None ∷ more) (x ∷ bits) joints a joint has =
    let r = place_of b more bits joints a joint has in
    (r.0, has_more more None (Some r.0) r.1, r.2)
place_of b (Some p ∷ more) [] joints a joint has = absurd a
place_of b (Some p ∷ more) (x ∷ bits) [] a joint has = absurd a
place_of b (Some p ∷ more) (x ∷ bits) (j ∷ joints) a joint has = elim (has_cases joints j joint has) [
  | inl same ↦ (p, has_first more (Some p), subst (λ (y : Joint). IsBit b p.signal p.bit y.net) same a.0)
  | inr later ↦ let r = place_of b more bits joints a.2 joint later in (r.0, has_more more (Some p) (Some r.0) r.1, r.2)
]

-- no net is joined twice, where no place stands twice
pub joined_once : (b : Building) (left : List (Option Place)) (bits : List Bit) (joints : List Joint) → HasOwnNets b → AreJoints b left bits joints → NamesOnce left → (n : ℕ) (x y : Bit) → Contains joints (record { net = n; bit = x }) → Contains joints (record { net = n; bit = y }) → x ≡ y
joined_once b [] bits [] own a once n x y has_x has_y = absurd (has_none (record { net = n; bit = x }) has_x)
joined_once b [] bits (j ∷ joints) own a once n x y has_x has_y = absurd a
joined_once b (None ∷ more) [] joints own a once n x y has_x has_y = absurd a
joined_once b (None ∷ more) (z ∷ bits) joints own a once n x y has_x has_y = joined_once b more bits joints own a once n x y has_x has_y
joined_once b (Some p ∷ more) [] joints own a once n x y has_x has_y = absurd a
joined_once b (Some p ∷ more) (z ∷ bits) [] own a once n x y has_x has_y = absurd a
joined_once b (Some p ∷ more) (z ∷ bits) (j ∷ joints) own a once n x y has_x has_y = elim (has_cases joints j (record { net = n; bit = x }) has_x) [
  | inl first ↦ elim (has_cases joints j (record { net = n; bit = y }) has_y) [
    | inl second ↦ ap (λ (k : Joint). k.bit) (sym first ∙ second)
    | inr later ↦ absurd (apart y first later)
  ]
  | inr later ↦ elim (has_cases joints j (record { net = n; bit = y }) has_y) [
    | inl second ↦ absurd (apart x second later)
    | inr also ↦ joined_once b more bits joints own a.2 once.1 n x y later also
  ]
]
  where
    apart : {v : Bit} → (w : Bit) → j ≡ record { net = n; bit = v } → Contains joints (record { net = n; bit = w }) → ⊥
    apart w here later =
        let at : IsBit b p.signal p.bit n = subst (λ (k : ℕ). IsBit b p.signal p.bit k) (ap (λ (k : Joint). k.net) here) a.0 in
        let r = place_of b more bits joints a.2 (record { net = n; bit = w }) later in
        let same = are_apart b own r.0.signal r.0.bit p.signal p.bit n r.2 at in
        let is : r.0 ≡ p = (let first : r.0.signal ≡ p.signal = same.0 in let second : r.0.bit ≡ p.bit = same.1 in λ t. record { signal = first t; bit = second t }) in
        once.0 (subst (λ (q : Place). Contains more (Some q)) is r.1)

-- the joint of a place
joint_of : (b : Building) (left : List (Option Place)) (bits : List Bit) (joints : List Joint) → AreJoints b left bits joints → (p : Place) → Contains left (Some p) → (j : Joint) × Contains joints j × IsBit b p.signal p.bit j.net
joint_of b [] bits joints a p has = absurd (has_none (Some p) has)
joint_of b (None ∷ more) [] joints a p has = absurd a
joint_of b (None ∷ more) (x ∷ bits) joints a p has = elim (has_cases more None (Some p) has) [
  | inl same ↦ absurd cc
  | inr later ↦ joint_of b more bits joints a p later
]
joint_of b (Some q ∷ more) [] joints a p has = absurd a
joint_of b (Some q ∷ more) (x ∷ bits) [] a p has = absurd a
joint_of b (Some q ∷ more) (x ∷ bits) (j ∷ joints) a p has = elim (has_cases more (Some q) (Some p) has) [
  | inl same ↦ let is : q ≡ p = cc in (j, has_first joints j, subst (λ (y : Place). IsBit b y.signal y.bit j.net) is a.0)
  | inr later ↦ let r = joint_of b more bits joints a.2 p later in (r.0, has_more joints j r.0 r.1, r.2)
]

-- Runs of a builder with more joints.

joint_at : (joints more : List Joint) (joint : Joint) → Contains joints joint → (k : ℕ) × (slice_get (joints ++ more) k ≡ Some joint)
joint_at joints more joint has = contains_get (joints ++ more) joint (Contains-append_left joints more joint has)

runs_with : (b : Building) (joints : List Joint) (nets : Nets) → RunsIn b nets → AllHold nets joints → RunsIn (with_joints b joints) nets
runs_with b joints nets runs held = record {
  computed = runs.computed;
  joined = λ k joint at. elim (Contains-append_cases b.joints joints joint (get_contains (b.joints ++ joints) k joint at)) [
    | inl old ↦ let r = contains_get b.joints joint old in runs.joined r.0 joint r.1
    | inr new ↦ let r = contains_get joints joint new in held_at nets joints r.0 joint held r.1
  ];
}

pub runs_without : (b : Building) (joints : List Joint) (nets : Nets) → RunsIn (with_joints b joints) nets → RunsIn b nets
runs_without b joints nets runs = record {
  computed = runs.computed;
  joined = λ k joint at. let r = joint_at b.joints joints joint (get_contains b.joints k joint at) in runs.joined r.0 joint r.1;
}

joints_held : (b : Building) (joints : List Joint) (nets : Nets) → RunsIn (with_joints b joints) nets → AllHold nets joints
joints_held b joints nets runs = all_held nets joints (λ joint has.
    let r = contains_get (b.joints ++ joints) joint (Contains-append_right b.joints joints joint has) in
    runs.joined r.0 joint r.1)

-- What is written.

pub stored_same : (old mid : Building) (n : ℕ) → mid.registers ≡ old.registers → IsStored mid n → IsStored old n
stored_same old mid n same s = (s.0, subst (λ (rs : List Register). Contains rs s.0) same s.1, s.2)

pub joined_same : (old mid : Building) (n : ℕ) → mid.joints ≡ old.joints → IsJoined mid n → IsJoined old n
joined_same old mid n same j = (j.0, subst (λ (js : List Joint). Contains js (record { net = n; bit = j.0 })) same j.1)

pub bit_same : (old mid : Building) (k i n : ℕ) → mid.signals ≡ old.signals → IsBit mid k i n → IsBit old k i n
bit_same old mid k i n same at = subst (λ (s : List (List Bit)). slice_get (bits_in s k) i ≡ Some (Net n)) same at

assign_written : (old mid : Building) (left : List (Option Place)) (bits : List Bit) (joints : List Joint) → HasOwnNets old → Extends old mid → AreJoints old left bits joints → (k i : ℕ) → IsWritten (with_joints mid joints) k i → IsWritten old k i ⊎ Contains left (Some (record { signal = k; bit = i }))
assign_written old mid left bits joints own e a k i w =
    let n : ℕ = w.0 in
    let at : IsBit old k i n = bit_same old mid k i n e.signals w.1 in
    elim w.2 [
      | inl joined ↦ elim (Contains-append_cases mid.joints joints (record { net = n; bit = joined.0 }) joined.1) [
        | inl before ↦ inl (n, at, inl (joined_same old mid n e.joints (joined.0, before)))
        | inr new ↦
            let r = place_of old left bits joints a (record { net = n; bit = joined.0 }) new in
            let same = are_apart old own r.0.signal r.0.bit k i n r.2 at in
            let is : r.0 ≡ record { signal = k; bit = i } = (let first : r.0.signal ≡ k = same.0 in let second : r.0.bit ≡ i = same.1 in λ t. record { signal = first t; bit = second t }) in
            inr (subst (λ (p : Place). Contains left (Some p)) is r.1)
      ]
      | inr stored ↦ inl (n, at, inr (stored_same old mid n e.registers stored))
    ]

assign_writes_before : (old mid : Building) (joints : List Joint) → Extends old mid → (k i : ℕ) → IsWritten old k i → IsWritten (with_joints mid joints) k i
assign_writes_before old mid joints e k i w =
    let at : IsBit mid k i w.0 = bit_same mid old k i w.0 (sym e.signals) w.1 in (
      w.0,
      at,
      elim w.2 [
        | inl joined ↦ let j = joined_same mid old w.0 (sym e.joints) joined in inl (j.0, Contains-append_left mid.joints joints (record { net = w.0; bit = j.0 }) j.1)
        | inr stored ↦ inr (stored_same mid old w.0 (sym e.registers) stored)
      ],
    )

assign_writes_here : (old mid : Building) (left : List (Option Place)) (bits : List Bit) (joints : List Joint) → Extends old mid → AreJoints old left bits joints → (k i : ℕ) → Contains left (Some (record { signal = k; bit = i })) → IsWritten (with_joints mid joints) k i
assign_writes_here old mid left bits joints e a k i has =
    let r = joint_of old left bits joints a (record { signal = k; bit = i }) has in
    (r.0.net, bit_same mid old k i r.0.net (sym e.signals) r.2, inl (r.0.bit, Contains-append_right mid.joints joints r.0 r.1))

-- an assignment or a connection is added by its value's cells and the joints of its left side
pub assigns_add : AssignsAdd
assigns_add old mid left value bits joints own e mean a = record {
  signals = e.signals;
  nets = e.nets;
  earlier = λ nets runs. e.earlier nets (runs_without mid joints nets runs);
  says = λ nets runs.
      let is : number (values nets bits) ≡ value (store old nets) = mean nets (runs_without mid joints nets runs) in
      let P : ℕ → Type 0 = λ (v : ℕ). LeftIs (store old nets) left v in
      subst P is (left_of old nets left bits joints a (joints_held mid joints nets runs));
  later = λ nets runs said.
      let x : Extended old.nets nets mid = e.later nets runs in
      let same : store old x.wider ≡ store old nets = store_same old.signals x.wider nets (λ k i n at. x.agree n (are_below old own k i n at)) in
      let is : number (values x.wider bits) ≡ value (store old x.wider) = mean x.wider x.runs in
      let P : Store → Type 0 = λ (s : Store). LeftIs s left (value s) in
      let Q : ℕ → Type 0 = λ (v : ℕ). LeftIs (store old x.wider) left v in
      record {
        wider = x.wider;
        agree = x.agree;
        runs = runs_with mid joints x.wider x.runs (joints_of old x.wider left bits joints a (subst Q (sym is) (subst P (sym same) said)));
      };
  more = [];
  registers = e.registers ∙ sym (append-nil old.registers);
  takes = λ nets runs. tt;
  written = λ k i inside. assign_written old mid left bits joints own e a k i;
  writes = λ k i inside written. elim written [
    | inl before ↦ assign_writes_before old mid joints e k i before
    | inr here ↦ assign_writes_here old mid left bits joints e a k i here
  ];
  stores = refl;
  joints = joints;
  joined = ap (λ (js : List Joint). js ++ joints) e.joints;
  joins = λ j has. (let r = place_of old left bits joints a j has in (r.0.signal, r.0.bit, r.2, r.1));
  joins_once = λ once n x y. joined_once old left bits joints own a once n x y;
}

-- Joints of a left side stand below.

first_below : (limit : ℕ) (x : Bit) (bits : List Bit) → AllBelow limit (x ∷ bits) → AllBelow limit (x ∷ [])
first_below limit (Fixed v) bits h = tt
first_below limit (Net n) bits h = (h.0, tt)

rest_below : (limit : ℕ) (x : Bit) (bits : List Bit) → AllBelow limit (x ∷ bits) → AllBelow limit bits
rest_below limit (Fixed v) bits h = h
rest_below limit (Net n) bits h = h.1

new_joints : (b : Building) (left : List (Option Place)) (bits : List Bit) (joints : List Joint) → HasOwnNets b → AllBelow b.nets bits → AreJoints b left bits joints → AreJointsBelow b.nets joints
new_joints b [] bits [] own h a = tt
new_joints b [] bits (j ∷ joints) own h a = absurd a
new_joints b (None ∷ more) [] joints own h a = absurd a
new_joints b (None ∷ more) (x ∷ bits) joints own h a = new_joints b more bits joints own (rest_below b.nets x bits h) a
new_joints b (Some p ∷ more) [] joints own h a = absurd a
new_joints b (Some p ∷ more) (x ∷ bits) [] own h a = absurd a
new_joints b (Some p ∷ more) (x ∷ bits) (j ∷ joints) own h a = (
  are_below b own p.signal p.bit j.net a.0,
  subst (λ (y : Bit). AllBelow b.nets (y ∷ [])) (sym a.1) (first_below b.nets x bits h),
  new_joints b more bits joints own (rest_below b.nets x bits h) a.2,
)

joints_append : (limit : ℕ) (xs ys : List Joint) → AreJointsBelow limit xs → AreJointsBelow limit ys → AreJointsBelow limit (xs ++ ys)
joints_append limit [] ys h k = k
joints_append limit (x ∷ xs) ys h k = (h.0, h.1, joints_append limit xs ys h.2 k)

more_joints : (b : Building) (joints : List Joint) → StandsBelow b → AreJointsBelow b.nets joints → StandsBelow (with_joints b joints)
more_joints b joints stands below = record {
  cells = stands.cells;
  joints = joints_append b.nets b.joints joints stands.joints below;
  registers = stands.registers;
  formed = stands.formed;
  owned = stands.owned;
  outside = stands.outside;
}

pub joints_stand : JointsStandBelow
joints_stand b left bits joints own stands h a = more_joints b joints stands (new_joints b left bits joints own h a)

variables_joined : (b : Building) (ks : List ℕ) (bits : List (List Bit)) (joints : List Joint) → HasOwnNets b → PortsBelow b.nets bits → AllJoin b ks bits joints → AreJointsBelow b.nets joints
variables_joined b [] bits joints own h join = subst (λ (js : List Joint). AreJointsBelow b.nets js) (sym join) tt
variables_joined b (k ∷ ks) [] joints own h join = absurd join
variables_joined b (k ∷ ks) (x ∷ bits) joints own h join =
    let first : AreJointsBelow b.nets join.0 = new_joints b (whole b k) x join.0 own h.0 join.3 in
    let rest : AreJointsBelow b.nets join.1 = variables_joined b ks bits join.1 own h.1 join.4 in
    subst (λ (js : List Joint). AreJointsBelow b.nets js) (sym join.2) (joints_append b.nets join.0 join.1 first rest)

pub variables_stand : VariablesStandBelow
variables_stand b ks bits joints own stands h join = more_joints b joints stands (variables_joined b ks bits joints own h join)
