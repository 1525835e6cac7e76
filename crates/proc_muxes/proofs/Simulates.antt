-- In every run of the builder, what it has for the variables of a process are the values of the process's effect.
use Rattle.proc_muxes.proofs.Common.{◌≡◌, ◌⊎◌, ℕ, ◌+◌, ◌-◌, ◌*◌, ◌^◌, ◌<◌, ◌≤◌, max, pos, Bool, true, false, not, ◌&&◌, ◌||◌, List, [], ◌∷◌, ◌++◌, take, drop, length, Option, Some, None, nat_eq, refl}
use Rattle.proc_muxes.proofs.Common.{sym, ◌∙◌, ap, subst, inl, inr, arith, if◌then◌else◌, take-map, drop-map, length-take-le, length-drop, eqb_tells, Span, Bit, digit, number, Nets, bit_value, values}
use Rattle.proc_muxes.proofs.Common.{first_token, Expr, Shape, Names, Store, nothing, integer, extended, sense, own, index_of, assigned_shape, width_of, is_signed_of, value, is_constant, bits_of}
use Rattle.proc_muxes.proofs.Common.{Select, Whole, BitOf, Range, Indexed, Part, Vector, parts_of, part_vector, part_width, width_by, parts_width, select_width, bits_from, places, written, Assigning}
use Rattle.proc_muxes.proofs.Common.{Test, Selection, Done, Assign, Choose, Case, Refuse, Arms, Otherwise, Arm, dont_care, Values, numbers, Update, updated, updated_all, State, settled, put, put_all}
use Rattle.proc_muxes.proofs.Common.{part_updates, updates_of, right_bits, holds, bit_same, agree, sized_bits, matches, effect, arm_effect, started, left_by, Target, targets, arms_targets}
use Rattle.proc_muxes.proofs.Common.{part_targets, parts_targets, or-left, or-right, and-left, and-right, or-again, Building, RunsIn, Grows, AllBelow, fresh_bits, signal, store, index_width}
use Rattle.proc_muxes.proofs.Common.{Evaluates, runs_before, store_same, below_later, grows_again, Work, held, with_held, Index, variable_index, HasPlainBase, BuildsIndex, BuildsIndices, PutsBits}
use Rattle.proc_muxes.proofs.Common.{PutsPart, PutsParts, BuildsAssign, BuildsBit, BuildsTest, stands, distinct, choice_of, choices, Chooses, ChoosesAll, restored, kept, mattering, case_shape}
use Rattle.proc_muxes.proofs.Common.{BuildsLabel, BuildsMore, BuildsMatch, BuildsArms, Shows, Conforms, Keeps, BuildingKeeps, BuildsTheEffect, LeavesTheEffect, or_end, exact_unsigned_eq}
use Rattle.vlog_effects.specs.Effects.{assigned}
use Rattle.vlog_effects.proofs.Alike.{value-constant}
use Rattle.elab_expr.proofs.Bits.{number-fits}
use Rattle.proc_muxes.proofs.Bits.{number-same, values-are, take-bits_of, values-written, below-take, below-drop}
use Rattle.proc_muxes.proofs.Frames.{bit_same-true, number-false, signal-with, signal-grown, nets-added, runs-before, runs-held, stands-append, stands-distinct, held-grown, signals-grown}
use Rattle.proc_muxes.proofs.Keeping.{grows-index, grows-indices, grows-bit, grows-equal, grows-label, grows-more, grows-match, keeps-part, keeps-parts, assigned-grows, assigned-below, keeps-choices}
use Rattle.proc_muxes.proofs.Keeping.{keeps, keeps-arms}
use Rattle.proc_muxes.proofs.Gates.{mux-values, ror-values, equal-values, lor-values, kept-length, kept-agree}
use Rattle.proc_muxes.proofs.Puts.{put-values, index-value, shown-places}
use Rattle.vlog_effects.proofs.Numbers.{length-bits_of}

-- Updates.

pub updated_all-push : (us : List Update) (u : Update) (store : Values) → updated_all (us ++ u ∷ []) store ≡ updated u (updated_all us store)
updated_all-push [] u store = refl
updated_all-push (x ∷ us) u store = updated_all-push us u (updated x store)

-- a signal's bits after updates come from its bits before
pub updated_all-at : (us : List Update) (a b : Values) (n : ℕ) → a n ≡ b n → updated_all us a n ≡ updated_all us b n
updated_all-at [] a b n e = e
updated_all-at (u ∷ us) a b n e = updated_all-at us (updated u a) (updated u b) n (ap (λ (t : List Bool). if nat_eq n u.number then written t u.places u.bits else t) e)

put_all-append : (kind : Bool) (us ws : List Update) (s : State) → put_all kind (us ++ ws) s ≡ put_all kind ws (put_all kind us s)
put_all-append kind [] ws s = refl
put_all-append kind (u ∷ us) ws s = put_all-append kind us ws (put kind u s)

-- Kinds.

pub conforms-left : (kinds : ℕ → Bool) (xs ys : List Target) → Conforms kinds (xs ++ ys) → Conforms kinds xs
conforms-left kinds [] ys c = tt
conforms-left kinds (x ∷ xs) ys c = (c.0, conforms-left kinds xs ys c.1)

pub conforms-right : (kinds : ℕ → Bool) (xs ys : List Target) → Conforms kinds (xs ++ ys) → Conforms kinds ys
conforms-right kinds [] ys c = c
conforms-right kinds (x ∷ xs) ys c = conforms-right kinds xs ys c.1

-- Expressions.

store-is : (nets : Nets) (kinds : ℕ → Bool) (a : Work) (s : State) → Shows nets kinds a s → store a.building nets ≡ numbers s.now
store-is nets kinds a s sh = λ i n. (ap number (sh.now n) ∙ sym (number-same (s.now n))) i

evaluated : (nets : Nets) (names : Names) (e : Expr) (c : Shape) (old new : Building) (bits : List Bit) (vals : Values) → Evaluates names e c old new bits → RunsIn new nets → store old nets ≡ numbers vals → number (values nets bits) ≡ (sense names e).value (numbers vals) c
evaluated nets names e c old new bits vals ev runs same = ev.value_is nets runs ∙ ap (λ (st : Store). (sense names e).value st c) same

evaluated-bits : (nets : Nets) (names : Names) (e : Expr) (c : Shape) (old new : Building) (bits : List Bit) (vals : Values) → Evaluates names e c old new bits → RunsIn new nets → store old nets ≡ numbers vals → values nets bits ≡ bits_of c.width ((sense names e).value (numbers vals) c)
evaluated-bits nets names e c old new bits vals ev runs same = values-are nets bits c.width _ ev.long (evaluated nets names e c old new bits vals ev runs same)

shows-grown : (nets : Nets) (kinds : ℕ → Bool) (a : Work) (mid : Building) (s : State) → Grows a.building mid → Shows nets kinds a s → Shows nets kinds (record a { building = mid }) s
shows-grown nets kinds a mid s g sh = record {
  now = λ n. ap (λ (xs : List Bit). values nets xs) (signal-grown a.building mid g n) ∙ sh.now n;
  later = sh.later;
  quiet = sh.quiet;
}

-- Indices.

-- the bits of an index have its value
abbrev IndexIs : Nets → Names → Values → Option Index → List Bit → Type 0
IndexIs nets names vals None index = Unit {0}
IndexIs nets names vals (Some i) index =
    let s = (sense names i.expr).shape in
    let v = own (numbers vals) (sense names i.expr) in
    (1 ≤ s.width) × (v < 2 ^ s.width) × (number (values nets index) ≡ extended s (index_width s) v)

abbrev IndicesAre : Nets → Names → Values → List Part → List (List Bit) → Type 0
IndicesAre nets names vals [] indices = Unit {0}
IndicesAre nets names vals (p ∷ ps) [] = Unit {0}
IndicesAre nets names vals (p ∷ ps) (index ∷ indices) = IndexIs nets names vals (variable_index names p.select) index × IndicesAre nets names vals ps indices

index-is : (nets : Nets) (names : Names) (i : Option Index) (a b : Building) (index : List Bit) (vals : Values) → BuildsIndex names i a b index → RunsIn b nets → store a nets ≡ numbers vals → IndexIs nets names vals i index
index-is nets names None a b index vals f runs same = tt
index-is nets names (Some i) a b index vals f runs same =
    let s : Shape = (sense names i.expr).shape in
    let bits : List Bit = f.0 in
    let value : number (values nets bits) ≡ own (numbers vals) (sense names i.expr) = evaluated nets names i.expr s a b bits vals f.1 runs same in
    let fits : number (values nets bits) < 2 ^ s.width = subst (λ (w : ℕ). number (values nets bits) < 2 ^ w) f.1.long (number-fits nets bits) in
    (f.4, subst (λ (v : ℕ). v < 2 ^ s.width) value fits, ap (λ (l : List Bit). number (values nets l)) f.3 ∙ index-value nets s bits f.1.long f.4 ∙ ap (extended s (index_width s)) value)

indices-are : (nets : Nets) (names : Names) (ps : List Part) (a b : Building) (indices : List (List Bit)) (vals : Values) → BuildsIndices names ps a b indices → RunsIn b nets → store a nets ≡ numbers vals → IndicesAre nets names vals ps indices
indices-are nets names [] a b indices vals f runs same = tt
indices-are nets names (p ∷ ps) a b indices vals f runs same =
    let rest : Grows f.0 b = grows-indices names ps f.0 b f.2 f.4 in
    let here : IndexIs nets names vals (variable_index names p.select) f.1 = index-is nets names (variable_index names p.select) a f.0 f.1 vals f.3 (runs_before f.0 b nets rest runs) same in
    let later : IndicesAre nets names vals ps f.2 = indices-are nets names ps f.0 b f.2 vals f.4 runs (store_same a f.0 nets (grows-index names (variable_index names p.select) a f.0 f.1 f.3) ∙ same) in
    subst (λ (t : List (List Bit)). IndicesAre nets names vals (p ∷ ps) t) (sym f.5) (here, later)

no-index : (b : Bool) (i : Index) → (if b then None else Some i) ≡ None → b ≡ true
no-index true i e = refl
no-index false i e = cc

some-index : (b : Bool) (i j : Index) → (if b then None else Some i) ≡ Some j → i ≡ j
some-index true i j e = cc
some-index false i j e = cc

-- a select without index, or with a constant one, names the same bits at any values
fixed-places : (names : Names) (v : Vector) (s : Select) (a b : Store) → variable_index names s ≡ None → places names a v s ≡ places names b v s
fixed-places names v Whole a b e = refl
fixed-places names v (BitOf at i) a b e = ap (λ (t : ℕ). bits_from v (integer (sense names i).shape t) 1) (value-constant names i a b (width_of names i) (is_signed_of names i) (no-index (is_constant names i) (record { place = at; expr = i }) e))
fixed-places names v (Range at msb lsb) a b e = refl
fixed-places names v (Indexed at base count) a b e = ap (λ (t : ℕ). bits_from v (integer (sense names base).shape t) (select_width names v (Indexed at base count))) (value-constant names base a b (width_of names base) (is_signed_of names base) (no-index (is_constant names base) (record { place = at; expr = base }) e))

-- the places of a select with an index
index-places : (names : Names) (v : Vector) (s : Select) (i : Index) (vals : Store) → variable_index names s ≡ Some i → places names vals v s ≡ bits_from v (index_of vals (sense names i.expr)) (select_width names v s)
index-places names v Whole i vals e = cc
index-places names v (BitOf at x) i vals e = ap (λ (j : Index). bits_from v (index_of vals (sense names j.expr)) 1) (some-index (is_constant names x) (record { place = at; expr = x }) i e)
index-places names v (Range at msb lsb) i vals e = cc
index-places names v (Indexed at base count) i vals e = ap (λ (j : Index). bits_from v (index_of vals (sense names j.expr)) (select_width names v (Indexed at base count))) (some-index (is_constant names base) (record { place = at; expr = base }) i e)

-- one bit is written, or the index is unsigned
one-or-plain : (names : Names) (v : Vector) (s : Select) (i : Index) (n : ℕ) → variable_index names s ≡ Some i → HasPlainBase names s i.expr → n ≡ select_width names v s → ((sense names i.expr).shape.is_signed ≡ false) ⊎ (n ≡ 1)
one-or-plain names v Whole i n e plain long = cc
one-or-plain names v (BitOf at x) i n e plain long = inr long
one-or-plain names v (Range at msb lsb) i n e plain long = cc
one-or-plain names v (Indexed at base count) i n e plain long = inl plain

-- Assignments.

other-kind : (kinds : ℕ → Bool) (n k : ℕ) (b : Bool) → kinds n ≡ b → kinds k ≡ not b → nat_eq n k ≡ false
other-kind kinds n k b e f = elim (eqb_tells n k) [
  | inl h ↦ absurd (differ b (sym e ∙ ap kinds h.1 ∙ f))
  | inr h ↦ h.0
] where
  differ : (c : Bool) → c ≡ not c → ⊥
  differ true g = cc
  differ false g = cc

values-choice : (nets : Nets) (b : Bool) (xs ys : List Bit) → values nets (if b then xs else ys) ≡ (if b then values nets xs else values nets ys)
values-choice nets true xs ys = refl
values-choice nets false xs ys = refl

pub shows-held : (nets : Nets) (kinds : ℕ → Bool) (kind : Bool) (k : ℕ) (ps : List (Option ℕ)) (vs : List Bool) (bits : List Bit) (a : Work) (s : State) → k < length a.building.signals → kind ≡ kinds k → values nets bits ≡ written (values nets (held a kind k)) ps vs → Shows nets kinds a s → Shows nets kinds (with_held kind k bits a) (put kind (record { number = k; places = ps; bits = vs }) s)
shows-held nets kinds true k ps vs bits a s known same e sh = record {
  now = λ n. ap (values nets) (signal-with a.building k n bits known) ∙ at n;
  later = λ n later.
      let u : Update = record { number = k; places = ps; bits = vs } in
      let apart : nat_eq n k ≡ false = other-kind kinds n k false later (sym same) in
      let still : updated u s.now n ≡ s.now n = rw apart refl in
      sh.later n later ∙ sym (updated_all-at s.scheduled (updated u s.now) s.now n still);
  quiet = sh.quiet;
} where
  at : (n : ℕ) → values nets (if nat_eq n k then bits else signal a.building n) ≡ (if nat_eq n k then written (s.now n) ps vs else s.now n)
  at n = elim (eqb_tells n k) [
    | inl h ↦ rw (h.0, h.1) (e ∙ ap (λ (t : List Bool). written t ps vs) (sh.now k))
    | inr h ↦ rw h.0 (sh.now n)
  ]
shows-held nets kinds false k ps vs bits a s known same e sh = record {
  now = sh.now;
  later = λ n later. at n later ∙ ap (λ (st : Values). st n) (sym (updated_all-push s.scheduled (record { number = k; places = ps; bits = vs }) s.now));
  quiet = λ n blocking store.
      let u : Update = record { number = k; places = ps; bits = vs } in
      let apart : nat_eq n k ≡ false = other-kind kinds n k true blocking (sym same) in
      let still : updated u (updated_all s.scheduled store) n ≡ updated_all s.scheduled store n = rw apart refl in
      ap (λ (st : Values). st n) (updated_all-push s.scheduled u store) ∙ still ∙ sh.quiet n blocking store;
} where
  at : (n : ℕ) → kinds n ≡ false → values nets (if nat_eq n k then bits else a.pending n) ≡ (if nat_eq n k then written (settled s n) ps vs else settled s n)
  at n later = elim (eqb_tells n k) [
    | inl h ↦ rw (h.0, h.1) (e ∙ ap (λ (t : List Bool). written t ps vs) (sh.later k (sym same)))
    | inr h ↦ rw h.0 (sh.later n later)
  ]

simulates-bits : (nets : Nets) (kinds : ℕ → Bool) (kind : Bool) (names : Names) (v : Vector) (sel : Select) (bits index : List Bit) (i : Option Index) (a b : Work) (vals : Values) (s : State) → variable_index names sel ≡ i → v.number < length a.building.signals → length (held a kind v.number) ≡ v.width → kind ≡ kinds v.number → length bits ≡ select_width names v sel → IndexIs nets names vals i index → PutsBits kind names v sel bits index i a b → RunsIn b.building nets → Shows nets kinds a s → Shows nets kinds b (put kind (record { number = v.number; places = places names (numbers vals) v sel; bits = values nets bits }) s)
simulates-bits nets kinds kind names v sel bits index None a b vals s is known wide conform long known_index f runs sh =
    let ps : List (Option ℕ) = places names nothing v sel in
    let same : ps ≡ places names (numbers vals) v sel = fixed-places names v sel nothing (numbers vals) is in
    let new : List Bit = written (held a kind v.number) ps bits in
    let shown : values nets new ≡ written (values nets (held a kind v.number)) (places names (numbers vals) v sel) (values nets bits) = values-written nets (held a kind v.number) ps bits ∙ ap (λ (t : List (Option ℕ)). written (values nets (held a kind v.number)) t (values nets bits)) same in
    subst (λ (w : Work). Shows nets kinds w (put kind (record { number = v.number; places = places names (numbers vals) v sel; bits = values nets bits }) s)) (sym f)
    (shows-held nets kinds kind v.number (places names (numbers vals) v sel) (values nets bits) new a s known conform shown sh)
simulates-bits nets kinds kind names v sel bits index (Some i) a b vals s is known wide conform long known_index f runs sh =
    let mid : Building = f.1 in
    let c : Work = record a { building = mid } in
    let runs_c : RunsIn mid nets = runs-held kind v.number (fresh_bits a.building.nets v.width) c nets (subst (λ (w : Work). RunsIn w.building nets) f.3 runs) in
    let g : Grows a.building mid = f.2.0 in
    let sh_c : Shows nets kinds c s = shows-grown nets kinds a mid s g sh in
    let same : held c kind v.number ≡ held a kind v.number = held-grown a mid kind v.number g in
    let lays : values nets (fresh_bits a.building.nets v.width) ≡ written (values nets (held a kind v.number)) (bits_from v (pos (number (values nets index))) (length bits)) (values nets bits) = put-values a.building mid (held a kind v.number) index bits v i.place nets f.2 runs_c wide f.0.low in
    let from : bits_from v (pos (number (values nets index))) (length bits) ≡ bits_from v (index_of (numbers vals) (sense names i.expr)) (length bits) =
    ap (λ (n : ℕ). bits_from v (pos n) (length bits)) known_index.2
    ∙ shown-places v (sense names i.expr).shape (own (numbers vals) (sense names i.expr)) (length bits) f.0.low f.0.narrow known_index.0 known_index.1 (one-or-plain names v sel i (length bits) is f.0.plain long) in
    let there : values nets (fresh_bits a.building.nets v.width) ≡ written (values nets (held c kind v.number)) (places names (numbers vals) v sel) (values nets bits) = rw (same, index-places names v sel i (numbers vals) is, ← long) (lays ∙ ap (λ (t : List (Option ℕ)). written (values nets (held a kind v.number)) t (values nets bits)) from) in
    let known_c : v.number < length mid.signals = rw (signals-grown a.building mid g) known in
    subst (λ (w : Work). Shows nets kinds w (put kind (record { number = v.number; places = places names (numbers vals) v sel; bits = values nets bits }) s)) (sym f.3)
    (shows-held nets kinds kind v.number (places names (numbers vals) v sel) (values nets bits) (fresh_bits a.building.nets v.width) c s known_c conform there sh_c)

simulates-part : (nets : Nets) (kinds : ℕ → Bool) (kind : Bool) (names : Names) (p : Part) (vec : Option Vector) (bits index : List Bit) (a b : Work) (vals : Values) (s : State) → PutsPart kind names p vec bits index a b → length bits ≡ width_by names p.select vec → IndexIs nets names vals (variable_index names p.select) index → Conforms kinds (part_targets kind p vec) → RunsIn b.building nets → Shows nets kinds a s → Shows nets kinds b (put_all kind (part_updates names vals p vec (values nets bits)) s)
simulates-part nets kinds kind names p None bits index a b vals s f long known conform runs sh = absurd f
simulates-part nets kinds kind names p (Some v) bits index a b vals s f long known conform runs sh = simulates-bits nets kinds kind names v p.select bits index (variable_index names p.select) a b vals s refl f.0 f.1 conform.0 long known f.2 runs sh

simulates-parts : (nets : Nets) (kinds : ℕ → Bool) (kind : Bool) (names : Names) (ps : List Part) (bits : List Bit) (indices : List (List Bit)) (a b : Work) (vals : Values) (s : State) → PutsParts kind names ps bits indices a b → length bits ≡ parts_width names ps → AllBelow a.building.nets bits → IndicesAre nets names vals ps indices → Conforms kinds (parts_targets kind names ps) → RunsIn b.building nets → Shows nets kinds a s → Shows nets kinds b (put_all kind (updates_of names vals ps (values nets bits)) s)
simulates-parts nets kinds kind names [] bits indices a b vals s e long below known conform runs sh = subst (λ (w : Work). Shows nets kinds w s) (sym e) sh
simulates-parts nets kinds kind names (p ∷ ps) bits [] a b vals s f long below known conform runs sh = absurd f
simulates-parts nets kinds kind names (p ∷ ps) bits (index ∷ indices) a b vals s f long below known conform runs sh =
    let rest : ℕ = parts_width names ps in
    let m : Work = f.0 in
    let vec : Option Vector = part_vector names p in
    let xs : List Target = part_targets kind p vec in
    let ys : List Target = parts_targets kind names ps in
    let below_low : AllBelow a.building.nets (take rest bits) = below-take a.building.nets rest bits below in
    let k : Keeps ys a m = keeps-parts kind names ps (take rest bits) indices a m below_low f.1 in
    let below_high : AllBelow m.building.nets (drop rest bits) = below_later a.building.nets m.building.nets (drop rest bits) (nets-added a.building m.building k.adds) (below-drop a.building.nets rest bits below) in
    let runs_m : RunsIn m.building nets = runs-before m.building b.building nets (keeps-part kind names p vec (drop rest bits) index m b below_high f.2).adds runs in
    let high : length (drop rest bits) ≡ part_width names p = length-drop rest bits ∙ (let w : ℕ = part_width names p in let whole : length bits ≡ w + rest = long in omega arith) in
    let low : length (take rest bits) ≡ rest = length-take-le rest bits (let w : ℕ = part_width names p in let whole : length bits ≡ w + rest = long in omega arith) in
    let us : List Update = updates_of names vals ps (values nets (take rest bits)) in
    let first : Shows nets kinds m (put_all kind us s) = simulates-parts nets kinds kind names ps (take rest bits) indices a m vals s f.1 low below_low known.1 (conforms-right kinds xs ys conform) runs_m sh in
    let last : Shows nets kinds b (put_all kind (part_updates names vals p vec (values nets (drop rest bits))) (put_all kind us s)) = simulates-part nets kinds kind names p vec (drop rest bits) index m b vals (put_all kind us s) f.2 high known.0 (conforms-left kinds xs ys conform) runs first in
    let both : Shows nets kinds b (put_all kind (us ++ part_updates names vals p vec (values nets (drop rest bits))) s) = subst (λ (t : State). Shows nets kinds b t) (sym (put_all-append kind us (part_updates names vals p vec (values nets (drop rest bits))) s)) last in
    rw (drop-map (bit_value nets) rest bits, take-map (bit_value nets) rest bits) both

max-turned : (a b : ℕ) → max a b ≡ max b a
max-turned a b = omega arith

simulates-assign : (nets : Nets) (kinds : ℕ → Bool) (x : Assigning) (a b : Work) (s : State) → BuildsAssign x a b → Conforms kinds (parts_targets x.is_blocking x.names (parts_of x.left)) → RunsIn b.building nets → Shows nets kinds a s → Shows nets kinds b (assigned x s)
simulates-assign nets kinds x a b s f conform runs sh =
    let ps : List Part = parts_of x.left in
    let w : ℕ = parts_width x.names ps in
    let c : Shape = assigned_shape (sense x.names x.right) w in
    let mid : Building = f.0 in
    let last : Building = f.1 in
    let right : List Bit = f.2 in
    let m : Work = record a { building = last } in
    let below : AllBelow last.nets (take w right) = assigned-below x a b f in
    let runs_last : RunsIn last nets = runs-before last b.building nets (keeps-parts x.is_blocking x.names ps (take w right) f.3 m b below f.6).adds runs in
    let g : Grows mid last = grows-indices x.names ps mid last f.3 f.5 in
    let runs_mid : RunsIn mid nets = runs_before mid last nets g runs_last in
    let same : store a.building nets ≡ numbers s.now = store-is nets kinds a s sh in
    let v : ℕ = (sense x.names x.right).value (numbers s.now) c in
    let all : values nets right ≡ bits_of c.width v = evaluated-bits nets x.names x.right c a.building mid right s.now f.4 runs_mid same in
    let less : w ≤ c.width = omega arith in
    let split : c.width ≡ w + (c.width - w) = omega arith in
    let cut : take w (bits_of c.width v) ≡ bits_of w v = (let P : ℕ → Type 0 = λ (n : ℕ). take w (bits_of n v) ≡ bits_of w v in subst P (sym split) (take-bits_of w (c.width - w) v)) in
    let shape : v ≡ value x.names (numbers s.now) (max w (width_of x.names x.right)) (is_signed_of x.names x.right) x.right = ap (λ (n : ℕ). (sense x.names x.right).value (numbers s.now) (record { width = n; is_signed = is_signed_of x.names x.right })) (max-turned (width_of x.names x.right) w) in
    let is : values nets (take w right) ≡ right_bits x.names w x.right s.now = sym (take-map (bit_value nets) w right) ∙ ap (λ (t : List Bool). take w t) all ∙ cut ∙ ap (bits_of w) shape in
    let long : length (take w right) ≡ w = length-take-le w right (rw f.4.long less) in
    let known : IndicesAre nets x.names s.now ps f.3 = indices-are nets x.names ps mid last f.3 s.now f.5 runs_last (store_same a.building mid nets f.4.grows ∙ same) in
    let sh_m : Shows nets kinds m s = shows-grown nets kinds a last s (assigned-grows x a b f) sh in
    subst (λ (t : List Bool). Shows nets kinds b (put_all x.is_blocking (updates_of x.names s.now ps t) s)) is (simulates-parts nets kinds x.is_blocking x.names ps (take w right) f.3 m b s.now s f.6 long below known conform runs sh_m)

-- Conditions.

one-bit : (nets : Nets) (bits : List Bit) → length bits ≡ 1 → values nets bits ≡ not (nat_eq (number (values nets bits)) 0) ∷ []
one-bit nets [] e = cc
one-bit nets (x ∷ []) e = ap (λ (b : Bool). b ∷ []) (bit (bit_value nets x)) where
  bit : (b : Bool) → b ≡ not (nat_eq (digit b + 2 * 0) 0)
  bit true = refl
  bit false = refl
one-bit nets (x ∷ y ∷ more) e = absurd (omega arith)

test-bit : (nets : Nets) (at : Span) (bits : List Bit) (a b : Building) (test : List Bit) → BuildsBit at bits a b test → RunsIn b nets → values nets test ≡ not (nat_eq (number (values nets bits)) 0) ∷ []
test-bit nets at bits a b test (inl f) runs = ap (values nets) f.2 ∙ one-bit nets bits f.0
test-bit nets at bits a b test (inr f) runs = ap (values nets) f.2 ∙ ror-values a b bits at nets f.1 runs

-- a condition's bit is whether it holds
pub record ShowsTest (nets : Nets) (kinds : ℕ → Bool) (b : Work) (s : State) (test : List Bit) (holding : Bool) : Type 0 where
  pub shows : Shows nets kinds b s
  pub bit : values nets test ≡ holding ∷ []

simulates-test : (nets : Nets) (kinds : ℕ → Bool) (c : Test) (a b : Work) (test : List Bit) (s : State) → BuildsTest c a b test → RunsIn b.building nets → Shows nets kinds a s → ShowsTest nets kinds b s test (holds c s.now)
simulates-test nets kinds c a b test s f runs sh =
    let mid : Building = f.0 in
    let last : Building = f.1 in
    let bits : List Bit = f.2 in
    let at : Span = first_token c.condition in
    let g : Grows mid last = grows-bit at bits mid last test f.4 in
    let runs_last : RunsIn last nets = subst (λ (w : Work). RunsIn w.building nets) f.5 runs in
    let is : number (values nets bits) ≡ (sense c.names c.condition).value (numbers s.now) (sense c.names c.condition).shape = evaluated nets c.names c.condition (sense c.names c.condition).shape a.building mid bits s.now f.3 (runs_before mid last nets g runs_last) (store-is nets kinds a s sh) in
    let found : values nets test ≡ holds c s.now ∷ [] = test-bit nets at bits mid last test f.4 runs_last ∙ ap (λ (n : ℕ). not (nat_eq n 0) ∷ []) is in
    let all : Grows a.building last = grows_again a.building mid last f.3.grows g in
    record { shows = subst (λ (w : Work). Shows nets kinds w s) (sym f.5) (shows-grown nets kinds a last s all sh); bit = found }

-- Labels.

label-bit : (nets : Nets) (c : Selection) (selector : List Bit) (x : Expr) (a b : Building) (test : List Bit) (vals : Values) → BuildsLabel c selector x a b test → length selector ≡ c.width → values nets selector ≡ sized_bits c vals c.selector → RunsIn b nets → store a nets ≡ numbers vals → values nets test ≡ agree (bits_of c.width (dont_care c.kind x)) (sized_bits c vals c.selector) (sized_bits c vals x) ∷ []
label-bit nets c selector x a b test vals f long is runs same =
    let mid : Building = f.0 in
    let bits : List Bit = f.1 in
    let ignored : List Bool = bits_of c.width (dont_care c.kind x) in
    let is_label : values nets bits ≡ sized_bits c vals x = evaluated-bits nets c.names x (case_shape c) a mid bits vals f.2 (runs_before mid b nets (grows-equal (mattering ignored) (kept ignored selector) (kept ignored bits) (first_token x) mid b test f.3) runs) same in
    let size : length ignored ≡ c.width = length-bits_of c.width (dont_care c.kind x) in
    let agrees : nat_eq (number (values nets (kept ignored selector))) (number (values nets (kept ignored bits))) ≡ agree ignored (values nets selector) (values nets bits) = kept-agree nets c.width ignored selector bits size long f.2.long in
    equal-values (mattering ignored) (kept ignored selector) (kept ignored bits) (first_token x) mid b test nets f.3 (kept-length ignored selector (size ∙ sym long)) (kept-length ignored bits (size ∙ sym f.2.long)) runs ∙ ap (λ (t : Bool). t ∷ []) (agrees ∙ rw (is, is_label) refl)

more-bit : (nets : Nets) (c : Selection) (selector : List Bit) (xs : List Expr) (before : List Bit) (a b : Building) (test : List Bit) (vals : Values) (so_far : Bool) → BuildsMore c selector xs before a b test → length selector ≡ c.width → values nets selector ≡ sized_bits c vals c.selector → RunsIn b nets → store a nets ≡ numbers vals → values nets before ≡ so_far ∷ [] → values nets test ≡ (so_far || matches c vals xs) ∷ []
more-bit nets c selector [] before a b test vals so_far f long is runs same e = ap (values nets) f.1 ∙ e ∙ ap (λ (t : Bool). t ∷ []) (sym (or_end so_far))
more-bit nets c selector (x ∷ more) before a b test vals so_far f long is runs same e =
    let mid : Building = f.0 in
    let last : Building = f.1 in
    let here : Bool = agree (bits_of c.width (dont_care c.kind x)) (sized_bits c vals c.selector) (sized_bits c vals x) in
    let runs_last : RunsIn last nets = runs_before last b nets (grows-more c selector more (fresh_bits mid.nets 1) last b test f.5) runs in
    let runs_mid : RunsIn mid nets = runs_before mid last nets f.4.0 runs_last in
    let label : values nets f.2 ≡ here ∷ [] = label-bit nets c selector x a mid f.2 vals f.3 long is runs_mid same in
    let joined : values nets (fresh_bits mid.nets 1) ≡ (so_far || here) ∷ [] = lor-values mid last before f.2 (first_token x) nets so_far here f.4 runs_last e label in
    let same_last : store last nets ≡ numbers vals = store_same mid last nets f.4.0 ∙ store_same a mid nets (grows-label c selector x a mid f.2 f.3) ∙ same in
    more-bit nets c selector more (fresh_bits mid.nets 1) last b test vals (so_far || here) f.5 long is runs same_last joined ∙ ap (λ (t : Bool). t ∷ []) (or-again so_far here (matches c vals more))

match-bit : (nets : Nets) (c : Selection) (selector : List Bit) (xs : List Expr) (a b : Building) (test : List Bit) (vals : Values) → BuildsMatch c selector xs a b test → length selector ≡ c.width → values nets selector ≡ sized_bits c vals c.selector → RunsIn b nets → store a nets ≡ numbers vals → values nets test ≡ matches c vals xs ∷ []
match-bit nets c selector [] a b test vals f long is runs same = absurd f
match-bit nets c selector (x ∷ more) a b test vals f long is runs same =
    let mid : Building = f.0 in
    let runs_mid : RunsIn mid nets = runs_before mid b nets (grows-more c selector more f.1 mid b test f.3) runs in
    more-bit nets c selector more f.1 mid b test vals _ f.3 long is runs (store_same a mid nets (grows-label c selector x a mid f.1 f.2) ∙ same) (label-bit nets c selector x a mid f.1 vals f.2 long is runs_mid same)

-- Muxes.

pub number-turned : (a b : ℕ) → nat_eq a b ≡ nat_eq b a
number-turned a b = elim (eqb_tells a b) [
  | inl h ↦ elim (eqb_tells b a) [ inl g ↦ h.0 ∙ sym g.0 | inr g ↦ absurd (g.1 (sym h.1)) ]
  | inr h ↦ h.0 ∙ sym (number-false a b h.0)
]

and-true : (b : Bool) → (b && true) ≡ b
and-true true = refl
and-true false = refl

and-false : (b : Bool) → (b && false) ≡ false
and-false true = refl
and-false false = refl

-- what is held where one variable gets other bits
pub held-with : (kind j : Bool) (m n : ℕ) (bits : List Bit) (c : Work) → m < length c.building.signals → held (with_held j m bits c) kind n ≡ (if nat_eq m n && bit_same kind j then bits else held c kind n)
held-with true true m n bits c known = signal-with c.building m n bits known ∙ rw (number-turned n m, and-true (nat_eq m n)) refl
held-with true false m n bits c known = rw (and-false (nat_eq m n)) refl
held-with false true m n bits c known = rw (and-false (nat_eq m n)) refl
held-with false false m n bits c known = rw (number-turned n m, and-true (nat_eq m n)) refl

mux-held : (nets : Nets) (at : Span) (test : List Bit) (y : Work) (x : Target) (a b : Work) (c : Bool) → Chooses at test (choice_of y x) a b → RunsIn b.building nets → values nets test ≡ c ∷ [] → (kind : Bool) (n : ℕ) → values nets (held b kind n) ≡ (if (nat_eq x.number n && bit_same kind x.is_blocking) && c then values nets (held y kind n) else values nets (held a kind n))
mux-held nets at test y x a b c f runs is kind n =
    let j : Bool = x.is_blocking in
    let w : ℕ = length (held a j x.number) in
    let mid : Building = f.2 in
    let m : Work = record a { building = mid } in
    let bits : List Bit = fresh_bits a.building.nets w in
    let runs_m : RunsIn mid nets = runs-held j x.number bits m nets (subst (λ (z : Work). RunsIn z.building nets) f.4 runs) in
    let out : values nets bits ≡ (if c then values nets (held y j x.number) else values nets (held a j x.number)) = mux-values a.building mid test (held a j x.number) (held y j x.number) w at nets c f.3 runs_m is refl f.1 in
    let known : x.number < length mid.signals = rw (signals-grown a.building mid f.3.0) f.0 in
    ap (λ (z : Work). values nets (held z kind n)) f.4 ∙ ap (values nets) (held-with kind j x.number n bits m known) ∙ values-choice nets (nat_eq x.number n && bit_same kind j) bits (held m kind n) ∙
    rw (held-grown a mid kind n f.3.0) (go (nat_eq x.number n && bit_same kind j) refl out) where
      go : (here : Bool) → (nat_eq x.number n && bit_same kind x.is_blocking) ≡ here → values nets (fresh_bits a.building.nets (length (held a x.is_blocking x.number))) ≡ (if c then values nets (held y x.is_blocking x.number) else values nets (held a x.is_blocking x.number)) → (if here then values nets (fresh_bits a.building.nets (length (held a x.is_blocking x.number))) else values nets (held a kind n)) ≡ (if here && c then values nets (held y kind n) else values nets (held a kind n))
      go true e out =
          let same : x.number ≡ n = exact_unsigned_eq x.number n (and-left (nat_eq x.number n) (bit_same kind x.is_blocking) e) in
          let alike : kind ≡ x.is_blocking = bit_same-true kind x.is_blocking (and-right (nat_eq x.number n) (bit_same kind x.is_blocking) e) in
          rw (alike, ← same) out
      go false e out = refl

choices-held : (nets : Nets) (at : Span) (test : List Bit) (y : Work) (ks : List Target) (a b : Work) (c : Bool) → ChoosesAll at test (choices y ks) a b → RunsIn b.building nets → values nets test ≡ c ∷ [] → (kind : Bool) (n : ℕ) → values nets (held b kind n) ≡ (if stands kind ks n && c then values nets (held y kind n) else values nets (held a kind n))
choices-held nets at test y [] a b c f runs is kind n = ap (λ (z : Work). values nets (held z kind n)) f
choices-held nets at test y (x ∷ more) a b c f runs is kind n =
    let m : Work = f.0 in
    let runs_m : RunsIn m.building nets = runs-before m.building b.building nets (keeps-choices at test y more m b f.2).adds runs in
    let here = mux-held nets at test y x a m c f.1 runs_m is kind n in
    let later = choices-held nets at test y more m b c f.2 runs is kind n in
    later ∙ join (nat_eq x.number n && bit_same kind x.is_blocking) (stands kind more n) c (values nets (held y kind n)) (values nets (held a kind n)) (values nets (held m kind n)) here where
      join : (h s b : Bool) (vy va vm : List Bool) → vm ≡ (if h && b then vy else va) → (if s && b then vy else vm) ≡ (if (h || s) && b then vy else va)
      join true true true vy va vm e = refl
      join true true false vy va vm e = e
      join true false true vy va vm e = e
      join true false false vy va vm e = e
      join false true true vy va vm e = refl
      join false true false vy va vm e = e
      join false false true vy va vm e = e
      join false false false vy va vm e = e

-- A choice: muxes of both parts.
simulates-choice : (nets : Nets) (kinds : ℕ → Bool) (at : Span) (test : List Bit) (ps qs : List Target) (t y n m : Work) (b : Bool) (s u : State) → Keeps ps t y → Keeps qs (restored t y) n → ChoosesAll at test (choices y (distinct (ps ++ qs))) n m → values nets test ≡ b ∷ [] → RunsIn m.building nets → Shows nets kinds y s → Shows nets kinds n u → Shows nets kinds m (if b then s else u)
simulates-choice nets kinds at test ps qs t y n m b s u p q f is runs sy sn = go b is where
  whole : (c : Bool) → values nets test ≡ c ∷ [] → (kind : Bool) (k : ℕ) → values nets (held m kind k) ≡ (if stands kind (ps ++ qs) k && c then values nets (held y kind k) else values nets (held n kind k))
  whole c e kind k = choices-held nets at test y (distinct (ps ++ qs)) n m c f runs e kind k ∙ rw (stands-distinct kind (ps ++ qs) k) refl

  -- a variable that no part assigns is the same in both
  apart : (kind : Bool) (k : ℕ) → stands kind (ps ++ qs) k ≡ false → held n kind k ≡ held y kind k
  apart true k e =
      let both : (stands true ps k || stands true qs k) ≡ false = sym (stands-append true ps qs k) ∙ e in
      q.seen_kept k (or-right (stands true ps k) (stands true qs k) both) ∙ sym (p.seen_kept k (or-left (stands true ps k) (stands true qs k) both))
  apart false k e =
      let both : (stands false ps k || stands false qs k) ≡ false = sym (stands-append false ps qs k) ∙ e in
      q.later_kept k (or-right (stands false ps k) (stands false qs k) both) ∙ sym (p.later_kept k (or-left (stands false ps k) (stands false qs k) both))

  taken : (kind : Bool) (k : ℕ) (e : Bool) → stands kind (ps ++ qs) k ≡ e → (if e && true then values nets (held y kind k) else values nets (held n kind k)) ≡ values nets (held y kind k)
  taken kind k true e = refl
  taken kind k false e = ap (values nets) (apart kind k e)

  left : (e : Bool) (xs ys : List Bool) → (if e && false then xs else ys) ≡ ys
  left true xs ys = refl
  left false xs ys = refl

  go : (c : Bool) → values nets test ≡ c ∷ [] → Shows nets kinds m (if c then s else u)
  go true e = record {
    now = λ k. whole true e true k ∙ taken true k (stands true (ps ++ qs) k) refl ∙ sy.now k;
    later = λ k l. whole true e false k ∙ taken false k (stands false (ps ++ qs) k) refl ∙ sy.later k l;
    quiet = sy.quiet;
  }
  go false e = record {
    now = λ k. whole false e true k ∙ left (stands true (ps ++ qs) k) (values nets (held y true k)) (values nets (held n true k)) ∙ sn.now k;
    later = λ k l. whole false e false k ∙ left (stands false (ps ++ qs) k) (values nets (held y false k)) (values nets (held n false k)) ∙ sn.later k l;
    quiet = sn.quiet;
  }

shows-restored : (nets : Nets) (kinds : ℕ → Bool) (t y : Work) (s : State) → Shows nets kinds t s → Shows nets kinds (restored t y) s
shows-restored nets kinds t y s sh = record { now = sh.now; later = sh.later; quiet = sh.quiet }

runs-restored : (t y : Work) (nets : Nets) → RunsIn (restored t y).building nets → RunsIn y.building nets
runs-restored t y nets r = record { computed = r.computed; joined = r.joined }

mutual
  pub simulates : BuildsTheEffect
  simulates nets kinds Done a b s e conform runs sh = subst (λ (w : Work). Shows nets kinds w s) (sym e) sh
  simulates nets kinds (Assign x more) a b s f conform runs sh =
      let m : Work = f.0 in
      let xs : List Target = parts_targets x.is_blocking x.names (parts_of x.left) in
      let runs_m : RunsIn m.building nets = runs-before m.building b.building nets (keeps more m b f.2).adds runs in
      simulates nets kinds more m b (assigned x s) f.2 (conforms-right kinds xs (targets more) conform) runs
      (simulates-assign nets kinds x a m s f.1 (conforms-left kinds xs (targets more) conform) runs_m sh)
  simulates nets kinds (Choose at c then_part else_part more) a b s f conform runs sh =
      let t : Work = f.0 in
      let y : Work = f.1 in
      let n : Work = f.2 in
      let m : Work = f.3 in
      let test : List Bit = f.4 in
      let ps : List Target = targets then_part in
      let qs : List Target = targets else_part in
      let p : Keeps ps t y = keeps then_part t y f.6 in
      let q : Keeps qs (restored t y) n = keeps else_part (restored t y) n f.7 in
      let runs_m : RunsIn m.building nets = runs-before m.building b.building nets (keeps more m b f.9).adds runs in
      let runs_n : RunsIn n.building nets = runs-before n.building m.building nets (keeps-choices at test y (distinct (ps ++ qs)) n m f.8).adds runs_m in
      let runs_y : RunsIn y.building nets = runs-restored t y nets (runs-before (restored t y).building n.building nets q.adds runs_n) in
      let runs_t : RunsIn t.building nets = runs-before t.building y.building nets p.adds runs_y in
      let found : ShowsTest nets kinds t s test (holds c s.now) = simulates-test nets kinds c a t test s f.5 runs_t sh in
      let rest : Conforms kinds (qs ++ targets more) = conforms-right kinds ps (qs ++ targets more) conform in
      let sy : Shows nets kinds y (effect then_part s) = simulates nets kinds then_part t y s f.6 (conforms-left kinds ps (qs ++ targets more) conform) runs_y found.shows in
      let sn : Shows nets kinds n (effect else_part s) = simulates nets kinds else_part (restored t y) n s f.7 (conforms-left kinds qs (targets more) rest) runs_n (shows-restored nets kinds t y s found.shows) in
      simulates nets kinds more m b _ f.9 (conforms-right kinds qs (targets more) rest) runs
      (simulates-choice nets kinds at test ps qs t y n m (holds c s.now) (effect then_part s) (effect else_part s) p q f.8 found.bit runs_m sy sn)
  simulates nets kinds (Case c arms bodies more) a b s f conform runs sh =
      let mid : Building = f.0 in
      let m : Work = f.1 in
      let selector : List Bit = f.2 in
      let d : Work = record a { building = mid } in
      let xs : List Target = arms_targets arms in
      let runs_m : RunsIn m.building nets = runs-before m.building b.building nets (keeps more m b f.5).adds runs in
      let runs_mid : RunsIn mid nets = runs-before mid m.building nets (keeps-arms c selector arms d m f.4).adds runs_m in
      let is : values nets selector ≡ sized_bits c s.now c.selector = evaluated-bits nets c.names c.selector (case_shape c) a.building mid selector s.now f.3 runs_mid (store-is nets kinds a s sh) in
      simulates nets kinds more m b (arm_effect c arms s) f.5 (conforms-right kinds xs (targets more) conform) runs
      (simulates-arms nets kinds c selector arms d m s f.4 (conforms-left kinds xs (targets more) conform) f.3.long is runs_m (shows-grown nets kinds a mid s f.3.grows sh))
  simulates nets kinds (Refuse x more) a b s f conform runs sh = absurd f

  pub simulates-arms : (nets : Nets) (kinds : ℕ → Bool) (c : Selection) (selector : List Bit) (arms : Arms) (a b : Work) (s : State) → BuildsArms c selector arms a b → Conforms kinds (arms_targets arms) → length selector ≡ c.width → values nets selector ≡ sized_bits c s.now c.selector → RunsIn b.building nets → Shows nets kinds a s → Shows nets kinds b (arm_effect c arms s)
  simulates-arms nets kinds c selector (Otherwise body) a b s f conform long is runs sh = simulates nets kinds body a b s f conform runs sh
  simulates-arms nets kinds c selector (Arm at labels body others) a b s f conform long is runs sh =
      let mid : Building = f.0 in
      let t : Work = record a { building = mid } in
      let y : Work = f.1 in
      let n : Work = f.2 in
      let test : List Bit = f.3 in
      let ps : List Target = targets body in
      let qs : List Target = arms_targets others in
      let p : Keeps ps t y = keeps body t y f.5 in
      let q : Keeps qs (restored t y) n = keeps-arms c selector others (restored t y) n f.6 in
      let runs_n : RunsIn n.building nets = runs-before n.building b.building nets (keeps-choices at test y (distinct (ps ++ qs)) n b f.7).adds runs in
      let runs_y : RunsIn y.building nets = runs-restored t y nets (runs-before (restored t y).building n.building nets q.adds runs_n) in
      let runs_t : RunsIn mid nets = runs-before mid y.building nets p.adds runs_y in
      let sh_t : Shows nets kinds t s = shows-grown nets kinds a mid s (grows-match c selector labels a.building mid test f.4) sh in
      let bit : values nets test ≡ matches c s.now labels ∷ [] = match-bit nets c selector labels a.building mid test s.now f.4 long is runs_t (store-is nets kinds a s sh) in
      let sy : Shows nets kinds y (effect body s) = simulates nets kinds body t y s f.5 (conforms-left kinds ps qs conform) runs_y sh_t in
      let sn : Shows nets kinds n (arm_effect c others s) = simulates-arms nets kinds c selector others (restored t y) n s f.6 (conforms-right kinds ps qs conform) long is runs_n (shows-restored nets kinds t y s sh_t) in
      simulates-choice nets kinds at test ps qs t y n b (matches c s.now labels) (effect body s) (arm_effect c others s) p q f.7 bit runs sy sn

-- A process: it begins with the values that the signals have.

pub building-keeps : BuildingKeeps
building-keeps = keeps

begins : (nets : Nets) (kinds : ℕ → Bool) (a : Work) → ((n : ℕ) → kinds n ≡ false → a.pending n ≡ signal a.building n) → Shows nets kinds a (started (λ k. values nets (signal a.building k)))
begins nets kinds a waits = record { now = λ n. refl; later = λ n l. ap (values nets) (waits n l); quiet = λ n b st. refl }

pub leaves-the-effect : LeavesTheEffect
leaves-the-effect nets kinds steps a b f conform runs waits n = go (kinds n) refl where
  start : State
  start = started (λ k. values nets (signal a.building k))

  shown : Shows nets kinds b (effect steps start)
  shown = simulates nets kinds steps a b start f conform runs (begins nets kinds a waits)

  go : (kind : Bool) → kinds n ≡ kind → values nets (held b kind n) ≡ left_by steps (λ k. values nets (signal a.building k)) n
  go true e = shown.now n ∙ sym (shown.quiet n e (effect steps start).now)
  go false e = shown.later n e
