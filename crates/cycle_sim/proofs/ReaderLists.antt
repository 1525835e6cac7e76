-- The cells that read each driver.
use Rattle.cycle_sim.proofs.Common.{◌≡◌, ℕ, zero, suc, ◌+◌, ◌<◌, ◌≤◌, ◌⊎◌, Bool, List, [], ◌∷◌, ◌++◌, length, take, replicate, get_or, set, slice_get, Some, refl, sym, ◌∙◌, ap, subst, inl, inr, arith}
use Rattle.cycle_sim.proofs.Common.{Contains, eqb_tells, cases_lt, length-set, get_or-set_same, get_or-set_other, get_or_past, length-replicate, Bit, Fixed, Net, input_ports, times, times_at, readers}
use Rattle.cycle_sim.proofs.Common.{ports_of, Plan, IsSound, driving, Place, place_of, IsAt, ArePortsPlaced, AreReaders, AreAdded, cell-reads}
use Rattle.std.proofs.lemmas.List.Elements.{Contains-push, Contains-append_left, Contains-push_cases}
use Rattle.cycle_sim.proofs.Laid.{times-cases}
use Rattle.cycle_sim.proofs.Placed.{times-self, times-at, times-more, times_at-more}
use Rattle.cycle_sim.proofs.Plans.{driving-once}

-- What is added.

pub added-none : (A : ℕ → Type 0) (places : List Place) (k : ℕ) (old : List (List ℕ)) → ((n : ℕ) → ¬ A n) → AreAdded A places k old old
added-none A places k old none = record { long = refl; listed = λ n a. absurd (none n a); kept = λ d j h. h; only = λ d j h. inl h }

pub added-both : (A B C : ℕ → Type 0) (places : List Place) (k : ℕ) (old mid new : List (List ℕ)) → AreAdded A places k old mid → AreAdded B places k mid new → ((n : ℕ) → C n → A n ⊎ B n) → ((n : ℕ) → A n → C n) → ((n : ℕ) → B n → C n) → AreAdded C places k old new
added-both A B C places k old mid new first second split from_a from_b = record {
  long = second.long ∙ first.long;
  listed = λ n among. elim (split n among) [
    | inl a ↦ second.kept (place_of places n).driver k (first.listed n a)
    | inr b ↦ second.listed n b
  ];
  kept = λ d j h. second.kept d j (first.kept d j h);
  only = λ d j h. elim (second.only d j h) [
    | inl before ↦ elim (first.only d j before) [
      | inl was ↦ inl was
      | inr new_a ↦ inr (new_a.0, new_a.1, from_a new_a.1 new_a.2, new_a.3)
    ]
    | inr new_b ↦ inr (new_b.0, new_b.1, from_b new_b.1 new_b.2, new_b.3)
  ];
}

-- a net's driver has the place already
pub net-there : (places : List Place) (k m : ℕ) (old : List (List ℕ)) → Contains (get_or old (place_of places m).driver []) k → AreAdded (λ n. n ≡ m) places k old old
net-there places k m old there = record {
  long = refl;
  listed = λ n e. subst (λ (x : ℕ). Contains (get_or old (place_of places x).driver []) k) (sym e) there;
  kept = λ d j h. h;
  only = λ d j h. inl h;
}

-- or gets it
module _ (places : List Place) (k m : ℕ) (old : List (List ℕ)) (inside : (place_of places m).driver < length old) where
  abbrev e : ℕ
  e = (place_of places m).driver

  abbrev more : List ℕ
  more = get_or old e [] ++ k ∷ []

  here : get_or (set old e more) e [] ≡ more
  here = get_or-set_same old e more [] inside

  kept-at : (d j : ℕ) → Contains (get_or old d []) j → Contains (get_or (set old e more) d []) j
  kept-at d j h = elim (eqb_tells d e) [
    | inl same ↦ subst (λ (x : ℕ). Contains (get_or (set old e more) x []) j) (sym same.1) (subst (λ (l : List ℕ). Contains l j) (sym here) (Contains-append_left (get_or old e []) (k ∷ []) j (subst (λ (x : ℕ). Contains (get_or old x []) j) same.1 h)))
    | inr other ↦ subst (λ (l : List ℕ). Contains l j) (sym (get_or-set_other old e d more [] other.1)) h
  ]

  only-at : (d j : ℕ) → Contains (get_or (set old e more) d []) j → Contains (get_or old d []) j ⊎ ((j ≡ k) × (n : ℕ) × (n ≡ m) × ((place_of places n).driver ≡ d))
  only-at d j h = elim (eqb_tells d e) [
    | inl same ↦ elim (Contains-push_cases (get_or old e []) k j (subst (λ (l : List ℕ). Contains l j) here (subst (λ (x : ℕ). Contains (get_or (set old e more) x []) j) same.1 h))) [
      | inl was ↦ inl (subst (λ (x : ℕ). Contains (get_or old x []) j) (sym same.1) was)
      | inr is ↦ inr (sym is, m, refl, sym same.1)
    ]
    | inr other ↦ inl (subst (λ (l : List ℕ). Contains l j) (get_or-set_other old e d more [] other.1) h)
  ]

  pub net-added : AreAdded (λ n. n ≡ m) places k old (set old e more)
  net-added = record {
    long = length-set old e more;
    listed = λ n same. subst (λ (x : ℕ). Contains (get_or (set old e more) (place_of places x).driver []) k) (sym same) (subst (λ (l : List ℕ). Contains l k) (sym here) (Contains-push (get_or old e []) k));
    kept = kept-at;
    only = only-at;
  }

-- A bit, and a port, more.

pub net-some : (bits : List Bit) (i n : ℕ) (d : Bit) → i < length bits → get_or bits i d ≡ Net n → 1 ≤ times n bits
net-some bits i n d inside is =
    let here : 1 ≤ times n (get_or bits i d ∷ []) = subst (λ (b : Bit). 1 ≤ times n (b ∷ [])) (sym is) (times-self n) in
    let all = times-at n bits i d inside in
    omega (arith, here, all)

pub bits-net : (places : List Place) (k : ℕ) (bits : List Bit) (i m : ℕ) (d : Bit) (old mid new : List (List ℕ)) → AreAdded (λ n. 1 ≤ times n (take i bits)) places k old mid → i < length bits → get_or bits i d ≡ Net m → AreAdded (λ n. n ≡ m) places k mid new → AreAdded (λ n. 1 ≤ times n (take (i + 1) bits)) places k old new
bits-net places k bits i m d old mid new first inside is second =
    let counted : (n : ℕ) → times n (take (i + 1) bits) ≡ times n (take i bits) + times n (Net m ∷ []) = λ n. times-more n bits i d inside ∙ ap (λ (b : Bit). times n (take i bits) + times n (b ∷ [])) is in
    added-both (λ n. 1 ≤ times n (take i bits)) (λ n. n ≡ m) (λ n. 1 ≤ times n (take (i + 1) bits)) places k old mid new first second
    (λ n some. elim (cases_lt 0 (times n (take i bits))) [
      | inl before ↦ inl (omega (arith, before))
      | inr none ↦ elim (times-cases m n []) [
        | inl same ↦ inr (sym same.0)
        | inr other ↦ absurd (let t = counted n in let o = other.1 in omega (arith, some, none, t, o))
      ]
    ])
    (λ n some. let t = counted n in omega (arith, some, t))
    (λ n same. let t = counted n in let self : 1 ≤ times n (Net m ∷ []) = subst (λ (j : ℕ). 1 ≤ times n (Net j ∷ [])) same (times-self n) in omega (arith, t, self))

pub bits-constant : (places : List Place) (k : ℕ) (bits : List Bit) (i : ℕ) (b : Bool) (d : Bit) (old new : List (List ℕ)) → AreAdded (λ n. 1 ≤ times n (take i bits)) places k old new → i < length bits → get_or bits i d ≡ Fixed b → AreAdded (λ n. 1 ≤ times n (take (i + 1) bits)) places k old new
bits-constant places k bits i b d old new first inside is =
    let counted : (n : ℕ) → times n (take (i + 1) bits) ≡ times n (take i bits) + times n (Fixed b ∷ []) = λ n. times-more n bits i d inside ∙ ap (λ (x : Bit). times n (take i bits) + times n (x ∷ [])) is in
    added-both (λ n. 1 ≤ times n (take i bits)) (λ n. ⊥) (λ n. 1 ≤ times n (take (i + 1) bits)) places k old new new first (added-none (λ n. ⊥) places k new (λ n h. h))
    (λ n some. inl (let t = counted n in omega (arith, some, t)))
    (λ n some. let t = counted n in omega (arith, some, t))
    (λ n h. absurd h)

pub ports-more : (places : List Place) (k : ℕ) (ports : List (List Bit)) (i : ℕ) (bits : List Bit) (old mid new : List (List ℕ)) → AreAdded (λ n. 1 ≤ times_at n (take i ports)) places k old mid → i < length ports → bits ≡ get_or ports i [] → AreAdded (λ n. 1 ≤ times n bits) places k mid new → AreAdded (λ n. 1 ≤ times_at n (take (i + 1) ports)) places k old new
ports-more places k ports i bits old mid new first inside is second =
    let counted : (n : ℕ) → times_at n (take (i + 1) ports) ≡ times_at n (take i ports) + times n bits = λ n. times_at-more n ports i [] inside ∙ ap (λ (b : List Bit). times_at n (take i ports) + times n b) (sym is) in
    added-both (λ n. 1 ≤ times_at n (take i ports)) (λ n. 1 ≤ times n bits) (λ n. 1 ≤ times_at n (take (i + 1) ports)) places k old mid new first second
    (λ n some. elim (cases_lt 0 (times_at n (take i ports))) [
      | inl before ↦ inl (omega (arith, before))
      | inr none ↦ inr (let t = counted n in omega (arith, some, none, t))
    ])
    (λ n some. let t = counted n in omega (arith, some, t))
    (λ n some. let t = counted n in omega (arith, some, t))

-- Where a net is driven.

pub net-among : (n : ℕ) (bits : List Bit) (i : ℕ) → slice_get bits i ≡ Some (Net n) → 1 ≤ times n bits
net-among n [] i is = absurd (cc)
net-among n (Fixed b ∷ more) zero is = absurd (cc)
net-among n (Net m ∷ more) zero is = (let same : m ≡ n = cc in let self = times-self n in let one : 1 ≤ times n (Net m ∷ []) = subst (λ (k : ℕ). 1 ≤ times n (Net k ∷ [])) (sym same) self in omega (arith, one))
net-among n (Fixed b ∷ more) (suc i) is = net-among n more i is
net-among n (Net m ∷ more) (suc i) is = (let rest = net-among n more i is in omega (arith, rest))

times-port : (n : ℕ) (ports : List (List Bit)) (i : ℕ) → times n (get_or ports i []) ≤ times_at n ports
times-port n [] i = omega arith
times-port n (bits ∷ more) zero = omega arith
times-port n (bits ∷ more) (suc i) = (let rest = times-port n more i in omega (arith, rest))

one-driver : (n : ℕ) (ports : List (List Bit)) (i j : ℕ) → times_at n ports ≤ 1 → 1 ≤ times n (get_or ports i []) → 1 ≤ times n (get_or ports j []) → i ≡ j
one-driver n [] i j once at_i at_j = absurd (omega (arith, at_i))
one-driver n (bits ∷ more) zero zero once at_i at_j = refl
one-driver n (bits ∷ more) zero (suc j) once at_i at_j = absurd (let rest = times-port n more j in omega (arith, once, at_i, at_j, rest))
one-driver n (bits ∷ more) (suc i) zero once at_i at_j = absurd (let rest = times-port n more i in omega (arith, once, at_i, at_j, rest))
one-driver n (bits ∷ more) (suc i) (suc j) once at_i at_j = ap suc (one-driver n more i j (omega (arith, once)) at_i at_j)

pub driver-inside : (drivers : List (List Bit)) (p : Place) (n : ℕ) → IsAt drivers p n → p.driver < length drivers
driver-inside drivers p n at = elim (cases_lt p.driver (length drivers)) [
  | inl inside ↦ inside
  | inr past ↦ absurd (let some = net-among n (get_or drivers p.driver []) p.bit at in let none : times n (get_or drivers p.driver []) ≡ 0 = ap (times n) (get_or_past drivers p.driver [] past) in omega (arith, some, none))
]

-- The readers so far.

abbrev pub ins_at : Plan → ℕ → List (List Bit)
ins_at plan k = input_ports (ports_of (slice_get plan.raw.cells (get_or plan.order k 0)))

pub record AreUpTo (plan : Plan) (places : List Place) (i : ℕ) (lists : List (List ℕ)) : Type 0 where
  pub long : length lists ≡ length (driving plan.raw)
  pub listed : (j n : ℕ) → j < i → 1 ≤ times_at n (ins_at plan j) → Contains (get_or lists (place_of places n).driver []) j
  pub only : (d j : ℕ) → Contains (get_or lists d []) j → (j < i) × (n : ℕ) × (1 ≤ times_at n (ins_at plan j)) × ((place_of places n).driver ≡ d)

abbrev nil : List ℕ
nil = []

nothing-in : (count d : ℕ) → get_or (replicate count nil) d nil ≡ nil
nothing-in zero d = refl
nothing-in (suc count) zero = refl
nothing-in (suc count) (suc d) = nothing-in count d

pub upto-none : (plan : Plan) (places : List Place) (lists : List (List ℕ)) → lists ≡ replicate (length (driving plan.raw)) [] → AreUpTo plan places 0 lists
upto-none plan places lists is = record {
  long = ap length is ∙ length-replicate (length (driving plan.raw)) [];
  listed = λ j n less. absurd (omega (arith, less));
  only = λ d j h. absurd (let none : Contains [] j = subst (λ (l : List ℕ). Contains l j) (ap (λ (ls : List (List ℕ)). get_or ls d []) is ∙ nothing-in (length (driving plan.raw)) d) h in omega (arith, none.1));
}

pub upto-more : (plan : Plan) (places : List Place) (i : ℕ) (old new : List (List ℕ)) (ins : List (List Bit)) → AreUpTo plan places i old → ins ≡ ins_at plan i → AreAdded (λ n. 1 ≤ times_at n ins) places i old new → AreUpTo plan places (i + 1) new
upto-more plan places i old new ins upto is added = record {
  long = added.long ∙ upto.long;
  listed = λ j n less some. elim (cases_lt j i) [
    | inl before ↦ added.kept (place_of places n).driver j (upto.listed j n before some)
    | inr past ↦
        (let same : j ≡ i = omega (arith, less, past) in
        subst (λ (x : ℕ). Contains (get_or new (place_of places n).driver []) x) (sym same) (added.listed n (subst (λ (p : List (List Bit)). 1 ≤ times_at n p) (ap (ins_at plan) same ∙ sym is) some)))
  ];
  only = λ d j h. elim (added.only d j h) [
    | inl was ↦ (let o = upto.only d j was in (omega (arith, o.0), o.1, o.2, o.3))
    | inr now ↦ (omega (arith, now.0), now.1, subst (λ (p : List (List Bit)). 1 ≤ times_at now.1 p) (is ∙ ap (ins_at plan) (sym now.0)) now.2, now.3)
  ];
}

pub readers-are : (plan : Plan) → IsSound plan → (places : List Place) (lists : List (List ℕ)) → ArePortsPlaced (driving plan.raw) places (driving plan.raw) → AreUpTo plan places (length plan.order) lists → ((n j : ℕ) → j < length plan.order → 1 ≤ times_at n (ins_at plan j) → 1 ≤ times_at n (driving plan.raw)) → AreReaders plan lists
readers-are plan sound places lists placed upto driven = record {
  long = upto.long;
  listed = λ d k inside reads.
      (let n : ℕ = reads.0 in
      let at : IsAt (driving plan.raw) (place_of places n) n = placed n (let t = times-port n (driving plan.raw) d in let some = reads.2 in omega (arith, t, some)) in
      let same : (place_of places n).driver ≡ d = one-driver n (driving plan.raw) (place_of places n).driver d (driving-once plan sound n) (net-among n (get_or (driving plan.raw) (place_of places n).driver []) (place_of places n).bit at) reads.2 in
      subst (λ (e : ℕ). Contains (get_or lists e []) k) same (upto.listed k n inside reads.1));
  only = λ d k h.
      (let o = upto.only d k h in
      let n : ℕ = o.1 in
      let at : IsAt (driving plan.raw) (place_of places n) n = placed n (driven n k o.0 o.2) in
      (o.0, (n, o.2, subst (λ (e : ℕ). 1 ≤ times n (get_or (driving plan.raw) e [])) o.3 (net-among n (get_or (driving plan.raw) (place_of places n).driver []) (place_of places n).bit at))));
}

-- what is read at a place is read in the netlist
pub ins-read : (plan : Plan) (j n : ℕ) → 1 ≤ times_at n (ins_at plan j) → 1 ≤ readers plan.raw n
ins-read plan j n some = (let all = cell-reads plan.raw.cells (get_or plan.order j 0) n in omega (arith, some, all))
