-- What is known of nets while loops of joints are looked for.
use Rattle.elab_finish.proofs.Common.{◌≡◌, ◌≢◌, ◌⊎◌, ℕ, zero, suc, ◌+◌, ◌<◌, ◌≤◌, List, [], ◌∷◌, length, set, replicate, refl, sym, ◌∙◌, ap, subst, inl, inr, arith, eqb_tells, get_or-set_same}
use Rattle.elab_finish.proofs.Common.{get_or-set_other, length-set, On, Follows, direct, IsOnLoop, trans, loop_goes, loop_back, closed_follows, Unknown, Free, From, Looped, mark_in, tally}
use Rattle.elab_finish.proofs.Common.{one_unknown, one_open, IsSettled, LeadsOn, IsWalked, IsRounded}
use Rattle.net_builder.specs.declared.steps.Step.{Step}
use Rattle.elab_finish.specs.declared.search.Mark.{Mark}

-- Marks in a table.

-- a net that is not free has a place in the table
pub inside : (marks : List Mark) (n : ℕ) → mark_in marks n ≢ Free → n < length marks
inside [] n not = absurd (not refl)
inside (m ∷ more) zero not = omega arith
inside (m ∷ more) (suc n) not = let less = inside more n not in omega (arith, less)

abbrev Set : List Mark → ℕ → Mark → ℕ → Type 0
Set marks net v n = ((n ≡ net) × (mark_in (set marks net v) n ≡ v)) ⊎ ((n ≢ net) × (mark_in (set marks net v) n ≡ mark_in marks n))

set_cases : (marks : List Mark) (net : ℕ) (v : Mark) (n : ℕ) → net < length marks → Set marks net v n
set_cases marks net v n less = elim (eqb_tells n net) [
  | inl t ↦ inl (t.1, ap (λ (k : ℕ). mark_in (set marks net v) k) t.1 ∙ get_or-set_same marks net v Free less)
  | inr t ↦ inr (t.1, get_or-set_other marks net n v Free t.1)
]

-- what is known stays known
pub stays_known : (marks : List Mark) (net : ℕ) (v : Mark) (n : ℕ) → net < length marks → v ≢ Unknown → mark_in marks n ≢ Unknown → mark_in (set marks net v) n ≢ Unknown
stays_known marks net v n less known was e = elim (set_cases marks net v n less) [
  | inl here ↦ known (sym here.1 ∙ e)
  | inr other ↦ was (sym other.1 ∙ e)
]

pub known_here : (marks : List Mark) (net : ℕ) (v : Mark) → net < length marks → v ≢ Unknown → mark_in (set marks net v) net ≢ Unknown
known_here marks net v less known e = known (sym (get_or-set_same marks net v Free less) ∙ e)

pub round_here : (marks : List Mark) (net : ℕ) → net < length marks → mark_in (set marks net Looped) net ≡ Looped
round_here marks net less = get_or-set_same marks net Looped Free less

pub round_stays : (marks : List Mark) (net k : ℕ) → net < length marks → mark_in marks k ≡ Looped → mark_in (set marks net Looped) k ≡ Looped
round_stays marks net k less is = elim (set_cases marks net Looped k less) [ inl here ↦ here.1 | inr other ↦ other.1 ∙ is ]

-- a mark that differs from both stood before
before_set : (marks : List Mark) (net : ℕ) (v x : Mark) (n : ℕ) → net < length marks → v ≢ x → mark_in (set marks net v) n ≡ x → mark_in marks n ≡ x
before_set marks net v x n less other e = elim (set_cases marks net v n less) [
  | inl here ↦ absurd (other (sym here.1 ∙ e))
  | inr t ↦ sym t.1 ∙ e
]

-- a mark stays where it differs from that of the net that is marked
after_set : (marks : List Mark) (net : ℕ) (v x y : Mark) (n : ℕ) → net < length marks → mark_in marks net ≡ y → y ≢ x → mark_in marks n ≡ x → mark_in (set marks net v) n ≡ x
after_set marks net v x y n less was other e = elim (set_cases marks net v n less) [
  | inl here ↦ absurd (other (sym was ∙ sym (ap (mark_in marks) here.0) ∙ e))
  | inr t ↦ t.1 ∙ e
]

pub tally_set : (f : Mark → ℕ) (marks : List Mark) (net : ℕ) (v : Mark) → net < length marks → tally f (set marks net v) + f (mark_in marks net) ≡ tally f marks + f v
tally_set f [] net v less = absurd (omega (arith, less))
tally_set f (m ∷ more) zero v less = omega arith
tally_set f (m ∷ more) (suc net) v less = let rest = tally_set f more net v (omega (arith, less)) in omega (arith, rest)

pub one_less : (marks : List Mark) (net : ℕ) (v : Mark) → mark_in marks net ≡ Unknown → one_unknown v ≡ 0 → net < length marks → tally one_unknown (set marks net v) + 1 ≡ tally one_unknown marks
one_less marks net v was none less =
    let sum = tally_set one_unknown marks net v less in
    let one : one_unknown (mark_in marks net) ≡ 1 = ap one_unknown was in
    omega (arith, sum, one, none)

open_marks : (m : Mark) → m ≢ Looped → one_open m ≡ 1
open_marks Unknown not = refl
open_marks Free not = refl
open_marks (From w) not = refl
open_marks Looped not = absurd (not refl)

pub one_closed : (marks : List Mark) (net : ℕ) → mark_in marks net ≢ Looped → net < length marks → tally one_open (set marks net Looped) + 1 ≡ tally one_open marks
one_closed marks net not less =
    let sum = tally_set one_open marks net Looped less in
    let one : one_open (mark_in marks net) ≡ 1 = open_marks (mark_in marks net) not in
    omega (arith, sum, one)

-- Nothing is known yet.

none_known : (count n : ℕ) → (mark_in (replicate count Unknown) n ≡ Unknown) ⊎ ((mark_in (replicate count Unknown) n ≡ Free) × (count ≤ n))
none_known zero n = inr (refl, omega arith)
none_known (suc count) zero = inl refl
none_known (suc count) (suc n) = elim (none_known count n) [ inl e ↦ inl e | inr t ↦ inr (t.0, omega (arith, t.1)) ]

long_replicate : (count : ℕ) → length (replicate count Unknown) ≡ count
long_replicate zero = refl
long_replicate (suc count) = let rest = long_replicate count in omega (arith, rest)

unknown_only : (count n : ℕ) (x : Mark) → mark_in (replicate count Unknown) n ≡ x → x ≢ Unknown → (x ≡ Free) × (count ≤ n)
unknown_only count n x e not = elim (none_known count n) [
  | inl t ↦ absurd (not (sym e ∙ t))
  | inr t ↦ (sym e ∙ t.0, t.1)
]

pub settled_none : (next : ℕ → Step) (limit : ℕ) (marks : List Mark) → marks ≡ replicate limit Unknown → ((n m : ℕ) → next n ≡ On m → n < limit) → IsSettled next marks
settled_none next limit marks is room = subst (IsSettled next) (sym is) (record {
  room = λ n m e. (let less = room n m e in let long = long_replicate limit in omega (arith, less, long));
  free = λ n e loop. (let t = unknown_only limit n Free e (λ s. absurd cc) in let g = loop_goes next n loop in let less = room n g.0 g.1 in omega (arith, less, t.1));
  looped = λ n e. absurd (let t = unknown_only limit n Looped e (λ s. absurd cc) in let bad : Looped ≡ Free = t.0 in cc);
  round = λ n m e on. absurd (let t = unknown_only limit n Looped e (λ s. absurd cc) in let bad : Looped ≡ Free = t.0 in cc);
  origin = λ n w e. absurd (let t = unknown_only limit n (From w) e (λ s. absurd cc) in let bad : From w ≡ Free = t.0 in cc);
  of = λ n w e. absurd (let t = unknown_only limit n (From w) e (λ s. absurd cc) in let bad : From w ≡ Free = t.0 in cc);
})

-- Following a net.

module _ (next : ℕ → Step) where
  -- nothing is on the way from a net of which nothing is known
  pub walk_begins : (marks : List Mark) (start : ℕ) → mark_in marks start ≡ Unknown → IsSettled next marks → IsWalked next marks start start
  walk_begins marks start new h = record {
    room = h.room;
    free = h.free;
    looped = h.looped;
    round = h.round;
    origin = h.origin;
    of = λ n w e. record {
      here = λ same. absurd (h.origin n w e (ap (mark_in marks) same ∙ new));
      before = λ other. h.of n w e;
    };
  }

  -- a joined net is on the way
  pub walk_on : (marks : List Mark) (start net m : ℕ) → IsWalked next marks start net → mark_in marks net ≡ Unknown → (start ≡ net) ⊎ (mark_in marks start ≢ Unknown) → next net ≡ On m → IsWalked next (set marks net (From start)) start m
  walk_on marks start net m h new began on =
      let less : net < length marks = h.room net m on in
      let v : Mark = From start in
      record {
        room = λ n k e. (let r = h.room n k e in let long = length-set marks net v in omega (arith, r, long));
        free = λ n e. h.free n (before_set marks net v Free n less (λ s. absurd cc) e);
        looped = λ n e. h.looped n (before_set marks net v Looped n less (λ s. absurd cc) e);
        round = λ n k e go. elim (h.round n k (before_set marks net v Looped n less (λ s. absurd cc) e) go) [
          | inl none ↦ absurd none
          | inr is ↦ inr (after_set marks net v Looped Unknown k less new (λ s. absurd cc) is)
        ];
        origin = λ n w e. elim (set_cases marks net v n less) [
          | inl here ↦ (let same : From start ≡ From w = sym here.1 ∙ e in let is : start ≡ w = cc in subst (λ (x : ℕ). mark_in (set marks net v) x ≢ Unknown) is (known_start began))
          | inr other ↦ stays_known marks net v w less (λ s. absurd cc) (h.origin n w (sym other.1 ∙ e))
        ];
        of = λ n w e. elim (set_cases marks net v n less) [
          | inl here ↦
              let same : From start ≡ From w = sym here.1 ∙ e in
              let is : start ≡ w = cc in
              record { here = λ again. subst (λ (x : ℕ). Follows next x m) (sym here.0) (direct net m on); before = λ not. absurd (not (sym is)) }
          | inr other ↦
              let t : LeadsOn next start net w n = h.of n w (sym other.1 ∙ e) in
              record { here = λ same. trans next n net m (t.here same) (direct net m on); before = t.before }
        ];
      }
    where
      known_start : (start ≡ net) ⊎ (mark_in marks start ≢ Unknown) → mark_in (set marks net (From start)) start ≢ Unknown
      known_start (inl same) = subst (λ (x : ℕ). mark_in (set marks net (From start)) x ≢ Unknown) (sym same) (known_here marks net (From start) (h.room net m on) (λ s. absurd cc))
      known_start (inr known) = stays_known marks net (From start) start (h.room net m on) (λ s. absurd cc) known

  -- a net that is not joined is on no loop
  pub walk_ends : (marks : List Mark) (start net : ℕ) → IsWalked next marks start net → mark_in marks net ≡ Unknown → ((m : ℕ) → next net ≢ On m) → IsWalked next (set marks net Free) start net
  walk_ends marks start net h new stays =
      let less : net < length marks = inside marks net (λ e. (let bad : Unknown ≡ Free = sym new ∙ e in absurd cc)) in
      record {
        room = λ n k e. (let r = h.room n k e in let long = length-set marks net Free in omega (arith, r, long));
        free = λ n e. elim (set_cases marks net Free n less) [
          | inl here ↦ (λ loop. (let g = loop_goes next n loop in stays g.0 (ap next (sym here.0) ∙ g.1)))
          | inr other ↦ h.free n (sym other.1 ∙ e)
        ];
        looped = λ n e. h.looped n (before_set marks net Free Looped n less (λ s. absurd cc) e);
        round = λ n k e go. elim (h.round n k (before_set marks net Free Looped n less (λ s. absurd cc) e) go) [
          | inl none ↦ absurd none
          | inr is ↦ inr (after_set marks net Free Looped Unknown k less new (λ s. absurd cc) is)
        ];
        origin = λ n w e. stays_known marks net Free w less (λ s. absurd cc) (h.origin n w (before_set marks net Free (From w) n less (λ s. absurd cc) e));
        of = λ n w e. h.of n w (before_set marks net Free (From w) n less (λ s. absurd cc) e);
      }

  -- Going round.

  pub met_loops : (marks : List Mark) (start met : ℕ) → IsWalked next marks start met → mark_in marks met ≡ From start → IsOnLoop next met
  met_loops marks start met h e = (h.of met start e).here refl

  pub round_begins : (marks : List Mark) (start met : ℕ) → IsWalked next marks start met → IsRounded next marks start met met
  round_begins marks start met h = record {
    room = h.room;
    free = h.free;
    looped = h.looped;
    round = λ n k e go. elim (h.round n k e go) [ inl none ↦ absurd none | inr is ↦ inr is ];
    origin = h.origin;
    of = h.of;
  }

  pub round_on : (marks : List Mark) (start met net m : ℕ) → IsRounded next marks start met net → IsOnLoop next net → next net ≡ On m → IsRounded next (set marks net Looped) start met m
  round_on marks start met net m h loop on =
      let less : net < length marks = h.room net m on in
      record {
        room = λ n k e. (let r = h.room n k e in let long = length-set marks net Looped in omega (arith, r, long));
        free = λ n e. h.free n (before_set marks net Looped Free n less (λ s. absurd cc) e);
        looped = λ n e. elim (set_cases marks net Looped n less) [
          | inl here ↦ subst (λ (x : ℕ). IsOnLoop next x) (sym here.0) loop
          | inr other ↦ h.looped n (sym other.1 ∙ e)
        ];
        round = λ n k e go. elim (set_cases marks net Looped n less) [
          | inl here ↦ inl (let same : On m ≡ On k = sym on ∙ ap next (sym here.0) ∙ go in cc)
          | inr other ↦ elim (h.round n k (sym other.1 ∙ e) go) [
            | inl same ↦ inr (subst (λ (x : ℕ). mark_in (set marks net Looped) x ≡ Looped) same (get_or-set_same marks net Looped Free less))
            | inr is ↦ inr (elim (set_cases marks net Looped k less) [ inl here ↦ here.1 | inr t ↦ t.1 ∙ is ])
          ]
        ];
        origin = λ n w e. stays_known marks net Looped w less (λ s. absurd cc) (h.origin n w (before_set marks net Looped (From w) n less (λ s. absurd cc) e));
        of = λ n w e. h.of n w (before_set marks net Looped (From w) n less (λ s. absurd cc) e);
      }

  pub round_ends : (marks : List Mark) (start met net : ℕ) → IsRounded next marks start met net → mark_in marks net ≡ Looped → IsWalked next marks start met
  round_ends marks start met net h e = record {
    room = h.room;
    free = h.free;
    looped = h.looped;
    round = λ n k is go. elim (h.round n k is go) [ inl same ↦ inr (subst (λ (x : ℕ). mark_in marks x ≡ Looped) same e) | inr was ↦ inr was ];
    origin = h.origin;
    of = h.of;
  }

  -- What is known when a net was met that is not on the way any more.

  not_looped : (marks : List Mark) (start met n : ℕ) → IsWalked next marks start met → (x : Mark) → mark_in marks met ≡ x → x ≢ Unknown → x ≢ From start → mark_in marks n ≢ Looped → Follows next n met → IsOnLoop next n → ⊥
  not_looped marks start met n h Unknown e known other fresh on loop = known refl
  not_looped marks start met n h Free e known other fresh on loop = h.free met e (trans next met n met (loop_back next n met loop on) on)
  not_looped marks start met n h (From w) e known other fresh on loop =
      (h.of met w e).before (λ same. other (ap From same)) (trans next met n met (loop_back next n met loop on) on)
  not_looped marks start met n h Looped e known other fresh on loop = fresh (closed_follows next (λ k. mark_in marks k ≡ Looped) onward met n (loop_back next n met loop on) e)
    where
      onward : (a b : ℕ) → mark_in marks a ≡ Looped → next a ≡ On b → mark_in marks b ≡ Looped
      onward a b is go = elim (h.round a b is go) [ inl none ↦ absurd none | inr was ↦ was ]

  pub settles : (marks : List Mark) (start met : ℕ) → IsWalked next marks start met → mark_in marks met ≢ Unknown → mark_in marks met ≢ From start → IsSettled next marks
  settles marks start met h known other = record {
    room = h.room;
    free = h.free;
    looped = h.looped;
    round = h.round;
    origin = h.origin;
    of = λ n w e. elim (eqb_tells w start) [
      | inl t ↦ not_looped marks start met n h (mark_in marks met) refl known other (λ s. (let bad : From w ≡ Looped = sym e ∙ s in absurd cc)) ((h.of n w e).here t.1)
      | inr t ↦ (h.of n w e).before t.1
    ];
  }

  -- What a mark tells.

  told : (marks : List Mark) (n : ℕ) → IsSettled next marks → (x : Mark) → mark_in marks n ≡ x → x ≢ Unknown → IsOnLoop next n → x ≡ Looped
  told marks n h Unknown e known loop = absurd (known refl)
  told marks n h Free e known loop = absurd (h.free n e loop)
  told marks n h (From w) e known loop = absurd (h.of n w e loop)
  told marks n h Looped e known loop = refl

  pub looped_told : (marks : List Mark) (n : ℕ) → IsSettled next marks → mark_in marks n ≢ Unknown → IsOnLoop next n → mark_in marks n ≡ Looped
  looped_told marks n h known loop = told marks n h (mark_in marks n) refl known loop
