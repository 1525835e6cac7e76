-- Where labels name each value of a selector, one of them matches.
use Rattle.vlog_effects.proofs.Common.{◌≡◌, ℕ, zero, suc, ◌<◌, ◌≤◌, ◌^◌, max, Bool, true, false, ◌&&◌, ◌||◌, List, [], ◌∷◌, ◌++◌, Option, Some, None, nat_eq, nat_le, refl, sym, ◌∙◌, ap, subst, inl}
use Rattle.vlog_effects.proofs.Common.{inr, arith, if◌then◌else◌, eqb_tells, eqb-true, Span, Expr, CaseKind, Decl, Signal, Constant, Shape, Names, nothing, IsWithin, IsWhole, is_empty, width_of}
use Rattle.vlog_effects.proofs.Common.{is_signed_of, value, is_constant, bits_of, number, keeps_width, Selection, Steps, Arms, Otherwise, Arm, InNames, Item, dont_care, greatest, all_signed, always}
use Rattle.vlog_effects.proofs.Common.{arms_of, default_of, labelled, is_named, all_named, selector_bits, names_all, front, last_body, chosen_arms, labels_of, selection_of, Values, State, numbers}
use Rattle.vlog_effects.proofs.Common.{agree, bit_same, sized_bits, matches, effect, arm_effect, HasWidth, HaveWidths, LastItemServes, or_left, or_right}
use Rattle.std.specs.Prelude.{not}
use Rattle.vlog_effects.proofs.Bools.{and-left, and-right, and-same, or-again}
use Rattle.vlog_effects.proofs.Numbers.{number-small}
use Rattle.vlog_effects.proofs.Alike.{value-constant}
use Rattle.vlog_effects.proofs.Fits.{fits}
use Rattle.vlog_effects.proofs.Keeping.{keeps}

pub bit-self : (b : Bool) → bit_same b b ≡ true
bit-self true = refl
bit-self false = refl

agree-self : (is xs : List Bool) → agree is xs xs ≡ true
agree-self [] xs = refl
agree-self (i ∷ is) [] = refl
agree-self (i ∷ is) (x ∷ xs) = and-same (i || bit_same x x) true (agree is xs xs) true (or_right i (bit_same x x) (bit-self x)) (agree-self is xs)

matches-both : (c : Selection) (store : Values) (xs ys : List Expr) → matches c store (xs ++ ys) ≡ (matches c store xs || matches c store ys)
matches-both c store [] ys = refl
matches-both c store (x ∷ xs) ys =
    let here : Bool = agree (bits_of c.width (dont_care c.kind x)) (sized_bits c store c.selector) (sized_bits c store x) in
    ap (λ (b : Bool). here || b) (matches-both c store xs ys) ∙ sym (or-again here (matches c store xs) (matches c store ys))

-- a label that names the selector's value matches
named-matches : (c : Selection) (store : Values) (v : ℕ) (xs : List Expr) → value c.names (numbers store) c.width c.is_signed c.selector ≡ v → is_named c v xs ≡ true → matches c store xs ≡ true
named-matches c store v [] e f = f
named-matches c store v (x ∷ xs) e f = go (is_constant c.names x && (nat_eq (dont_care c.kind x) 0 && nat_eq (value c.names nothing c.width c.is_signed x) v)) refl f (λ h. named-matches c store v xs e h) where
  same : (is_constant c.names x && (nat_eq (dont_care c.kind x) 0 && nat_eq (value c.names nothing c.width c.is_signed x) v)) ≡ true → sized_bits c store x ≡ sized_bits c store c.selector
  same g =
      let equal : value c.names nothing c.width c.is_signed x ≡ v = eqb-true _ _ (and-right (nat_eq (dont_care c.kind x) 0) _ (and-right (is_constant c.names x) _ g)) in
      ap (λ (n : ℕ). bits_of c.width n) (value-constant c.names x (numbers store) nothing c.width c.is_signed (and-left (is_constant c.names x) _ g) ∙ equal ∙ sym e)

  go : (b : Bool) → (is_constant c.names x && (nat_eq (dont_care c.kind x) 0 && nat_eq (value c.names nothing c.width c.is_signed x) v)) ≡ b → (b || is_named c v xs) ≡ true → (is_named c v xs ≡ true → matches c store xs ≡ true) → (agree (bits_of c.width (dont_care c.kind x)) (sized_bits c store c.selector) (sized_bits c store x) || matches c store xs) ≡ true
  go true g h rest = or_left _ _ (ap (λ (bits : List Bool). agree (bits_of c.width (dont_care c.kind x)) (sized_bits c store c.selector) bits) (same g) ∙ agree-self (bits_of c.width (dont_care c.kind x)) (sized_bits c store c.selector))
  go false g h rest = or_right _ _ (rest h)

-- each value below a bound is named
each-named : (c : Selection) (bound : ℕ) (labels : List Expr) (n : ℕ) → all_named c bound labels ≡ true → n < bound → is_named c n labels ≡ true
each-named c zero labels n e h = absurd (omega arith)
each-named c (suc bound) labels n e h = elim (eqb_tells n bound) [
  | inl k ↦ ap (λ (m : ℕ). is_named c m labels) k.1 ∙ and-left (is_named c bound labels) _ e
  | inr k ↦ each-named c bound labels n (and-right (is_named c bound labels) _ e) (let d = k.1 in omega arith)
]

arm-of : (c : Selection) (a : Bool) (at : Span) (labels : List Expr) (body : Steps) (others : Arms) (s : State) → arm_effect c (if a then Otherwise body else Arm at labels body others) s ≡ (if a then effect body s else (if matches c s.now labels then effect body s else arm_effect c others s))
arm-of c true at labels body others s = refl
arm-of c false at labels body others s = refl

only-one : (a m : Bool) (x y : State) → (m || false) ≡ true → x ≡ (if a then x else (if m then x else y))
only-one true m x y e = refl
only-one false true x y e = refl
only-one false false x y e = cc

one-of-more : (a m n : Bool) (x y z : State) → (m || n) ≡ true → (n ≡ true → y ≡ z) → (if a then x else (if m then x else y)) ≡ (if a then x else (if m then x else z))
one-of-more true m n x y z e f = refl
one-of-more false true n x y z e f = refl
one-of-more false false n x y z e f = f e

-- where some label matches, the last item is taken where none before is
last-serves : (c : Selection) (items : List Item) (s : State) → matches c s.now (labels_of items) ≡ true → arm_effect c (arms_of c (front items) (last_body items)) s ≡ arm_effect c (arms_of c items None) s
last-serves c [] s e = cc
last-serves c (i ∷ []) s e =
    only-one (always c i.labels) (matches c s.now i.labels) (effect (i.body c.names) s) s (sym (matches-both c s.now i.labels []) ∙ e) ∙
    sym (arm-of c (always c i.labels) i.place i.labels (i.body c.names) (arms_of c [] None) s)
last-serves c (i ∷ j ∷ more) s e =
    arm-of c (always c i.labels) i.place i.labels (i.body c.names) (arms_of c (front (j ∷ more)) (last_body (j ∷ more))) s ∙
    one-of-more (always c i.labels) (matches c s.now i.labels) (matches c s.now (labels_of (j ∷ more))) (effect (i.body c.names) s) _ _ (sym (matches-both c s.now i.labels (labels_of (j ∷ more))) ∙ e) (λ f. last-serves c (j ∷ more) s f) ∙
    sym (arm-of c (always c i.labels) i.place i.labels (i.body c.names) (arms_of c (j ∷ more) None) s)

-- Items with labels have all labels.

empty-is : (xs : List Expr) → is_empty xs ≡ true → xs ≡ []
empty-is [] e = refl
empty-is (x ∷ xs) e = cc

labels-one : (b : Bool) (i : Item) (more : List Item) → is_empty i.labels ≡ b → labels_of (labelled more) ≡ labels_of more → labels_of (if b then labelled more else i ∷ labelled more) ≡ i.labels ++ labels_of more
labels-one true i more e rest = rest ∙ ap (λ (xs : List Expr). xs ++ labels_of more) (sym (empty-is i.labels e))
labels-one false i more e rest = ap (λ (xs : List Expr). i.labels ++ xs) rest

labels-labelled : (items : List Item) → labels_of (labelled items) ≡ labels_of items
labels-labelled [] = refl
labels-labelled (i ∷ more) = labels-one (is_empty i.labels) i more refl (labels-labelled more)

-- What a selector can be.

within-decl : (store : Values) (d : Option Decl) → HasWidth store d → IsWithin (numbers store) d
within-decl store (Some (Signal width low is_signed n)) k = subst (λ (w : ℕ). number (store n) < 2 ^ w) k (number-small (store n))
within-decl store (Some (Constant word low is_signed)) k = tt
within-decl store None k = tt

both-true : (a b : Bool) → (a && not b) ≡ true → (a ≡ true) × (b ≡ false)
both-true true true e = cc
both-true true false e = (refl, refl)
both-true false b e = cc

-- the selector has no more than these bits
selector-fits : (names : Names) (kind : CaseKind) (selector : Expr) (items : List Item) (store : Values) → IsWhole names selector → HaveWidths names store → value names (numbers store) (selection_of names kind selector items).width (selection_of names kind selector items).is_signed selector < 2 ^ selector_bits (selection_of names kind selector items)
selector-fits names kind selector items store whole widths = go (keeps_width selector && not (is_signed_of names selector)) refl where
  c : Selection
  c = selection_of names kind selector items

  size : Shape
  size = record { width = c.width; is_signed = c.is_signed }

  wide : width_of names selector ≤ c.width
  wide = let w : c.width ≡ max (width_of names selector) (greatest names (labels_of items)) = refl in omega arith

  go : (b : Bool) → (keeps_width selector && not (is_signed_of names selector)) ≡ b → value names (numbers store) c.width c.is_signed selector < 2 ^ (if b then width_of names selector else c.width)
  go true e =
      let form = both-true (keeps_width selector) (is_signed_of names selector) e in
      keeps names (numbers store) (λ name. within-decl store (names name) (widths name)) selector form.0 whole size (ap (λ (b : Bool). b && all_signed names (labels_of items)) form.1) wide
  go false e = (fits names (numbers store) selector whole).1 size wide

-- The arms that are chosen, and those of the items.
serves : (names : Names) (kind : CaseKind) (selector : Expr) (items : List Item) (s : State) → IsWhole names selector → HaveWidths names s.now → (default : Option InNames) → arm_effect (selection_of names kind selector items) (chosen_arms (selection_of names kind selector items) (labelled items) default) s ≡ arm_effect (selection_of names kind selector items) (arms_of (selection_of names kind selector items) (labelled items) default) s
serves names kind selector items s whole widths (Some body) = refl
serves names kind selector items s whole widths None = go (names_all c) refl where
  c : Selection
  c = selection_of names kind selector items

  v : ℕ
  v = value names (numbers s.now) c.width c.is_signed selector

  hit : names_all c ≡ true → matches c s.now (labels_of (labelled items)) ≡ true
  hit e =
      let all : all_named c (2 ^ selector_bits c) c.labels ≡ true = and-right (nat_le (selector_bits c) 8) _ e in
      ap (λ (xs : List Expr). matches c s.now xs) (labels-labelled items) ∙ named-matches c s.now v c.labels refl (each-named c (2 ^ selector_bits c) c.labels v all (selector-fits names kind selector items s.now whole widths))

  go : (b : Bool) → names_all c ≡ b → arm_effect c (if b then arms_of c (front (labelled items)) (last_body (labelled items)) else arms_of c (labelled items) None) s ≡ arm_effect c (arms_of c (labelled items) None) s
  go true e = last-serves c (labelled items) s (hit e)
  go false e = refl

pub last-item-serves : LastItemServes
last-item-serves names kind selector items s whole widths = serves names kind selector items s whole widths (default_of items)
