-- The values that labels name, one label more at a time.
use Rattle.case_arms.proofs.Common.{◌≡◌, zero, suc, ℕ, ◌<◌, ◌≤◌, ◌^◌, Bool, true, false, ◌&&◌, ◌||◌, nat_eq, nat_le, map, List, [], ◌∷◌, ◌++◌, refl, sym, ap, ◌∙◌, arith, length, get_or, take, not}
use Rattle.case_arms.proofs.Common.{if◌then◌else◌, flat_map, Expr, CaseItem, Shape, Names, nothing, sense, item_steps, Selection, dont_care, is_named, all_named, selector_bits, names_all, greatest}
use Rattle.case_arms.proofs.Common.{all_signed, labels_of, selection_of, labels_in, common_size, labels_same, IsOf, has, has_all}
use Rattle.std.proofs.lemmas.Bool.Decides.{nat_tests}
use Rattle.std.proofs.lemmas.List.Folds.{list_any-append}
use Rattle.vlog_syntax.specs.declared.stmt.CaseKind.{CaseKind}
use Rattle.vlog_effects.specs.Expressions.{width_of, is_signed_of, value, is_constant}
use Rattle.vlog_effects.specs.Selectors.{keeps_width}

abbrev named : Selection → ℕ → Expr → Bool
named c v x = is_constant c.names x && (nat_eq (dont_care c.kind x) 0 && nat_eq (value c.names nothing c.width c.is_signed x) v)

pub or_end : (b : Bool) → (b || false) ≡ b
or_end true = refl
or_end false = refl

or_again : (a b c : Bool) → (a || (b || c)) ≡ ((a || b) || c)
or_again true b c = refl
or_again false b c = refl

and_again : (a b c : Bool) → (a && (b && c)) ≡ ((a && b) && c)
and_again true b c = refl
and_again false b c = refl

named_both : (c : Selection) (v : ℕ) (xs ys : List Expr) → is_named c v (xs ++ ys) ≡ (is_named c v xs || is_named c v ys)
named_both c v [] ys = refl
named_both c v (x ∷ xs) ys = ap (λ (b : Bool). named c v x || b) (named_both c v xs ys) ∙ or_again (named c v x) (is_named c v xs) (is_named c v ys)

named_take : (c : Selection) (v : ℕ) (xs : List Expr) (k : ℕ) (x : Expr) → x ≡ get_or xs k x → k < length xs → is_named c v (take (suc k) xs) ≡ (is_named c v (take k xs) || named c v x)
named_take c v [] k x at h = absurd (omega arith)
named_take c v (y ∷ ys) zero x at h = or_end (named c v y) ∙ ap (named c v) (sym at)
named_take c v (y ∷ ys) (suc k) x at h = ap (λ (b : Bool). named c v y || b) (named_take c v ys k x at (omega arith)) ∙ or_again (named c v y) (is_named c v (take k ys)) (named c v x)

test_is : (c : Selection) (names : Names) (kind : CaseKind) (size : Shape) (x : Expr) → IsOf c names kind size → (is_constant c.names x && nat_eq (dont_care c.kind x) 0) ≡ (is_constant names x && nat_eq (dont_care kind x) 0)
test_is c names kind size x of = ap (λ (n : Names). is_constant n x && nat_eq (dont_care c.kind x) 0) of.names_are ∙ ap (λ (k : CaseKind). is_constant names x && nat_eq (dont_care k x) 0) of.kind_is

value_is : (c : Selection) (names : Names) (kind : CaseKind) (size : Shape) (x : Expr) → IsOf c names kind size → value c.names nothing c.width c.is_signed x ≡ (sense names x).value nothing size
value_is c names kind size x of =
    ap (λ (n : Names). value n nothing c.width c.is_signed x) of.names_are ∙ ap (λ (w : ℕ). value names nothing w c.is_signed x) of.width_is ∙ ap (λ (s : Bool). value names nothing size.width s x) of.sign_is

-- a label that names no value
pub named_skip : (c : Selection) (names : Names) (kind : CaseKind) (size : Shape) (v : ℕ) (xs : List Expr) (k : ℕ) (x : Expr) (b before old : Bool) → x ≡ get_or xs k x → k < length xs → IsOf c names kind size → b ≡ (is_constant names x && nat_eq (dont_care kind x) 0) → b ≡ false → before ≡ (old || is_named c v (take k xs)) → before ≡ (old || is_named c v (take (suc k) xs))
named_skip c names kind size v xs k x b before old at h of is none e =
    let no : named c v x ≡ false = and_again (is_constant c.names x) (nat_eq (dont_care c.kind x) 0) (nat_eq (value c.names nothing c.width c.is_signed x) v) ∙ ap (λ (t : Bool). t && nat_eq (value c.names nothing c.width c.is_signed x) v) (test_is c names kind size x of ∙ sym is ∙ none) in
    e ∙ ap (λ (t : Bool). old || t) (sym (named_take c v xs k x at h ∙ ap (λ (t : Bool). is_named c v (take k xs) || t) no ∙ or_end (is_named c v (take k xs))))

-- a label that names one
pub named_more : (c : Selection) (names : Names) (kind : CaseKind) (size : Shape) (v r : ℕ) (values : List ℕ) (xs : List Expr) (k : ℕ) (x : Expr) (b old : Bool) → x ≡ get_or xs k x → k < length xs → IsOf c names kind size → b ≡ (is_constant names x && nat_eq (dont_care kind x) 0) → b ≡ true → r ≡ (sense names x).value nothing size → has values v ≡ (old || is_named c v (take k xs)) → has (values ++ r ∷ []) v ≡ (old || is_named c v (take (suc k) xs))
named_more c names kind size v r values xs k x b old at h of is some value_of e =
    let here : named c v x ≡ nat_eq r v = and_again (is_constant c.names x) (nat_eq (dont_care c.kind x) 0) (nat_eq (value c.names nothing c.width c.is_signed x) v) ∙ ap (λ (t : Bool). t && nat_eq (value c.names nothing c.width c.is_signed x) v) (test_is c names kind size x of ∙ sym is ∙ some) ∙ ap (λ (n : ℕ). nat_eq n v) (value_is c names kind size x of ∙ sym value_of) in
    list_any-append (λ (n : ℕ). nat_eq n v) values (r ∷ []) ∙ ap (λ (t : Bool). has values v || t) (or_end (nat_eq r v) ∙ sym here) ∙ ap (λ (t : Bool). t || named c v x) e ∙ sym (or_again old (is_named c v (take k xs)) (named c v x)) ∙ ap (λ (t : Bool). old || t) (sym (named_take c v xs k x at h))

-- the labels of one item more
pub named_item : (c : Selection) (v : ℕ) (before ls all : List Expr) (old now after : Bool) → all ≡ before ++ ls → now ≡ (old || is_named c v before) → after ≡ (now || is_named c v ls) → after ≡ (old || is_named c v all)
named_item c v before ls all old now after is e f = f ∙ ap (λ (b : Bool). b || is_named c v ls) e ∙ sym (or_again old (is_named c v before) (is_named c v ls)) ∙ ap (λ (b : Bool). old || b) (sym (named_both c v before ls) ∙ ap (is_named c v) (sym is))

-- all values below a bound
all_same : (c : Selection) (values : List ℕ) (labels : List Expr) (n : ℕ) → ((v : ℕ) → has values v ≡ is_named c v labels) → has_all values n ≡ all_named c n labels
all_same c values labels zero e = refl
all_same c values labels (suc n) e = ap (λ (b : Bool). has values n && b) (all_same c values labels n e) ∙ ap (λ (b : Bool). b && all_named c n labels) (e n)

module _ (names : Names) (kind : CaseKind) (selector : Expr) (is : List CaseItem) (own size : Shape) (bits : ℕ) (own_is : own ≡ (sense names selector).shape) (size_is : size ≡ common_size names (selector ∷ flat_map labels_in is)) (bits_are : bits ≡ (if keeps_width selector && not own.is_signed then own.width else size.width)) where
  abbrev pub c : Selection
  c = selection_of names kind selector (map item_steps is)

  labels : labels_of (map item_steps is) ≡ flat_map labels_in is
  labels = labels_same false [] is

  width : c.width ≡ size.width
  width = ap (λ (l : List Expr). greatest names (selector ∷ l)) labels ∙ sym (ap (λ (s : Shape). s.width) size_is)

  sign : c.is_signed ≡ size.is_signed
  sign = ap (λ (l : List Expr). all_signed names (selector ∷ l)) labels ∙ sym (ap (λ (t : Shape). t.is_signed) size_is)

  bits_of_selector : bits ≡ selector_bits c
  bits_of_selector = bits_are ∙ ap (λ (t : Shape). if keeps_width selector && not t.is_signed then t.width else size.width) own_is ∙ ap (λ (n : ℕ). if keeps_width selector && not (is_signed_of names selector) then width_of names selector else n) (sym width)

  -- a selector that can have more than 8 bits
  pub names_many : 8 < bits → false ≡ names_all c
  names_many many =
      let test : nat_le bits 8 ≡ false = grind (arith, nat_tests) in
      ap (λ (b : Bool). b && all_named c (2 ^ selector_bits c) c.labels) (sym test ∙ ap (λ (n : ℕ). nat_le n 8) bits_of_selector)

  -- whether the labels of a case name every value
  pub names_are : (values none : List ℕ) (r : Bool) → bits ≤ 8 → none ≡ [] → ((c : Selection) → IsOf c names kind size → (v : ℕ) → has values v ≡ (has none v || is_named c v (flat_map labels_in is))) → r ≡ has_all values (2 ^ bits) → r ≡ names_all c
  names_are values none r few empty each r_is =
      let of : IsOf c names kind size = record { names_are = refl; kind_is = refl; width_is = width; sign_is = sign } in
      let test : nat_le bits 8 ≡ true = grind (arith, nat_tests) in
      r_is ∙ all_same c values c.labels (2 ^ bits) (λ v. each c of v ∙ ap (λ (l : List ℕ). has l v || is_named c v (flat_map labels_in is)) empty ∙ ap (is_named c v) (sym labels)) ∙
      ap (λ (b : Bool). b && all_named c (2 ^ bits) c.labels) (sym test) ∙ ap (λ (n : ℕ). nat_le n 8 && all_named c (2 ^ n) c.labels) bits_of_selector
