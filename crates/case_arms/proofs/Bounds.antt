-- Items of a case up to a place, the last item, and items that match whatever the selector is.
use Rattle.case_arms.proofs.Common.{◌≡◌, zero, suc, ℕ, ◌<◌, ◌≤◌, ◌+◌, Bool, true, false, List, [], ◌∷◌, map, refl, sym, ap, ◌∙◌, subst, arith, length, get_or, take, Option, None, Some, if◌then◌else◌}
use Rattle.case_arms.proofs.Common.{option_map, Expr, CaseItem, out-CaseItem, is_empty, item_steps, Steps, Selection, Arms, Otherwise, Arm, InNames, Item, always, default_of, labelled, done_by, front}
use Rattle.case_arms.proofs.Common.{last_body, names_all, arms_of, chosen_arms, step_of, item_of, steps_of, labels_in, item_body, labels_at, arms_with, arms_within, NoneFree, IsFirstFree}
use Rattle.vlog_syntax.specs.declared.stmt.Stmt.TheFolds.{fold_out-CaseItem}

-- an item, with its parts
abbrev opened : CaseItem → Item
opened i = record { place = (out-CaseItem i).span; labels = (out-CaseItem i).labels; body = steps_of (out-CaseItem i).body }

item_is : (i : CaseItem) → item_steps i ≡ opened i
item_is i = fold_out-CaseItem InNames Item step_of item_of i

arm_one : (c : Selection) (x : Item) (xs : List Item) (d : Option InNames) → always c x.labels ≡ false → arms_of c (x ∷ xs) d ≡ Arm x.place x.labels (x.body c.names) (arms_of c xs d)
arm_one c x xs d e = ap (λ (b : Bool). if b then Otherwise (x.body c.names) else Arm x.place x.labels (x.body c.names) (arms_of c xs d)) e

arm_last : (c : Selection) (x : Item) (xs : List Item) (d : Option InNames) → always c x.labels ≡ true → arms_of c (x ∷ xs) d ≡ Otherwise (x.body c.names)
arm_last c x xs d e = ap (λ (b : Bool). if b then Otherwise (x.body c.names) else Arm x.place x.labels (x.body c.names) (arms_of c xs d)) e

some_labels : (c : Selection) (xs : List Expr) → always c xs ≡ true → is_empty xs ≡ false
some_labels c [] e = cc
some_labels c (x ∷ more) e = refl

-- an item that is an arm only where it matches, before others of which the same is known
one_more : (c : Selection) (i : CaseItem) (xs ys : List CaseItem) (d : Option InNames) (last : Steps) → always c (labels_in i) ≡ false → arms_of c (labelled (map item_steps xs)) d ≡ arms_with c (labelled (map item_steps ys)) last → arms_of c (labelled (map item_steps (i ∷ xs))) d ≡ arms_with c (labelled (map item_steps (i ∷ ys))) last
one_more c i xs ys d last e ih =
    ap (λ (z : Item). arms_of c (labelled (z ∷ map item_steps xs)) d) (item_is i) ∙ go (is_empty (labels_in i)) ∙ sym (ap (λ (z : Item). arms_with c (labelled (z ∷ map item_steps ys)) last) (item_is i)) where
      go : (b : Bool) → arms_of c (if b then labelled (map item_steps xs) else opened i ∷ labelled (map item_steps xs)) d ≡ arms_with c (if b then labelled (map item_steps ys) else opened i ∷ labelled (map item_steps ys)) last
      go true = ih
      go false = arm_one c (opened i) (labelled (map item_steps xs)) d e ∙ ap (Arm (opened i).place (opened i).labels ((opened i).body c.names)) ih

-- where no item matches whatever the selector is
pub bound_arms : (c : Selection) (is : List CaseItem) (d : Option InNames) → NoneFree c is → arms_of c (labelled (map item_steps is)) d ≡ arms_with c (labelled (map item_steps is)) (done_by d c.names)
bound_arms c [] d n = refl
bound_arms c (i ∷ more) d n = one_more c i more more d (done_by d c.names) n.0 (bound_arms c more d n.1)

-- where the item at a place is the first one that does
pub free_arms : (c : Selection) (is : List CaseItem) (k : ℕ) (d : Option InNames) → k < length is → always c (labels_at is k) ≡ true → NoneFree c (take k is) → arms_of c (labelled (map item_steps is)) d ≡ arms_with c (labelled (map item_steps (take k is))) (item_body is k c.names)
free_arms c [] k d h e n = absurd (omega arith)
free_arms c (i ∷ more) zero d h e n =
    let rest : List Item = labelled (map item_steps more) in
    ap (λ (z : Item). arms_of c (labelled (z ∷ map item_steps more)) d) (item_is i) ∙
    ap (λ (b : Bool). arms_of c (if b then rest else opened i ∷ rest) d) (some_labels c (labels_in i) e) ∙
    arm_last c (opened i) rest d e
free_arms c (i ∷ more) (suc k) d h e n = one_more c i more (take k more) d (item_body more k c.names) n.0 (free_arms c more k d (omega arith) e n.1)

-- Items up to a place.

take_within : {A : Type 0} (xs : List A) (k n : ℕ) → k ≤ n → take k (take n xs) ≡ take k xs
take_within [] zero zero h = refl
take_within [] zero (suc n) h = refl
take_within [] (suc k) zero h = absurd (omega arith)
take_within [] (suc k) (suc n) h = refl
take_within (x ∷ xs) zero zero h = refl
take_within (x ∷ xs) zero (suc n) h = refl
take_within (x ∷ xs) (suc k) zero h = absurd (omega arith)
take_within {A} (x ∷ xs) (suc k) (suc n) h = ap (λ (l : List A). x ∷ l) (take_within xs k n (omega arith))

body_within : (is : List CaseItem) (k n : ℕ) → k < n → n ≤ length is → item_body (take n is) k ≡ item_body is k
body_within [] k n h m = absurd (omega arith)
body_within (i ∷ more) k zero h m = absurd (omega arith)
body_within (i ∷ more) zero (suc n) h m = refl
body_within (i ∷ more) (suc k) (suc n) h m = body_within more k n (omega arith) (omega arith)

labels_within : (is : List CaseItem) (k n : ℕ) → k < n → n ≤ length is → labels_at (take n is) k ≡ labels_at is k
labels_within [] k n h m = absurd (omega arith)
labels_within (i ∷ more) k zero h m = absurd (omega arith)
labels_within (i ∷ more) zero (suc n) h m = refl
labels_within (i ∷ more) (suc k) (suc n) h m = labels_within more k n (omega arith) (omega arith)

length_within : (is : List CaseItem) (k n : ℕ) → k < n → n ≤ length is → k < length (take n is)
length_within [] k n h m = absurd (omega arith)
length_within (i ∷ more) k zero h m = absurd (omega arith)
length_within (i ∷ more) zero (suc n) h m = omega arith
length_within (i ∷ more) (suc k) (suc n) h m = let less = length_within more k n (omega arith) (omega arith) in omega (arith, less)

-- where the first of the items before a place that matches whatever the selector is stands at another
pub free_before : (c : Selection) (is : List CaseItem) (k n : ℕ) (d : Option InNames) → n ≤ length is → IsFirstFree c is n (Some k) → arms_with c (labelled (map item_steps (take k is))) (item_body is k c.names) ≡ arms_of c (labelled (map item_steps (take n is))) d
free_before c is k n d m first =
    let js : List CaseItem = take n is in
    let free = free_arms c js k d (length_within is k n first.0 m) (ap (always c) (labels_within is k n first.0 m) ∙ first.1) (subst (NoneFree c) (sym (take_within is k n (omega (arith, first.0)))) first.2) in
    sym (free ∙ ap (λ (l : List CaseItem). arms_with c (labelled (map item_steps l)) (item_body js k c.names)) (take_within is k n (omega (arith, first.0))) ∙ ap (λ (f : InNames). arms_with c (labelled (map item_steps (take k is))) (f c.names)) (body_within is k n first.0 m))

pub take_whole : {A : Type 0} (xs : List A) → take (length xs) xs ≡ xs
take_whole [] = refl
take_whole {A} (x ∷ xs) = ap (λ (l : List A). x ∷ l) (take_whole xs)

pub body_here : (is : List CaseItem) (k : ℕ) (i : CaseItem) → i ≡ get_or is k i → k < length is → item_body is k ≡ steps_of (out-CaseItem i).body
body_here [] k i at h = absurd (omega arith)
body_here (j ∷ js) zero i at h = ap (λ (z : CaseItem). steps_of (out-CaseItem z).body) (sym at)
body_here (j ∷ js) (suc k) i at h = body_here js k i at (omega arith)

pub labels_here : (is : List CaseItem) (k : ℕ) (i : CaseItem) → i ≡ get_or is k i → k < length is → labels_at is k ≡ labels_in i
labels_here [] k i at h = absurd (omega arith)
labels_here (j ∷ js) zero i at h = ap labels_in (sym at)
labels_here (j ∷ js) (suc k) i at h = labels_here js k i at (omega arith)

pub free_more : (c : Selection) (is : List CaseItem) (k : ℕ) (i : CaseItem) → i ≡ get_or is k i → k < length is → always c (labels_in i) ≡ false → NoneFree c (take k is) → NoneFree c (take (suc k) is)
free_more c [] k i at h e n = absurd (omega arith)
free_more c (j ∷ js) zero i at h e n = (ap (λ (z : CaseItem). always c (labels_in z)) (sym at) ∙ e, tt)
free_more c (j ∷ js) (suc k) i at h e n = (n.0, free_more c js k i at (omega arith) e n.1)

pub none_less : (c : Selection) (is : List CaseItem) (k n : ℕ) → n ≤ k → NoneFree c (take k is) → NoneFree c (take n is)
none_less c [] zero zero h none = tt
none_less c [] zero (suc n) h none = absurd (omega arith)
none_less c [] (suc k) zero h none = tt
none_less c [] (suc k) (suc n) h none = tt
none_less c (i ∷ more) zero zero h none = tt
none_less c (i ∷ more) zero (suc n) h none = absurd (omega arith)
none_less c (i ∷ more) (suc k) zero h none = tt
none_less c (i ∷ more) (suc k) (suc n) h none = (none.0, none_less c more k n (omega arith) none.1)

-- Where there is no default, all items have labels.

default_after : (x : Item) (more : List Item) (b : Bool) → is_empty x.labels ≡ b → default_of (x ∷ more) ≡ None → (is_empty x.labels ≡ false) × (default_of more ≡ None)
default_after x more true e none = let some : Some x.body ≡ None = sym (ap (λ (b : Bool). if b then Some x.body else default_of more) e) ∙ none in cc
default_after x more false e none = (e, sym (ap (λ (b : Bool). if b then Some x.body else default_of more) e) ∙ none)

pub front_is : (is : List CaseItem) (p : ℕ) → length is ≡ p + 1 → default_of (map item_steps is) ≡ None → front (map item_steps is) ≡ labelled (map item_steps (take p is))
front_is [] p h none = absurd (omega arith)
front_is (i ∷ []) zero h none = refl
front_is (i ∷ []) (suc p) h none = absurd (omega arith)
front_is (i ∷ j ∷ more) zero h none = absurd (omega arith)
front_is (i ∷ j ∷ more) (suc p) h none =
    let after = default_after (item_steps i) (map item_steps (j ∷ more)) (is_empty (item_steps i).labels) refl none in
    let rest : List Item = labelled (map item_steps (take p (j ∷ more))) in
    ap (λ (l : List Item). item_steps i ∷ l) (front_is (j ∷ more) p (omega arith) after.1) ∙ sym (ap (λ (b : Bool). if b then rest else item_steps i ∷ rest) after.0)

pub last_is : (is : List CaseItem) (p : ℕ) → length is ≡ p + 1 → last_body (map item_steps is) ≡ Some (item_body is p)
last_is [] p h = absurd (omega arith)
last_is (i ∷ []) zero h = ap (λ (z : Item). Some z.body) (item_is i)
last_is (i ∷ []) (suc p) h = absurd (omega arith)
last_is (i ∷ j ∷ more) zero h = absurd (omega arith)
last_is (i ∷ j ∷ more) (suc p) h = last_is (j ∷ more) p (omega arith)

all_labelled : (xs : List Item) → default_of xs ≡ None → labelled xs ≡ xs
all_labelled [] none = refl
all_labelled (x ∷ xs) none =
    let after = default_after x xs (is_empty x.labels) refl none in
    ap (λ (b : Bool). if b then labelled xs else x ∷ labelled xs) after.0 ∙ ap (λ (l : List Item). x ∷ l) (all_labelled xs after.1)

-- The chosen arms of items, whose default stands at this place.

module _ (c : Selection) (is : List CaseItem) (d : Option ℕ) (body : option_map (item_body is) d ≡ default_of (map item_steps is)) where
  pub ends_default : (k : ℕ) → d ≡ Some k → arms_within c is (record { before = length is; last = Some k }) ≡ chosen_arms c (labelled (map item_steps is)) (default_of (map item_steps is))
  ends_default k some =
      let e : Some (item_body is k) ≡ default_of (map item_steps is) = sym (ap (option_map (item_body is)) some) ∙ body in
      ap (λ (l : List CaseItem). arms_of c (labelled (map item_steps l)) (Some (item_body is k))) (take_whole is) ∙ ap (chosen_arms c (labelled (map item_steps is))) e

  no_default : d ≡ None → default_of (map item_steps is) ≡ None
  no_default none = sym body ∙ ap (option_map (item_body is)) none

  pub ends_open : (b : Bool) → d ≡ None → b ≡ names_all c → b ≡ false → arms_within c is (record { before = length is; last = None }) ≡ chosen_arms c (labelled (map item_steps is)) (default_of (map item_steps is))
  ends_open b none is_full off =
      let xs : List Item = labelled (map item_steps is) in
      ap (λ (l : List CaseItem). arms_of c (labelled (map item_steps l)) None) (take_whole is) ∙ ap (λ (t : Bool). if t then arms_of c (front xs) (last_body xs) else arms_of c xs None) (sym off ∙ is_full) ∙ ap (chosen_arms c xs) (sym (no_default none))

  pub ends_full : (b : Bool) (a : Arms) → d ≡ None → b ≡ names_all c → b ≡ true → (default_of (map item_steps is) ≡ None → a ≡ arms_of c (front (map item_steps is)) (last_body (map item_steps is))) → a ≡ chosen_arms c (labelled (map item_steps is)) (default_of (map item_steps is))
  ends_full b a none is_full on arms =
      let xs : List Item = labelled (map item_steps is) in
      let some : default_of (map item_steps is) ≡ None = no_default none in
      arms some ∙ ap (λ (l : List Item). arms_of c (front l) (last_body l)) (sym (all_labelled (map item_steps is) some)) ∙ ap (λ (t : Bool). if t then arms_of c (front xs) (last_body xs) else arms_of c xs None) (sym on ∙ is_full) ∙ ap (chosen_arms c xs) (sym some)
