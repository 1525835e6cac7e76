-- One label, and one item, further in a search for the first that matches.
use Rattle.tb_choices.proofs.Common.{◌≡◌, ℕ, ◌+◌, ◌<◌, ◌≤◌, Bool, true, false, List, ◌∷◌, map, refl, ap, sym, ◌∙◌, length, get_or, drop, Option, None, Some, Expr, Shape, Names, Store, Choice}
use Rattle.tb_choices.proofs.Common.{choice_labels, Matching, agrees, one_matches, first_match, default_item, or_default, case_size, chosen}
use Rattle.std.specs.Prelude.{if◌then◌else◌}
use Rattle.std.proofs.lemmas.List.{drop_more, drop_all}
use Rattle.rand_pcg.specs.Lcg.{Lcg}
use Rattle.vlog_syntax.specs.declared.stmt.CaseKind.{CaseKind}
use Rattle.vlog_effects.specs.Steps.{dont_care}
use Rattle.tb_values.specs.Values.{evaluated}

pub if_true : {A : Type 0} (b : Bool) (x y : A) → b ≡ true → (if b then x else y) ≡ x
if_true true x y e = refl
if_true false x y e = absurd cc

pub if_false : {A : Type 0} (b : Bool) (x y : A) → b ≡ false → (if b then x else y) ≡ y
if_false true x y e = absurd cc
if_false false x y e = refl

-- the rest of a list, from its next element on
pub rest_is : {A : Type 0} (xs : List A) (k : ℕ) (x : A) → x ≡ get_or xs k x → k < length xs → drop k xs ≡ x ∷ drop (k + 1) xs
rest_is {A} xs k x is h = drop_more xs k x h ∙ ap (λ (z : A). z ∷ drop (k + 1) xs) (sym is)

-- what one label brings
abbrev after : Matching → ℕ → Expr → List Expr → ℕ × Lcg → Bool × Lcg
after m v x rest p = if agrees (dont_care m.kind x) v p.0 then (true, p.1) else one_matches m v rest p.1

label_is : (m : Matching) (v : ℕ) (xs : List Expr) (k : ℕ) (x : Expr) (u : ℕ) (g h : Lcg) → x ≡ get_or xs k x → k < length xs → (u, h) ≡ evaluated m.names m.phase x m.store m.size g → one_matches m v (drop k xs) g ≡ after m v x (drop (k + 1) xs) (u, h)
label_is m v xs k x u g h is within one = ap (λ (l : List Expr). one_matches m v l g) (rest_is xs k x is within) ∙ ap (after m v x (drop (k + 1) xs)) (sym one)

pub label_hit : (m : Matching) (v : ℕ) (xs : List Expr) (k : ℕ) (x : Expr) (u : ℕ) (hit : Bool) (g h : Lcg) (total : Bool × Lcg) → x ≡ get_or xs k x → k < length xs → (u, h) ≡ evaluated m.names m.phase x m.store m.size g → hit ≡ agrees (dont_care m.kind x) v u → hit ≡ true → one_matches m v (drop k xs) g ≡ total → (true, h) ≡ total
label_hit m v xs k x u hit g h total is within one found yes_ whole =
    sym (if_true (agrees (dont_care m.kind x) v u) (true, h) (one_matches m v (drop (k + 1) xs) h) (sym found ∙ yes_)) ∙ sym (label_is m v xs k x u g h is within one) ∙ whole

pub label_miss : (m : Matching) (v : ℕ) (xs : List Expr) (k : ℕ) (x : Expr) (u : ℕ) (hit : Bool) (g h : Lcg) (total : Bool × Lcg) → x ≡ get_or xs k x → k < length xs → (u, h) ≡ evaluated m.names m.phase x m.store m.size g → hit ≡ agrees (dont_care m.kind x) v u → hit ≡ false → one_matches m v (drop k xs) g ≡ total → one_matches m v (drop (k + 1) xs) h ≡ total
label_miss m v xs k x u hit g h total is within one found no_ whole =
    sym (if_false (agrees (dont_care m.kind x) v u) (true, h) (one_matches m v (drop (k + 1) xs) h) (sym found ∙ no_)) ∙ sym (label_is m v xs k x u g h is within one) ∙ whole

pub labels_end : (m : Matching) (v : ℕ) (xs : List Expr) (k : ℕ) (g : Lcg) (total : Bool × Lcg) → length xs ≤ k → one_matches m v (drop k xs) g ≡ total → (false, g) ≡ total
labels_end m v xs k g total all whole = sym (ap (λ (l : List Expr). one_matches m v l g) (drop_all k xs all)) ∙ whole

-- what one item brings
abbrev onward : Matching → ℕ → ℕ → List (List Expr) → Bool × Lcg → Option ℕ × Lcg
onward m v i rest p = if p.0 then (Some i, p.1) else first_match m v (i + 1) rest p.1

item_is : (m : Matching) (v : ℕ) (xs : List Choice) (k : ℕ) (x : Choice) (ls : List Expr) (b : Bool) (g h : Lcg) → x ≡ get_or xs k x → k < length xs → ls ≡ choice_labels x → (b, h) ≡ one_matches m v ls g → first_match m v k (map choice_labels (drop k xs)) g ≡ onward m v k (map choice_labels (drop (k + 1) xs)) (b, h)
item_is m v xs k x ls b g h is within l one =
    let rest = map choice_labels (drop (k + 1) xs) in
    ap (λ (r : List Choice). first_match m v k (map choice_labels r) g) (rest_is xs k x is within)
    ∙ ap (λ (r : List Expr). onward m v k rest (one_matches m v r g)) (sym l)
    ∙ ap (onward m v k rest) (sym one)

pub item_hit : (m : Matching) (v : ℕ) (xs : List Choice) (k : ℕ) (x : Choice) (ls : List Expr) (b : Bool) (g h : Lcg) (total : Option ℕ × Lcg) → x ≡ get_or xs k x → k < length xs → ls ≡ choice_labels x → (b, h) ≡ one_matches m v ls g → b ≡ true → first_match m v k (map choice_labels (drop k xs)) g ≡ total → (Some k, h) ≡ total
item_hit m v xs k x ls b g h total is within l one yes_ whole =
    sym (if_true b (Some k, h) (first_match m v (k + 1) (map choice_labels (drop (k + 1) xs)) h) yes_) ∙ sym (item_is m v xs k x ls b g h is within l one) ∙ whole

pub item_miss : (m : Matching) (v : ℕ) (xs : List Choice) (k : ℕ) (x : Choice) (ls : List Expr) (b : Bool) (g h : Lcg) (total : Option ℕ × Lcg) → x ≡ get_or xs k x → k < length xs → ls ≡ choice_labels x → (b, h) ≡ one_matches m v ls g → b ≡ false → first_match m v k (map choice_labels (drop k xs)) g ≡ total → first_match m v (k + 1) (map choice_labels (drop (k + 1) xs)) h ≡ total
item_miss m v xs k x ls b g h total is within l one no_ whole =
    sym (if_false b (Some k, h) (first_match m v (k + 1) (map choice_labels (drop (k + 1) xs)) h) no_) ∙ sym (item_is m v xs k x ls b g h is within l one) ∙ whole

pub items_end : (m : Matching) (v : ℕ) (xs : List Choice) (k : ℕ) (g : Lcg) (total : Option ℕ × Lcg) → length xs ≤ k → first_match m v k (map choice_labels (drop k xs)) g ≡ total → (None, g) ≡ total
items_end m v xs k g total all whole = sym (ap (λ (l : List Choice). first_match m v k (map choice_labels l) g) (drop_all k xs all)) ∙ whole

-- The whole.

abbrev taken : Names → ℕ → CaseKind → List (List Expr) → Store → Shape → ℕ × Lcg → Option ℕ × Lcg
taken names phase kind labels store size v =
    let found = first_match (record { names = names; phase = phase; kind = kind; store = store; size = size }) v.0 0 labels v.1 in
    (or_default found.0 (default_item 0 labels), found.1)

pub chosen_is : (names : Names) (phase : ℕ) (kind : CaseKind) (selector : Expr) (labels : List (List Expr)) (store : Store) (size : Shape) (g h k : Lcg) (v : ℕ) (found r : Option ℕ) → size ≡ case_size names selector labels → (v, h) ≡ evaluated names phase selector store size g → (found, k) ≡ first_match (record { names = names; phase = phase; kind = kind; store = store; size = size }) v 0 labels h → r ≡ or_default found (default_item 0 labels) → (r, k) ≡ chosen names phase kind selector labels store g
chosen_is names phase kind selector labels store size g h k v found r s value search so =
    ap (λ (o : Option ℕ). (o, k)) so
    ∙ ap (λ (p : Option ℕ × Lcg). (or_default p.0 (default_item 0 labels), p.1)) search
    ∙ ap (taken names phase kind labels store size) value
    ∙ ap (λ (t : Shape). taken names phase kind labels store t (evaluated names phase selector store t g)) s
