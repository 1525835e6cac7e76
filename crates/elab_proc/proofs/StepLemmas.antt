-- What is refused in steps that follow others, in blocks and in the items of a case.
use Rattle.elab_proc.proofs.Common.{◌≡◌, zero, suc, ℕ, ◌<◌, ◌≤◌, Bool, true, false, List, [], ◌∷◌, ◌++◌, map, refl, sym, ap, ◌∙◌, subst, arith, length, get_or, drop, take, append_assoc, Option, None}
use Rattle.elab_proc.proofs.Common.{Some, if◌then◌else◌, flat_map, option_map, append-nil, Expr, CaseItem, out-CaseItem, CaseKind, Stmt, Fault, least, Names, is_empty, item_steps, Steps, Done, Assign}
use Rattle.elab_proc.proofs.Common.{Choose, Case, Refuse, Otherwise, Arm, InNames, Item, Selection, followed, in_turn, always, default_of, labelled, labels_of, greatest, front, last_body, names_all}
use Rattle.elab_proc.proofs.Common.{arms_of, chosen_arms, bodies_of, selection_of, case_steps, step_of, item_of, steps_of, Refusal, Wrong, IsFirst, assign_refusals, own_faults, case_faults}
use Rattle.elab_proc.proofs.Common.{common_size, flaw_refusal, labels_in, body_in, step_refusals, arm_refusals, case_refusals, Splits, least_none}
use Rattle.vlog_syntax.specs.declared.stmt.Stmt.TheFolds.{fold_out-CaseItem}
use Rattle.vlog_meaning.specs.declared.shapes.Shape.{Shape}
use Rattle.elab_proc.proofs.Firsts.{first_wrong}
use Rattle.elab_proc.proofs.Lists.{flat_take}

-- What is left of a list.

pub splits_start : (all : List Refusal) → Splits all all None
splits_start all = record { before = []; is = refl; first = refl }

pub splits_on : (all left more rest : List Refusal) (found o r : Option Refusal) → Splits all left found → left ≡ more ++ rest → IsFirst more o → ((xs ys : List Refusal) → IsFirst xs found → IsFirst ys o → IsFirst (xs ++ ys) r) → Splits all rest r
splits_on all left more rest found o r s e i joined = record { before = s.before ++ more; is = s.is ∙ ap (λ (l : List Refusal). s.before ++ l) e ∙ sym (append_assoc s.before more rest); first = joined s.before more s.first i }

pub splits_end : (all left : List Refusal) (found o r : Option Refusal) → Splits all left found → IsFirst left o → ((xs ys : List Refusal) → IsFirst xs found → IsFirst ys o → IsFirst (xs ++ ys) r) → IsFirst all r
splits_end all left found o r s i joined = subst (λ (l : List Refusal). IsFirst l r) (sym s.is) (joined s.before left s.first i)

module _ (comb : Bool) (w : List Bool) where
  three_again : (a b c d : List Refusal) → a ++ (b ++ (c ++ d)) ≡ (a ++ (b ++ c)) ++ d
  three_again a b c d = ap (λ (l : List Refusal). a ++ l) (sym (append_assoc b c d)) ∙ sym (append_assoc a (b ++ c) d)

  pub followed_refusals : (a b : Steps) → step_refusals comb w (followed a b) ≡ step_refusals comb w a ++ step_refusals comb w b
  followed_refusals Done b = refl
  followed_refusals (Assign a more) b = ap (λ (l : List Refusal). assign_refusals comb w a ++ l) (followed_refusals more b) ∙ sym (append_assoc (assign_refusals comb w a) (step_refusals comb w more) (step_refusals comb w b))
  followed_refusals (Choose at c then_part else_part more) b =
      let test : List Refusal = map Wrong (own_faults c.names c.condition) in
      ap (λ (l : List Refusal). test ++ (step_refusals comb w then_part ++ (step_refusals comb w else_part ++ l))) (followed_refusals more b) ∙
      ap (λ (l : List Refusal). test ++ l) (three_again (step_refusals comb w then_part) (step_refusals comb w else_part) (step_refusals comb w more) (step_refusals comb w b)) ∙
      sym (append_assoc test (step_refusals comb w then_part ++ (step_refusals comb w else_part ++ step_refusals comb w more)) (step_refusals comb w b))
  followed_refusals (Case c arms bodies more) b =
      let here : List Refusal = case_refusals (case_faults c.names (c.selector ∷ c.labels)) (arm_refusals comb w arms) (step_refusals comb w bodies) in
      ap (λ (l : List Refusal). here ++ l) (followed_refusals more b) ∙ sym (append_assoc here (step_refusals comb w more) (step_refusals comb w b))
  followed_refusals (Refuse x more) b = ap (λ (l : List Refusal). flaw_refusal x ∷ l) (followed_refusals more b)

  pub block_refusals : (body : List Stmt) (names : Names) → step_refusals comb w (in_turn (map steps_of body) names) ≡ flat_map (λ (s : Stmt). step_refusals comb w (steps_of s names)) body
  block_refusals [] names = refl
  block_refusals (s ∷ more) names = followed_refusals (steps_of s names) (in_turn (map steps_of more) names) ∙ ap (λ (l : List Refusal). step_refusals comb w (steps_of s names) ++ l) (block_refusals more names)

  -- Cases.

  pub item_is : (i : CaseItem) → item_steps i ≡ record { place = (out-CaseItem i).span; labels = (out-CaseItem i).labels; body = steps_of (out-CaseItem i).body }
  item_is i = fold_out-CaseItem InNames Item step_of item_of i

  pub labels_same : (is : List CaseItem) → labels_of (map item_steps is) ≡ flat_map labels_in is
  labels_same [] = refl
  labels_same (i ∷ more) = ap (λ (j : Item). j.labels ++ labels_of (map item_steps more)) (item_is i) ∙ ap (λ (l : List Expr). labels_in i ++ l) (labels_same more)

  pub drop_one : (is : List CaseItem) (k : ℕ) (i : CaseItem) → i ≡ get_or is k i → k < length is → drop k is ≡ i ∷ drop (suc k) is
  drop_one [] k i at h = absurd (omega arith)
  drop_one (j ∷ js) zero i at h = ap (λ (z : CaseItem). z ∷ js) (sym at)
  drop_one (j ∷ js) (suc k) i at h = drop_one js k i at (omega arith)

  pub drop_all : (is : List CaseItem) (k : ℕ) → length is ≤ k → drop k is ≡ []
  drop_all [] zero h = refl
  drop_all [] (suc k) h = refl
  drop_all (j ∷ js) zero h = absurd (omega arith)
  drop_all (j ∷ js) (suc k) h = drop_all js k (omega arith)

  -- what is refused in the items from one on
  abbrev pub left_refusals : Selection → List CaseItem → Option InNames → List Refusal
  left_refusals c is default = arm_refusals comb w (arms_of c (labelled (map item_steps is)) default)

  arm_more : (c : Selection) (i : Item) (more : List Item) (default : Option InNames) (b : Bool) → always c i.labels ≡ b → arm_refusals comb w (arms_of c (i ∷ more) default) ≡ step_refusals comb w (i.body c.names) ++ (if b then [] else arm_refusals comb w (arms_of c more default))
  arm_more c i more default true e = ap (λ (z : Bool). arm_refusals comb w (if z then Otherwise (i.body c.names) else Arm i.place i.labels (i.body c.names) (arms_of c more default))) e ∙ sym (append-nil (step_refusals comb w (i.body c.names)))
  arm_more c i more default false e = ap (λ (z : Bool). arm_refusals comb w (if z then Otherwise (i.body c.names) else Arm i.place i.labels (i.body c.names) (arms_of c more default))) e

  -- an item with labels, and the items after it
  pub left_labelled : (c : Selection) (is : List CaseItem) (k : ℕ) (i : CaseItem) (default : Option InNames) (b : Bool) → i ≡ get_or is k i → k < length is → is_empty (labels_in i) ≡ false → always c (labels_in i) ≡ b → left_refusals c (drop k is) default ≡ step_refusals comb w (steps_of (out-CaseItem i).body c.names) ++ (if b then [] else left_refusals c (drop (suc k) is) default)
  left_labelled c is k i default b at h some e =
      let j : Item = record { place = (out-CaseItem i).span; labels = (out-CaseItem i).labels; body = steps_of (out-CaseItem i).body } in
      let rest : List Item = map item_steps (drop (suc k) is) in
      ap (λ (l : List CaseItem). left_refusals c l default) (drop_one is k i at h) ∙
      ap (λ (z : Item). arm_refusals comb w (arms_of c (labelled (z ∷ rest)) default)) (item_is i) ∙
      ap (λ (z : Bool). arm_refusals comb w (arms_of c (if z then labelled rest else j ∷ labelled rest) default)) some ∙
      arm_more c j (labelled rest) default b e

  -- an item without labels is passed over
  pub left_default : (c : Selection) (is : List CaseItem) (k : ℕ) (i : CaseItem) (default : Option InNames) → i ≡ get_or is k i → k < length is → is_empty (labels_in i) ≡ true → left_refusals c (drop k is) default ≡ left_refusals c (drop (suc k) is) default
  left_default c is k i default at h none =
      let j : Item = record { place = (out-CaseItem i).span; labels = (out-CaseItem i).labels; body = steps_of (out-CaseItem i).body } in
      let rest : List Item = map item_steps (drop (suc k) is) in
      ap (λ (l : List CaseItem). left_refusals c l default) (drop_one is k i at h) ∙
      ap (λ (z : Item). arm_refusals comb w (arms_of c (labelled (z ∷ rest)) default)) (item_is i) ∙
      ap (λ (z : Bool). arm_refusals comb w (arms_of c (if z then labelled rest else j ∷ labelled rest) default)) none

  -- the default among the items from one on
  pub default_labelled : (is : List CaseItem) (k : ℕ) (i : CaseItem) → i ≡ get_or is k i → k < length is → is_empty (labels_in i) ≡ false → default_of (map item_steps (drop k is)) ≡ default_of (map item_steps (drop (suc k) is))
  default_labelled is k i at h some =
      let rest : List Item = map item_steps (drop (suc k) is) in
      ap (λ (l : List CaseItem). default_of (map item_steps l)) (drop_one is k i at h) ∙
      ap (λ (z : Item). default_of (z ∷ rest)) (item_is i) ∙
      ap (λ (z : Bool). if z then Some (steps_of (out-CaseItem i).body) else default_of rest) some

  pub default_here : (is : List CaseItem) (k : ℕ) (i : CaseItem) → i ≡ get_or is k i → k < length is → is_empty (labels_in i) ≡ true → default_of (map item_steps (drop k is)) ≡ Some (steps_of (out-CaseItem i).body)
  default_here is k i at h none =
      let rest : List Item = map item_steps (drop (suc k) is) in
      ap (λ (l : List CaseItem). default_of (map item_steps l)) (drop_one is k i at h) ∙
      ap (λ (z : Item). default_of (z ∷ rest)) (item_is i) ∙
      ap (λ (z : Bool). if z then Some (steps_of (out-CaseItem i).body) else default_of rest) none

  -- that the last item is the default changes nothing of what is refused
  last_serves : (c : Selection) (is : List Item) → arm_refusals comb w (arms_of c (front is) (last_body is)) ≡ arm_refusals comb w (arms_of c is None)
  last_serves c [] = refl
  last_serves c (i ∷ []) = go (always c i.labels) where
    go : (b : Bool) → step_refusals comb w (i.body c.names) ≡ arm_refusals comb w (if b then Otherwise (i.body c.names) else Arm i.place i.labels (i.body c.names) (arms_of c [] None))
    go true = refl
    go false = sym (append-nil (step_refusals comb w (i.body c.names)))
  last_serves c (i ∷ j ∷ more) = go (last_serves c (j ∷ more)) (always c i.labels) where
    go : arm_refusals comb w (arms_of c (front (j ∷ more)) (last_body (j ∷ more))) ≡ arm_refusals comb w (arms_of c (j ∷ more) None) → (b : Bool) → arm_refusals comb w (if b then Otherwise (i.body c.names) else Arm i.place i.labels (i.body c.names) (arms_of c (front (j ∷ more)) (last_body (j ∷ more)))) ≡ arm_refusals comb w (if b then Otherwise (i.body c.names) else Arm i.place i.labels (i.body c.names) (arms_of c (j ∷ more) None))
    go e true = refl
    go e false = ap (λ (l : List Refusal). step_refusals comb w (i.body c.names) ++ l) e

  chosen_same : (c : Selection) (is : List Item) (default : Option InNames) → arm_refusals comb w (chosen_arms c is default) ≡ arm_refusals comb w (arms_of c is default)
  chosen_same c is (Some body) = refl
  chosen_same c is None = go (names_all c) where
    go : (b : Bool) → arm_refusals comb w (if b then arms_of c (front is) (last_body is) else arms_of c is None) ≡ arm_refusals comb w (arms_of c is None)
    go true = last_serves c is
    go false = refl

  abbrev pub case_left : Names → CaseKind → Expr → List CaseItem → List Refusal
  case_left names kind selector is = left_refusals (selection_of names kind selector (map item_steps is)) is (default_of (map item_steps is))

  -- the bodies of the items of a case
  bodies_refusals : (names : Names) (is : List CaseItem) → step_refusals comb w (bodies_of (map item_steps is) names) ≡ flat_map (λ (i : CaseItem). step_refusals comb w (steps_of (body_in i) names)) is
  bodies_refusals names [] = refl
  bodies_refusals names (i ∷ more) =
      followed_refusals ((item_steps i).body names) (bodies_of (map item_steps more) names) ∙
      ap (λ (j : Item). step_refusals comb w (j.body names) ++ step_refusals comb w (bodies_of (map item_steps more) names)) (item_is i) ∙
      ap (λ (l : List Refusal). step_refusals comb w (steps_of (body_in i) names) ++ l) (bodies_refusals names more)

  -- a case, by its items
  case_is : (names : Names) (kind : CaseKind) (selector : Expr) (is : List CaseItem) → step_refusals comb w (case_steps kind selector (map item_steps is) names) ≡ case_refusals (case_faults names (selector ∷ flat_map labels_in is)) (case_left names kind selector is) (flat_map (λ (i : CaseItem). step_refusals comb w (steps_of (body_in i) names)) is)
  case_is names kind selector is =
      let c : Selection = selection_of names kind selector (map item_steps is) in
      let arms : List Refusal = arm_refusals comb w (chosen_arms c (labelled (map item_steps is)) (default_of (map item_steps is))) in
      let bodies : List Refusal = step_refusals comb w (bodies_of (map item_steps is) names) in
      append-nil _ ∙
      ap (λ (l : List Expr). case_refusals (case_faults names (selector ∷ l)) arms bodies) (labels_same is) ∙
      ap (λ (l : List Refusal). case_refusals (case_faults names (selector ∷ flat_map labels_in is)) l bodies) (chosen_same c (labelled (map item_steps is)) (default_of (map item_steps is))) ∙
      ap (λ (l : List Refusal). case_refusals (case_faults names (selector ∷ flat_map labels_in is)) (case_left names kind selector is) l) (bodies_refusals names is)

  faultless : (fs : List Fault) (arms bodies : List Refusal) → None ≡ least fs → case_refusals fs arms bodies ≡ arms
  faultless fs arms bodies is = ap (λ (l : List Fault). case_refusals l arms bodies) (least_none fs (sym is))

  refused_first : (fs : List Fault) (arms bodies : List Refusal) (f : Fault) (o r : Option Refusal) → Some f ≡ least fs → IsFirst bodies o → ((xs ys : List Refusal) → IsFirst xs (Some (Wrong f)) → IsFirst ys o → IsFirst (xs ++ ys) r) → IsFirst (case_refusals fs arms bodies) r
  unfolding least
  refused_first [] arms bodies f o r is i joined = cc
  refused_first (g ∷ more) arms bodies f o r is i joined = joined (map Wrong (g ∷ more)) bodies (go (least (g ∷ more)) is (first_wrong (g ∷ more) (least (g ∷ more)) refl)) i where
    go : (found : Option Fault) → Some f ≡ found → IsFirst (map Wrong (g ∷ more)) (option_map Wrong found) → IsFirst (map Wrong (g ∷ more)) (Some (Wrong f))
    go None e first = cc
    go (Some h) e first = let same : f ≡ h = cc in subst (λ (x : Fault). IsFirst (map Wrong (g ∷ more)) (Some (Wrong x))) (sym same) first

  pub case_none : (names : Names) (kind : CaseKind) (selector : Expr) (is : List CaseItem) (o : Option Refusal) (fault : Option Fault) (size : Shape) → fault ≡ least (case_faults names (selector ∷ flat_map labels_in is)) → fault ≡ None → size ≡ common_size names (selector ∷ flat_map labels_in is) → ((c : Selection) → c.kind ≡ kind → c.width ≡ size.width → c.names ≡ names → IsFirst (left_refusals c is (default_of (map item_steps is))) o) → IsFirst (step_refusals comb w (case_steps kind selector (map item_steps is) names)) o
  case_none names kind selector is o fault size first none size_is each =
      let c : Selection = selection_of names kind selector (map item_steps is) in
      let width : c.width ≡ size.width = ap (λ (l : List Expr). greatest names (selector ∷ l)) (labels_same is) ∙ sym (ap (λ (s : Shape). s.width) size_is) in
      subst (λ (l : List Refusal). IsFirst l o) (sym (case_is names kind selector is ∙ faultless (case_faults names (selector ∷ flat_map labels_in is)) (case_left names kind selector is) _ (sym none ∙ first))) (each c refl width refl)

  pub case_some : (names : Names) (kind : CaseKind) (selector : Expr) (is : List CaseItem) (fault : Option Fault) (f : Fault) (o r : Option Refusal) → fault ≡ least (case_faults names (selector ∷ flat_map labels_in is)) → fault ≡ Some f → IsFirst (flat_map (λ (i : CaseItem). step_refusals comb w (steps_of (body_in i) names)) is) o → ((xs ys : List Refusal) → IsFirst xs (Some (Wrong f)) → IsFirst ys o → IsFirst (xs ++ ys) r) → IsFirst (step_refusals comb w (case_steps kind selector (map item_steps is) names)) r
  case_some names kind selector is fault f o r first some i joined =
      subst (λ (l : List Refusal). IsFirst l r) (sym (case_is names kind selector is)) (refused_first (case_faults names (selector ∷ flat_map labels_in is)) (case_left names kind selector is) _ f o r (sym some ∙ first) i joined)

  -- the body of one item more
  pub bodies_more : (names here : Names) (is : List CaseItem) (k : ℕ) (x : CaseItem) (found o r : Option Refusal) → x ≡ get_or is k x → k < length is → here ≡ names → IsFirst (flat_map (λ (i : CaseItem). step_refusals comb w (steps_of (body_in i) names)) (take k is)) found → IsFirst (step_refusals comb w (steps_of (body_in x) here)) o → ((xs ys : List Refusal) → IsFirst xs found → IsFirst ys o → IsFirst (xs ++ ys) r) → IsFirst (flat_map (λ (i : CaseItem). step_refusals comb w (steps_of (body_in i) names)) (take (suc k) is)) r
  bodies_more names here is k x found o r at h same before more joined =
      let g : CaseItem → List Refusal = λ i. step_refusals comb w (steps_of (body_in i) names) in
      subst (λ (l : List Refusal). IsFirst l r) (sym (flat_take g is k x at h)) (joined (flat_map g (take k is)) (g x) before (subst (λ (n : Names). IsFirst (step_refusals comb w (steps_of (body_in x) n)) o) same more))

  -- one statement of a block more
  pub block_more : (names here : Names) (body : List Stmt) (k : ℕ) (x : Stmt) (found o r : Option Refusal) → x ≡ get_or body k x → k < length body → here ≡ names → IsFirst (flat_map (λ (s : Stmt). step_refusals comb w (steps_of s names)) (take k body)) found → IsFirst (step_refusals comb w (steps_of x here)) o → ((xs ys : List Refusal) → IsFirst xs found → IsFirst ys o → IsFirst (xs ++ ys) r) → IsFirst (flat_map (λ (s : Stmt). step_refusals comb w (steps_of s names)) (take (suc k) body)) r
  block_more names here body k x found o r at h same before more joined =
      let g : Stmt → List Refusal = λ s. step_refusals comb w (steps_of s names) in
      subst (λ (l : List Refusal). IsFirst l r) (sym (flat_take g body k x at h)) (joined (flat_map g (take k body)) (g x) before (subst (λ (n : Names). IsFirst (step_refusals comb w (steps_of x n)) o) same more))
