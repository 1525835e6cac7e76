-- Statements of each kind, and the items of a case one at a time.
use Rattle.elab_proc.proofs.Common.{◌≡◌, suc, ℕ, ◌<◌, ◌≤◌, Bool, true, false, List, [], ◌++◌, map, refl, sym, ap, ◌∙◌, subst, length, get_or, drop, append_assoc, ◌%◌, ◌^◌, Option, None, Some}
use Rattle.elab_proc.proofs.Common.{flat_map, option_map, append-nil, Span, Identifier, Expr, out-LeftSide, Word, ConstError, Signal, least, const_error, constant_of, constant_faults, Assignment}
use Rattle.elab_proc.proofs.Common.{CaseItem, out-CaseItem, CaseKind, Stmt, Decl, Names, nothing, is_empty, sense, assigned, item_steps, Steps, InNames, Loop, Selection, looped, all_turns, flaws_of}
use Rattle.elab_proc.proofs.Common.{turns, max_turns, always, done_by, default_of, case_steps, loop_steps, name_alone, steps_of, else_steps, Refusal, Wrong, IsFirst, const_refusal, own_faults}
use Rattle.elab_proc.proofs.Common.{labels_in, step_refusals, Splits}
use Rattle.vlog_syntax.specs.declared.left_side.LeftSide.TheVariants as lv
use Rattle.vlog_syntax.specs.declared.stmt.Stmt.TheVariants as s
use Rattle.vlog_effects.proofs.Variants.{steps-block, steps-conditional, steps-case, steps-loop}
use Rattle.elab_proc.proofs.TurnLemmas.{faults_at, failing, constant_stands, turns_next, loop_by_name}
use Rattle.elab_proc.proofs.StepLemmas.{splits_on, splits_end, block_refusals, left_refusals, left_labelled, left_default, default_here, drop_all}

module _ (comb : Bool) (w : List Bool) (names : Names) where
  refs : Stmt → List Refusal
  refs x = step_refusals comb w (steps_of x names)

  pub block_first : (x : Stmt) (at : Span) (label : Option Identifier) (body : List Stmt) (o : Option Refusal) → x ≡ s.SeqBlock at label body → IsFirst (flat_map (λ (y : Stmt). step_refusals comb w (steps_of y names)) body) o → IsFirst (step_refusals comb w (steps_of x names)) o
  block_first x at label body o is i = subst (λ (l : List Refusal). IsFirst l o) (sym (ap (λ (y : Stmt). step_refusals comb w (steps_of y names)) is ∙ ap (step_refusals comb w) (steps-block at label body names) ∙ block_refusals comb w body names)) i

  pub case_first : (x : Stmt) (at : Span) (kind : CaseKind) (selector sel : Expr) (items its : List CaseItem) (o : Option Refusal) → x ≡ s.Case at kind selector items → sel ≡ selector → its ≡ items → IsFirst (step_refusals comb w (case_steps kind sel (map item_steps its) names)) o → IsFirst (step_refusals comb w (steps_of x names)) o
  case_first x at kind selector sel items its o is same_selector same_items i =
      let by_selector : Expr → List Refusal = λ z. step_refusals comb w (case_steps kind z (map item_steps its) names) in
      let by_items : List CaseItem → List Refusal = λ z. step_refusals comb w (case_steps kind selector (map item_steps z) names) in
      subst (λ (l : List Refusal). IsFirst l o) (ap by_selector same_selector ∙ ap by_items same_items ∙ sym (ap (λ (y : Stmt). step_refusals comb w (steps_of y names)) is ∙ ap (step_refusals comb w) (steps-case at kind selector items names))) i

  pub loop_first : (x : Stmt) (at : Span) (start : Assignment) (condition : Expr) (step : Assignment) (body : Stmt) (o : Option Refusal) → x ≡ s.For at start condition step body → IsFirst (step_refusals comb w (loop_steps at start condition step (steps_of body) names (name_alone (out-LeftSide start.left)))) o → IsFirst (step_refusals comb w (steps_of x names)) o
  loop_first x at start condition step body o is i = subst (λ (l : List Refusal). IsFirst l o) (sym (ap (λ (y : Stmt). step_refusals comb w (steps_of y names)) is ∙ ap (step_refusals comb w) (steps-loop at start condition step body names))) i

  -- an `if`, whose parts are looked at in scopes that are the same
  choice_is : (x : Stmt) (at : Span) (c : Expr) (first : Stmt) (second : Option Stmt) → x ≡ s.Conditional at c first second → step_refusals comb w (steps_of x names) ≡ map Wrong (own_faults names c) ++ (step_refusals comb w (steps_of first names) ++ step_refusals comb w (else_steps (option_map steps_of second) names))
  choice_is x at c first second is =
      ap (λ (y : Stmt). step_refusals comb w (steps_of y names)) is ∙ ap (step_refusals comb w) (steps-conditional at c first second names) ∙
      ap (λ (l : List Refusal). map Wrong (own_faults names c) ++ (step_refusals comb w (steps_of first names) ++ l)) (append-nil (step_refusals comb w (else_steps (option_map steps_of second) names)))

  pub both_first : (x : Stmt) (at : Span) (c : Expr) (first second : Stmt) (other : Option Stmt) (here : Names) (a b d e r : Option Refusal) → x ≡ s.Conditional at c first other → other ≡ Some second → here ≡ names → IsFirst (map Wrong (own_faults names c)) a → IsFirst (step_refusals comb w (steps_of first names)) b → IsFirst (step_refusals comb w (steps_of second here)) d → ((xs ys : List Refusal) → IsFirst xs a → IsFirst ys b → IsFirst (xs ++ ys) e) → ((xs ys : List Refusal) → IsFirst xs e → IsFirst ys d → IsFirst (xs ++ ys) r) → IsFirst (step_refusals comb w (steps_of x names)) r
  both_first x at c first second other here a b d e r is some same i j k inner outer =
      let test : List Refusal = map Wrong (own_faults names c) in
      let k2 : IsFirst (step_refusals comb w (steps_of second names)) d = subst (λ (n : Names). IsFirst (step_refusals comb w (steps_of second n)) d) same k in
      subst (λ (l : List Refusal). IsFirst l r) (sym (choice_is x at c first (Some second) (is ∙ ap (s.Conditional at c first) some) ∙ sym (append_assoc test (step_refusals comb w (steps_of first names)) (step_refusals comb w (steps_of second names))))) (outer (test ++ step_refusals comb w (steps_of first names)) (step_refusals comb w (steps_of second names)) (inner test (step_refusals comb w (steps_of first names)) i j) k2)

  pub only_first : (x : Stmt) (at : Span) (c : Expr) (first : Stmt) (other : Option Stmt) (a b r : Option Refusal) → x ≡ s.Conditional at c first other → other ≡ None → IsFirst (map Wrong (own_faults names c)) a → IsFirst (step_refusals comb w (steps_of first names)) b → ((xs ys : List Refusal) → IsFirst xs a → IsFirst ys b → IsFirst (xs ++ ys) r) → IsFirst (step_refusals comb w (steps_of x names)) r
  only_first x at c first other a b r is none i j outer =
      subst (λ (l : List Refusal). IsFirst l r) (sym (choice_is x at c first None (is ∙ ap (s.Conditional at c first) none) ∙ ap (λ (l : List Refusal). map Wrong (own_faults names c) ++ l) (append-nil (step_refusals comb w (steps_of first names))))) (outer (map Wrong (own_faults names c)) (step_refusals comb w (steps_of first names)) i j)

  -- the same statement, where it was taken out of its box
  pub out_of_box : (x y : Stmt) (o : Option Refusal) → x ≡ y → IsFirst (step_refusals comb w (steps_of x names)) o → IsFirst (step_refusals comb w (steps_of y names)) o
  out_of_box x y o is i = subst (λ (z : Stmt). IsFirst (step_refusals comb w (steps_of z names)) o) is i

  -- loops whose start is a constant, or none
  module _ (at : Span) (start : Assignment) (condition : Expr) (step : Assignment) (body : InNames) (n : Identifier) (d : Option Decl) (width low : ℕ) (sign : Bool) (number : ℕ) (by_name : start.left ≡ lv.Name n) (declared : d ≡ names n.name) (signal : d ≡ Some (Signal width low sign number)) where
    loop_is : loop_steps at start condition step body names (name_alone (out-LeftSide start.left)) ≡ all_turns (record { place = at; name = n; width = width; is_signed = sign; condition = condition; step = step }) body names (constant_of names width start.value) (flaws_of (constant_faults names width start.value))
    loop_is = loop_by_name at start condition step body names n by_name ∙ ap (looped at start condition step body names n) (sym declared ∙ signal)

    pub loop_fails : (e : ConstError) (x : Expr) → x ≡ start.value → Some e ≡ option_map const_error (least (faults_at names width x)) → IsFirst (step_refusals comb w (loop_steps at start condition step body names (name_alone (out-LeftSide start.left)))) (Some (const_refusal e))
    loop_fails e x is fails =
        let loop : Loop = record { place = at; name = n; width = width; is_signed = sign; condition = condition; step = step } in
        let at_start : Some e ≡ option_map const_error (least (faults_at names width start.value)) = subst (λ (y : Expr). Some e ≡ option_map const_error (least (faults_at names width y))) is fails in
        subst (λ (l : Steps). IsFirst (step_refusals comb w l) (Some (const_refusal e))) (sym loop_is) (failing comb w names width start.value e (λ (o : Option ℕ). all_turns loop body names o (flaws_of (constant_faults names width start.value))) refl at_start)

    pub loop_goes : (x : Expr) (word : Word) (o : Option Refusal) → x ≡ start.value → None ≡ option_map const_error (least (faults_at names width x)) → word.bits ≡ (sense names x).value nothing (assigned (sense names x) width) % 2 ^ width → IsFirst (step_refusals comb w (turns max_turns (record { place = at; name = n; width = width; is_signed = sign; condition = condition; step = step }) body names word.bits)) o → IsFirst (step_refusals comb w (loop_steps at start condition step body names (name_alone (out-LeftSide start.left)))) o
    loop_goes x word o is stands bits i =
        let loop : Loop = record { place = at; name = n; width = width; is_signed = sign; condition = condition; step = step } in
        let v : Expr → ℕ = λ y. (sense names y).value nothing (assigned (sense names y) width) in
        let at_start : None ≡ option_map const_error (least (faults_at names width start.value)) = subst (λ (y : Expr). None ≡ option_map const_error (least (faults_at names width y))) is stands in
        let by_bits : word.bits ≡ v start.value % 2 ^ width = bits ∙ ap (λ (y : Expr). v y % 2 ^ width) is in
        subst (λ (l : Steps). IsFirst (step_refusals comb w l) o) (sym (loop_is ∙ ap (λ (m : Option ℕ). all_turns loop body names m (flaws_of (constant_faults names width start.value))) (constant_stands names width start.value at_start) ∙ turns_next max_turns loop body names word (v start.value) by_bits)) i

module _ (comb : Bool) (w : List Bool) (c : Selection) (is : List CaseItem) (default : Option InNames) (all : List Refusal) where
  pub items_start : Splits (left_refusals comb w c is default) (left_refusals comb w c is default) None
  items_start = record { before = []; is = refl; first = refl }

  pub items_skip : (k : ℕ) (i : CaseItem) (found : Option Refusal) → i ≡ get_or is k i → k < length is → is_empty (labels_in i) ≡ true → Splits all (left_refusals comb w c (drop k is) default) found → Splits all (left_refusals comb w c (drop (suc k) is) default) found
  items_skip k i found at h none s = subst (λ (l : List Refusal). Splits all l found) (left_default comb w c is k i default at h none) s

  body_is : (i : CaseItem) (here : Names) (o : Option Refusal) → here ≡ c.names → IsFirst (step_refusals comb w (steps_of (out-CaseItem i).body here)) o → IsFirst (step_refusals comb w (steps_of (out-CaseItem i).body c.names)) o
  body_is i here o same first = subst (λ (n : Names). IsFirst (step_refusals comb w (steps_of (out-CaseItem i).body n)) o) same first

  pub items_more : (k : ℕ) (i : CaseItem) (here : Names) (found o r : Option Refusal) → i ≡ get_or is k i → k < length is → is_empty (labels_in i) ≡ false → always c (labels_in i) ≡ false → here ≡ c.names → Splits all (left_refusals comb w c (drop k is) default) found → IsFirst (step_refusals comb w (steps_of (out-CaseItem i).body here)) o → ((xs ys : List Refusal) → IsFirst xs found → IsFirst ys o → IsFirst (xs ++ ys) r) → Splits all (left_refusals comb w c (drop (suc k) is) default) r
  items_more k i here found o r at h some e same s first joined = splits_on all (left_refusals comb w c (drop k is) default) (step_refusals comb w (steps_of (out-CaseItem i).body c.names)) (left_refusals comb w c (drop (suc k) is) default) found o r s (left_labelled comb w c is k i default false at h some e) (body_is i here o same first) joined

  pub items_last : (k : ℕ) (i : CaseItem) (here : Names) (found o r : Option Refusal) → i ≡ get_or is k i → k < length is → is_empty (labels_in i) ≡ false → always c (labels_in i) ≡ true → here ≡ c.names → Splits all (left_refusals comb w c (drop k is) default) found → IsFirst (step_refusals comb w (steps_of (out-CaseItem i).body here)) o → ((xs ys : List Refusal) → IsFirst xs found → IsFirst ys o → IsFirst (xs ++ ys) r) → IsFirst all r
  items_last k i here found o r at h some e same s first joined =
      let left : left_refusals comb w c (drop k is) default ≡ step_refusals comb w (steps_of (out-CaseItem i).body c.names) = left_labelled comb w c is k i default true at h some e ∙ append-nil (step_refusals comb w (steps_of (out-CaseItem i).body c.names)) in
      splits_end all (left_refusals comb w c (drop k is) default) found o r s (subst (λ (l : List Refusal). IsFirst l o) (sym left) (body_is i here o same first)) joined

  pub items_none : (k : ℕ) (here : Names) (found o r : Option Refusal) → length is ≤ k → here ≡ c.names → Splits all (left_refusals comb w c (drop k is) default) found → IsFirst (step_refusals comb w (done_by default here)) o → ((xs ys : List Refusal) → IsFirst xs found → IsFirst ys o → IsFirst (xs ++ ys) r) → IsFirst all r
  items_none k here found o r h same s first joined =
      let left : left_refusals comb w c (drop k is) default ≡ left_refusals comb w c [] default = ap (λ (l : List CaseItem). left_refusals comb w c l default) (drop_all comb w is k h) in
      splits_end all (left_refusals comb w c (drop k is) default) found o r s (subst (λ (l : List Refusal). IsFirst l o) (sym left) (subst (λ (n : Names). IsFirst (step_refusals comb w (done_by default n)) o) same first)) joined

module _ (comb : Bool) (w : List Bool) (names : Names) (is : List CaseItem) where
  pub default_first : (k : ℕ) (i : CaseItem) (here : Names) (o : Option Refusal) → i ≡ get_or is k i → k < length is → is_empty (labels_in i) ≡ true → default_of (map item_steps is) ≡ default_of (map item_steps (drop k is)) → here ≡ names → IsFirst (step_refusals comb w (steps_of (out-CaseItem i).body here)) o → IsFirst (step_refusals comb w (done_by (default_of (map item_steps is)) names)) o
  default_first k i here o at h none same at_here first =
      subst (λ (d : Option InNames). IsFirst (step_refusals comb w (done_by d names)) o) (sym (same ∙ default_here comb w is k i at h none)) (subst (λ (n : Names). IsFirst (step_refusals comb w (steps_of (out-CaseItem i).body n)) o) at_here first)

  pub default_none : (k : ℕ) → length is ≤ k → default_of (map item_steps is) ≡ default_of (map item_steps (drop k is)) → step_refusals comb w (done_by (default_of (map item_steps is)) names) ≡ []
  default_none k h same = ap (λ (d : Option InNames). step_refusals comb w (done_by d names)) (same ∙ ap (λ (l : List CaseItem). default_of (map item_steps l)) (drop_all comb w is k h))
