-- Statements of each kind, and how a loop starts.
use Rattle.process_latches.proofs.Common.{◌≡◌, zero, suc, ℕ, ◌<◌, ◌≤◌, ◌%◌, ◌^◌, Bool, true, false, List, [], ◌∷◌, map, refl, sym, ap, ◌∙◌, subst, arith, length, get_or, drop, Option, None, Some}
use Rattle.process_latches.proofs.Common.{option_map, Span, Word, Identifier, Expr, out-LeftSide, left_first_token, Assignment, CaseItem, CaseKind, Stmt, roll-Stmt, fold-roll-Stmt, map-Stmt}
use Rattle.process_latches.proofs.Common.{EventControl, ConstError, Decl, Signal, Constant, least, const_error, Names, nothing, no_bits, sense, assigned, constant_of, constant_faults, item_steps}
use Rattle.process_latches.proofs.Common.{Steps, Done, Assign, Choose, Const, InNames, Item, Loop, assigning, step_of, item_of, in_turn, looped, all_turns, flaws_of, turns, max_turns, case_steps}
use Rattle.process_latches.proofs.Common.{loop_steps, name_alone, steps_of, else_steps, own_faults, Marks, AreBlank, Added, Marked, reads_by, sound, IsOwn, Chosen}
use Rattle.vlog_syntax.specs.declared.left_side.LeftSide.TheVariants as lv
use Rattle.vlog_syntax.specs.declared.stmt.Stmt.TheVariants as s
use Rattle.vlog_syntax.specs.declared.stmt.Stmt.TheOpen as t
use Rattle.vlog_syntax.specs.declared.stmt.Stmt.TheOpen.{Stmt-F}
use Rattle.vlog_syntax.specs.declared.stmt.Argument.{Argument}
use Rattle.vlog_meaning.specs.declared.fault.ConstError.TheVariants as ce
use Rattle.vlog_effects.proofs.Variants.{steps-block, steps-conditional, steps-case, steps-loop}
use Rattle.vlog_effects.proofs.Running.{steps-blocking, steps-nonblocking}
use Rattle.elab_proc.proofs.TurnLemmas.{faults_at, constant_stands, turns_next, loop_by_name}
use Rattle.process_latches.proofs.Adding.{added_none}
use Rattle.process_latches.proofs.Choosing.{own_marks, own_none, choice_marked}
use Rattle.process_latches.proofs.Following.{marked_then}
use Rattle.process_latches.proofs.Turning.{halts_marked, refused_halts, const_halts}

-- Blocks.

drop_one : (xs : List Stmt) (k : ℕ) (x : Stmt) → x ≡ get_or xs k x → k < length xs → drop k xs ≡ x ∷ drop (suc k) xs
drop_one [] k x at h = absurd (omega arith)
drop_one (y ∷ ys) zero x at h = ap (λ (z : Stmt). z ∷ ys) (sym at)
drop_one (y ∷ ys) (suc k) x at h = drop_one ys k x at (omega arith)

drop_all : (xs : List Stmt) (k : ℕ) → length xs ≤ k → drop k xs ≡ []
drop_all [] zero h = refl
drop_all [] (suc k) h = refl
drop_all (y ∷ ys) zero h = absurd (omega arith)
drop_all (y ∷ ys) (suc k) h = drop_all ys k (omega arith)

-- the statements from one on lead from these marks to the end of all of them
abbrev pub Continues : Names → List Stmt → ℕ → Marks → Marks → Type 0
Continues names body k old now = (end : Marks) → Marked (sound (in_turn (map steps_of (drop k body)) names)) now end → Marked (sound (in_turn (map steps_of body) names)) old end

drop_none : (xs : List Stmt) → drop zero xs ≡ xs
drop_none [] = refl
drop_none (y ∷ ys) = refl

pub continues_start : (names : Names) (body : List Stmt) (m : Marks) → Continues names body zero m m
continues_start names body m end y = subst (λ (xs : List Stmt). Marked (sound (in_turn (map steps_of xs) names)) m end) (drop_none body) y

pub continues_on : (names here : Names) (body : List Stmt) (k : ℕ) (x : Stmt) (old now new : Marks) → x ≡ get_or body k x → k < length body → here ≡ names → Continues names body k old now → Marked (sound (steps_of x here)) now new → Continues names body (suc k) old new
continues_on names here body k x old now new at h same c m end y =
    c end (subst (λ (xs : List Stmt). Marked (sound (in_turn (map steps_of xs) names)) now end) (sym (drop_one body k x at h)) (marked_then (steps_of x names) (in_turn (map steps_of (drop (suc k) body)) names) now new end (subst (λ (n : Names). Marked (sound (steps_of x n)) now new) same m) y))

pub continues_end : (names : Names) (body : List Stmt) (k : ℕ) (old now : Marks) → length body ≤ k → Continues names body k old now → Marked (sound Done) now now → Marked (sound (in_turn (map steps_of body) names)) old now
continues_end names body k old now h c none = c now (subst (λ (xs : List Stmt). Marked (sound (in_turn (map steps_of xs) names)) now now) (sym (drop_all body k h)) none)

-- Each statement by its variant.

module _ (names : Names) (a b : Marks) where
  pub block_marked : (x : Stmt) (at : Span) (label : Option Identifier) (body : List Stmt) → x ≡ s.SeqBlock at label body → Marked (sound (in_turn (map steps_of body) names)) a b → Marked (sound (steps_of x names)) a b
  block_marked x at label body is m = subst (λ (z : Steps). Marked (sound z) a b) (sym (ap (λ (y : Stmt). steps_of y names) is ∙ steps-block at label body names)) m

  pub stmt_case : (x : Stmt) (at : Span) (kind : CaseKind) (selector sel : Expr) (items its : List CaseItem) → x ≡ s.Case at kind selector items → sel ≡ selector → its ≡ items → Marked (sound (case_steps kind sel (map item_steps its) names)) a b → Marked (sound (steps_of x names)) a b
  stmt_case x at kind selector sel items its is same_selector same_items m =
      let by_selector : Expr → Steps = λ z. case_steps kind z (map item_steps its) names in
      let by_items : List CaseItem → Steps = λ z. case_steps kind selector (map item_steps z) names in
      subst (λ (z : Steps). Marked (sound z) a b) (ap by_selector same_selector ∙ ap by_items same_items ∙ sym (ap (λ (y : Stmt). steps_of y names) is ∙ steps-case at kind selector items names)) m

  pub stmt_loop : (x : Stmt) (at : Span) (start : Assignment) (condition : Expr) (step : Assignment) (body : Stmt) → x ≡ s.For at start condition step body → Marked (sound (loop_steps at start condition step (steps_of body) names (name_alone (out-LeftSide start.left)))) a b → Marked (sound (steps_of x names)) a b
  stmt_loop x at start condition step body is m = subst (λ (z : Steps). Marked (sound z) a b) (sym (ap (λ (y : Stmt). steps_of y names) is ∙ steps-loop at start condition step body names)) m

  rolled : (x : Stmt) (o : Stmt-F Stmt CaseItem) → x ≡ roll-Stmt o → steps_of x names ≡ step_of (map-Stmt Stmt CaseItem InNames Item steps_of item_steps o) names
  rolled x o is = ap (λ (y : Stmt). steps_of y names) is ∙ ap (λ (f : InNames). f names) (fold-roll-Stmt InNames Item step_of item_of o)

  pub stmt_blocking : (x : Stmt) (y : Assignment) → x ≡ s.BlockingAssignment y → Marked (sound (Assign (assigning true y names) Done)) a b → Marked (sound (steps_of x names)) a b
  stmt_blocking x y is m = subst (λ (z : Steps). Marked (sound z) a b) (sym (ap (λ (y : Stmt). steps_of y names) is ∙ steps-blocking y names)) m

  pub stmt_nonblocking : (x : Stmt) (y : Assignment) → x ≡ s.NonblockingAssignment y → Marked (sound (Assign (assigning false y names) Done)) a b → Marked (sound (steps_of x names)) a b
  stmt_nonblocking x y is m = subst (λ (z : Steps). Marked (sound z) a b) (sym (ap (λ (y : Stmt). steps_of y names) is ∙ steps-nonblocking y names)) m

  -- statements that assign and read nothing
  pub stmt_null : (x : Stmt) (at : Span) → x ≡ s.Null at → Marked (sound (steps_of x names)) a a
  stmt_null x at is = subst (λ (z : Steps). Marked (sound z) a a) (sym (rolled x (t.Null at) (is ∙ sym (s.rolls-Null at)))) (added_none a)

  pub stmt_while : (x : Stmt) (at : Span) (c : Expr) (body : Stmt) → x ≡ s.While at c body → Marked (sound (steps_of x names)) a a
  stmt_while x at c body is = subst (λ (z : Steps). Marked (sound z) a a) (sym (rolled x (t.While at c body) (is ∙ sym (s.rolls-While at c body)))) (added_none a)

  pub stmt_repeat : (x : Stmt) (at : Span) (c : Expr) (body : Stmt) → x ≡ s.Repeat at c body → Marked (sound (steps_of x names)) a a
  stmt_repeat x at c body is = subst (λ (z : Steps). Marked (sound z) a a) (sym (rolled x (t.Repeat at c body) (is ∙ sym (s.rolls-Repeat at c body)))) (added_none a)

  pub stmt_forever : (x : Stmt) (at : Span) (body : Stmt) → x ≡ s.Forever at body → Marked (sound (steps_of x names)) a a
  stmt_forever x at body is = subst (λ (z : Steps). Marked (sound z) a a) (sym (rolled x (t.Forever at body) (is ∙ sym (s.rolls-Forever at body)))) (added_none a)

  pub stmt_event : (x : Stmt) (at : Span) (c : EventControl) (body : Stmt) → x ≡ s.EventControl at c body → Marked (sound (steps_of x names)) a a
  stmt_event x at c body is = subst (λ (z : Steps). Marked (sound z) a a) (sym (rolled x (t.EventControl at c body) (is ∙ sym (s.rolls-EventControl at c body)))) (added_none a)

  pub stmt_delay : (x : Stmt) (at : Span) (c : Expr) (body : Stmt) → x ≡ s.DelayControl at c body → Marked (sound (steps_of x names)) a a
  stmt_delay x at c body is = subst (λ (z : Steps). Marked (sound z) a a) (sym (rolled x (t.DelayControl at c body) (is ∙ sym (s.rolls-DelayControl at c body)))) (added_none a)

  pub stmt_task : (x : Stmt) (n : Identifier) (arguments : List Argument) → x ≡ s.SystemTaskEnable n arguments → Marked (sound (steps_of x names)) a a
  stmt_task x n arguments is = subst (λ (z : Steps). Marked (sound z) a a) (sym (rolled x (t.SystemTaskEnable n arguments) (is ∙ sym (s.rolls-SystemTaskEnable n arguments)))) (added_none a)

  pub stmt_choice : (x : Stmt) (at : Span) (c : Expr) (first : Stmt) (other : Option Stmt) → x ≡ s.Conditional at c first other → Marked (sound (Choose at (record { names = names; condition = c }) (steps_of first names) (else_steps (option_map steps_of other) names) Done)) a b → Marked (sound (steps_of x names)) a b
  stmt_choice x at c first other is m = subst (λ (z : Steps). Marked (sound z) a b) (sym (ap (λ (y : Stmt). steps_of y names) is ∙ steps-conditional at c first other names)) m

  -- a choice of two parts
  pub choice_both : (here : Names) (x : Stmt) (at : Span) (c test : Expr) (then_part first else_part second : Stmt) (other : Option Stmt) (m1 e f h g : Marks) → x ≡ s.Conditional at c then_part other → other ≡ Some else_part → test ≡ c → first ≡ then_part → second ≡ else_part → here ≡ names → Added no_bits (reads_by names (own_faults names test) test) [] false a m1 → AreBlank e → Marked (sound (steps_of first names)) e f → AreBlank h → Marked (sound (steps_of second here)) h g → Chosen f g m1 b → Marked (sound (steps_of x names)) a b
  choice_both here x at c test then_part first else_part second other m1 e f h g is some same same_first same_second same_names read blank_e m blank_h n both =
      let own_f : IsOwn (sound (steps_of then_part names)) f = subst (λ (z : Stmt). IsOwn (sound (steps_of z names)) f) same_first (own_marks (sound (steps_of first names)) e f blank_e m) in
      let by_names : IsOwn (sound (steps_of second names)) g = subst (λ (z : Names). IsOwn (sound (steps_of second z)) g) same_names (own_marks (sound (steps_of second here)) h g blank_h n) in
      let own_g : IsOwn (sound (steps_of else_part names)) g = subst (λ (z : Stmt). IsOwn (sound (steps_of z names)) g) same_second by_names in
      let as_else : IsOwn (sound (else_steps (option_map steps_of other) names)) g = subst (λ (z : Option Stmt). IsOwn (sound (else_steps (option_map steps_of z) names)) g) (sym some) own_g in
      stmt_choice x at c then_part other is (choice_marked at names c test (steps_of then_part names) (else_steps (option_map steps_of other) names) a m1 b f g same read own_f as_else both)

  -- a choice without an `else`
  pub choice_one : (x : Stmt) (at : Span) (c test : Expr) (then_part first : Stmt) (other : Option Stmt) (m1 e f g : Marks) → x ≡ s.Conditional at c then_part other → other ≡ None → test ≡ c → first ≡ then_part → Added no_bits (reads_by names (own_faults names test) test) [] false a m1 → AreBlank e → Marked (sound (steps_of first names)) e f → AreBlank g → Chosen f g m1 b → Marked (sound (steps_of x names)) a b
  choice_one x at c test then_part first other m1 e f g is none same same_first read blank_e m blank_g both =
      let own_f : IsOwn (sound (steps_of then_part names)) f = subst (λ (z : Stmt). IsOwn (sound (steps_of z names)) f) same_first (own_marks (sound (steps_of first names)) e f blank_e m) in
      let as_else : IsOwn (sound (else_steps (option_map steps_of other) names)) g = subst (λ (z : Option Stmt). IsOwn (sound (else_steps (option_map steps_of z) names)) g) (sym none) (own_none g blank_g) in
      stmt_choice x at c then_part other is (choice_marked at names c test (steps_of then_part names) (else_steps (option_map steps_of other) names) a m1 b f g same read own_f as_else both)

  -- How a loop starts.

  module _ (at : Span) (start : Assignment) (condition : Expr) (step : Assignment) (body : InNames) (n : Identifier) (by_name : start.left ≡ lv.Name n) where
    looped_is : (d : Option Decl) → d ≡ names n.name → loop_steps at start condition step body names (name_alone (out-LeftSide start.left)) ≡ looped at start condition step body names n d
    looped_is d is = loop_by_name at start condition step body names n by_name ∙ ap (looped at start condition step body names n) (sym is)

    pub start_none : (d : Option Decl) → d ≡ names n.name → d ≡ None → Added no_bits no_bits [] true a b → Marked (sound (loop_steps at start condition step body names (name_alone (out-LeftSide start.left)))) a b
    start_none d is none x = subst (λ (z : Steps). Marked (sound z) a b) (sym (looped_is d is ∙ ap (looped at start condition step body names n) none)) (halts_marked _ a b (refused_halts (Const (ce.Unknown n.span)) [] refl) x)

    pub start_constant : (d : Option Decl) (value : Word) (low : ℕ) (sign : Bool) → d ≡ names n.name → d ≡ Some (Constant value low sign) → Added no_bits no_bits [] true a b → Marked (sound (loop_steps at start condition step body names (name_alone (out-LeftSide start.left)))) a b
    start_constant d value low sign is some x = subst (λ (z : Steps). Marked (sound z) a b) (sym (looped_is d is ∙ ap (looped at start condition step body names n) some)) (halts_marked _ a b (refused_halts (Const (ce.Unknown n.span)) [] refl) x)

    module _ (d : Option Decl) (width low : ℕ) (sign : Bool) (number : ℕ) (declared : d ≡ names n.name) (signal : d ≡ Some (Signal width low sign number)) where
      signal_is : loop_steps at start condition step body names (name_alone (out-LeftSide start.left)) ≡ all_turns (record { place = at; name = n; width = width; is_signed = sign; condition = condition; step = step }) body names (constant_of names width start.value) (flaws_of (constant_faults names width start.value))
      signal_is = looped_is d declared ∙ ap (looped at start condition step body names n) signal

      pub start_fails : (e : ConstError) (x : Expr) → x ≡ start.value → Some e ≡ option_map const_error (least (faults_at names width x)) → Added no_bits no_bits [] true a b → Marked (sound (loop_steps at start condition step body names (name_alone (out-LeftSide start.left)))) a b
      start_fails e x is fails y =
          let loop : Loop = record { place = at; name = n; width = width; is_signed = sign; condition = condition; step = step } in
          let at_start : Some e ≡ option_map const_error (least (faults_at names width start.value)) = subst (λ (z : Expr). Some e ≡ option_map const_error (least (faults_at names width z))) is fails in
          subst (λ (z : Steps). Marked (sound z) a b) (sym signal_is) (halts_marked _ a b (const_halts names width start.value e (λ (o : Option ℕ). all_turns loop body names o (flaws_of (constant_faults names width start.value))) refl at_start) y)

      pub start_goes : (x : Expr) (word : Word) → x ≡ start.value → None ≡ option_map const_error (least (faults_at names width x)) → word.bits ≡ (sense names x).value nothing (assigned (sense names x) width) % 2 ^ width → Marked (sound (turns max_turns (record { place = at; name = n; width = width; is_signed = sign; condition = condition; step = step }) body names word.bits)) a b → Marked (sound (loop_steps at start condition step body names (name_alone (out-LeftSide start.left)))) a b
      start_goes x word is stands bits m =
          let loop : Loop = record { place = at; name = n; width = width; is_signed = sign; condition = condition; step = step } in
          let v : Expr → ℕ = λ y. (sense names y).value nothing (assigned (sense names y) width) in
          let at_start : None ≡ option_map const_error (least (faults_at names width start.value)) = subst (λ (y : Expr). None ≡ option_map const_error (least (faults_at names width y))) is stands in
          let by_bits : word.bits ≡ v start.value % 2 ^ width = bits ∙ ap (λ (y : Expr). v y % 2 ^ width) is in
          subst (λ (z : Steps). Marked (sound z) a b) (sym (signal_is ∙ ap (λ (o : Option ℕ). all_turns loop body names o (flaws_of (constant_faults names width start.value))) (constant_stands names width start.value at_start) ∙ turns_next max_turns loop body names word (v start.value) by_bits)) m

  -- a start that assigns no name
  pub start_no_name : (at : Span) (start : Assignment) (condition : Expr) (step : Assignment) (body : InNames) → name_alone (out-LeftSide start.left) ≡ None → Added no_bits no_bits [] true a b → Marked (sound (loop_steps at start condition step body names (name_alone (out-LeftSide start.left)))) a b
  start_no_name at start condition step body none x = subst (λ (z : Steps). Marked (sound z) a b) (sym (ap (λ (o : Option Identifier). loop_steps at start condition step body names o) none)) (halts_marked _ a b (refused_halts (Const (ce.NotConstant (left_first_token start.left))) [] refl) x)
