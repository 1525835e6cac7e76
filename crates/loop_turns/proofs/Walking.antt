-- The turns of each kind of statement, and of lists of statements one after the other.
use Rattle.loop_turns.proofs.Common.{◌≡◌, zero, suc, ℕ, ◌+◌, ◌<◌, ◌≤◌, ◌%◌, ◌^◌, Bool, List, [], ◌∷◌, map, refl, sym, ap, ◌∙◌, subst, arith, length, get_or, drop, Option, None, Some, option_map, Word}
use Rattle.loop_turns.proofs.Common.{Identifier, LeftSide, out-LeftSide, CaseItem, out-CaseItem, ConstError, Decl, Signal, Constant, least, const_error, Names, nothing, sense, assigned, faults_at}
use Rattle.loop_turns.proofs.Common.{constant_fails, constant_stands, Counted, IsLeft, all_turns, count_item, count_step, else_turns, item_turns, loop_turns, looped, summed, turns, turns_of}
use Rattle.mcy_base.specs.declared.span.Span.{Span}
use Rattle.vlog_syntax.specs.declared.expr.Expr.{Expr}
use Rattle.vlog_syntax.specs.declared.left_side.LeftSide.TheVariants as lv
use Rattle.vlog_syntax.specs.declared.stmt.Argument.{Argument}
use Rattle.vlog_syntax.specs.declared.stmt.Assignment.{Assignment}
use Rattle.vlog_syntax.specs.declared.stmt.CaseKind.{CaseKind}
use Rattle.vlog_syntax.specs.declared.stmt.EventControl.{EventControl}
use Rattle.vlog_syntax.specs.declared.stmt.Stmt.{Stmt, roll-Stmt}
use Rattle.vlog_syntax.specs.declared.stmt.Stmt.TheVariants as s
use Rattle.vlog_syntax.specs.declared.stmt.Stmt.TheOpen as t
use Rattle.vlog_syntax.specs.declared.stmt.Stmt.TheOpen.{Stmt-F}
use Rattle.vlog_syntax.specs.declared.stmt.Stmt.TheFolds.{fold-roll-Stmt, fold_out-CaseItem, map-Stmt}
use Rattle.vlog_effects.specs.Expressions.{constant_of}
use Rattle.vlog_effects.specs.Steps.{Loop, max_turns, name_alone}
use Rattle.vlog_effects.proofs.Folds.{out-name}
use Rattle.loop_turns.proofs.Turning.{turns_by_bits}

-- What is left.

pub left_as : (n m left : ℕ) (o : Option ℕ) → n ≡ m → IsLeft m left o → IsLeft n left o
left_as n m left o is h = subst (λ (k : ℕ). IsLeft k left o) (sym is) h

pub left_none : (n left : ℕ) → n ≡ 0 → IsLeft n left (Some left)
left_none n left is = omega (arith, is)

-- two counts, one after the other
pub left_both : (n m left rest : ℕ) (o : Option ℕ) → IsLeft n left (Some rest) → IsLeft m rest o → IsLeft (n + m) left o
left_both n m left rest None h g = omega (arith, h, g)
left_both n m left rest (Some last) h g = omega (arith, h, g)

-- two statements, the second of which sees the names that the first gives back
pub both_counted : (first second : Stmt) (names here : Names) (left : ℕ) (o : Option ℕ) → here ≡ names → IsLeft (turns_of first names + turns_of second here) left o → IsLeft (turns_of first names + turns_of second names) left o
both_counted first second names here left o same h = subst (λ (n : Names). IsLeft (turns_of first names + turns_of second n) left o) same h

pub first_more : (n m left : ℕ) → IsLeft n left None → IsLeft (n + m) left None
first_more n m left h = omega (arith, h)

-- Lists.

module _ {A : Type 0} (f : A → Counted) (names : Names) where
  drop_one : (xs : List A) (k : ℕ) (x : A) → x ≡ get_or xs k x → k < length xs → drop k xs ≡ x ∷ drop (suc k) xs
  drop_one [] k x at h = absurd (omega arith)
  drop_one (y ∷ ys) zero x at h = ap (λ (z : A). z ∷ ys) (sym at)
  drop_one (y ∷ ys) (suc k) x at h = drop_one ys k x at (omega arith)

  drop_all : (xs : List A) (k : ℕ) → length xs ≤ k → drop k xs ≡ []
  drop_all [] zero h = refl
  drop_all [] (suc k) h = refl
  drop_all (y ∷ ys) zero h = absurd (omega arith)
  drop_all (y ∷ ys) (suc k) h = drop_all ys k (omega arith)

  -- what is left of so many after those before one of them
  abbrev pub LeftBefore : List A → (k left rest : ℕ) → Type 0
  LeftBefore xs k left rest = rest + summed (map f xs) names ≡ left + summed (map f (drop k xs)) names

  pub before_first : (xs : List A) (left : ℕ) → LeftBefore xs zero left left
  before_first [] left = refl
  before_first (y ∷ ys) left = refl

  this_one : (xs : List A) (k : ℕ) (x : A) → x ≡ get_or xs k x → k < length xs → summed (map f (drop k xs)) names ≡ f x names + summed (map f (drop (suc k) xs)) names
  this_one xs k x at h = ap (λ (l : List A). summed (map f l) names) (drop_one xs k x at h)

  pub before_next : (xs : List A) (k : ℕ) (x : A) (n left rest after : ℕ) → x ≡ get_or xs k x → k < length xs → f x names ≡ n → LeftBefore xs k left rest → IsLeft n rest (Some after) → LeftBefore xs (suc k) left after
  before_next xs k x n left rest after at h is before one = let same = this_one xs k x at h in omega (arith, same, is, before, one)

  pub before_passes : (xs : List A) (k : ℕ) (x : A) (n left rest : ℕ) → x ≡ get_or xs k x → k < length xs → f x names ≡ n → LeftBefore xs k left rest → IsLeft n rest None → IsLeft (summed (map f xs) names) left None
  before_passes xs k x n left rest at h is before one = let same = this_one xs k x at h in omega (arith, same, is, before, one)

  pub before_end : (xs : List A) (k left rest : ℕ) → length xs ≤ k → LeftBefore xs k left rest → IsLeft (summed (map f xs) names) left (Some rest)
  before_end xs k left rest h before = let none : summed (map f (drop k xs)) names ≡ 0 = ap (λ (l : List A). summed (map f l) names) (drop_all xs k h) in omega (arith, none, before)

-- the turns of an item are those of its body
pub item_is : (i : CaseItem) (names : Names) → item_turns i names ≡ turns_of (out-CaseItem i).body names
item_is i names = ap (λ (c : Counted). c names) (fold_out-CaseItem Counted Counted count_step count_item i)

-- Each statement by its variant.

module _ (names : Names) (x : Stmt) where
  rolled : (o : Stmt-F Stmt CaseItem) → x ≡ roll-Stmt o → turns_of x names ≡ count_step (map-Stmt Stmt CaseItem Counted Counted turns_of item_turns o) names
  rolled o is = ap (λ (y : Stmt). turns_of y names) is ∙ ap (λ (f : Counted). f names) (fold-roll-Stmt Counted Counted count_step count_item o)

  pub of_block : (at : Span) (label : Option Identifier) (body : List Stmt) → x ≡ s.SeqBlock at label body → turns_of x names ≡ summed (map turns_of body) names
  of_block at label body is = rolled (t.SeqBlock at label body) (is ∙ sym (s.rolls-SeqBlock at label body))

  of_choice : (at : Span) (c : Expr) (first : Stmt) (other : Option Stmt) → x ≡ s.Conditional at c first other → turns_of x names ≡ turns_of first names + else_turns (option_map turns_of other) names
  of_choice at c first other is = rolled (t.Conditional at c first other) (is ∙ sym (s.rolls-Conditional at c first other)) ∙ by_else other where
    by_else : (o : Option Stmt) → count_step (map-Stmt Stmt CaseItem Counted Counted turns_of item_turns (t.Conditional at c first o)) names ≡ turns_of first names + else_turns (option_map turns_of o) names
    by_else None = refl
    by_else (Some s) = refl

  pub of_both : (at : Span) (c : Expr) (first second : Stmt) (other : Option Stmt) → x ≡ s.Conditional at c first other → other ≡ Some second → turns_of x names ≡ turns_of first names + turns_of second names
  of_both at c first second other is some = of_choice at c first other is ∙ ap (λ (o : Option Stmt). turns_of first names + else_turns (option_map turns_of o) names) some

  pub of_one : (at : Span) (c : Expr) (first : Stmt) (other : Option Stmt) → x ≡ s.Conditional at c first other → other ≡ None → turns_of x names ≡ turns_of first names
  of_one at c first other is none = let same = of_choice at c first other is ∙ ap (λ (o : Option Stmt). turns_of first names + else_turns (option_map turns_of o) names) none in omega (arith, same)

  pub of_case : (at : Span) (kind : CaseKind) (selector : Expr) (items : List CaseItem) → x ≡ s.Case at kind selector items → turns_of x names ≡ summed (map item_turns items) names
  of_case at kind selector items is = rolled (t.Case at kind selector items) (is ∙ sym (s.rolls-Case at kind selector items))

  pub of_loop : (at : Span) (start : Assignment) (condition : Expr) (step : Assignment) (body : Stmt) → x ≡ s.For at start condition step body → turns_of x names ≡ loop_turns at start condition step (turns_of body) names (name_alone (out-LeftSide start.left))
  of_loop at start condition step body is = rolled (t.For at start condition step body) (is ∙ sym (s.rolls-For at start condition step body))

  pub of_null : (at : Span) → x ≡ s.Null at → turns_of x names ≡ 0
  of_null at is = rolled (t.Null at) (is ∙ sym (s.rolls-Null at))

  pub of_while : (at : Span) (c : Expr) (body : Stmt) → x ≡ s.While at c body → turns_of x names ≡ 0
  of_while at c body is = rolled (t.While at c body) (is ∙ sym (s.rolls-While at c body))

  pub of_repeat : (at : Span) (c : Expr) (body : Stmt) → x ≡ s.Repeat at c body → turns_of x names ≡ 0
  of_repeat at c body is = rolled (t.Repeat at c body) (is ∙ sym (s.rolls-Repeat at c body))

  pub of_forever : (at : Span) (body : Stmt) → x ≡ s.Forever at body → turns_of x names ≡ 0
  of_forever at body is = rolled (t.Forever at body) (is ∙ sym (s.rolls-Forever at body))

  pub of_event : (at : Span) (c : EventControl) (body : Stmt) → x ≡ s.EventControl at c body → turns_of x names ≡ 0
  of_event at c body is = rolled (t.EventControl at c body) (is ∙ sym (s.rolls-EventControl at c body))

  pub of_delay : (at : Span) (c : Expr) (body : Stmt) → x ≡ s.DelayControl at c body → turns_of x names ≡ 0
  of_delay at c body is = rolled (t.DelayControl at c body) (is ∙ sym (s.rolls-DelayControl at c body))

  pub of_task : (n : Identifier) (arguments : List Argument) → x ≡ s.SystemTaskEnable n arguments → turns_of x names ≡ 0
  of_task n arguments is = rolled (t.SystemTaskEnable n arguments) (is ∙ sym (s.rolls-SystemTaskEnable n arguments))

  pub of_blocking : (a : Assignment) → x ≡ s.BlockingAssignment a → turns_of x names ≡ 0
  of_blocking a is = rolled (t.BlockingAssignment a) (is ∙ sym (s.rolls-BlockingAssignment a))

  pub of_nonblocking : (a : Assignment) → x ≡ s.NonblockingAssignment a → turns_of x names ≡ 0
  of_nonblocking a is = rolled (t.NonblockingAssignment a) (is ∙ sym (s.rolls-NonblockingAssignment a))

-- How a loop starts.

module _ (names : Names) (at : Span) (start : Assignment) (condition : Expr) (step : Assignment) (body : Counted) where
  -- a start that assigns no name
  pub start_no_name : name_alone (out-LeftSide start.left) ≡ None → loop_turns at start condition step body names (name_alone (out-LeftSide start.left)) ≡ 0
  start_no_name none = ap (loop_turns at start condition step body names) none

  module _ (n : Identifier) (by_name : start.left ≡ lv.Name n) (d : Option Decl) (declared : d ≡ names n.name) where
    looped_is : loop_turns at start condition step body names (name_alone (out-LeftSide start.left)) ≡ looped at start condition step body names n d
    looped_is = ap (λ (l : LeftSide). loop_turns at start condition step body names (name_alone (out-LeftSide l))) by_name ∙ ap (loop_turns at start condition step body names) (ap name_alone (out-name n)) ∙ ap (looped at start condition step body names n) (sym declared)

    pub start_none : d ≡ None → loop_turns at start condition step body names (name_alone (out-LeftSide start.left)) ≡ 0
    start_none none = looped_is ∙ ap (looped at start condition step body names n) none

    pub start_constant : (value : Word) (low : ℕ) (sign : Bool) → d ≡ Some (Constant value low sign) → loop_turns at start condition step body names (name_alone (out-LeftSide start.left)) ≡ 0
    start_constant value low sign some = looped_is ∙ ap (looped at start condition step body names n) some

    module _ (width low : ℕ) (sign : Bool) (number : ℕ) (signal : d ≡ Some (Signal width low sign number)) where
      abbrev loop : Loop
      loop = record { place = at; name = n; width = width; is_signed = sign; condition = condition; step = step }

      signal_is : loop_turns at start condition step body names (name_alone (out-LeftSide start.left)) ≡ all_turns (record { place = at; name = n; width = width; is_signed = sign; condition = condition; step = step }) body names (constant_of names width start.value)
      signal_is = looped_is ∙ ap (looped at start condition step body names n) signal

      pub start_fails : (e : ConstError) (x : Expr) → x ≡ start.value → Some e ≡ option_map const_error (least (faults_at names width x)) → loop_turns at start condition step body names (name_alone (out-LeftSide start.left)) ≡ 0
      start_fails e x is fails =
          let at_start : Some e ≡ option_map const_error (least (faults_at names width start.value)) = subst (λ (z : Expr). Some e ≡ option_map const_error (least (faults_at names width z))) is fails in
          signal_is ∙ ap (all_turns loop body names) (constant_fails names width start.value e at_start)

      pub start_goes : (x : Expr) (word : Word) → x ≡ start.value → None ≡ option_map const_error (least (faults_at names width x)) → word.bits ≡ (sense names x).value nothing (assigned (sense names x) width) % 2 ^ width → loop_turns at start condition step body names (name_alone (out-LeftSide start.left)) ≡ turns max_turns (record { place = at; name = n; width = width; is_signed = sign; condition = condition; step = step }) body names word.bits
      start_goes x word is stands bits =
          let v : Expr → ℕ = λ y. (sense names y).value nothing (assigned (sense names y) width) in
          let at_start : None ≡ option_map const_error (least (faults_at names width start.value)) = subst (λ (y : Expr). None ≡ option_map const_error (least (faults_at names width y))) is stands in
          let by_bits : word.bits ≡ v start.value % 2 ^ width = bits ∙ ap (λ (y : Expr). v y % 2 ^ width) is in
          signal_is ∙ ap (all_turns loop body names) (constant_stands names width start.value at_start) ∙ sym (ap (turns max_turns loop body names) by_bits ∙ turns_by_bits loop body max_turns names (v start.value))
