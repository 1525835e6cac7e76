-- The first read in a statement of each kind, from those in its parts.
use Rattle.flat_clocks.proofs.Common.{◌≡◌, List, [], ◌++◌, refl, sym, ap, ◌∙◌, subst, append_assoc, Option, None, Some, flat_map, Span, Identifier, Expr, out-LeftSide, Argument, Assignment, CaseKind}
use Rattle.flat_clocks.proofs.Common.{CaseItem, EventControl, Stmt, name_alone, Refusal, IsFirst, ClockNames, expr_reads, assignment_reads, argument_reads, turn_reads, inside, stmt_reads, item_reads}
use Rattle.std.proofs.lemmas.List.{append-nil}
use Rattle.vlog_syntax.specs.declared.stmt.Stmt.TheVariants as v
use Rattle.flat_clocks.proofs.Firsts.{same, moved}
use Rattle.flat_clocks.proofs.StatementReadings as r

module _ (is : ClockNames) (x : Stmt) (o : Option Refusal) where
  abbrev pub reads : Stmt → List Refusal
  reads y = stmt_reads y is

  reads_as : (y : Stmt) (l : List Refusal) → x ≡ y → reads y ≡ l → IsFirst l o → IsFirst (reads x) o
  reads_as y l e f h = same (reads x) l o (ap reads e ∙ f) h

  pub null_first : (at : Span) → x ≡ v.Null at → o ≡ None → IsFirst (reads x) o
  null_first at e none = reads_as (v.Null at) [] e (r.reads_null is at) (subst (λ (z : Option Refusal). IsFirst [] z) (sym none) refl)

  pub block_first : (at : Span) (label : Option Identifier) (body ys : List Stmt) → x ≡ v.SeqBlock at label body → ys ≡ body → IsFirst (flat_map (λ (y : Stmt). stmt_reads y is) ys) o → IsFirst (reads x) o
  block_first at label body ys e f h = reads_as (v.SeqBlock at label body) _ e (r.reads_block is at label body ∙ r.statements_are is body) (moved (flat_map (λ (y : Stmt). stmt_reads y is)) ys body o f h)

  pub choice_first : (at : Span) (k m : Expr) (a b y z : Stmt) (second : Option Stmt) → x ≡ v.Conditional at k a second → second ≡ Some y → m ≡ k → b ≡ a → z ≡ y → IsFirst ((expr_reads is m ++ stmt_reads b is) ++ stmt_reads z is) o → IsFirst (reads x) o
  choice_first at k m a b y z second e some f g i h = reads_as (v.Conditional at k a (Some y)) _ (e ∙ ap (v.Conditional at k a) some) (r.reads_choice is at k a (Some y) ∙ sym (append_assoc (expr_reads is k) (stmt_reads a is) (stmt_reads y is))) (moved (λ (w : Expr). (expr_reads is w ++ stmt_reads a is) ++ stmt_reads y is) m k o f (moved (λ (w : Stmt). (expr_reads is m ++ stmt_reads w is) ++ stmt_reads y is) b a o g (moved (λ (w : Stmt). (expr_reads is m ++ stmt_reads b is) ++ stmt_reads w is) z y o i h)))

  pub only_first : (at : Span) (k m : Expr) (a b : Stmt) (second : Option Stmt) → x ≡ v.Conditional at k a second → second ≡ None → m ≡ k → b ≡ a → IsFirst (expr_reads is m ++ stmt_reads b is) o → IsFirst (reads x) o
  only_first at k m a b second e none f g h = reads_as (v.Conditional at k a None) _ (e ∙ ap (v.Conditional at k a) none) (r.reads_choice is at k a None ∙ ap (λ (l : List Refusal). expr_reads is k ++ l) (append-nil (stmt_reads a is))) (moved (λ (w : Expr). expr_reads is w ++ stmt_reads a is) m k o f (moved (λ (w : Stmt). expr_reads is m ++ stmt_reads w is) b a o g h))

  pub case_first : (at : Span) (kind : CaseKind) (k m : Expr) (items ys : List CaseItem) → x ≡ v.Case at kind k items → m ≡ k → ys ≡ items → IsFirst (expr_reads is m ++ flat_map (λ (i : CaseItem). item_reads i is) ys) o → IsFirst (reads x) o
  case_first at kind k m items ys e f g h = reads_as (v.Case at kind k items) _ e (r.reads_case is at kind k items ∙ ap (λ (l : List Refusal). expr_reads is k ++ l) (r.items_are is items)) (moved (λ (z : Expr). expr_reads is z ++ flat_map (λ (i : CaseItem). item_reads i is) items) m k o f (moved (λ (z : List CaseItem). expr_reads is m ++ flat_map (λ (i : CaseItem). item_reads i is) z) ys items o g h))

  pub loop_first : (at : Span) (start : Assignment) (k m : Expr) (step : Assignment) (body b : Stmt) → x ≡ v.For at start k step body → m ≡ k → b ≡ body → IsFirst (assignment_reads is start ++ turn_reads m step (stmt_reads b) (inside (name_alone (out-LeftSide start.left)) is)) o → IsFirst (reads x) o
  loop_first at start k m step body b e f g h = reads_as (v.For at start k step body) _ e (r.reads_loop is at start k step body) (moved (λ (z : Expr). assignment_reads is start ++ turn_reads z step (stmt_reads body) (inside (name_alone (out-LeftSide start.left)) is)) m k o f (moved (λ (z : Stmt). assignment_reads is start ++ turn_reads m step (stmt_reads z) (inside (name_alone (out-LeftSide start.left)) is)) b body o g h))

  pub while_first : (at : Span) (k m : Expr) (body b : Stmt) → x ≡ v.While at k body → m ≡ k → b ≡ body → IsFirst (expr_reads is m ++ stmt_reads b is) o → IsFirst (reads x) o
  while_first at k m body b e f g h = reads_as (v.While at k body) _ e (r.reads_while is at k body) (moved (λ (z : Expr). expr_reads is z ++ stmt_reads body is) m k o f (moved (λ (z : Stmt). expr_reads is m ++ stmt_reads z is) b body o g h))

  pub repeat_first : (at : Span) (k m : Expr) (body b : Stmt) → x ≡ v.Repeat at k body → m ≡ k → b ≡ body → IsFirst (expr_reads is m ++ stmt_reads b is) o → IsFirst (reads x) o
  repeat_first at k m body b e f g h = reads_as (v.Repeat at k body) _ e (r.reads_repeat is at k body) (moved (λ (z : Expr). expr_reads is z ++ stmt_reads body is) m k o f (moved (λ (z : Stmt). expr_reads is m ++ stmt_reads z is) b body o g h))

  pub delayed_first : (at : Span) (k m : Expr) (body b : Stmt) → x ≡ v.DelayControl at k body → m ≡ k → b ≡ body → IsFirst (expr_reads is m ++ stmt_reads b is) o → IsFirst (reads x) o
  delayed_first at k m body b e f g h = reads_as (v.DelayControl at k body) _ e (r.reads_delayed is at k body) (moved (λ (z : Expr). expr_reads is z ++ stmt_reads body is) m k o f (moved (λ (z : Stmt). expr_reads is m ++ stmt_reads z is) b body o g h))

  pub forever_first : (at : Span) (body b : Stmt) → x ≡ v.Forever at body → b ≡ body → IsFirst (stmt_reads b is) o → IsFirst (reads x) o
  forever_first at body b e g h = reads_as (v.Forever at body) _ e (r.reads_forever is at body) (moved reads b body o g h)

  pub waiting_first : (at : Span) (control : EventControl) (body b : Stmt) → x ≡ v.EventControl at control body → b ≡ body → IsFirst (stmt_reads b is) o → IsFirst (reads x) o
  waiting_first at control body b e g h = reads_as (v.EventControl at control body) _ e (r.reads_waiting is at control body) (moved reads b body o g h)

  pub task_first : (n : Identifier) (arguments ys : List Argument) → x ≡ v.SystemTaskEnable n arguments → ys ≡ arguments → IsFirst (flat_map (argument_reads is) ys) o → IsFirst (reads x) o
  task_first n arguments ys e f h = reads_as (v.SystemTaskEnable n arguments) _ e (r.reads_task is n arguments) (moved (flat_map (argument_reads is)) ys arguments o f h)

  pub blocking_first : (a : Assignment) → x ≡ v.BlockingAssignment a → IsFirst (assignment_reads is a) o → IsFirst (reads x) o
  blocking_first a e h = reads_as (v.BlockingAssignment a) _ e (r.reads_blocking is a) h

  pub nonblocking_first : (a : Assignment) → x ≡ v.NonblockingAssignment a → IsFirst (assignment_reads is a) o → IsFirst (reads x) o
  nonblocking_first a e h = reads_as (v.NonblockingAssignment a) _ e (r.reads_nonblocking is a) h
