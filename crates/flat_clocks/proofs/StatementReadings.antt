-- What a statement reads, by its variant.
use Rattle.flat_clocks.proofs.Common.{◌≡◌, List, [], ◌∷◌, ◌++◌, map, refl, sym, ap, ◌∙◌, Option, Some, None, flat_map, option_map, Span, Identifier, Expr, out-LeftSide, Argument, Assignment, CaseKind}
use Rattle.flat_clocks.proofs.Common.{CaseItem, out-CaseItem, EventControl, Stmt, name_alone, Refusal, ClockNames, Reading, expr_reads, assignment_reads, argument_reads, in_turn, else_reads}
use Rattle.flat_clocks.proofs.Common.{turn_reads, inside, stmt_step, item_step, stmt_reads, item_reads}
use Rattle.vlog_syntax.specs.declared.stmt.Stmt.TheVariants as v
use Rattle.vlog_syntax.specs.declared.stmt.Stmt.TheOpen as s
use Rattle.vlog_syntax.specs.declared.stmt.Stmt.TheFolds.{fold-roll-Stmt, fold_out-CaseItem, map-Stmt}

-- several statements, and several items of a case

pub statements_are : (is : ClockNames) (xs : List Stmt) → in_turn (map stmt_reads xs) is ≡ flat_map (λ (x : Stmt). stmt_reads x is) xs
statements_are is [] = refl
statements_are is (x ∷ xs) = ap (λ (l : List Refusal). stmt_reads x is ++ l) (statements_are is xs)

pub items_are : (is : ClockNames) (xs : List CaseItem) → in_turn (map item_reads xs) is ≡ flat_map (λ (x : CaseItem). item_reads x is) xs
items_are is [] = refl
items_are is (x ∷ xs) = ap (λ (l : List Refusal). item_reads x is ++ l) (items_are is xs)

pub item_is : (x : CaseItem) (is : ClockNames) → item_reads x is ≡ flat_map (expr_reads is) (out-CaseItem x).labels ++ stmt_reads (out-CaseItem x).body is
item_is x is = ap (λ (r : Reading). r is) (fold_out-CaseItem Reading Reading stmt_step item_step x)

module _ (is : ClockNames) where
  pub reads_null : (at : Span) → stmt_reads (v.Null at) is ≡ []
  reads_null at = ap (λ (x : Stmt). stmt_reads x is) (sym (v.rolls-Null at)) ∙ ap (λ (r : Reading). r is) (fold-roll-Stmt Reading Reading stmt_step item_step (s.Null at))

  pub reads_block : (at : Span) (label : Option Identifier) (body : List Stmt) → stmt_reads (v.SeqBlock at label body) is ≡ in_turn (map stmt_reads body) is
  reads_block at label body = ap (λ (x : Stmt). stmt_reads x is) (sym (v.rolls-SeqBlock at label body)) ∙ ap (λ (r : Reading). r is) (fold-roll-Stmt Reading Reading stmt_step item_step (s.SeqBlock at label body))

  pub reads_case : (at : Span) (kind : CaseKind) (selector : Expr) (items : List CaseItem) → stmt_reads (v.Case at kind selector items) is ≡ expr_reads is selector ++ in_turn (map item_reads items) is
  reads_case at kind selector items = ap (λ (x : Stmt). stmt_reads x is) (sym (v.rolls-Case at kind selector items)) ∙ ap (λ (r : Reading). r is) (fold-roll-Stmt Reading Reading stmt_step item_step (s.Case at kind selector items))

  pub reads_loop : (at : Span) (start : Assignment) (condition : Expr) (step : Assignment) (body : Stmt) → stmt_reads (v.For at start condition step body) is ≡ assignment_reads is start ++ turn_reads condition step (stmt_reads body) (inside (name_alone (out-LeftSide start.left)) is)
  reads_loop at start condition step body = ap (λ (x : Stmt). stmt_reads x is) (sym (v.rolls-For at start condition step body)) ∙ ap (λ (r : Reading). r is) (fold-roll-Stmt Reading Reading stmt_step item_step (s.For at start condition step body))

  pub reads_while : (at : Span) (condition : Expr) (body : Stmt) → stmt_reads (v.While at condition body) is ≡ expr_reads is condition ++ stmt_reads body is
  reads_while at condition body = ap (λ (x : Stmt). stmt_reads x is) (sym (v.rolls-While at condition body)) ∙ ap (λ (r : Reading). r is) (fold-roll-Stmt Reading Reading stmt_step item_step (s.While at condition body))

  pub reads_repeat : (at : Span) (count : Expr) (body : Stmt) → stmt_reads (v.Repeat at count body) is ≡ expr_reads is count ++ stmt_reads body is
  reads_repeat at count body = ap (λ (x : Stmt). stmt_reads x is) (sym (v.rolls-Repeat at count body)) ∙ ap (λ (r : Reading). r is) (fold-roll-Stmt Reading Reading stmt_step item_step (s.Repeat at count body))

  pub reads_forever : (at : Span) (body : Stmt) → stmt_reads (v.Forever at body) is ≡ stmt_reads body is
  reads_forever at body = ap (λ (x : Stmt). stmt_reads x is) (sym (v.rolls-Forever at body)) ∙ ap (λ (r : Reading). r is) (fold-roll-Stmt Reading Reading stmt_step item_step (s.Forever at body))

  pub reads_waiting : (at : Span) (control : EventControl) (body : Stmt) → stmt_reads (v.EventControl at control body) is ≡ stmt_reads body is
  reads_waiting at control body = ap (λ (x : Stmt). stmt_reads x is) (sym (v.rolls-EventControl at control body)) ∙ ap (λ (r : Reading). r is) (fold-roll-Stmt Reading Reading stmt_step item_step (s.EventControl at control body))

  pub reads_delayed : (at : Span) (delay : Expr) (body : Stmt) → stmt_reads (v.DelayControl at delay body) is ≡ expr_reads is delay ++ stmt_reads body is
  reads_delayed at delay body = ap (λ (x : Stmt). stmt_reads x is) (sym (v.rolls-DelayControl at delay body)) ∙ ap (λ (r : Reading). r is) (fold-roll-Stmt Reading Reading stmt_step item_step (s.DelayControl at delay body))

  pub reads_task : (n : Identifier) (arguments : List Argument) → stmt_reads (v.SystemTaskEnable n arguments) is ≡ flat_map (argument_reads is) arguments
  reads_task n arguments = ap (λ (x : Stmt). stmt_reads x is) (sym (v.rolls-SystemTaskEnable n arguments)) ∙ ap (λ (r : Reading). r is) (fold-roll-Stmt Reading Reading stmt_step item_step (s.SystemTaskEnable n arguments))

  pub reads_blocking : (x : Assignment) → stmt_reads (v.BlockingAssignment x) is ≡ assignment_reads is x
  reads_blocking x = ap (λ (x : Stmt). stmt_reads x is) (sym (v.rolls-BlockingAssignment x)) ∙ ap (λ (r : Reading). r is) (fold-roll-Stmt Reading Reading stmt_step item_step (s.BlockingAssignment x))

  pub reads_nonblocking : (x : Assignment) → stmt_reads (v.NonblockingAssignment x) is ≡ assignment_reads is x
  reads_nonblocking x = ap (λ (x : Stmt). stmt_reads x is) (sym (v.rolls-NonblockingAssignment x)) ∙ ap (λ (r : Reading). r is) (fold-roll-Stmt Reading Reading stmt_step item_step (s.NonblockingAssignment x))

  pub reads_choice : (at : Span) (condition : Expr) (first : Stmt) (second : Option Stmt) → stmt_reads (v.Conditional at condition first second) is ≡ expr_reads is condition ++ (stmt_reads first is ++ else_reads (option_map stmt_reads second) is)
  reads_choice at condition first second = ap (λ (x : Stmt). stmt_reads x is) (sym (v.rolls-Conditional at condition first second)) ∙ ap (λ (r : Reading). r is) (fold-roll-Stmt Reading Reading stmt_step item_step (s.Conditional at condition first second)) ∙ by_else second
    where
      by_else : (o : Option Stmt) → stmt_step (map-Stmt Stmt CaseItem Reading Reading stmt_reads item_reads (s.Conditional at condition first o)) is ≡ expr_reads is condition ++ (stmt_reads first is ++ else_reads (option_map stmt_reads o) is)
      by_else None = refl
      by_else (Some x) = refl
