-- The first fault of a statement of each kind, from those of its parts.
use Rattle.tb_checks.proofs.Common.{◌≡◌, List, [], ◌∷◌, ◌++◌, map, refl, sym, ap, ◌∙◌, subst, append_assoc, Option, None, Some, flat_map, append-nil, Span, Delay, Identifier, Expr, Argument}
use Rattle.tb_checks.proofs.Common.{Assignment, CaseItem, EventControl, Stmt, labels_in, BenchFault, Wrong, Unsupported, IsFirst, case_faults, Rules, all_labels, test_faults, assignment_faults}
use Rattle.tb_checks.proofs.Common.{control_faults, task_faults, stmt_faults, item_faults}
use Rattle.vlog_syntax.specs.declared.stmt.CaseKind.{CaseKind}
use Rattle.vlog_syntax.specs.declared.stmt.Stmt.TheOpen as s
use Rattle.vlog_syntax.specs.declared.stmt.Stmt.TheVariants as v
use Rattle.tb_checks.proofs.Firsts.{same, moved}
use Rattle.tb_checks.proofs.Layers.{layer_is, statements_are, bodies_are, labels_are}

module _ (r : Rules) (x : Stmt) (o : Option BenchFault) where
  pub null_first : (at : Span) → x ≡ v.Null at → o ≡ None → IsFirst (stmt_faults r x) o
  null_first at e none = same (stmt_faults r x) [] o (layer_is r x (s.Null at) (e ∙ sym (v.rolls-Null at))) (subst (λ (z : Option BenchFault). IsFirst [] z) (sym none) refl)

  pub block_first : (at : Span) (label : Option Identifier) (body ys : List Stmt) → x ≡ v.SeqBlock at label body → ys ≡ body → IsFirst (flat_map (stmt_faults r) ys) o → IsFirst (stmt_faults r x) o
  block_first at label body ys e f h = same (stmt_faults r x) (flat_map (stmt_faults r) body) o (layer_is r x (s.SeqBlock at label body) (e ∙ sym (v.rolls-SeqBlock at label body)) ∙ statements_are r body) (moved (flat_map (stmt_faults r)) ys body o f h)

  pub choice_first : (at : Span) (k m : Expr) (a b y z : Stmt) (second : Option Stmt) → x ≡ v.Conditional at k a second → second ≡ Some y → m ≡ k → b ≡ a → z ≡ y → IsFirst ((test_faults r.names m ++ stmt_faults r b) ++ stmt_faults r z) o → IsFirst (stmt_faults r x) o
  choice_first at k m a b y z second e some f g i h = same (stmt_faults r x) ((test_faults r.names k ++ stmt_faults r a) ++ stmt_faults r y) o (layer_is r x (s.Conditional at k a (Some y)) (e ∙ ap (v.Conditional at k a) some ∙ sym (v.rolls-Conditional at k a (Some y))) ∙ sym (append_assoc (test_faults r.names k) (stmt_faults r a) (stmt_faults r y))) (moved (λ (w : Expr). (test_faults r.names w ++ stmt_faults r a) ++ stmt_faults r y) m k o f (moved (λ (w : Stmt). (test_faults r.names m ++ stmt_faults r w) ++ stmt_faults r y) b a o g (moved (λ (w : Stmt). (test_faults r.names m ++ stmt_faults r b) ++ stmt_faults r w) z y o i h)))

  pub only_first : (at : Span) (k m : Expr) (a b : Stmt) (second : Option Stmt) → x ≡ v.Conditional at k a second → second ≡ None → m ≡ k → b ≡ a → IsFirst (test_faults r.names m ++ stmt_faults r b) o → IsFirst (stmt_faults r x) o
  only_first at k m a b second e none f g h = same (stmt_faults r x) (test_faults r.names k ++ stmt_faults r a) o (layer_is r x (s.Conditional at k a None) (e ∙ ap (v.Conditional at k a) none ∙ sym (v.rolls-Conditional at k a None)) ∙ ap (λ (l : List BenchFault). test_faults r.names k ++ l) (append-nil (stmt_faults r a))) (moved (λ (w : Expr). test_faults r.names w ++ stmt_faults r a) m k o f (moved (λ (w : Stmt). test_faults r.names m ++ stmt_faults r w) b a o g h))

  pub case_first : (at : Span) (kind : CaseKind) (k m : Expr) (items ys : List CaseItem) → x ≡ v.Case at kind k items → m ≡ k → ys ≡ items → IsFirst (map Wrong (case_faults r.names (m ∷ flat_map labels_in ys)) ++ flat_map (λ (i : CaseItem). (item_faults r i).body) ys) o → IsFirst (stmt_faults r x) o
  case_first at kind k m items ys e f g h =
      let whole : List Expr → List BenchFault = λ labels. map Wrong (case_faults r.names (k ∷ labels)) ++ flat_map (λ (i : CaseItem). (item_faults r i).body) items in
      same (stmt_faults r x) (whole (flat_map labels_in items)) o (layer_is r x (s.Case at kind k items) (e ∙ sym (v.rolls-Case at kind k items)) ∙ ap (λ (l : List BenchFault). map Wrong (case_faults r.names (k ∷ all_labels (map (item_faults r) items))) ++ l) (bodies_are r items) ∙ ap whole (labels_are r items)) (moved (λ (z : Expr). map Wrong (case_faults r.names (z ∷ flat_map labels_in items)) ++ flat_map (λ (i : CaseItem). (item_faults r i).body) items) m k o f (moved (λ (z : List CaseItem). map Wrong (case_faults r.names (m ∷ flat_map labels_in z)) ++ flat_map (λ (i : CaseItem). (item_faults r i).body) z) ys items o g h))

  pub loop_first : (at : Span) (start : Assignment) (k m : Expr) (step : Assignment) (body b : Stmt) → x ≡ v.For at start k step body → m ≡ k → b ≡ body → IsFirst (assignment_faults r start ++ (test_faults r.names m ++ (assignment_faults r step ++ stmt_faults r b))) o → IsFirst (stmt_faults r x) o
  loop_first at start k m step body b e f g h = same (stmt_faults r x) (assignment_faults r start ++ (test_faults r.names k ++ (assignment_faults r step ++ stmt_faults r body))) o (layer_is r x (s.For at start k step body) (e ∙ sym (v.rolls-For at start k step body))) (moved (λ (z : Expr). assignment_faults r start ++ (test_faults r.names z ++ (assignment_faults r step ++ stmt_faults r body))) m k o f (moved (λ (z : Stmt). assignment_faults r start ++ (test_faults r.names m ++ (assignment_faults r step ++ stmt_faults r z))) b body o g h))

  pub while_first : (at : Span) (k m : Expr) (body b : Stmt) → x ≡ v.While at k body → m ≡ k → b ≡ body → IsFirst (test_faults r.names m ++ stmt_faults r b) o → IsFirst (stmt_faults r x) o
  while_first at k m body b e f g h = same (stmt_faults r x) (test_faults r.names k ++ stmt_faults r body) o (layer_is r x (s.While at k body) (e ∙ sym (v.rolls-While at k body))) (moved (λ (z : Expr). test_faults r.names z ++ stmt_faults r body) m k o f (moved (λ (z : Stmt). test_faults r.names m ++ stmt_faults r z) b body o g h))

  pub repeat_first : (at : Span) (k m : Expr) (body b : Stmt) → x ≡ v.Repeat at k body → m ≡ k → b ≡ body → IsFirst (test_faults r.names m ++ stmt_faults r b) o → IsFirst (stmt_faults r x) o
  repeat_first at k m body b e f g h = same (stmt_faults r x) (test_faults r.names k ++ stmt_faults r body) o (layer_is r x (s.Repeat at k body) (e ∙ sym (v.rolls-Repeat at k body))) (moved (λ (z : Expr). test_faults r.names z ++ stmt_faults r body) m k o f (moved (λ (z : Stmt). test_faults r.names m ++ stmt_faults r z) b body o g h))

  pub forever_first : (at : Span) (body b : Stmt) → x ≡ v.Forever at body → b ≡ body → IsFirst (stmt_faults r b) o → IsFirst (stmt_faults r x) o
  forever_first at body b e g h = same (stmt_faults r x) (stmt_faults r body) o (layer_is r x (s.Forever at body) (e ∙ sym (v.rolls-Forever at body))) (moved (stmt_faults r) b body o g h)

  pub waiting_first : (at : Span) (control : EventControl) (body b : Stmt) → x ≡ v.EventControl at control body → b ≡ body → IsFirst (control_faults r.names r.clock r.may_wait at control ++ stmt_faults r b) o → IsFirst (stmt_faults r x) o
  waiting_first at control body b e g h = same (stmt_faults r x) (control_faults r.names r.clock r.may_wait at control ++ stmt_faults r body) o (layer_is r x (s.EventControl at control body) (e ∙ sym (v.rolls-EventControl at control body))) (moved (λ (z : Stmt). control_faults r.names r.clock r.may_wait at control ++ stmt_faults r z) b body o g h)

  pub delayed_first : (at : Span) (k : Expr) (body b : Stmt) → x ≡ v.DelayControl at k body → b ≡ body → IsFirst (Unsupported at Delay ∷ stmt_faults r b) o → IsFirst (stmt_faults r x) o
  delayed_first at k body b e g h = same (stmt_faults r x) (Unsupported at Delay ∷ stmt_faults r body) o (layer_is r x (s.DelayControl at k body) (e ∙ sym (v.rolls-DelayControl at k body))) (moved (λ (z : Stmt). Unsupported at Delay ∷ stmt_faults r z) b body o g h)

  pub task_first : (n : Identifier) (arguments ys : List Argument) → x ≡ v.SystemTaskEnable n arguments → ys ≡ arguments → IsFirst (task_faults r.names n ys) o → IsFirst (stmt_faults r x) o
  task_first n arguments ys e f h = same (stmt_faults r x) (task_faults r.names n arguments) o (layer_is r x (s.SystemTaskEnable n arguments) (e ∙ sym (v.rolls-SystemTaskEnable n arguments))) (moved (task_faults r.names n) ys arguments o f h)

  pub blocking_first : (a : Assignment) → x ≡ v.BlockingAssignment a → IsFirst (assignment_faults r a) o → IsFirst (stmt_faults r x) o
  blocking_first a e h = same (stmt_faults r x) (assignment_faults r a) o (layer_is r x (s.BlockingAssignment a) (e ∙ sym (v.rolls-BlockingAssignment a))) h

  pub nonblocking_first : (a : Assignment) → x ≡ v.NonblockingAssignment a → IsFirst (assignment_faults r a) o → IsFirst (stmt_faults r x) o
  nonblocking_first a e h = same (stmt_faults r x) (assignment_faults r a) o (layer_is r x (s.NonblockingAssignment a) (e ∙ sym (v.rolls-NonblockingAssignment a))) h
