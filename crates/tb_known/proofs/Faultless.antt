-- Statements in which nothing is wrong pass, by induction on statements.
use Rattle.tb_known.proofs.Common.{◌≡◌, Bool, true, ◌&&◌, List, [], ◌∷◌, ◌++◌, map, refl, sym, ap, ◌∙◌, subst, None, Some, flat_map, Expr, CaseItem, roll-CaseItem, Stmt-F, CaseItem-F, fold-roll-Stmt}
use Rattle.tb_known.proofs.Common.{fold-roll-CaseItem, ind-Stmt, map-Stmt, left_nil, right_nil, divisions, common_size, zeros_at, BenchFault, Wrong, Unsupported, Tests, all_of, labels_pass}
use Rattle.tb_known.proofs.Common.{passes_step, item_tests, passes, item_passes, has_shape, can_assign, wrong, case_faults, bench_tests}
use Rattle.std.proofs.lemmas.Grind.{flat_map-append}
use Rattle.vlog_syntax.specs.declared.feature.Feature.TheVariants.{Delay}
use Rattle.vlog_syntax.specs.declared.stmt.Stmt.{Stmt, roll-Stmt}
use Rattle.vlog_syntax.specs.declared.stmt.Stmt.TheOpen as s
use Rattle.tb_checks.specs.Statements.{Rules, ItemFaults, test_faults, assignment_faults, control_faults, all_faults, all_labels, all_bodies, stmt_step, item_step, stmt_faults, item_faults}
use Rattle.tb_known.proofs.Nothing.{none_before, and_true}
use Rattle.tb_known.proofs.Expressions.{wrong_passes, test_passes, assignment_passes, task_is_known}

module _ (r : Rules) where
  abbrev tests : Tests
  tests = bench_tests r.names

  -- what is shown of a statement
  abbrev pub IsKept : Stmt → Type 0
  IsKept x = stmt_faults r x ≡ [] → passes tests x ≡ true

  -- and of an item: its labels are looked at with those of its case
  abbrev pub IsKeptItem : CaseItem → Type 0
  IsKeptItem i = flat_map (wrong r.names) (item_faults r i).labels ≡ [] → (item_faults r i).body ≡ [] → item_passes tests i ≡ true

  abbrev Kept : Type 0
  Kept = (x : Stmt) × IsKept x

  abbrev KeptItem : Type 0
  KeptItem = (i : CaseItem) × IsKeptItem i

  abbrev plain : Stmt-F Kept KeptItem → Stmt-F Stmt CaseItem
  plain y = map-Stmt Kept KeptItem Stmt CaseItem (λ (w : Kept). w.0) (λ (w : KeptItem). w.0) y

  abbrev faults_in : Stmt-F Stmt CaseItem → List BenchFault
  faults_in o = stmt_step r (map-Stmt Stmt CaseItem (List BenchFault) ItemFaults (stmt_faults r) (item_faults r) o)

  abbrev passes_in : Stmt-F Stmt CaseItem → Bool
  passes_in o = passes_step tests (map-Stmt Stmt CaseItem Bool Bool (passes tests) (item_passes tests) o)

  block_kept : (body : List Kept) → all_faults (map (stmt_faults r) (map (λ (w : Kept). w.0) body)) ≡ [] → all_of (map (passes tests) (map (λ (w : Kept). w.0) body)) ≡ true
  block_kept [] e = refl
  block_kept (w ∷ more) e =
      let rest : List BenchFault = all_faults (map (stmt_faults r) (map (λ (v : Kept). v.0) more)) in
      and_true (passes tests w.0) (all_of (map (passes tests) (map (λ (v : Kept). v.0) more))) (w.1 (left_nil (stmt_faults r w.0) rest e)) (block_kept more (right_nil (stmt_faults r w.0) rest e))

  items_kept : (items : List KeptItem) → flat_map (wrong r.names) (all_labels (map (item_faults r) (map (λ (w : KeptItem). w.0) items))) ≡ [] → all_bodies (map (item_faults r) (map (λ (w : KeptItem). w.0) items)) ≡ [] → all_of (map (item_passes tests) (map (λ (w : KeptItem). w.0) items)) ≡ true
  items_kept [] e f = refl
  items_kept (w ∷ more) e f =
      let here : ItemFaults = item_faults r w.0 in
      let rest : List ItemFaults = map (item_faults r) (map (λ (v : KeptItem). v.0) more) in
      let parts : flat_map (wrong r.names) here.labels ++ flat_map (wrong r.names) (all_labels rest) ≡ [] = sym (flat_map-append (wrong r.names) here.labels (all_labels rest)) ∙ e in
      and_true (item_passes tests w.0) (all_of (map (item_passes tests) (map (λ (v : KeptItem). v.0) more)))
      (w.1 (left_nil (flat_map (wrong r.names) here.labels) (flat_map (wrong r.names) (all_labels rest)) parts) (left_nil here.body (all_bodies rest) f))
      (items_kept more (right_nil (flat_map (wrong r.names) here.labels) (flat_map (wrong r.names) (all_labels rest)) parts) (right_nil here.body (all_bodies rest) f))

  layer_kept : (y : Stmt-F Kept KeptItem) → faults_in (plain y) ≡ [] → passes_in (plain y) ≡ true
  layer_kept (s.Null at) e = refl
  layer_kept (s.SeqBlock at label body) e = block_kept body e
  layer_kept (s.Conditional at x first None) e =
      let test : List BenchFault = test_faults r.names x in
      let rest : List BenchFault = stmt_faults r first.0 ++ [] in
      and_true (has_shape r.names x) (passes tests first.0 && true) (test_passes r.names x (left_nil test rest e)) (and_true (passes tests first.0) true (first.1 (left_nil (stmt_faults r first.0) [] (right_nil test rest e))) refl)
  layer_kept (s.Conditional at x first (Some second)) e =
      let test : List BenchFault = test_faults r.names x in
      let rest : List BenchFault = stmt_faults r first.0 ++ stmt_faults r second.0 in
      and_true (has_shape r.names x) (passes tests first.0 && passes tests second.0) (test_passes r.names x (left_nil test rest e)) (and_true (passes tests first.0) (passes tests second.0) (first.1 (left_nil (stmt_faults r first.0) (stmt_faults r second.0) (right_nil test rest e))) (second.1 (right_nil (stmt_faults r first.0) (stmt_faults r second.0) (right_nil test rest e))))
  layer_kept (s.Case at kind selector items) e =
      let is : List CaseItem = map (λ (w : KeptItem). w.0) items in
      let xs : List Expr = selector ∷ all_labels (map (item_faults r) is) in
      let bodies : List BenchFault = all_bodies (map (item_faults r) is) in
      let none : flat_map (wrong r.names) xs ≡ [] = none_before (flat_map (wrong r.names) xs) (divisions (flat_map (zeros_at r.names (common_size r.names xs)) xs)) (left_nil (map Wrong (case_faults r.names xs)) bodies e) in
      and_true (has_shape r.names selector) (all_of (map (item_passes tests) is)) (wrong_passes r.names selector (left_nil (wrong r.names selector) (flat_map (wrong r.names) (all_labels (map (item_faults r) is))) none)) (items_kept items (right_nil (wrong r.names selector) (flat_map (wrong r.names) (all_labels (map (item_faults r) is))) none) (right_nil (map Wrong (case_faults r.names xs)) bodies e))
  layer_kept (s.For at start x step body) e =
      let behind : List BenchFault = assignment_faults r step ++ stmt_faults r body.0 in
      let rest : List BenchFault = test_faults r.names x ++ behind in
      let e1 : rest ≡ [] = right_nil (assignment_faults r start) rest e in
      let e2 : behind ≡ [] = right_nil (test_faults r.names x) behind e1 in
      and_true (can_assign r.names start) (has_shape r.names x && (can_assign r.names step && passes tests body.0)) (assignment_passes r start (left_nil (assignment_faults r start) rest e))
      (and_true (has_shape r.names x) (can_assign r.names step && passes tests body.0) (test_passes r.names x (left_nil (test_faults r.names x) behind e1))
      (and_true (can_assign r.names step) (passes tests body.0) (assignment_passes r step (left_nil (assignment_faults r step) (stmt_faults r body.0) e2)) (body.1 (right_nil (assignment_faults r step) (stmt_faults r body.0) e2))))
  layer_kept (s.While at x body) e = and_true (has_shape r.names x) (passes tests body.0) (test_passes r.names x (left_nil (test_faults r.names x) (stmt_faults r body.0) e)) (body.1 (right_nil (test_faults r.names x) (stmt_faults r body.0) e))
  layer_kept (s.Repeat at x body) e = and_true (has_shape r.names x) (passes tests body.0) (test_passes r.names x (left_nil (test_faults r.names x) (stmt_faults r body.0) e)) (body.1 (right_nil (test_faults r.names x) (stmt_faults r body.0) e))
  layer_kept (s.Forever at body) e = body.1 e
  layer_kept (s.EventControl at control body) e = body.1 (right_nil (control_faults r.names r.clock r.may_wait at control) (stmt_faults r body.0) e)
  layer_kept (s.DelayControl at x body) e = body.1 (right_nil (Unsupported at Delay ∷ []) (stmt_faults r body.0) e)
  layer_kept (s.SystemTaskEnable n arguments) e = task_is_known r.names n arguments e
  layer_kept (s.BlockingAssignment x) e = assignment_passes r x e
  layer_kept (s.NonblockingAssignment x) e = assignment_passes r x e

  labels_kept : (labels : List Expr) → flat_map (wrong r.names) labels ≡ [] → labels_pass tests labels ≡ true
  labels_kept [] e = refl
  labels_kept (x ∷ more) e = and_true (has_shape r.names x) (labels_pass tests more) (wrong_passes r.names x (left_nil (wrong r.names x) (flat_map (wrong r.names) more) e)) (labels_kept more (right_nil (wrong r.names x) (flat_map (wrong r.names) more) e))

  item_kept : (x : CaseItem-F Stmt CaseItem) → IsKept x.body → IsKeptItem (roll-CaseItem x)
  item_kept x h e f =
      let is : item_faults r (roll-CaseItem x) ≡ record { labels = x.labels; body = stmt_faults r x.body } = fold-roll-CaseItem (List BenchFault) ItemFaults (stmt_step r) item_step x in
      fold-roll-CaseItem Bool Bool (passes_step tests) (item_tests tests) x ∙
      and_true (labels_pass tests x.labels) (passes tests x.body) (labels_kept x.labels (sym (ap (λ (i : ItemFaults). flat_map (wrong r.names) i.labels) is) ∙ e)) (h (sym (ap (λ (i : ItemFaults). i.body) is) ∙ f))

  stmt_kept : (x : Stmt-F Stmt CaseItem) → (faults_in x ≡ [] → passes_in x ≡ true) → IsKept (roll-Stmt x)
  stmt_kept x h e = fold-roll-Stmt Bool Bool (passes_step tests) (item_tests tests) x ∙ h (sym (fold-roll-Stmt (List BenchFault) ItemFaults (stmt_step r) item_step x) ∙ e)

  pub statement_passes : (x : Stmt) → IsKept x
  statement_passes =
      ind-Stmt IsKept IsKeptItem
      (λ x y is. stmt_kept x (subst (λ (z : Stmt-F Stmt CaseItem). faults_in z ≡ [] → passes_in z ≡ true) is (layer_kept y)))
      (λ x y is. item_kept x (subst (λ (z : CaseItem-F Stmt CaseItem). IsKept z.body) is y.body.1))
