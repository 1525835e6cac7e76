-- Processes in which nothing is wrong pass.
use Rattle.tb_known.proofs.Common.{◌≡◌, ℕ, Bool, true, false, List, [], ◌∷◌, map, refl, sym, ap, ◌∙◌, if◌then◌else◌, Option, None, Some, Assignment, CaseItem, Stmt-F, ind-Stmt, map-Stmt, Fault, Decl}
use Rattle.tb_known.proofs.Common.{Signal, Constant, Names, left_nil, right_nil, constant_of, Part, vector_of, parts_of, parts_step, same_form, BenchFault, Wrong, Tests, all_of, passes_step, passes}
use Rattle.tb_known.proofs.Common.{inside, passes-layer, is_signal, all_signals, can_assign, sides_faults, is_clock, bench_tests, FaultlessPass, WaitsPass}
use Rattle.mcy_base.specs.declared.span.Span.{Span}
use Rattle.vlog_syntax.specs.declared.item.Process.{Process}
use Rattle.vlog_syntax.specs.declared.item.ProcessKind.{ProcessKind}
use Rattle.vlog_syntax.specs.declared.item.ProcessKind.TheVariants as k
use Rattle.vlog_syntax.specs.declared.left_side.LeftSide.{LeftSide, out-LeftSide}
use Rattle.vlog_syntax.specs.declared.left_side.LeftSide.TheOpen as l
use Rattle.vlog_syntax.specs.declared.left_side.LeftSide.TheOpen.{LeftSide-F}
use Rattle.vlog_syntax.specs.declared.left_side.LeftSide.TheFolds.{fold_out-LeftSide, map-LeftSide}
use Rattle.vlog_syntax.specs.declared.stmt.Stmt.{Stmt, roll-Stmt, out-Stmt, out-roll-Stmt, roll-out-Stmt}
use Rattle.vlog_syntax.specs.declared.stmt.Stmt.TheOpen as s
use Rattle.vlog_syntax.specs.Places.{left_first_token}
use Rattle.tb_checks.specs.Processes.{initial_faults, always_faults, rules_of, kind_faults}
use Rattle.tb_checks.specs.Starts.{signal_width, clock_width, unless, start_value, start_faults, first_layer, first_faults, turn_faults, may_behind, block_faults, starting_in, begun, starting}
use Rattle.tb_checks.specs.Statements.{Rules, control_faults, stmt_faults}
use Rattle.tb_checks.proofs.Begun.{begun_in, own, starting_is}
use Rattle.tb_known.proofs.Nothing.{and_true}
use Rattle.tb_known.proofs.Expressions.{sides_pass}
use Rattle.tb_known.proofs.Faultless.{statement_passes}

-- a statement by its layer
layer_passes : (q : Tests) (x : Stmt) (o : Stmt-F Stmt CaseItem) → out-Stmt x ≡ o → passes q x ≡ passes_step q (inside q o)
layer_passes q x o is = passes-layer q x (out-Stmt x) (sym (roll-out-Stmt x)) ∙ ap (λ (z : Stmt-F Stmt CaseItem). passes_step q (inside q z)) is

pub waits : WaitsPass
waits names x at control body is e = sym (layer_passes (bench_tests names) x (s.EventControl at control body) is) ∙ e

none_unless : (fs : List Fault) (those : List BenchFault) → unless fs those ≡ [] → fs ≡ []
none_unless [] those e = refl
none_unless (f ∷ more) those e = absurd cc

module _ (r : Rules) where
  abbrev tests : Tests
  tests = bench_tests r.names

  -- a left side that is the clock is that of a signal
  signal_there : (d : Option Decl) (w : ℕ) → signal_width d ≡ Some w → is_signal (vector_of d) ≡ true
  signal_there (Some (Signal width low is_signed number)) w e = refl
  signal_there (Some (Constant value low is_signed)) w e = absurd cc
  signal_there None w e = absurd cc

  clock_named : (name : List ℕ) (b : Bool) (w : ℕ) → (if b then signal_width (r.names name) else None) ≡ Some w → is_signal (vector_of (r.names name)) ≡ true
  clock_named name true w e = signal_there (r.names name) w e
  clock_named name false w e = absurd cc

  clock_signals : (o : LeftSide-F LeftSide) (w : ℕ) → clock_width r o ≡ Some w → all_signals r.names (parts_step (map-LeftSide LeftSide (List Part) parts_of o)) ≡ true
  clock_signals (l.Name n) w e = and_true (is_signal (vector_of (r.names n.name))) true (clock_named n.name (is_clock r.clock n.name) w e) refl
  clock_signals (l.BitSelect n at i) w e = absurd cc
  clock_signals (l.PartSelect n at i j) w e = absurd cc
  clock_signals (l.IndexedPartSelect n at i j) w e = absurd cc
  clock_signals (l.Concatenation at parts) w e = absurd cc

  start_passes : (x : Stmt) (y : Assignment) (width : Option ℕ) → passes tests x ≡ can_assign r.names y → clock_width r (out-LeftSide y.left) ≡ width → start_faults r y width (stmt_faults r x) ≡ [] → passes tests x ≡ true
  start_passes x y None is w e = statement_passes r x e
  start_passes x y (Some width) is w e =
      let sides : sides_faults r.names (same_form y.left) y.value ≡ [] = none_unless (sides_faults r.names (same_form y.left) y.value) (start_value (left_first_token y.left) width (constant_of r.names width y.value)) e in
      let signals : all_signals r.names (parts_of y.left) ≡ true = ap (all_signals r.names) (fold_out-LeftSide (List Part) parts_step y.left) ∙ clock_signals (out-LeftSide y.left) width w in
      is ∙ sides_pass r.names y (ap (map Wrong) sides) signals

  first_by : (x : Stmt) (o : Stmt-F Stmt CaseItem) → out-Stmt x ≡ o → first_layer r o (stmt_faults r x) ≡ [] → passes tests x ≡ true
  first_by x (s.BlockingAssignment y) is e = start_passes x y (clock_width r (out-LeftSide y.left)) (layer_passes tests x (s.BlockingAssignment y) is) refl e
  first_by x (s.NonblockingAssignment y) is e = start_passes x y (clock_width r (out-LeftSide y.left)) (layer_passes tests x (s.NonblockingAssignment y) is) refl e
  first_by x (s.Null at) is e = statement_passes r x e
  first_by x (s.SeqBlock at label body) is e = statement_passes r x e
  first_by x (s.Conditional at c a b) is e = statement_passes r x e
  first_by x (s.Case at kind c items) is e = statement_passes r x e
  first_by x (s.For at start c step body) is e = statement_passes r x e
  first_by x (s.While at c body) is e = statement_passes r x e
  first_by x (s.Repeat at c body) is e = statement_passes r x e
  first_by x (s.Forever at body) is e = statement_passes r x e
  first_by x (s.EventControl at control body) is e = statement_passes r x e
  first_by x (s.DelayControl at c body) is e = statement_passes r x e
  first_by x (s.SystemTaskEnable n arguments) is e = statement_passes r x e

  first_passes : (x : Stmt) → first_faults r x ≡ [] → passes tests x ≡ true
  first_passes x e = first_by x (out-Stmt x) refl e

  -- statements that may set the clock, by induction on them

  abbrev Starts : Stmt → Type 0
  Starts x = starting r x ≡ [] → passes tests x ≡ true

  abbrev AnyItem : CaseItem → Type 0
  AnyItem i = Unit {0}

  abbrev Started : Type 0
  Started = (x : Stmt) × Starts x

  abbrev StartedItem : Type 0
  StartedItem = (i : CaseItem) × AnyItem i

  abbrev plain : Stmt-F Started StartedItem → Stmt-F Stmt CaseItem
  plain y = map-Stmt Started StartedItem Stmt CaseItem (λ (w : Started). w.0) (λ (w : StartedItem). w.0) y

  turn_passes : (may_start : Bool) (x : Stmt) → Starts x → turn_faults r may_start (begun r x) ≡ [] → passes tests x ≡ true
  turn_passes true x h e = h e
  turn_passes false x h e = statement_passes r x (sym (ap (stmt_faults r) (own r x)) ∙ e)

  block_passes : (may_start : Bool) (ws : List Started) → block_faults r may_start (map (begun r) (map (λ (w : Started). w.0) ws)) ≡ [] → all_of (map (passes tests) (map (λ (w : Started). w.0) ws)) ≡ true
  block_passes may_start [] e = refl
  block_passes may_start (w ∷ more) e =
      let here : List BenchFault = turn_faults r may_start (begun r w.0) in
      let behind : Bool = may_behind may_start (begun r w.0) in
      let rest : List BenchFault = block_faults r behind (map (begun r) (map (λ (v : Started). v.0) more)) in
      and_true (passes tests w.0) (all_of (map (passes tests) (map (λ (v : Started). v.0) more))) (turn_passes may_start w.0 w.1 (left_nil here rest e)) (block_passes behind more (right_nil here rest e))

  by_layer : (x : Stmt) (o : Stmt-F Stmt CaseItem) → out-Stmt x ≡ o → starting r x ≡ [] → starting_in r x (begun_in r o) ≡ []
  by_layer x o is e = sym (starting_is r x ∙ ap (λ (z : Stmt-F Stmt CaseItem). starting_in r x (begun_in r z)) is) ∙ e

  layer_starts : (x : Stmt) (y : Stmt-F Started StartedItem) → out-Stmt x ≡ plain y → Starts x
  layer_starts x (s.SeqBlock at label body) is e = layer_passes tests x (plain (s.SeqBlock at label body)) is ∙ block_passes true body (by_layer x (plain (s.SeqBlock at label body)) is e)
  layer_starts x (s.Null at) is e = first_passes x (by_layer x (s.Null at) is e)
  layer_starts x (s.Conditional at c a b) is e = first_passes x (by_layer x (plain (s.Conditional at c a b)) is e)
  layer_starts x (s.Case at kind c items) is e = first_passes x (by_layer x (plain (s.Case at kind c items)) is e)
  layer_starts x (s.For at start c step body) is e = first_passes x (by_layer x (plain (s.For at start c step body)) is e)
  layer_starts x (s.While at c body) is e = first_passes x (by_layer x (plain (s.While at c body)) is e)
  layer_starts x (s.Repeat at c body) is e = first_passes x (by_layer x (plain (s.Repeat at c body)) is e)
  layer_starts x (s.Forever at body) is e = first_passes x (by_layer x (plain (s.Forever at body)) is e)
  layer_starts x (s.EventControl at control body) is e = first_passes x (by_layer x (plain (s.EventControl at control body)) is e)
  layer_starts x (s.DelayControl at c body) is e = first_passes x (by_layer x (plain (s.DelayControl at c body)) is e)
  layer_starts x (s.SystemTaskEnable n arguments) is e = first_passes x (by_layer x (s.SystemTaskEnable n arguments) is e)
  layer_starts x (s.BlockingAssignment z) is e = first_passes x (by_layer x (s.BlockingAssignment z) is e)
  layer_starts x (s.NonblockingAssignment z) is e = first_passes x (by_layer x (s.NonblockingAssignment z) is e)

  starts : (x : Stmt) → Starts x
  starts = ind-Stmt Starts AnyItem (λ x y is. layer_starts (roll-Stmt x) y (out-roll-Stmt x ∙ sym is)) (λ x y is. tt)

  initial_passes : (may_start : Bool) (body : Stmt) → initial_faults r may_start body ≡ [] → passes tests body ≡ true
  initial_passes true body e = starts body e
  initial_passes false body e = statement_passes r body e

  always_passes : (at : Span) (body : Stmt) (o : Stmt-F Stmt CaseItem) → out-Stmt body ≡ o → always_faults r at body o ≡ [] → passes tests body ≡ true
  always_passes always body (s.EventControl at control inner) is e = layer_passes tests body (s.EventControl at control inner) is ∙ statement_passes r inner (right_nil (control_faults r.names r.clock true at control) (stmt_faults r inner) e)
  always_passes always body (s.Null at) is e = absurd cc
  always_passes always body (s.SeqBlock at label inner) is e = absurd cc
  always_passes always body (s.Conditional at c a b) is e = absurd cc
  always_passes always body (s.Case at kind c items) is e = absurd cc
  always_passes always body (s.For at start c step inner) is e = absurd cc
  always_passes always body (s.While at c inner) is e = absurd cc
  always_passes always body (s.Repeat at c inner) is e = absurd cc
  always_passes always body (s.Forever at inner) is e = absurd cc
  always_passes always body (s.DelayControl at c inner) is e = absurd cc
  always_passes always body (s.SystemTaskEnable n arguments) is e = absurd cc
  always_passes always body (s.BlockingAssignment y) is e = absurd cc
  always_passes always body (s.NonblockingAssignment y) is e = absurd cc

by_kind : (names : Names) (clock : Option (List ℕ)) (may_start : Bool) (p : Process) (kind : ProcessKind) → kind_faults names clock may_start p kind ≡ [] → passes (bench_tests names) p.body ≡ true
by_kind names clock may_start p k.Initial e = initial_passes (rules_of names clock true) may_start p.body e
by_kind names clock may_start p k.Always e = always_passes (rules_of names clock false) p.span p.body (out-Stmt p.body) refl e

pub faultless : FaultlessPass
faultless names clock may_start p e = by_kind names clock may_start p p.kind e
