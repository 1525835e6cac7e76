-- The start of the clock, `C = 0` or `C <= 0`, in a statement of an `initial` before its first wait, in blocks or not. Another constant is
-- refused there as ClockStart, and what is no constant as an assignment to the clock.
use Rattle.std.specs.Prelude.{ℕ, ◌%◌, ◌^◌, ◌==◌, Bool, true, false, not, ◌&&◌, ◌||◌, List, [], ◌∷◌, ◌++◌, map, Option, None, Some, is_some, if◌then◌else◌}
use Rattle.mcy_base.specs.declared.span.Span.{Span}
use Rattle.vlog_syntax.specs.declared.feature.Feature.TheVariants as f
use Rattle.vlog_syntax.specs.declared.left_side.LeftSide.{LeftSide, out-LeftSide}
use Rattle.vlog_syntax.specs.declared.left_side.LeftSide.TheOpen as l
use Rattle.vlog_syntax.specs.declared.left_side.LeftSide.TheOpen.{LeftSide-F}
use Rattle.vlog_syntax.specs.declared.stmt.Assignment.{Assignment}
use Rattle.vlog_syntax.specs.declared.stmt.CaseItem.{CaseItem, roll-CaseItem}
use Rattle.vlog_syntax.specs.declared.stmt.Stmt.{Stmt, out-Stmt, roll-Stmt}
use Rattle.vlog_syntax.specs.declared.stmt.Stmt.TheOpen as s
use Rattle.vlog_syntax.specs.declared.stmt.Stmt.TheOpen.{Stmt-F, CaseItem-F}
use Rattle.vlog_syntax.specs.declared.stmt.Stmt.TheFolds.{fold-Stmt, fold-CaseItem, map-Stmt, map-CaseItem}
use Rattle.vlog_syntax.specs.Places.{left_first_token}
use Rattle.vlog_meaning.specs.declared.fault.Fault.{Fault}
use Rattle.vlog_meaning.specs.declared.scope.Decl.{Decl}
use Rattle.vlog_meaning.specs.declared.scope.Decl.TheVariants.{Signal}
use Rattle.vlog_effects.specs.Expressions.{constant_of}
use Rattle.elab_proc.specs.Refusals.{same_form}
use Rattle.tb_faults.specs.declared.fault.BenchFault.{BenchFault}
use Rattle.tb_faults.specs.declared.fault.BenchFault.TheVariants.{Wrong, Unsupported}
use Rattle.tb_checks.specs.Expressions.{sides_faults}
use Rattle.tb_checks.specs.Lefts.{is_clock}
use Rattle.tb_checks.specs.Statements.{Rules, stmt_faults}

-- Whether a wait stands in a statement.

abbrev pub any_of : List Bool → Bool
any_of [] = false
any_of (b ∷ more) = b || any_of more

abbrev pub else_waits : Option Bool → Bool
else_waits None = false
else_waits (Some b) = b

abbrev pub waits_step : Stmt-F Bool Bool → Bool
waits_step (s.Null at) = false
waits_step (s.SeqBlock at label body) = any_of body
waits_step (s.Conditional at condition first second) = first || else_waits second
waits_step (s.Case at kind selector items) = any_of items
waits_step (s.For at start condition step body) = body
waits_step (s.While at condition body) = body
waits_step (s.Repeat at count body) = body
waits_step (s.Forever at body) = body
waits_step (s.EventControl at control body) = true
waits_step (s.DelayControl at delay body) = true
waits_step (s.SystemTaskEnable n arguments) = false
waits_step (s.BlockingAssignment x) = false
waits_step (s.NonblockingAssignment x) = false

abbrev pub item_step : CaseItem-F Bool Bool → Bool
item_step i = i.body

abbrev pub waits : Stmt → Bool
waits = fold-Stmt Bool Bool waits_step item_step

-- An assignment to the clock.

abbrev pub start_value : Span → ℕ → Option ℕ → List BenchFault
start_value span width None = Unsupported span f.Helper ∷ []
start_value span width (Some v) = if v % 2 ^ width == 0 then [] else Unsupported span f.ClockStart ∷ []

-- the width of a signal
abbrev pub signal_width : Option Decl → Option ℕ
signal_width (Some (Signal width low is_signed number)) = Some width
signal_width other = None

-- the width of the clock, where the left side is the clock
abbrev pub clock_width : Rules → LeftSide-F LeftSide → Option ℕ
clock_width r (l.Name n) = if is_clock r.clock n.name then signal_width (r.names n.name) else None
clock_width r other = None

-- these, or where there are none those
abbrev pub unless : List Fault → List BenchFault → List BenchFault
unless [] those = those
unless (x ∷ more) those = map Wrong (x ∷ more)

-- what is wrong in an assignment to the clock, where it may be set; any other is as it is elsewhere
abbrev pub start_faults : Rules → Assignment → (width : Option ℕ) → (elsewhere : List BenchFault) → List BenchFault
start_faults r x None elsewhere = elsewhere
start_faults r x (Some width) elsewhere = unless (sides_faults r.names (same_form x.left) x.value) (start_value (left_first_token x.left) width (constant_of r.names width x.value))

abbrev pub first_layer : Rules → Stmt-F Stmt CaseItem → (elsewhere : List BenchFault) → List BenchFault
first_layer r (s.BlockingAssignment x) elsewhere = start_faults r x (clock_width r (out-LeftSide x.left)) elsewhere
first_layer r (s.NonblockingAssignment x) elsewhere = start_faults r x (clock_width r (out-LeftSide x.left)) elsewhere
first_layer r layer elsewhere = elsewhere

-- what is wrong in a statement that is no block, where it may set the clock
abbrev pub first_faults : Rules → Stmt → List BenchFault
first_faults r x = first_layer r (out-Stmt x) (stmt_faults r x)

-- whether a statement is an assignment to the clock
abbrev pub is_start : Rules → Stmt-F Stmt CaseItem → Bool
is_start r (s.BlockingAssignment x) = is_some (clock_width r (out-LeftSide x.left))
is_start r (s.NonblockingAssignment x) = is_some (clock_width r (out-LeftSide x.left))
is_start r layer = false

-- Blocks. A statement, whether it sets the clock before its first wait, and what is wrong in it where it may set the clock.
pub record Begun : Type 0 where
  pub whole : Stmt
  pub sets : Bool
  pub starting : List BenchFault

-- one of statements sets the clock, and nothing before it waits
abbrev pub some_sets : List Begun → Bool
some_sets [] = false
some_sets (x ∷ more) = x.sets || (not (waits x.whole) && some_sets more)

-- what is wrong in a statement, where it may set the clock or not
abbrev pub turn_faults : Rules → (may_start : Bool) → Begun → List BenchFault
turn_faults r true x = x.starting
turn_faults r false x = stmt_faults r x.whole

-- whether statements behind one may set the clock: it is set once, before the first wait
abbrev pub may_behind : (may_start : Bool) → Begun → Bool
may_behind may_start x = may_start && not (x.sets || waits x.whole)

abbrev pub block_faults : Rules → (may_start : Bool) → List Begun → List BenchFault
block_faults r may_start [] = []
block_faults r may_start (x ∷ more) = turn_faults r may_start x ++ block_faults r (may_behind may_start x) more

abbrev pub sets_in : Rules → Stmt → Stmt-F Begun CaseItem → Bool
sets_in r x (s.SeqBlock at label body) = some_sets body
sets_in r x layer = is_start r (out-Stmt x)

abbrev pub starting_in : Rules → Stmt → Stmt-F Begun CaseItem → List BenchFault
starting_in r x (s.SeqBlock at label body) = block_faults r true body
starting_in r x layer = first_faults r x

abbrev pub whole_in : Stmt-F Begun CaseItem → Stmt
whole_in y = roll-Stmt (map-Stmt Begun CaseItem Stmt CaseItem (λ b. b.whole) (λ i. i) y)

abbrev pub begun_step : Rules → Stmt-F Begun CaseItem → Begun
begun_step r y = record { whole = whole_in y; sets = sets_in r (whole_in y) y; starting = starting_in r (whole_in y) y }

abbrev pub item_again : CaseItem-F Begun CaseItem → CaseItem
item_again i = roll-CaseItem (map-CaseItem Begun CaseItem Stmt CaseItem (λ b. b.whole) (λ i. i) i)

abbrev pub begun : Rules → Stmt → Begun
begun r = fold-Stmt Begun CaseItem (begun_step r) item_again

-- whether the body of an `initial` sets the clock
abbrev pub sets : Rules → Stmt → Bool
sets r x = (begun r x).sets

-- what is wrong in it
abbrev pub starting : Rules → Stmt → List BenchFault
starting r x = (begun r x).starting

-- For proofs alone.

abbrev pub item_waits : CaseItem → Bool
item_waits = fold-CaseItem Bool Bool waits_step item_step
