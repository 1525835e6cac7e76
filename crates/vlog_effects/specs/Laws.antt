-- Laws of statements: the steps of each kind of statement and of a loop's turns, what they do (IEEE 1364-2005, 9.2 to 9.6),
-- and what a process without a latch leaves.
use Rattle.std.specs.Prelude.{◌≡◌, ◌≤◌, ℕ, zero, suc, ◌%◌, ◌^◌, true, false, List, [], ◌∷◌, Option, Some, None, map, if◌then◌else◌}
use Rattle.std.specs.Option.{option_map}
use Rattle.std.specs.Str.{bytes_eq}
use Rattle.mcy_base.specs.declared.span.Span.{Span}
use Rattle.vlog_syntax.specs.declared.identifier.Identifier.{Identifier}
use Rattle.vlog_syntax.specs.declared.expr.Expr.{Expr}
use Rattle.vlog_syntax.specs.declared.left_side.LeftSide.{out-LeftSide}
use Rattle.vlog_syntax.specs.declared.stmt.Assignment.{Assignment}
use Rattle.vlog_syntax.specs.declared.stmt.CaseKind.{CaseKind}
use Rattle.vlog_syntax.specs.declared.stmt.CaseItem.{CaseItem}
use Rattle.vlog_syntax.specs.declared.stmt.Stmt.{Stmt}
use Rattle.vlog_syntax.specs.declared.stmt.Stmt.TheVariants.{SeqBlock, Conditional, Case, For, BlockingAssignment, NonblockingAssignment}
use Rattle.vlog_syntax.specs.declared.stmt.Stmt.TheFolds.{fold-CaseItem}
use Rattle.vlog_meaning.specs.declared.scope.Decl.{Decl}
use Rattle.vlog_meaning.specs.declared.scope.Decl.TheVariants.{Constant}
use Rattle.vlog_meaning.specs.Scopes.{Names}
use Rattle.vlog_meaning.specs.Senses.{IsWhole}
use Rattle.vlog_effects.specs.Expressions.{constant_of}
use Rattle.vlog_effects.specs.Steps.{Steps, Choose, Done, InNames, Item, Loop, in_turn, step_of, item_of, steps_of, else_steps, case_steps, loop_steps, name_alone, followed, turn_names, step_flaws, turns, assigning, arms_of, labelled, default_of, selection_of}
use Rattle.vlog_effects.specs.Effects.{Values, State, holds, assigned, effect, arm_effect, left_by, IsBlocking, HaveWidths}
use Rattle.vlog_effects.specs.Latches.{targets, is_assigned, latch_of}

-- an item of a case
abbrev pub item_steps : CaseItem → Item
item_steps = fold-CaseItem InNames Item step_of item_of

-- a block is its statements in turn
abbrev pub BlocksStep : Type 0
BlocksStep = (at : Span) (label : Option Identifier) (body : List Stmt) (names : Names) → steps_of (SeqBlock at label body) names ≡ in_turn (map steps_of body) names

-- an `if` is a choice
abbrev pub ConditionalsStep : Type 0
ConditionalsStep = (at : Span) (c : Expr) (first : Stmt) (second : Option Stmt) (names : Names) → steps_of (Conditional at c first second) names ≡ Choose at (record { names = names; condition = c }) (steps_of first names) (else_steps (option_map steps_of second) names) Done

-- a case has its arms
abbrev pub CasesStep : Type 0
CasesStep = (at : Span) (kind : CaseKind) (selector : Expr) (items : List CaseItem) (names : Names) → steps_of (Case at kind selector items) names ≡ case_steps kind selector (map item_steps items) names

-- a loop is its turns
abbrev pub LoopsStep : Type 0
LoopsStep = (at : Span) (start : Assignment) (condition : Expr) (step : Assignment) (body : Stmt) (names : Names) → steps_of (For at start condition step body) names ≡ loop_steps at start condition step (steps_of body) names (name_alone (out-LeftSide start.left))

-- where the condition is 0 the loop has ended
abbrev pub TurnsEnd : Type 0
TurnsEnd = (most : ℕ) (loop : Loop) (body : InNames) (names : Names) (v : ℕ) → constant_of (turn_names loop names v) 1 loop.condition ≡ Some zero → turns most loop body names v ≡ Done

-- one turn, and then the ones from the step's value on
abbrev pub TurnsGoOn : Type 0
TurnsGoOn = (most : ℕ) (loop : Loop) (body : InNames) (names : Names) (v n next : ℕ) → constant_of (turn_names loop names v) 1 loop.condition ≡ Some (suc n) → step_flaws loop (turn_names loop names v) (name_alone (out-LeftSide loop.step.left)) ≡ [] → constant_of (turn_names loop names v) loop.width loop.step.value ≡ Some next → turns (suc most) loop body names v ≡ followed (body (turn_names loop names v)) (turns most loop body names next)

-- a constant with the loop's width and sign, and this value in its width
abbrev pub HoldsValue : Loop → ℕ → Option Decl → Type 0
HoldsValue loop v (Some (Constant word low is_signed)) = (word.width ≡ loop.width) × (word.bits ≡ v % 2 ^ loop.width) × (low ≡ 0) × (is_signed ≡ loop.is_signed)
HoldsValue loop v other = ⊥

-- in a turn the loop's variable is a constant
abbrev pub VariableIsConstant : Type 0
VariableIsConstant = (loop : Loop) (names : Names) (v : ℕ) → 1 ≤ loop.width → loop.width ≤ 128 → HoldsValue loop v (turn_names loop names v loop.name.name)

-- and all other names are what they were
abbrev pub OthersStay : Type 0
OthersStay = (loop : Loop) (names : Names) (v : ℕ) (other : List ℕ) → bytes_eq loop.name.name other ≡ false → turn_names loop names v other ≡ names other

-- What statements do.

-- steps that follow others go on from what these have done
abbrev pub EffectsFollow : Type 0
EffectsFollow = (a b : Steps) (s : State) → effect (followed a b) s ≡ effect b (effect a s)

-- a block does what its statements do, one after the other
abbrev pub BlocksRun : Type 0
BlocksRun = (at : Span) (label : Option Identifier) (first : Stmt) (more : List Stmt) (names : Names) (s : State) → effect (steps_of (SeqBlock at label (first ∷ more)) names) s ≡ effect (steps_of (SeqBlock at label more) names) (effect (steps_of first names) s)

-- an `if` does what its first part does where its condition is not 0, and else what its second part does, if it has one
abbrev pub ConditionalsRun : Type 0
ConditionalsRun = (at : Span) (c : Expr) (first : Stmt) (second : Option Stmt) (names : Names) (s : State) → effect (steps_of (Conditional at c first second) names) s ≡ (if holds (record { names = names; condition = c }) s.now then effect (steps_of first names) s else effect (else_steps (option_map steps_of second) names) s)

-- an assignment of each kind
abbrev pub AssignmentsRun : Type 0
AssignmentsRun = (a : Assignment) (names : Names) (s : State) → (effect (steps_of (BlockingAssignment a) names) s ≡ assigned (assigning true a names) s) × (effect (steps_of (NonblockingAssignment a) names) s ≡ assigned (assigning false a names) s)

-- That the last item of a case is the default, where there is none and the labels name each value of the selector, changes
-- nothing: a case does what its items and its own default do.
abbrev pub LastItemServes : Type 0
LastItemServes = (names : Names) (kind : CaseKind) (selector : Expr) (items : List Item) (s : State) → IsWhole names selector → HaveWidths names s.now → effect (case_steps kind selector items names) s ≡ arm_effect (selection_of names kind selector items) (arms_of (selection_of names kind selector items) (labelled items) (default_of items)) s

-- A process changes only signals that it assigns.
abbrev pub ChangesOnlyTargets : Type 0
ChangesOnlyTargets = (steps : Steps) (store : Values) (n : ℕ) → is_assigned (targets steps) n ≡ false → left_by steps store n ≡ store n

-- Where no variable of a combinational process would be a latch, it leaves the same from any values of the variables that
-- it assigns.
abbrev pub LeavesOne : Type 0
LeavesOne = (s : Stmt) (names : Names) (x y : Values) → HaveWidths names x → HaveWidths names y → IsBlocking (steps_of s names) → latch_of (steps_of s names) ≡ None → ((n : ℕ) → is_assigned (targets (steps_of s names)) n ≡ false → x n ≡ y n) → (n : ℕ) → left_by (steps_of s names) x n ≡ left_by (steps_of s names) y n
