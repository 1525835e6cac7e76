-- What is refused in an `initial` (IEEE 1364-2005, 9.9.1). It gives variables their start values: it has constant assignments to whole
-- variables, and blocks of these. Nothing is looked for in a statement of another form.
use Rattle.std.specs.Prelude.{ℕ, List, [], ◌∷◌, map, Option, None, Some, if◌then◌else◌}
use Rattle.std.specs.List.{flat_map}
use Rattle.vlog_syntax.specs.declared.expr.Expr.{Expr}
use Rattle.vlog_syntax.specs.declared.feature.Feature.TheVariants.{Delay, SystemTask, InitialForm}
use Rattle.vlog_syntax.specs.declared.identifier.Identifier.{Identifier}
use Rattle.vlog_syntax.specs.declared.left_side.LeftSide.{out-LeftSide}
use Rattle.vlog_syntax.specs.declared.stmt.Assignment.{Assignment}
use Rattle.vlog_syntax.specs.declared.stmt.Stmt.{Stmt}
use Rattle.vlog_syntax.specs.declared.stmt.Stmt.TheOpen as t
use Rattle.vlog_syntax.specs.declared.stmt.Stmt.TheOpen.{Stmt-F, CaseItem-F}
use Rattle.vlog_syntax.specs.declared.stmt.Stmt.TheFolds.{fold-Stmt}
use Rattle.vlog_syntax.specs.Places.{left_first_token}
use Rattle.vlog_meaning.specs.declared.fault.Cause.TheVariants.{Unknown}
use Rattle.vlog_meaning.specs.declared.scope.Decl.{Decl}
use Rattle.vlog_meaning.specs.declared.scope.Decl.TheVariants.{Signal}
use Rattle.vlog_meaning.specs.Scopes.{Names}
use Rattle.vlog_meaning.specs.Senses.{sense, assigned, constant_faults_at, fault}
use Rattle.vlog_effects.specs.Expressions.{is_constant}
use Rattle.vlog_effects.specs.Steps.{name_alone}
use Rattle.elab_proc.specs.declared.refusal.Refusal.{Refusal}
use Rattle.elab_proc.specs.declared.refusal.Refusal.TheVariants.{Wrong, Unsupported}

-- a value that is assigned to so many bits of a name
abbrev pub value_refusals : Names → Identifier → ℕ → Expr → List Refusal
value_refusals names n width value = if is_constant names value then map Wrong (constant_faults_at (sense names value) (assigned (sense names value) width)) else Unsupported n.span InitialForm ∷ []

-- an assignment to a name that is declared so
abbrev pub start_refusals : Names → Identifier → Expr → Option Decl → List Refusal
start_refusals names n value (Some (Signal width low is_signed number)) = value_refusals names n width value
start_refusals names n value other = Wrong (fault Unknown n.span) ∷ []

-- an assignment to a name, or to another left side
abbrev pub assignment_refusals : Names → Assignment → Option Identifier → List Refusal
assignment_refusals names a (Some n) = start_refusals names n a.value (names n.name)
assignment_refusals names a None = Unsupported (left_first_token a.left) InitialForm ∷ []

-- A statement. Of two features that begin at its first token the delay comes first.
abbrev pub initial_step : Names → Stmt-F (List Refusal) (List Refusal) → List Refusal
initial_step names (t.Null at) = Unsupported at InitialForm ∷ []
initial_step names (t.SeqBlock at name body) = flat_map (λ (found : List Refusal). found) body
initial_step names (t.Conditional at condition then_part else_part) = Unsupported at InitialForm ∷ []
initial_step names (t.Case at kind selector items) = Unsupported at InitialForm ∷ []
initial_step names (t.For at start condition step body) = Unsupported at InitialForm ∷ []
initial_step names (t.While at condition body) = Unsupported at Delay ∷ []
initial_step names (t.Repeat at count body) = Unsupported at Delay ∷ []
initial_step names (t.Forever at body) = Unsupported at Delay ∷ []
initial_step names (t.EventControl at control body) = Unsupported at Delay ∷ []
initial_step names (t.DelayControl at delay body) = Unsupported at Delay ∷ []
initial_step names (t.SystemTaskEnable name arguments) = Unsupported name.span SystemTask ∷ []
initial_step names (t.BlockingAssignment a) = assignment_refusals names a (name_alone (out-LeftSide a.left))
initial_step names (t.NonblockingAssignment a) = Unsupported (left_first_token a.left) InitialForm ∷ []

abbrev pub initial_item : CaseItem-F (List Refusal) (List Refusal) → List Refusal
initial_item i = i.body

-- what is refused in a statement of an `initial`
abbrev pub initial_refusals : Names → Stmt → List Refusal
initial_refusals names = fold-Stmt (List Refusal) (List Refusal) (initial_step names) initial_item
