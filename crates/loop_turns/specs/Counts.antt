-- How many turns the loops of a process take (IEEE 1364-2005, 9.6): each turn of a loop counts, and with it those of the loops in its
-- body. The items of a case count whichever of them is chosen, and both parts of a choice.
use Rattle.std.specs.Prelude.{◌≡◌, ℕ, zero, suc, ◌+◌, ◌<◌, ◌%◌, ◌^◌, List, [], ◌∷◌, Option, None, Some}
use Rattle.mcy_base.specs.declared.span.Span.{Span}
use Rattle.vlog_syntax.specs.declared.expr.Expr.{Expr}
use Rattle.vlog_syntax.specs.declared.identifier.Identifier.{Identifier}
use Rattle.vlog_syntax.specs.declared.item.Process.{Process}
use Rattle.vlog_syntax.specs.declared.left_side.LeftSide.{out-LeftSide}
use Rattle.vlog_syntax.specs.declared.stmt.Assignment.{Assignment}
use Rattle.vlog_syntax.specs.declared.stmt.CaseItem.{CaseItem}
use Rattle.vlog_syntax.specs.declared.stmt.Stmt.{Stmt, out-Stmt}
use Rattle.vlog_syntax.specs.declared.stmt.Stmt.TheOpen as t
use Rattle.vlog_syntax.specs.declared.stmt.Stmt.TheOpen.{Stmt-F, CaseItem-F}
use Rattle.vlog_syntax.specs.declared.stmt.Stmt.TheFolds.{fold-Stmt, fold-CaseItem}
use Rattle.vlog_meaning.specs.declared.scope.Decl.{Decl}
use Rattle.vlog_meaning.specs.declared.scope.Decl.TheVariants.{Signal}
use Rattle.vlog_meaning.specs.Scopes.{Names}
use Rattle.vlog_effects.specs.Expressions.{constant_of}
use Rattle.vlog_effects.specs.Steps.{Flaw, Loop, max_turns, name_alone, step_flaws, turn_names}
use Rattle.process_events.specs.Events.{Sensitivity, Combinational, Clocked, sensitivity}
use Rattle.elab_proc.specs.Turns.{next_value}
use Rattle.loop_turns.specs.declared.walk.Turn.{Turn}
use Rattle.loop_turns.specs.declared.walk.Turn.TheVariants.{Passes, Ends, GoesOn}

-- how many turns statements take in the names that they see
abbrev pub Counted : Type 0
Counted = Names → ℕ

abbrev pub summed : List Counted → Counted
summed [] names = 0
summed (s ∷ more) names = s names + summed more names

-- a turn comes where the condition is a constant and not 0
abbrev pub tested : Option ℕ → ℕ → ℕ
tested None turn = 0
tested (Some zero) turn = 0
tested (Some (suc n)) turn = turn

-- the turns after one, of which there is none where the loop's step is refused
abbrev pub stepped : List Flaw → Option ℕ → (ℕ → ℕ) → ℕ
stepped (x ∷ more) v later = 0
stepped [] None later = 0
stepped [] (Some v) later = later v

abbrev pub next_count : Loop → Names → (ℕ → ℕ) → ℕ
next_count loop here later = stepped (step_flaws loop here (name_alone (out-LeftSide loop.step.left))) (constant_of here loop.width loop.step.value) later

-- a turn that is taken and sees these names, and the turns after it
abbrev pub taken_count : Loop → Counted → Names → (ℕ → ℕ) → ℕ
taken_count loop body here later = 1 + (body here + next_count loop here later)

-- the same, where the condition holds
abbrev pub turn_count : Loop → Counted → Names → (ℕ → ℕ) → ℕ
turn_count loop body here later = tested (constant_of here 1 loop.condition) (taken_count loop body here later)

-- the turns from a value of the variable on, at most so many
unfoldable pub turns : ℕ → Loop → Counted → Names → ℕ → ℕ
turns zero loop body names v = 0
turns (suc most) loop body names v = turn_count loop body (turn_names loop names v) (λ next. turns most loop body names next)

-- the turns from the variable's first value on
abbrev pub all_turns : Loop → Counted → Names → Option ℕ → ℕ
all_turns loop body names None = 0
all_turns loop body names (Some v) = turns max_turns loop body names v

abbrev pub looped : Span → Assignment → Expr → Assignment → Counted → Names → Identifier → Option Decl → ℕ
looped at start condition step body names n (Some (Signal width low is_signed number)) =
    all_turns (record { place = at; name = n; width = width; is_signed = is_signed; condition = condition; step = step }) body names (constant_of names width start.value)
looped at start condition step body names n other = 0

-- a loop with its `for` at this place, whose start assigns a name, or none
abbrev pub loop_turns : Span → Assignment → Expr → Assignment → Counted → Names → Option Identifier → ℕ
loop_turns at start condition step body names None = 0
loop_turns at start condition step body names (Some n) = looped at start condition step body names n (names n.name)

abbrev pub else_turns : Option Counted → Counted
else_turns None names = 0
else_turns (Some s) names = s names

abbrev pub count_step : Stmt-F Counted Counted → Counted
count_step (t.SeqBlock at name body) names = summed body names
count_step (t.Conditional at condition then_part else_part) names = then_part names + else_turns else_part names
count_step (t.Case at kind selector items) names = summed items names
count_step (t.For at start condition step body) names = loop_turns at start condition step body names (name_alone (out-LeftSide start.left))
count_step other names = 0

abbrev pub count_item : CaseItem-F Counted Counted → Counted
count_item i = i.body

-- how many turns the loops of a statement take
abbrev pub turns_of : Stmt → Counted
turns_of = fold-Stmt Counted Counted count_step count_item

-- A process that waits for events does its statement at each of them.

abbrev pub waiting_turns : Names → Stmt-F Stmt CaseItem → ℕ
waiting_turns names (t.EventControl at control body) = turns_of body names
waiting_turns names other = 0

abbrev pub turns_by : Names → Sensitivity → Stmt → ℕ
turns_by names Combinational body = waiting_turns names (out-Stmt body)
turns_by names (Clocked n) body = waiting_turns names (out-Stmt body)
turns_by names other body = 0

-- How many turns the loops of a process take. An `initial` has no loop that is not refused.
abbrev pub process_turns : Names → Process → ℕ
process_turns names p = turns_by names (sensitivity p) p.body

-- what is left of so many turns after others, or that these are more
abbrev pub IsLeft : (count left : ℕ) → Option ℕ → Type 0
IsLeft count left None = left < count
IsLeft count left (Some rest) = rest + count ≡ left

-- For proofs alone.

abbrev pub item_turns : CaseItem → Counted
item_turns = fold-CaseItem Counted Counted count_step count_item

-- the answer for a turn, where so many turns come with those after it
abbrev pub Answers : (count : (ℕ → ℕ) → ℕ) → Loop → Names → (left : ℕ) → Turn → Type 0
Answers count loop here left Passes = (later : ℕ → ℕ) → left < count later
Answers count loop here left (Ends rest) = (later : ℕ → ℕ) → rest + count later ≡ left
Answers count loop here left (GoesOn rest word) = (word.width ≡ loop.width) × (word.bits ≡ next_value loop here % 2 ^ loop.width) × ((later : ℕ → ℕ) → rest + count later ≡ left + later (next_value loop here))

abbrev pub IsTurn : Loop → Counted → Names → (left : ℕ) → Turn → Type 0
IsTurn loop body here left turn = Answers (turn_count loop body here) loop here left turn

abbrev pub IsTaken : Loop → Counted → Names → (left : ℕ) → Turn → Type 0
IsTaken loop body here left turn = Answers (taken_count loop body here) loop here left turn
