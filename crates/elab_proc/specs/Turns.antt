-- One turn of a loop, and what comes after it.
use Rattle.std.specs.Prelude.{◌≡◌, ℕ, ◌%◌, ◌^◌, Bool, List, [], ◌∷◌, ◌++◌, map, Option, None, Some}
use Rattle.std.specs.Option.{option_map}
use Rattle.mcy_base.specs.declared.word.Word.{Word}
use Rattle.vlog_syntax.specs.declared.expr.Expr.{Expr}
use Rattle.vlog_syntax.specs.declared.left_side.LeftSide.{out-LeftSide}
use Rattle.vlog_syntax.specs.declared.stmt.Stmt.{Stmt}
use Rattle.vlog_meaning.specs.declared.scope.Decl.{Decl}
use Rattle.vlog_meaning.specs.Scopes.{Names, nothing, with_name}
use Rattle.vlog_meaning.specs.Senses.{sense, assigned}
use Rattle.vlog_effects.specs.Expressions.{constant_of, constant_faults}
use Rattle.vlog_effects.specs.Steps.{Steps, Flaw, Loop, InNames, followed, flaws_of, step_flaws, name_alone, tested, stepped, steps_of, else_steps}
use Rattle.elab_proc.specs.declared.refusal.Refusal.{Refusal}
use Rattle.elab_proc.specs.declared.refusal.Refusal.TheVariants.{Wrong}
use Rattle.elab_proc.specs.declared.turns.Header.{Header}
use Rattle.elab_proc.specs.declared.turns.Turn.{Turn}
use Rattle.elab_proc.specs.declared.turns.Turn.TheVariants as t
use Rattle.elab_proc.specs.Order.{IsFirst}
use Rattle.elab_proc.specs.Refusals.{flaw_refusal, own_faults, step_refusals}

abbrev pub loop_of : Header → Loop
loop_of h = record { place = h.place; name = h.name.now; width = h.width; is_signed = h.is_signed; condition = h.condition.now; step = h.step.now }

-- what comes after the body of a turn that sees these names
abbrev pub next_steps : Loop → Names → (ℕ → Steps) → Steps
next_steps loop here later = stepped (step_flaws loop here (name_alone (out-LeftSide loop.step.left))) (constant_of here loop.width loop.step.value) (flaws_of (constant_faults here loop.width loop.step.value)) later

-- the step's value
abbrev pub next_value : Loop → Names → ℕ
next_value loop here = (sense here loop.step.value).value nothing (assigned (sense here loop.step.value) loop.width)

-- after the body comes the turn with this word
abbrev pub GoesOn : Loop → Names → Word → Type 0
GoesOn loop here word = (word.width ≡ loop.width) × (word.bits ≡ next_value loop here % 2 ^ loop.width) × ((later : ℕ → Steps) → next_steps loop here later ≡ later (next_value loop here))

-- after the body comes this refusal
abbrev pub Stops : Loop → Names → Refusal → Type 0
Stops loop here refusal = (comb : Bool) (written : List Bool) (later : ℕ → Steps) → IsFirst (step_refusals comb written (next_steps loop here later)) (Some refusal)

-- For proofs alone.

-- the refusal of the first flaw
abbrev pub flaw_among : List Flaw → Option Refusal
flaw_among [] = None
flaw_among (x ∷ more) = Some (flaw_refusal x)

-- a turn that sees these names, and what comes after it
abbrev pub turn_steps : Loop → InNames → Names → (ℕ → Steps) → Steps
turn_steps loop body here later = tested (constant_of here 1 loop.condition) (flaws_of (constant_faults here 1 loop.condition)) (followed (body here) (next_steps loop here later))

-- The answer for a turn: it was the last one, or another comes.
abbrev pub IsTurn : Bool → List Bool → Loop → InNames → Names → Turn → Type 0
IsTurn comb written loop body here (t.Ends found) = (later : ℕ → Steps) → IsFirst (step_refusals comb written (turn_steps loop body here later)) found
IsTurn comb written loop body here (t.GoesOn found word) = (word.width ≡ loop.width) × (word.bits ≡ next_value loop here % 2 ^ loop.width) × IsFirst (step_refusals comb written (body here)) found × ((later : ℕ → Steps) → turn_steps loop body here later ≡ followed (body here) (later (next_value loop here)))

-- the same names, but for one
abbrev pub AlikeBut : List ℕ → Names → Names → Type 0
AlikeBut name a b = (decl : Option Decl) → with_name a name decl ≡ with_name b name decl

-- the first of what is refused in a list of two parts, of which the other part is left
pub record Splits (all left : List Refusal) (found : Option Refusal) : Type 0 where
  pub before : List Refusal
  pub is : all ≡ before ++ left
  pub first : IsFirst before found

-- an `if`
abbrev pub conditional_refusals : Bool → List Bool → Expr → Stmt → Option Stmt → Names → List Refusal
conditional_refusals comb written condition first second names = map Wrong (own_faults names condition) ++ (step_refusals comb written (steps_of first names) ++ step_refusals comb written (else_steps (option_map steps_of second) names))
