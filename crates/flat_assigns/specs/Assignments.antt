-- Continuous assignments (IEEE 1364-2005, 6.1): what they mean, and why they are refused. Each side is read in the names of
-- its own scope, since a connection of an instance has one side in the instance.
use Rattle.std.specs.Prelude.{◌≡◌, Bool, List, [], ◌++◌, Option, Some, None, if◌then◌else◌}
use Rattle.mcy_base.specs.Places.{stands_before}
use Rattle.vlog_syntax.specs.declared.expr.Expr.{Expr}
use Rattle.vlog_syntax.specs.declared.left_side.LeftSide.{LeftSide}
use Rattle.vlog_effects.specs.LeftSides.{parts_of}
use Rattle.vlog_meaning.specs.declared.fault.Fault.{Fault}
use Rattle.vlog_meaning.specs.Answers.{least}
use Rattle.vlog_meaning.specs.Scopes.{Names}
use Rattle.vlog_meaning.specs.Senses.{sense, or_else}
use Rattle.net_builder.specs.Building.{Building}
use Rattle.elab_proc.specs.Refusals.{wrong, divisions}
use Rattle.flat_runs.specs.Meanings.{Meaning, Assign}
use Rattle.flat_assigns.specs.declared.refusal.Refusal.{Refusal}
use Rattle.flat_assigns.specs.declared.refusal.Refusal.TheVariants.{Wrong, TwoWriters}
use Rattle.flat_assigns.specs.Sides.{left_faults, left_places, left_width, slices}
use Rattle.flat_assigns.specs.Values.{right_shape, right_value}
use Rattle.flat_assigns.specs.Writers.{Target, targets, IsFirstWritten}

-- Each place takes its bit of the value, from the lowest on.
abbrev pub assignment : (lefts : Names) → LeftSide → (rights : Names) → Expr → Meaning
assignment lefts left rights right = Assign (left_places lefts left) (right_value rights right (left_width lefts left))

-- What is wrong in the sides, or not supported. A division of constants by 0 is told where nothing else is wrong.
abbrev pub assignment_faults : (lefts : Names) → LeftSide → (rights : Names) → Expr → List Fault
assignment_faults lefts left rights right = or_else (left_faults lefts left ++ wrong rights right) (divisions ((sense rights right).zeros (right_shape rights right (left_width lefts left))))

-- the earlier one of what is wrong and of a second writer
abbrev pub first_of_two : Fault → Target → Refusal
first_of_two f t = if stands_before t.span f.span then TwoWriters t.span t.place.signal else Wrong f

abbrev pub first_refusal : Option Fault → Option Target → Option Refusal
first_refusal None None = None
first_refusal (Some f) None = Some (Wrong f)
first_refusal None (Some t) = Some (TwoWriters t.span t.place.signal)
first_refusal (Some f) (Some t) = Some (first_of_two f t)

-- This is the first refusal of an assignment, or there is none.
abbrev pub IsRefusal : Building → List Bool → (lefts : Names) → LeftSide → (rights : Names) → Expr → Option Refusal → Type 0
IsRefusal b inputs lefts left rights right refusal = (second : Option Target) × IsFirstWritten b inputs [] (targets (slices lefts (parts_of left))) second × (refusal ≡ first_refusal (least (assignment_faults lefts left rights right)) second)
