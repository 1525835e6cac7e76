-- The steps of a process without what is refused in their expressions and left sides: it is answered where it stands, and makes
-- no latch. An expression that is refused reads nothing, and a select that is refused assigns all of its name.
use Rattle.std.specs.Prelude.{Bool, true, false, ◌||◌, List, [], ◌∷◌, map, if◌then◌else◌}
use Rattle.vlog_syntax.specs.declared.identifier.Identifier.{Identifier}
use Rattle.vlog_syntax.specs.declared.expr.Expr.{Expr}
use Rattle.vlog_syntax.specs.declared.expr.Expr.TheVariants as v
use Rattle.vlog_syntax.specs.declared.left_side.LeftSide.{LeftSide}
use Rattle.vlog_syntax.specs.declared.left_side.LeftSide.TheVariants as l
use Rattle.vlog_syntax.specs.Places.{first_token, left_first_token}
use Rattle.vlog_meaning.specs.declared.fault.Fault.{Fault}
use Rattle.vlog_meaning.specs.Scopes.{Names}
use Rattle.vlog_meaning.specs.Senses.{sense, assigned, is_empty, or_else}
use Rattle.vlog_effects.specs.Expressions.{width_of}
use Rattle.vlog_effects.specs.LeftSides.{Select, Whole, Bit, Range, Indexed, Part, parts_of}
use Rattle.vlog_effects.specs.Steps.{Steps, Done, Assign, Choose, Case, Refuse, Arms, Otherwise, Arm, Flaw, Const, Lacks, Turns, followed}
use Rattle.elab_proc.specs.Refusals.{wrong, divisions, own_faults, case_faults, same_form}

-- an expression in which this is wrong
abbrev pub sound_by : List Fault → Expr → Expr
sound_by faults x = if is_empty faults then x else v.Concatenation (first_token x) []

-- a selector or a label of a case, whose divisions by 0 refuse the whole case
abbrev pub sound_expr : Names → Expr → Expr
sound_expr names x = sound_by (wrong names x) x

-- a condition
abbrev pub sound_test : Names → Expr → Expr
sound_test names x = sound_by (own_faults names x) x

-- What is wrong in the right side of an assignment, of which the left one is given as the expression of its form: a division by 0 is looked
-- for where nothing is wrong in the left one, since the width is known there.
abbrev pub right_faults : Names → Expr → Expr → List Fault
right_faults names left right = if is_empty (wrong names left) then or_else (wrong names right) (divisions ((sense names right).zeros (assigned (sense names right) (width_of names left)))) else wrong names right

-- the right side of an assignment
abbrev pub sound_right : Names → LeftSide → Expr → Expr
sound_right names left right = sound_by (right_faults names (same_form left) right) right

-- a select of a name, as an expression and as a left side
abbrev pub part_form : Identifier → Select → Expr
part_form n Whole = v.Name n
part_form n (Bit at i) = v.BitSelect n at i
part_form n (Range at msb lsb) = v.PartSelect n at msb lsb
part_form n (Indexed at base count) = v.IndexedPartSelect n at base count

abbrev pub part_left : Identifier → Select → LeftSide
part_left n Whole = l.Name n
part_left n (Bit at i) = l.BitSelect n at i
part_left n (Range at msb lsb) = l.PartSelect n at msb lsb
part_left n (Indexed at base count) = l.IndexedPartSelect n at base count

abbrev pub sound_part : Names → Part → Part
sound_part names p = if is_empty (own_faults names (part_form p.name p.select)) then p else record { name = p.name; select = Whole }

abbrev pub left_of : Part → LeftSide
left_of p = part_left p.name p.select

abbrev pub sound_left : Names → LeftSide → LeftSide
sound_left names left = l.Concatenation (left_first_token left) (map (λ p. left_of (sound_part names p)) (parts_of left))

-- A case whose selector or label is refused has no arms, since which of them are dropped rests on its size: its items are done one after
-- the other, behind what stops the search for latches.
abbrev mutual
  pub sound : Steps → Steps
  sound Done = Done
  sound (Assign a more) = Assign (record a { left = sound_left a.names a.left; right = sound_right a.names a.left a.right }) (sound more)
  sound (Choose at c then_part else_part more) = Choose at (record c { condition = sound_test c.names c.condition }) (sound then_part) (sound else_part) (sound more)
  sound (Case c arms bodies more) = if is_empty (case_faults c.names (c.selector ∷ c.labels)) then Case (record c { selector = sound_expr c.names c.selector }) (sound_arms c.names arms) (sound bodies) (sound more) else Refuse (Turns (first_token c.selector)) (followed (sound bodies) (sound more))
  sound (Refuse x more) = Refuse x (sound more)

  pub sound_arms : Names → Arms → Arms
  sound_arms names (Otherwise body) = Otherwise (sound body)
  sound_arms names (Arm at labels body others) = Arm at (map (sound_expr names) labels) (sound body) (sound_arms names others)

-- a loop that is refused; waits and system tasks are none
abbrev pub is_stop : Flaw → Bool
is_stop (Const error) = true
is_stop (Lacks place feature) = false
is_stop (Turns place) = true

-- A loop, a selector or a label is refused, in steps that are sound: then no latch is looked for.
abbrev mutual
  pub has_stop : Steps → Bool
  has_stop Done = false
  has_stop (Assign a more) = has_stop more
  has_stop (Choose at c then_part else_part more) = (has_stop then_part || has_stop else_part) || has_stop more
  has_stop (Case c arms bodies more) = arms_stop arms || has_stop more
  has_stop (Refuse x more) = is_stop x || has_stop more

  pub arms_stop : Arms → Bool
  arms_stop (Otherwise body) = has_stop body
  arms_stop (Arm at labels body others) = has_stop body || arms_stop others
