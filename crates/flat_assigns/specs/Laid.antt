-- The netlist of a continuous assignment (IEEE 1364-2005, 6.1), and of a connection of an instance, which is one (12.3.9.2): the
-- cells of the right side, and then a joint for each bit of the left side, which is a net, to its bit of the value, from the
-- lowest on. Bits above the left side are dropped, and a bit outside the declared range takes none.
--
-- An example: where `y` has the nets 0 and 1, and `a` the nets 2 and 3, `assign y = ~a;` lays the cell of `~a`, whose A has the
-- nets 2 and 3 and whose Y is the nets 4 and 5, and joins net 0 to net 4 and net 1 to net 5.
use Rattle.std.specs.Prelude.{◌≡◌, ℕ, List, [], ◌∷◌, ◌++◌, length, Option, None, Some, slice_get}
use Rattle.netlist_core.specs.declared.bit.Bit.{Bit}
use Rattle.netlist_core.specs.declared.bit.Bit.TheVariants.{Net}
use Rattle.vlog_syntax.specs.declared.expr.Expr.{Expr}
use Rattle.vlog_syntax.specs.declared.left_side.LeftSide.{LeftSide}
use Rattle.vlog_meaning.specs.Scopes.{Names}
use Rattle.vlog_effects.specs.Expressions.{width_of}
use Rattle.vlog_effects.specs.LeftSides.{Part, parts_of}
use Rattle.net_builder.specs.declared.builder.Joint.{Joint}
use Rattle.net_builder.specs.Building.{Building, signal}
use Rattle.elab_expr.specs.Laid.{Laid, lay, number_bits, showing}
use Rattle.elab_proc.specs.Refusals.{same_form}
use Rattle.flat_runs.specs.Meanings.{Place}
use Rattle.flat_runs.specs.Parts.{whole, with_joints}
use Rattle.flat_assigns.specs.Forms.{form_parts}
use Rattle.flat_assigns.specs.Sides.{all_places, left_width, slices}
use Rattle.flat_assigns.specs.Values.{right_shape}

-- a bit that is a net is joined
abbrev pub lay_joint : Option Bit → Bit → List Joint
lay_joint (Some (Net n)) bit = record { net = n; bit = bit } ∷ []
lay_joint other bit = []

-- places are joined to bits, from the lowest on
abbrev pub lay_joints : Building → List (Option Place) → List Bit → List Joint
lay_joints b [] bits = []
lay_joints b (p ∷ left) [] = []
lay_joints b (None ∷ left) (bit ∷ bits) = lay_joints b left bits
lay_joints b (Some p ∷ left) (bit ∷ bits) = lay_joint (slice_get (signal b p.signal) p.bit) bit ++ lay_joints b left bits

abbrev pub joined : List (Option Place) → Laid → Building
joined left a = with_joints a.after (lay_joints a.after left a.bits)

-- the right side, where so many bits are written
abbrev pub lay_right : Names → Expr → (width : ℕ) → Building → Laid
lay_right names right width b = lay names right (right_shape names right width) b

-- places, of which so many are written, take the value of the right side
abbrev pub lay_value : List (Option Place) → (width : ℕ) → Names → Expr → Building → Building
lay_value left width names right b = joined left (lay_right names right width b)

-- so do parts of a left side, which have so many bits together
abbrev pub lay_parts : (lefts : Names) → List Part → (width : ℕ) → (rights : Names) → Expr → Building → Building
lay_parts lefts parts width rights right b = lay_value (all_places (slices lefts parts)) width rights right b

-- an assignment
abbrev pub lay_assignment : (lefts : Names) → LeftSide → (rights : Names) → Expr → Building → Building
lay_assignment lefts left rights right b = lay_parts lefts (parts_of left) (left_width lefts left) rights right b

-- the connection of an output, to an expression that has the form of a left side
abbrev pub lay_output : (outside : Names) → Expr → (inside : Names) → (port : Expr) → Building → Building
lay_output outside value inside port b = lay_parts outside (form_parts value) (width_of outside value) inside port b

-- the connection of an input: the whole port takes the value
abbrev pub lay_input : Names → Expr → (port : ℕ) → Building → Building
lay_input names value port b = lay_value (whole b port) (length (signal b port)) names value b

-- an input without a connection: the whole port is 0
abbrev pub lay_open : (port : ℕ) → Building → Building
lay_open port b = joined (whole b port) (showing b (number_bits (length (signal b port)) 0))

-- What an output is connected to is laid as an assignment to the left side of its form.
abbrev pub OutputsAreLaid : Type 0
OutputsAreLaid = (lefts : Names) (left : LeftSide) (value : Expr) (rights : Names) (right : Expr) (b : Building) → same_form left ≡ value → lay_assignment lefts left rights right b ≡ lay_output lefts value rights right b
