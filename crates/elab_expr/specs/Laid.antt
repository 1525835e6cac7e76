-- The netlist of an expression (IEEE 1364-2005, 5): the cells that it adds to a builder, to which bits their ports are wired, and
-- the bits that it shows. Operands come first, left to right, then the operator's cell, whose ports have the operands' bits.
-- Extension, selects at a constant place, bits side by side and constants are wiring, and make no cell.
use Rattle.std.specs.Prelude.{ℕ, zero, suc, ◌+◌, ◌-◌, ◌/◌, ◌%◌, ℤ, pos, negsuc, ◌+ℤ◌, ◌-ℤ◌, Bool, true, false, ◌&&◌, ◌==◌, nat_lt, List, [], ◌∷◌, ◌++◌, length, replicate, map, Option, Some, None, if◌then◌else◌}
use Rattle.mcy_base.specs.declared.span.Span.{Span}
use Rattle.netlist_core.specs.declared.bit.Bit.{Bit}
use Rattle.netlist_core.specs.declared.bit.Bit.TheVariants.{Fixed}
use Rattle.netlist_core.specs.declared.cell.CellKind.{CellKind}
use Rattle.netlist_core.specs.declared.cell.CellKind.TheVariants.{Ror, Mux, Pick}
use Rattle.vlog_syntax.specs.declared.expr.Expr.{Expr}
use Rattle.vlog_syntax.specs.declared.expr.Expr.TheOpen as e
use Rattle.vlog_syntax.specs.declared.expr.Expr.TheOpen.{Expr-F}
use Rattle.vlog_syntax.specs.declared.expr.Expr.TheFolds.{fold-Expr, map-Expr}
use Rattle.vlog_syntax.specs.declared.operator.UnaryOperator.{UnaryOperator}
use Rattle.vlog_syntax.specs.declared.operator.BinaryOperator.{BinaryOperator}
use Rattle.vlog_syntax.specs.Places.{first_step}
use Rattle.vlog_meaning.specs.declared.scope.Decl.{Decl}
use Rattle.vlog_meaning.specs.declared.scope.Decl.TheVariants.{Signal, Constant}
use Rattle.vlog_meaning.specs.declared.shapes.Shape.{Shape}
use Rattle.vlog_meaning.specs.Functions.{function_of}
use Rattle.vlog_meaning.specs.Integers.{natural}
use Rattle.vlog_meaning.specs.Operators.{sizing, left_context, right_context, result_width, operand_context, is_reduction}
use Rattle.vlog_meaning.specs.Scopes.{Names, nothing, decl_low}
use Rattle.vlog_meaning.specs.Senses.{Sense, step, is_empty, constant_integer}
use Rattle.net_builder.specs.Building.{Building, fresh_bits, signal, with_cell}
use Rattle.elab_expr.specs.Evaluates.{takes_sign}
use Rattle.expr_plans.specs.Kinds.{unary_kind, binary_kind, is_order}
use Rattle.expr_plans.specs.Made.{index_width}
use Rattle.elab_expr.specs.Wiring.{fill_bit, bit_or_0}

-- Bits without cells.

-- a number of so many bits, the lowest first
abbrev pub number_bits : (width value : ℕ) → List Bit
number_bits zero v = []
number_bits (suc width) v = Fixed (v % 2 == 1) ∷ number_bits width (v / 2)

-- bits at a width: filled with the highest one where the sign counts, else with 0
abbrev pub widened : List Bit → Bool → ℕ → List Bit
widened bits is_signed width = bits ++ replicate (width - length bits) (fill_bit bits is_signed)

-- the bit of this number, 0 where there is none
abbrev pub bit_of : List Bit → ℤ → Bit
bit_of bits (pos k) = bit_or_0 bits k
bit_of bits (negsuc k) = Fixed false

-- so many bits from a place on
abbrev pub bits_from : List Bit → ℤ → (width : ℕ) → List Bit
bits_from bits place zero = []
bits_from bits place (suc k) = bits_from bits place k ++ bit_of bits (place +ℤ pos k) ∷ []

abbrev pub times : ℕ → List Bit → List Bit
times zero bits = []
times (suc count) bits = bits ++ times count bits

-- what a name shows: the bits that its signal has now, or its constant
abbrev pub name_bits : Building → Option Decl → List Bit
name_bits b (Some (Signal width low is_signed number)) = signal b number
name_bits b (Some (Constant value low is_signed)) = number_bits value.width value.bits
name_bits b None = number_bits 1 0

-- Cells.

-- a builder in which something was laid, and the bits that this shows
pub record Laid : Type 0 where
  pub after : Building
  pub bits : List Bit

abbrev pub showing : Building → List Bit → Laid
showing b bits = record { after = b; bits = bits }

-- the next cell, with these bits at its inputs, shows its Y
abbrev pub cell : CellKind → (is_signed : Bool) → (inputs : List (List Bit)) → (width : ℕ) → Span → Building → Laid
cell kind is_signed inputs width span b = showing (with_cell b kind is_signed inputs width span) (fresh_bits b.nets width)

-- the same at a width, as a number without a sign
abbrev pub at_width : ℕ → Laid → Laid
at_width width l = showing l.after (widened l.bits false width)

-- What an expression says, where it begins, and what is laid of it at a width and sign.
pub record Layout : Type 0 where
  pub sense : Sense
  pub first : Span
  pub lay : Shape → Building → Laid

-- where it stands for itself
abbrev pub lay_own : Layout → Building → Laid
lay_own a = a.lay a.sense.shape

-- one after the other; the first has the highest bits, and those of the parts before stand above
abbrev pub lay_parts : List Layout → Building → (above : List Bit) → Laid
lay_parts [] b above = showing b above
lay_parts (a ∷ more) b above = lay_parts more (lay_own a b).after ((lay_own a b).bits ++ above)

-- the bits of an index at a cell
abbrev pub index_bits : Shape → List Bit → List Bit
index_bits s bits = widened bits s.is_signed (index_width s)

-- a select of so many bits: at a constant place wiring, else a cell whose A is the name and whose B is the place
abbrev pub lay_select : Option Decl → Span → Layout → (size width : ℕ) → Building → Laid
lay_select name span i size width b =
    if is_empty i.sense.signals
    then showing b (widened (bits_from (name_bits b name) (constant_integer i.sense -ℤ pos (decl_low name)) size) false width)
    else at_width width (cell Pick false (name_bits (lay_own i b).after name ∷ index_bits i.sense.shape (lay_own i b).bits ∷ []) size span (lay_own i b).after)

-- unary `+` is wiring
abbrev pub unary_cell : Option CellKind → (width : ℕ) → Span → Laid → Laid
unary_cell None width span a = a
unary_cell (Some kind) width span a = cell kind false (a.bits ∷ []) width span a.after

abbrev pub lay_unary : Span → UnaryOperator → Layout → Shape → Building → Laid
lay_unary span op i c b =
    let s = operand_context op i.sense.shape c in
    at_width c.width (unary_cell (unary_kind op) (if is_reduction op then 1 else s.width) span (i.lay s b))

abbrev pub binary_cell : Option CellKind → Shape → (width : ℕ) → Span → (left : List Bit) → Laid → Laid
binary_cell None s width span left a = a
binary_cell (Some kind) s width span left a = cell kind (is_order kind && s.is_signed) (left ∷ a.bits ∷ []) width span a.after

abbrev pub lay_binary : Span → BinaryOperator → Layout → Layout → Shape → Building → Laid
lay_binary span op i j c b =
    let s = left_context (sizing op) i.sense.shape j.sense.shape c in
    let t = right_context (sizing op) i.sense.shape j.sense.shape c in
    at_width c.width (binary_cell (binary_kind op s.is_signed) s (result_width (sizing op) s) span (i.lay s b).bits (j.lay t (i.lay s b).after))

-- a condition wider than one bit is reduced
abbrev pub reduced : (width : ℕ) → Span → Laid → Laid
reduced width span a = if nat_lt 1 width then cell Ror false (a.bits ∷ []) 1 span a.after else a

abbrev pub lay_condition : Layout → Building → Laid
lay_condition x b = reduced x.sense.shape.width x.first (lay_own x b)

-- the mux has the condition at S, the second part at A and the first at B
abbrev pub mux_cell : (width : ℕ) → Span → (s first : List Bit) → Laid → Laid
mux_cell width span s first second = cell Mux false (s ∷ second.bits ∷ first ∷ []) width span second.after

abbrev pub lay_arms : Span → Layout → Layout → Shape → (condition : Laid) → Laid
lay_arms span i j c s = mux_cell c.width span s.bits (i.lay c s.after).bits (j.lay c (i.lay c s.after).after)

-- The whole. The largest subexpressions that are constant are their numbers.

abbrev pub lay_step : Names → Expr-F Layout → Sense → Shape → Building → Laid
lay_step names (e.Number n) said c b = showing b (number_bits c.width (said.value nothing c))
lay_step names (e.Name n) said c b = showing b (widened (name_bits b (names n.name)) c.is_signed c.width)
lay_step names (e.BitSelect n s i) said c b = lay_select (names n.name) s i 1 c.width b
lay_step names (e.PartSelect n s msb lsb) said c b = showing b (widened (bits_from (name_bits b (names n.name)) (constant_integer lsb.sense -ℤ pos (decl_low (names n.name))) said.shape.width) false c.width)
lay_step names (e.IndexedPartSelect n s base width) said c b = lay_select (names n.name) s base (natural (constant_integer width.sense)) c.width b
lay_step names (e.Parenthesized s i) said c b = i.lay c b
lay_step names (e.Unary s op i) said c b = lay_unary s op i c b
lay_step names (e.Binary s op i j) said c b = lay_binary s op i j c b
lay_step names (e.Conditional s x i j) said c b = lay_arms s i j c (lay_condition x b)
lay_step names (e.Concatenation s parts) said c b = at_width c.width (lay_parts parts b [])
lay_step names (e.MultipleConcatenation s count parts) said c b =
    showing (lay_parts parts b []).after (widened (times (natural (constant_integer count.sense)) (lay_parts parts b []).bits) false c.width)
lay_step names (e.SystemFunctionCall n arguments) said c b =
    showing (lay_parts arguments b []).after (widened (lay_parts arguments b []).bits (takes_sign (function_of n.name) && c.is_signed) c.width)

abbrev pub layout_step : Names → Expr-F Layout → Layout
layout_step names x =
    let said = step names (map-Expr Layout Sense (λ a. a.sense) x) in
    record {
      sense = said;
      first = first_step (map-Expr Layout Span (λ a. a.first) x);
      lay = λ c b. if is_empty said.signals then showing b (number_bits c.width (said.value nothing c)) else lay_step names x said c b;
    }

abbrev pub layout : Names → Expr → Layout
layout names = fold-Expr Layout (layout_step names)

-- what is laid of an expression at a width and sign
abbrev pub lay : Names → Expr → Shape → Building → Laid
lay names x = (layout names x).lay

-- For proofs alone.

abbrev pub layouts : Names → List Expr → List Layout
layouts names = map (layout names)
