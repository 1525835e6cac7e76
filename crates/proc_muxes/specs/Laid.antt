-- The netlist of statements (IEEE 1364-2005, 9.2 to 9.5): the cells that they add to a builder, to which bits their ports are
-- wired, and the bits that variables have after them.
--
-- An example: where `a`, `b` and `s` are the nets 0, 1 and 2, `if (s) b = a; else b = ~a;` lays the cell of `~a`, whose Y is
-- net 3, and then a mux with S at net 2, A at net 3, B at net 0 and Y at net 4, which is what `b` has then. No cell is laid
-- where `b = a` stands alone: `b` has net 0 then.
use Rattle.std.specs.Prelude.{ℕ, zero, suc, Bool, true, false, List, [], ◌∷◌, ◌++◌, take, drop, length, Option, None, Some}
use Rattle.mcy_base.specs.declared.span.Span.{Span}
use Rattle.netlist_core.specs.declared.bit.Bit.{Bit}
use Rattle.netlist_core.specs.declared.bit.Bit.TheVariants.{Fixed}
use Rattle.netlist_core.specs.declared.cell.CellKind.TheVariants.{Mux, Put, Eq, Lor}
use Rattle.vlog_syntax.specs.Places.{first_token}
use Rattle.vlog_syntax.specs.declared.expr.Expr.{Expr}
use Rattle.vlog_meaning.specs.Scopes.{Names}
use Rattle.vlog_meaning.specs.Senses.{sense, assigned}
use Rattle.vlog_effects.specs.Expressions.{bits_of}
use Rattle.vlog_effects.specs.LeftSides.{Select, Part, Vector, parts_of, part_vector, parts_width}
use Rattle.vlog_effects.specs.Steps.{Assigning, Test, Selection, Steps, Done, Assign, Choose, Case, Refuse, Arms, Otherwise, Arm, dont_care}
use Rattle.vlog_effects.specs.Latches.{targets, arms_targets}
use Rattle.net_builder.specs.Building.{Building}
use Rattle.elab_expr.specs.Laid.{Laid, showing, cell, reduced, lay, index_bits}
use Rattle.proc_muxes.specs.declared.choice.Choice.{Choice}
use Rattle.proc_muxes.specs.Builds.{Work, held, with_held, Index, variable_index, put_fixed, distinct, choices, restored, kept, mattering, case_shape}

-- the same variables after other cells
abbrev pub with_cells : Building → Work → Work
with_cells b a = record a { building = b }

-- a variable gets the bits that a cell shows
abbrev pub showing_in : Bool → ℕ → Laid → Work → Work
showing_in is_blocking n y a = with_held is_blocking n y.bits (with_cells y.after a)

-- Assignments: the right side, the indices of the left side from the left, and then its parts from the right.

-- the index of a select; where it is a constant, or there is none, it has no cells and no bits
abbrev pub lay_index : Names → Option Index → Building → Laid
lay_index names None b = showing b []
lay_index names (Some i) b =
    let s = (sense names i.expr).shape in
    let l = lay names i.expr s b in
    showing l.after (index_bits s l.bits)

-- a builder in which the indices of a left side were laid, and the bits of each
pub record LaidIndices : Type 0 where
  pub after : Building
  pub bits : List (List Bit)

abbrev pub with_index : List Bit → LaidIndices → LaidIndices
with_index bits more = record { after = more.after; bits = bits ∷ more.bits }

abbrev pub lay_indices : Names → List Part → Building → LaidIndices
lay_indices names [] b = record { after = b; bits = [] }
lay_indices names (p ∷ ps) b = let i = lay_index names (variable_index names p.select) b in with_index i.bits (lay_indices names ps i.after)

-- Bits of a vector are written: at places that are known by wiring, and at an index by a `put`, which has what the vector has at
-- A, the index at B, and the bits at its third input.
abbrev pub lay_put : Bool → Names → Vector → Select → (bits index : List Bit) → Option Index → Work → Work
lay_put is_blocking names v s bits index None a = put_fixed is_blocking names v s bits a
lay_put is_blocking names v s bits index (Some i) a =
    showing_in is_blocking v.number (cell Put false (held a is_blocking v.number ∷ index ∷ bits ∷ []) v.width i.place a.building) a

abbrev pub lay_part : Bool → Names → Part → Option Vector → (bits index : List Bit) → Work → Work
lay_part is_blocking names p None bits index a = a
lay_part is_blocking names p (Some v) bits index a = lay_put is_blocking names v p.select bits index (variable_index names p.select) a

-- the parts from the right, so from the lowest bits on
abbrev pub lay_parts : Bool → Names → List Part → (bits : List Bit) → (indices : List (List Bit)) → Work → Work
lay_parts is_blocking names [] bits indices a = a
lay_parts is_blocking names (p ∷ ps) bits [] a = a
lay_parts is_blocking names (p ∷ ps) bits (index ∷ indices) a =
    let rest = parts_width names ps in
    lay_part is_blocking names p (part_vector names p) (drop rest bits) index (lay_parts is_blocking names ps (take rest bits) indices a)

-- what is written once the right side and the indices are laid
abbrev pub lay_left : Assigning → (right : List Bit) → LaidIndices → Work → Work
lay_left s right i a = let ps = parts_of s.left in lay_parts s.is_blocking s.names ps (take (parts_width s.names ps) right) i.bits (with_cells i.after a)

abbrev pub lay_right : Assigning → Building → Laid
lay_right s b = lay s.names s.right (assigned (sense s.names s.right) (parts_width s.names (parts_of s.left))) b

abbrev pub lay_assign : Assigning → Work → Work
lay_assign s a = let right = lay_right s a.building in lay_left s right.bits (lay_indices s.names (parts_of s.left) right.after) a

-- Choices.

-- a condition, which is reduced where it is wider than one bit
abbrev pub lay_test : Test → Building → Laid
lay_test c b = let s = (sense c.names c.condition).shape in reduced s.width (first_token c.condition) (lay c.names c.condition s b)

-- a mux has the test at S, what the variable has at A, and what it has after the first part at B
abbrev pub lay_mux : Span → (test : List Bit) → Choice → Work → Work
lay_mux at test x a =
    let second = held a x.is_blocking x.number in
    showing_in x.is_blocking x.number (cell Mux false (test ∷ second ∷ x.bits ∷ []) (length second) at a.building) a

abbrev pub lay_muxes : Span → (test : List Bit) → List Choice → Work → Work
lay_muxes at test [] a = a
lay_muxes at test (x ∷ more) a = lay_muxes at test more (lay_mux at test x a)

-- Cases.

-- an `eq` of the selector's bits and the label's; where none matters, the constant 1
abbrev pub lay_equal : (count : ℕ) → (selector label : List Bit) → Span → Building → Laid
lay_equal zero selector label at b = showing b (Fixed true ∷ [])
lay_equal (suc n) selector label at b = cell Eq false (selector ∷ label ∷ []) 1 at b

-- a label, and its `eq` with the selector
abbrev pub lay_label : Selection → (selector : List Bit) → Expr → Building → Laid
lay_label c selector x b =
    let ignored = bits_of c.width (dont_care c.kind x) in
    let label = lay c.names x (case_shape c) b in
    lay_equal (mattering ignored) (kept ignored selector) (kept ignored label.bits) (first_token x) label.after

-- further labels of an item, each joined to those before by a `lor`
abbrev pub lay_labels : Selection → (selector : List Bit) → List Expr → (before : Laid) → Laid
lay_labels c selector [] before = before
lay_labels c selector (x ∷ more) before =
    let found = lay_label c selector x before.after in
    lay_labels c selector more (cell Lor false (before.bits ∷ found.bits ∷ []) 1 (first_token x) found.after)

abbrev pub lay_match : Selection → (selector : List Bit) → List Expr → Building → Laid
lay_match c selector [] b = showing b []
lay_match c selector (x ∷ more) b = lay_labels c selector more (lay_label c selector x b)

-- Statements. Both parts of a choice begin with what variables have after its test; then there is a mux for each variable that
-- either part assigns, in order of first assignment. A case is a choice for each item, of its body and all items after it. Where
-- something is refused, nothing is laid.
abbrev mutual
  pub lay_steps : Steps → Work → Work
  lay_steps Done a = a
  lay_steps (Assign s more) a = lay_steps more (lay_assign s a)
  lay_steps (Choose at c then_part else_part more) a =
      let test = lay_test c a.building in
      let first = lay_steps then_part (with_cells test.after a) in
      let second = lay_steps else_part (restored (with_cells test.after a) first) in
      lay_steps more (lay_muxes at test.bits (choices first (distinct (targets then_part ++ targets else_part))) second)
  lay_steps (Case c arms bodies more) a =
      let selector = lay c.names c.selector (case_shape c) a.building in
      lay_steps more (lay_items c selector.bits arms (with_cells selector.after a))
  lay_steps (Refuse x more) a = a

  pub lay_items : Selection → (selector : List Bit) → Arms → Work → Work
  lay_items c selector (Otherwise body) a = lay_steps body a
  lay_items c selector (Arm at labels body others) a =
      let test = lay_match c selector labels a.building in
      let first = lay_steps body (with_cells test.after a) in
      let second = lay_items c selector others (restored (with_cells test.after a) first) in
      lay_muxes at test.bits (choices first (distinct (targets body ++ arms_targets others))) second
