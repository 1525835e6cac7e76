-- What the connections of an instance list (IEEE 1364-2005, 12.3.5 and 12.3.6).
use Rattle.std.specs.Prelude.{ℕ, Bool, true, false, ◌&&◌, ◌||◌, List, [], ◌∷◌, ◌++◌, option_to_list, Option, None, Some, if◌then◌else◌}
use Rattle.std.specs.Str.{bytes_eq}
use Rattle.vlog_syntax.specs.declared.expr.Expr.{Expr}
use Rattle.vlog_syntax.specs.declared.expr.Expr.TheOpen as x
use Rattle.vlog_syntax.specs.declared.expr.Expr.TheOpen.{Expr-F}
use Rattle.vlog_syntax.specs.declared.expr.Expr.TheFolds.{fold-Expr}
use Rattle.vlog_syntax.specs.Places.{first_token}
use Rattle.vlog_syntax.specs.declared.identifier.Identifier.{Identifier}
use Rattle.vlog_syntax.specs.declared.item.Direction.{Direction}
use Rattle.vlog_syntax.specs.declared.item.Direction.TheVariants.{Input, Output}
use Rattle.flat_scopes.specs.declared.signal.Port.{Port}
use Rattle.flat_scopes.specs.declared.wire.Wire.{Wire}
use Rattle.flat_scopes.specs.declared.wire.Wire.TheVariants.{To, Mismatch}
use Rattle.flat_scopes.specs.Openings.{Opened}
use Rattle.flat_scopes.specs.Opens.{port_at}
use Rattle.flat_instances.specs.declared.error.ItemError.TheVariants.{PortMismatch}
use Rattle.flat_instances.specs.declared.item.FlatItem.{FlatItem}
use Rattle.flat_instances.specs.declared.item.FlatItem.TheVariants.{Enters, Open, Leaves, Refuses}

-- Expressions that have the form of a left side (A.8.5).

abbrev pub all_of : List Bool → Bool
all_of [] = true
all_of (b ∷ more) = b && all_of more

abbrev pub left_step : Expr-F Bool → Bool
left_step (x.Name n) = true
left_step (x.BitSelect n at i) = true
left_step (x.PartSelect n at msb lsb) = true
left_step (x.IndexedPartSelect n at base width) = true
left_step (x.Concatenation at parts) = all_of parts
left_step other = false

abbrev pub is_left : Expr → Bool
is_left = fold-Expr Bool left_step

-- What connections list: each one item at most. The expressions stand in the scope with the number `outside`, the ports in
-- `child`, which has the number `inside`.

-- a left side gets the value of an output
abbrev pub output_item : (outside inside : ℕ) → Identifier → Expr → FlatItem
output_item outside inside port value = if is_left value then Leaves outside value inside port else Refuses (PortMismatch (first_token value))

-- an input gets the value of an expression, or 0 where there is none
abbrev pub port_item : (outside inside : ℕ) → Identifier → Option Expr → (number : ℕ) → Direction → Option FlatItem
port_item outside inside port None number Input = Some (Open number)
port_item outside inside port (Some value) number Input = Some (Enters number outside value)
port_item outside inside port None number Output = None
port_item outside inside port (Some value) number Output = Some (output_item outside inside port value)

-- a name in the head that no item declares as a port is refused with the module
abbrev pub found_item : (outside inside : ℕ) → Identifier → Option Expr → Option Port → Option FlatItem
found_item outside inside port value None = None
found_item outside inside port value (Some p) = port_item outside inside port value p.number p.direction

abbrev pub wire_item : (outside inside : ℕ) → Opened → Wire → Option FlatItem
wire_item outside inside child (Mismatch at) = Some (Refuses (PortMismatch at))
wire_item outside inside child (To port value) = found_item outside inside port value (port_at child (child.own port.name))

abbrev pub wired : (outside inside : ℕ) → Opened → List Wire → List FlatItem
wired outside inside child [] = []
wired outside inside child (w ∷ more) = option_to_list (wire_item outside inside child w) ++ wired outside inside child more

-- An input without a connection is 0.

abbrev pub is_wired : List Wire → List ℕ → Bool
is_wired [] name = false
is_wired (Mismatch at ∷ more) name = is_wired more name
is_wired (To port value ∷ more) name = bytes_eq port.name name || is_wired more name

-- the names of the ports that have one

abbrev pub open_item : (number : ℕ) → Direction → Option FlatItem
open_item number Input = Some (Open number)
open_item number Output = None

abbrev pub open_found : Option Port → Option FlatItem
open_found None = None
open_found (Some p) = open_item p.number p.direction

abbrev pub unwired_item : Opened → List Wire → Identifier → Option FlatItem
unwired_item child wires port = if is_wired wires port.name then None else open_found (port_at child (child.own port.name))

abbrev pub unwired : Opened → List Wire → List Identifier → List FlatItem
unwired child wires [] = []
unwired child wires (port ∷ more) = option_to_list (unwired_item child wires port) ++ unwired child wires more

-- the connections in written order, and then the inputs that have none
abbrev pub connected : (outside inside : ℕ) → Opened → List Wire → List Identifier → List FlatItem
connected outside inside child wires ports = wired outside inside child wires ++ unwired child wires ports

-- For proofs alone.

abbrev pub port_in : Wire → List Identifier
port_in (Mismatch at) = []
port_in (To port value) = port ∷ []

abbrev pub ports_in : List Wire → List Identifier
ports_in [] = []
ports_in (w ∷ more) = port_in w ++ ports_in more
