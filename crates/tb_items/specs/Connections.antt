-- The connections of the design in a testbench, as assignments (IEEE 1364-2005, 12.3.9.2): an input is assigned its value through a
-- hidden signal, and the left side at an output is assigned a hidden signal. The clock is connected to the clock of the testbench alone.
use Rattle.std.specs.Prelude.{ℕ, Bool, false, ◌||◌, List, [], ◌∷◌, ◌++◌, Option, None, Some, if◌then◌else◌}
use Rattle.std.specs.List.{flat_map}
use Rattle.std.specs.Str.{bytes_eq}
use Rattle.mcy_base.specs.declared.span.Span.{Span}
use Rattle.vlog_syntax.specs.Places.{first_token}
use Rattle.vlog_syntax.specs.declared.expr.Expr.{Expr, out-Expr}
use Rattle.vlog_syntax.specs.declared.expr.Expr.TheOpen as e
use Rattle.vlog_syntax.specs.declared.expr.Expr.TheOpen.{Expr-F}
use Rattle.vlog_syntax.specs.declared.identifier.Identifier.{Identifier}
use Rattle.vlog_syntax.specs.declared.left_side.LeftSide.{LeftSide}
use Rattle.flat_scopes.specs.declared.opening.Placing.{Placing}
use Rattle.flat_scopes.specs.declared.wire.Wire.{Wire}
use Rattle.flat_scopes.specs.declared.wire.Wire.TheVariants.{To, Mismatch}
use Rattle.flat_scopes.specs.Wires.{wires_of}
use Rattle.tb_faults.specs.declared.fault.BenchFault.TheVariants.{PortMismatch, Twice}
use Rattle.tb_items.specs.declared.design.Design.{Design}
use Rattle.tb_items.specs.declared.design.Role.{Role}
use Rattle.tb_items.specs.declared.design.Role.TheVariants.{Clock, Input, Output}
use Rattle.tb_items.specs.declared.item.BenchItem.{BenchItem}
use Rattle.tb_items.specs.declared.item.BenchItem.TheVariants as b
use Rattle.tb_items.specs.Designs.{role_of, hidden_name}
use Rattle.tb_items.specs.Lefts.{left_of}

-- the hidden signal of a port, at the place of the instance's name
abbrev pub hidden : Identifier → Identifier → Identifier
hidden instance port = record { name = hidden_name instance.name port.name; span = instance.span }

-- the expression is this name alone
abbrev pub is_name : List ℕ → Expr-F Expr → Bool
is_name name (e.Name n) = bytes_eq name n.name
is_name name other = false

-- what is connected to the design's clock; where no clock is generated, any expression may be
abbrev pub clock_item : (clock : Option (List ℕ)) → Expr → List BenchItem
clock_item None x = b.Reads x ∷ []
clock_item (Some c) x = if is_name c (out-Expr x) then [] else b.Refused (PortMismatch (first_token x)) ∷ []

abbrev pub output_item : Identifier → Expr → Option LeftSide → BenchItem
output_item port x None = b.Refused (PortMismatch (first_token x))
output_item port x (Some left) = b.Leaves port left

abbrev pub role_items : (clock : Option (List ℕ)) → Role → Identifier → Option Expr → List BenchItem
role_items clock role port None = []
role_items clock Clock port (Some x) = clock_item clock x
role_items clock Input port (Some x) = b.Enters port x ∷ []
role_items clock Output port (Some x) = output_item port x (left_of x) ∷ []

abbrev pub wire_items : Design → (clock : Option (List ℕ)) → Identifier → Wire → List BenchItem
wire_items d clock instance (Mismatch at) = b.Refused (PortMismatch at) ∷ []
wire_items d clock instance (To port value) = role_items clock (role_of d port.name) (hidden instance port) value

-- A design with a clock has a value connected to it.

abbrev pub wire_gives : (clock : List ℕ) → Wire → Bool
wire_gives clock (To port (Some x)) = bytes_eq clock port.name
wire_gives clock other = false

abbrev pub gives_clock : (clock : List ℕ) → List Wire → Bool
gives_clock clock [] = false
gives_clock clock (wire ∷ more) = wire_gives clock wire || gives_clock clock more

abbrev pub clock_missing : Option (List ℕ) → Span → List Wire → List BenchItem
clock_missing None at wires = []
clock_missing (Some clock) at wires = if gives_clock clock wires then [] else b.Refused (PortMismatch at) ∷ []

-- the name of an instance stands already
abbrev pub taken : Placing → List BenchItem
taken x = if x.is_twice then b.Refused (Twice x.instance.name.span) ∷ [] else []

abbrev pub wired_items : Design → (clock : Option (List ℕ)) → Placing → List Wire → List BenchItem
wired_items d clock x wires = clock_missing d.clock x.module_name.span wires ++ (taken x ++ flat_map (wire_items d clock x.instance.name) wires)

-- the connections of an instance, with what is wrong in it ahead of them
abbrev pub connections : Design → (clock : Option (List ℕ)) → Placing → List BenchItem
connections d clock x = wired_items d clock x (wires_of d.ports x.instance)
