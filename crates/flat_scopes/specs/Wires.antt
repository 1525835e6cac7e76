-- The names in the head of a module, and the connections that an instance makes to them (IEEE 1364-2005, 12.3.5 and 12.3.6).
use Rattle.std.specs.Prelude.{not, ◌&&◌, List, [], ◌∷◌, ◌++◌, map, Option, None, Some, if◌then◌else◌}
use Rattle.mcy_base.specs.declared.span.Span.{Span}
use Rattle.vlog_syntax.specs.declared.expr.Expr.{Expr}
use Rattle.vlog_syntax.specs.declared.identifier.Identifier.{Identifier}
use Rattle.vlog_syntax.specs.declared.item.Connections.{Connections}
use Rattle.vlog_syntax.specs.declared.item.Connections.TheVariants.{Ordered, Named}
use Rattle.vlog_syntax.specs.declared.item.DeclaredName.{DeclaredName}
use Rattle.vlog_syntax.specs.declared.item.Instance.{Instance}
use Rattle.vlog_syntax.specs.declared.item.NamedConnection.{NamedConnection}
use Rattle.vlog_syntax.specs.declared.item.PortDeclaration.{PortDeclaration}
use Rattle.vlog_syntax.specs.declared.item.Ports.{Ports}
use Rattle.vlog_syntax.specs.declared.item.Ports.TheVariants.{Names, Declarations}
use Rattle.flat_scopes.specs.Known.{is_among}
use Rattle.flat_scopes.specs.declared.wire.Wire.{Wire}
use Rattle.flat_scopes.specs.declared.wire.Wire.TheVariants.{To, Mismatch}

-- the names in the head of a module, in order

abbrev pub name_in : DeclaredName → Identifier
name_in n = n.name

abbrev pub declared_ports : List PortDeclaration → List Identifier
declared_ports [] = []
declared_ports (d ∷ more) = map name_in d.names ++ declared_ports more

abbrev pub ports_of : Ports → List Identifier
ports_of (Names names) = names
ports_of (Declarations declarations) = declared_ports declarations

-- By name: each name is that of a port that was not named before.

abbrev pub named_wire : (ports seen : List Identifier) → NamedConnection → Wire
named_wire ports seen c = if is_among ports c.name.name && not (is_among seen c.name.name) then To c.name c.value else Mismatch c.name.span

abbrev pub named_wires : (ports seen : List Identifier) → List NamedConnection → List Wire
named_wires ports seen [] = []
named_wires ports seen (c ∷ more) = named_wire ports seen c ∷ named_wires ports (seen ++ c.name ∷ []) more

-- By place: a place may be empty; the first one without a port is refused at the instance's name, whether it is empty or not.
abbrev pub ordered_wires : Span → (ports : List Identifier) → List (Option Expr) → List Wire
ordered_wires at ports [] = []
ordered_wires at [] (value ∷ more) = Mismatch at ∷ []
ordered_wires at (port ∷ ports) (value ∷ more) = To port value ∷ ordered_wires at ports more

abbrev pub wires_by : Span → List Identifier → Connections → List Wire
wires_by at ports (Ordered values) = ordered_wires at ports values
wires_by at ports (Named connections) = named_wires ports [] connections

-- the connections of an instance whose module has these ports, in written order
abbrev pub wires_of : List Identifier → Instance → List Wire
wires_of ports instance = wires_by instance.name.span ports instance.ports
