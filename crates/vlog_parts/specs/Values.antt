-- The parts of a production, as what is asked for. A part that is left out means nothing, which is the empty list and the
-- option that is none. What is said of a part of another sort makes a function of each name, and is never read.
use Rattle.std.specs.Prelude.{false, List, [], Option, Some, None}
use Rattle.mcy_base.specs.declared.span.Span.{Span}
use Rattle.vlog_token.specs.declared.token.Token.{Token}
use Rattle.vlog_syntax.specs.declared.identifier.Identifier.{Identifier}
use Rattle.vlog_syntax.specs.declared.expr.Expr.{Expr}
use Rattle.vlog_syntax.specs.declared.expr.Expr.TheVariants as e
use Rattle.vlog_syntax.specs.declared.left_side.LeftSide.{LeftSide}
use Rattle.vlog_syntax.specs.declared.left_side.LeftSide.TheVariants as l
use Rattle.vlog_syntax.specs.declared.stmt.Stmt.{Stmt}
use Rattle.vlog_syntax.specs.declared.stmt.Stmt.TheVariants as t
use Rattle.vlog_syntax.specs.declared.stmt.CaseItem.{CaseItem, roll-CaseItem}
use Rattle.vlog_syntax.specs.declared.stmt.CaseKind.TheVariants as ck
use Rattle.vlog_syntax.specs.declared.stmt.Edge.TheVariants as ed
use Rattle.vlog_syntax.specs.declared.stmt.EventExpression.{EventExpression}
use Rattle.vlog_syntax.specs.declared.stmt.EventControl.{EventControl}
use Rattle.vlog_syntax.specs.declared.stmt.EventControl.TheVariants as ec
use Rattle.vlog_syntax.specs.declared.stmt.Argument.{Argument}
use Rattle.vlog_syntax.specs.declared.stmt.Argument.TheVariants as ar
use Rattle.vlog_syntax.specs.declared.stmt.Assignment.{Assignment}
use Rattle.vlog_syntax.specs.declared.item.Range.{Range}
use Rattle.vlog_syntax.specs.declared.item.VectorType.{VectorType}
use Rattle.vlog_syntax.specs.declared.item.DataType.TheVariants as dt
use Rattle.vlog_syntax.specs.declared.item.DeclaredName.{DeclaredName}
use Rattle.vlog_syntax.specs.declared.item.PortDeclaration.{PortDeclaration}
use Rattle.vlog_syntax.specs.declared.item.ParameterType.{ParameterType}
use Rattle.vlog_syntax.specs.declared.item.ParameterType.TheVariants as pt
use Rattle.vlog_syntax.specs.declared.item.ParameterAssignment.{ParameterAssignment}
use Rattle.vlog_syntax.specs.declared.item.ParameterDeclaration.{ParameterDeclaration}
use Rattle.vlog_syntax.specs.declared.item.Ports.{Ports}
use Rattle.vlog_syntax.specs.declared.item.Ports.TheVariants as po
use Rattle.vlog_syntax.specs.declared.item.NamedConnection.{NamedConnection}
use Rattle.vlog_syntax.specs.declared.item.Connections.{Connections}
use Rattle.vlog_syntax.specs.declared.item.Connections.TheVariants as co
use Rattle.vlog_syntax.specs.declared.item.ParameterValues.{ParameterValues}
use Rattle.vlog_syntax.specs.declared.item.ParameterValues.TheVariants as pv
use Rattle.vlog_syntax.specs.declared.item.Instance.{Instance}
use Rattle.vlog_syntax.specs.declared.item.Delay.{Delay}
use Rattle.vlog_syntax.specs.declared.item.Item.{Item}
use Rattle.vlog_syntax.specs.declared.item.Item.TheVariants as i
use Rattle.vlog_syntax.specs.declared.module.Module.{Module}
use Rattle.vlog_parts.specs.declared.expression_parts.Link.{Link}
use Rattle.vlog_parts.specs.declared.expression_parts.Select.{Select}
use Rattle.vlog_parts.specs.declared.expression_parts.SelectEnd.{SelectEnd}
use Rattle.vlog_parts.specs.declared.expression_parts.SelectEnd.TheVariants as se
use Rattle.vlog_parts.specs.declared.expression_parts.BraceEnd.{BraceEnd}
use Rattle.vlog_parts.specs.declared.expression_parts.BraceEnd.TheVariants as be
use Rattle.vlog_parts.specs.declared.statement_parts.AssignmentSign.{AssignmentSign}
use Rattle.vlog_parts.specs.declared.statement_parts.AssignmentSign.TheVariants as sg
use Rattle.vlog_parts.specs.declared.statement_parts.CaseKeyword.{CaseKeyword}
use Rattle.vlog_parts.specs.declared.declaration_parts.OutputNames.{OutputNames}
use Rattle.vlog_parts.specs.declared.module_parts.ParameterPort.{ParameterPort}
use Rattle.vlog_parts.specs.declared.module_parts.ParameterPort.TheVariants as pp
use Rattle.vlog_parts.specs.declared.module_parts.MoreParameters.{MoreParameters}
use Rattle.vlog_parts.specs.declared.module_parts.MorePorts.{MorePorts}
use Rattle.vlog_parts.specs.declared.module_parts.OutputPorts.{OutputPorts}
use Rattle.vlog_parts.specs.declared.value.Value.{Value}
use Rattle.vlog_parts.specs.declared.value.Value.TheVariants as v

-- what is read in the place of what is not there

abbrev pub no_span : Span
no_span = record { file = 0; line = 0; col = 0 }

abbrev pub no_identifier : Identifier
no_identifier = record { name = []; span = no_span }

abbrev pub no_expr : Expr
no_expr = e.Name no_identifier

abbrev pub no_parameter_values : ParameterValues
no_parameter_values = pv.Ordered []

abbrev pub no_more_parameters : MoreParameters
no_more_parameters = record { same = []; others = [] }

abbrev pub no_ports : Ports
no_ports = po.Names []

abbrev pub no_more_ports : MorePorts
no_more_ports = record { same = []; others = [] }

-- a part as what is asked for

abbrev pub token_of : Value → Option Token
token_of (v.Token x) = Some x
token_of _ = None

abbrev pub identifier_of : Value → Identifier
identifier_of (v.Identifier x) = x
identifier_of _ = no_identifier

abbrev pub label_of : Value → Option Identifier
label_of (v.Identifier x) = Some x
label_of _ = None

abbrev pub expr_of : Value → Expr
expr_of (v.Expr x) = x
expr_of _ = no_expr

abbrev pub option_expr_of : Value → Option Expr
option_expr_of (v.Expr x) = Some x
option_expr_of _ = None

abbrev pub exprs_of : Value → List Expr
exprs_of (v.Exprs x) = x
exprs_of _ = []

abbrev pub chain_of : Value → List Link
chain_of (v.Chain x) = x
chain_of _ = []

abbrev pub select_of : Value → Option Select
select_of (v.Select x) = Some x
select_of _ = None

abbrev pub select_end_of : Value → SelectEnd
select_end_of (v.SelectEnd x) = x
select_end_of _ = se.Bit

abbrev pub brace_end_of : Value → BraceEnd
brace_end_of (v.BraceEnd x) = x
brace_end_of _ = be.Concatenation []

abbrev pub left_of : Value → LeftSide
left_of (v.LeftSide x) = x
left_of _ = l.Concatenation no_span []

abbrev pub lefts_of : Value → List LeftSide
lefts_of (v.LeftSides x) = x
lefts_of _ = []

abbrev pub stmt_of : Value → Stmt
stmt_of (v.Stmt x) = x
stmt_of _ = t.Null no_span

abbrev pub option_stmt_of : Value → Option Stmt
option_stmt_of (v.Stmt x) = Some x
option_stmt_of _ = None

abbrev pub stmts_of : Value → List Stmt
stmts_of (v.Stmts x) = x
stmts_of _ = []

abbrev pub sign_of : Value → AssignmentSign
sign_of (v.Sign x) = x
sign_of _ = sg.Blocking no_span

abbrev pub case_keyword_of : Value → CaseKeyword
case_keyword_of (v.CaseKeyword x) = x
case_keyword_of _ = record { span = no_span; kind = ck.Case }

abbrev pub case_item_of : Value → CaseItem
case_item_of (v.CaseItem x) = x
case_item_of _ = roll-CaseItem (record { span = no_span; labels = []; body = t.Null no_span })

abbrev pub case_items_of : Value → List CaseItem
case_items_of (v.CaseItems x) = x
case_items_of _ = []

abbrev pub event_of : Value → EventExpression
event_of (v.Event x) = x
event_of _ = record { edge = ed.Any; name = no_identifier }

abbrev pub events_of : Value → List EventExpression
events_of (v.Events x) = x
events_of _ = []

abbrev pub event_control_of : Value → EventControl
event_control_of (v.EventControl x) = x
event_control_of _ = ec.Implicit

abbrev pub argument_of : Value → Argument
argument_of (v.Argument x) = x
argument_of _ = ar.Expr no_expr

abbrev pub arguments_of : Value → List Argument
arguments_of (v.Arguments x) = x
arguments_of _ = []

abbrev pub vector_of : Value → VectorType
vector_of (v.Vector x) = x
vector_of _ = record { is_signed = false; range = None }

abbrev pub declared_of : Value → DeclaredName
declared_of (v.DeclaredName x) = x
declared_of _ = record { name = no_identifier; initial = None }

abbrev pub declareds_of : Value → List DeclaredName
declareds_of (v.DeclaredNames x) = x
declareds_of _ = []

abbrev pub parameter_type_of : Value → ParameterType
parameter_type_of (v.ParameterType x) = x
parameter_type_of _ = pt.Integer

abbrev pub parameter_of : Value → ParameterAssignment
parameter_of (v.Parameter x) = x
parameter_of _ = record { name = no_identifier; value = no_expr }

abbrev pub parameters_of : Value → List ParameterAssignment
parameters_of (v.Parameters x) = x
parameters_of _ = []

abbrev pub output_names_of : Value → OutputNames
output_names_of (v.OutputNames x) = x
output_names_of _ = record { data_type = dt.Integer; names = [] }

abbrev pub range_of : Value → Option Range
range_of (v.Range x) = Some x
range_of _ = None

abbrev pub assignment_of : Value → Assignment
assignment_of (v.Assignment x) = x
assignment_of _ = record { left = l.Concatenation no_span []; span = no_span; value = no_expr }

abbrev pub assignments_of : Value → List Assignment
assignments_of (v.Assignments x) = x
assignments_of _ = []

abbrev pub parameter_values_of : Value → ParameterValues
parameter_values_of (v.ParameterValues x) = x
parameter_values_of _ = no_parameter_values

abbrev pub connection_of : Value → NamedConnection
connection_of (v.Connection x) = x
connection_of _ = record { name = no_identifier; value = None }

abbrev pub connections_of : Value → List NamedConnection
connections_of (v.NamedConnections x) = x
connections_of _ = []

abbrev pub ordered_of : Value → List (Option Expr)
ordered_of (v.OrderedConnections x) = x
ordered_of _ = []

abbrev pub ports_of : Value → Connections
ports_of (v.Connections x) = x
ports_of _ = co.Ordered []

abbrev pub instance_of : Value → Instance
instance_of (v.Instance x) = x
instance_of _ = record { name = no_identifier; ports = co.Ordered [] }

abbrev pub instances_of : Value → List Instance
instances_of (v.Instances x) = x
instances_of _ = []

abbrev pub item_of : Value → Item
item_of (v.Item x) = x
item_of _ = i.NullGenerate no_span

abbrev pub option_item_of : Value → Option Item
option_item_of (v.Item x) = Some x
option_item_of _ = None

abbrev pub items_of : Value → List Item
items_of (v.Items x) = x
items_of _ = []

abbrev pub delay_of : Value → Option Delay
delay_of (v.Delay x) = Some x
delay_of _ = None

abbrev pub modules_of : Value → List Module
modules_of (v.Modules x) = x
modules_of _ = []

abbrev pub parameter_ports_of : Value → List ParameterDeclaration
parameter_ports_of (v.ParameterDeclarations x) = x
parameter_ports_of _ = []

abbrev pub parameter_port_of : Value → ParameterPort
parameter_port_of (v.ParameterPort x) = x
parameter_port_of _ = pp.Next (record { name = no_identifier; value = no_expr })

abbrev pub more_parameters_of : Value → MoreParameters
more_parameters_of (v.MoreParameters x) = x
more_parameters_of _ = no_more_parameters

abbrev pub port_list_of : Value → Ports
port_list_of (v.Ports x) = x
port_list_of _ = no_ports

abbrev pub declarations_of : Value → List PortDeclaration
declarations_of (v.PortDeclarations x) = x
declarations_of _ = []

abbrev pub more_ports_of : Value → MorePorts
more_ports_of (v.MorePorts x) = x
more_ports_of _ = no_more_ports

abbrev pub output_ports_of : Value → OutputPorts
output_ports_of (v.OutputPorts x) = x
output_ports_of _ = record { data_type = dt.Integer; names = []; others = [] }

abbrev pub identifiers_of : Value → List Identifier
identifiers_of (v.Identifiers x) = x
identifiers_of _ = []

abbrev place_of : Option Token → Span
place_of None = no_span
place_of (Some t) = t.span

abbrev pub span_of : Value → Span
span_of x = place_of (token_of x)
