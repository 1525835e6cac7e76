-- A part that is not of the kind that is asked for.
use Rattle.std.proofs.Common.{true, ◌≡◌, List, [], Option, None, refl}
use Rattle.vlog_token.specs.declared.token.Token.{Token}
use Rattle.vlog_syntax.specs.declared.identifier.Identifier.{Identifier}
use Rattle.vlog_syntax.specs.declared.expr.Expr.{Expr}
use Rattle.vlog_syntax.specs.declared.left_side.LeftSide.{LeftSide}
use Rattle.vlog_syntax.specs.declared.stmt.Stmt.{Stmt}
use Rattle.vlog_syntax.specs.declared.stmt.CaseItem.{CaseItem}
use Rattle.vlog_syntax.specs.declared.stmt.EventExpression.{EventExpression}
use Rattle.vlog_syntax.specs.declared.stmt.EventControl.{EventControl}
use Rattle.vlog_syntax.specs.declared.stmt.Argument.{Argument}
use Rattle.vlog_syntax.specs.declared.stmt.Assignment.{Assignment}
use Rattle.vlog_syntax.specs.declared.item.Range.{Range}
use Rattle.vlog_syntax.specs.declared.item.VectorType.{VectorType}
use Rattle.vlog_syntax.specs.declared.item.DeclaredName.{DeclaredName}
use Rattle.vlog_syntax.specs.declared.item.PortDeclaration.{PortDeclaration}
use Rattle.vlog_syntax.specs.declared.item.ParameterType.{ParameterType}
use Rattle.vlog_syntax.specs.declared.item.ParameterAssignment.{ParameterAssignment}
use Rattle.vlog_syntax.specs.declared.item.ParameterDeclaration.{ParameterDeclaration}
use Rattle.vlog_syntax.specs.declared.item.Ports.{Ports}
use Rattle.vlog_syntax.specs.declared.item.NamedConnection.{NamedConnection}
use Rattle.vlog_syntax.specs.declared.item.Connections.{Connections}
use Rattle.vlog_syntax.specs.declared.item.ParameterValues.{ParameterValues}
use Rattle.vlog_syntax.specs.declared.item.Instance.{Instance}
use Rattle.vlog_syntax.specs.declared.item.Delay.{Delay}
use Rattle.vlog_syntax.specs.declared.item.Item.{Item}
use Rattle.vlog_syntax.specs.declared.module.Module.{Module}
use Rattle.vlog_parts.specs.declared.expression_parts.Link.{Link}
use Rattle.vlog_parts.specs.declared.expression_parts.Select.{Select}
use Rattle.vlog_parts.specs.declared.expression_parts.SelectEnd.{SelectEnd}
use Rattle.vlog_parts.specs.declared.expression_parts.BraceEnd.{BraceEnd}
use Rattle.vlog_parts.specs.declared.statement_parts.AssignmentSign.{AssignmentSign}
use Rattle.vlog_parts.specs.declared.statement_parts.CaseKeyword.{CaseKeyword}
use Rattle.vlog_parts.specs.declared.declaration_parts.OutputNames.{OutputNames}
use Rattle.vlog_parts.specs.declared.module_parts.ParameterPort.{ParameterPort}
use Rattle.vlog_parts.specs.declared.module_parts.MoreParameters.{MoreParameters}
use Rattle.vlog_parts.specs.declared.module_parts.MorePorts.{MorePorts}
use Rattle.vlog_parts.specs.declared.module_parts.OutputPorts.{OutputPorts}
use Rattle.vlog_parts.specs.declared.value.Value.{Value}
use Rattle.vlog_parts.specs.declared.value.Value.TheVariants as v
use Rattle.vlog_parts.specs.Sorts.{is_expr, is_select_end, is_brace_end, is_left, is_stmt, is_sign, is_case_keyword, is_case_item, is_event, is_event_control, is_argument, is_vector, is_declared, is_parameter_type, is_parameter, is_output_names, is_assignment, is_connection, is_ports, is_instance, is_item, is_parameter_port, is_output_ports, is_identifier}
use Rattle.vlog_parts.specs.Values.{exprs_of, chain_of, select_of, lefts_of, stmts_of, case_items_of, events_of, arguments_of, declareds_of, parameters_of, range_of, assignments_of, parameter_values_of, connections_of, ordered_of, instances_of, items_of, delay_of, modules_of, parameter_ports_of, more_parameters_of, port_list_of, declarations_of, more_ports_of, identifiers_of, option_expr_of, option_stmt_of, option_item_of, token_of, label_of, no_more_parameters, no_more_ports, no_parameter_values, no_ports}

pub not_token : (y : Value) → ((z : Token) → y ≡ v.Token z → ⊥) → token_of y ≡ None
not_token (v.Token z) h = absurd (h z refl)
not_token _ h = refl

pub only_identifier : (y : Value) → is_identifier y ≡ true → ((z : Identifier) → y ≡ v.Identifier z → ⊥) → ⊥
only_identifier (v.Identifier z) is h = h z refl
only_identifier _ is h = absurd cc

pub not_label : (y : Value) → ((z : Identifier) → y ≡ v.Identifier z → ⊥) → label_of y ≡ None
not_label (v.Identifier z) h = absurd (h z refl)
not_label _ h = refl

pub not_option_expr : (y : Value) → ((z : Expr) → y ≡ v.Expr z → ⊥) → option_expr_of y ≡ None
not_option_expr (v.Expr z) h = absurd (h z refl)
not_option_expr _ h = refl

pub only_expr : (y : Value) → is_expr y ≡ true → ((z : Expr) → y ≡ v.Expr z → ⊥) → ⊥
only_expr (v.Expr z) is h = h z refl
only_expr _ is h = absurd cc

pub not_exprs : (y : Value) → ((z : List Expr) → y ≡ v.Exprs z → ⊥) → exprs_of y ≡ []
not_exprs (v.Exprs z) h = absurd (h z refl)
not_exprs _ h = refl

pub not_chain : (y : Value) → ((z : List Link) → y ≡ v.Chain z → ⊥) → chain_of y ≡ []
not_chain (v.Chain z) h = absurd (h z refl)
not_chain _ h = refl

pub not_select : (y : Value) → ((x : Select) → y ≡ v.Select x → ⊥) → select_of y ≡ None
not_select (v.Select x) h = absurd (h x refl)
not_select _ h = refl

pub only_select_end : (y : Value) → is_select_end y ≡ true → ((x : SelectEnd) → y ≡ v.SelectEnd x → ⊥) → ⊥
only_select_end (v.SelectEnd x) is h = h x refl
only_select_end _ is h = absurd cc

pub only_brace_end : (y : Value) → is_brace_end y ≡ true → ((x : BraceEnd) → y ≡ v.BraceEnd x → ⊥) → ⊥
only_brace_end (v.BraceEnd x) is h = h x refl
only_brace_end _ is h = absurd cc

pub only_left : (y : Value) → is_left y ≡ true → ((x : LeftSide) → y ≡ v.LeftSide x → ⊥) → ⊥
only_left (v.LeftSide x) is h = h x refl
only_left _ is h = absurd cc

pub not_lefts : (y : Value) → ((x : List LeftSide) → y ≡ v.LeftSides x → ⊥) → lefts_of y ≡ []
not_lefts (v.LeftSides x) h = absurd (h x refl)
not_lefts _ h = refl

pub not_option_stmt : (y : Value) → ((z : Stmt) → y ≡ v.Stmt z → ⊥) → option_stmt_of y ≡ None
not_option_stmt (v.Stmt z) h = absurd (h z refl)
not_option_stmt _ h = refl

pub only_stmt : (y : Value) → is_stmt y ≡ true → ((z : Stmt) → y ≡ v.Stmt z → ⊥) → ⊥
only_stmt (v.Stmt z) is h = h z refl
only_stmt _ is h = absurd cc

pub not_stmts : (y : Value) → ((x : List Stmt) → y ≡ v.Stmts x → ⊥) → stmts_of y ≡ []
not_stmts (v.Stmts x) h = absurd (h x refl)
not_stmts _ h = refl

pub only_sign : (y : Value) → is_sign y ≡ true → ((x : AssignmentSign) → y ≡ v.Sign x → ⊥) → ⊥
only_sign (v.Sign x) is h = h x refl
only_sign _ is h = absurd cc

pub only_case_keyword : (y : Value) → is_case_keyword y ≡ true → ((x : CaseKeyword) → y ≡ v.CaseKeyword x → ⊥) → ⊥
only_case_keyword (v.CaseKeyword x) is h = h x refl
only_case_keyword _ is h = absurd cc

pub only_case_item : (y : Value) → is_case_item y ≡ true → ((x : CaseItem) → y ≡ v.CaseItem x → ⊥) → ⊥
only_case_item (v.CaseItem x) is h = h x refl
only_case_item _ is h = absurd cc

pub not_case_items : (y : Value) → ((x : List CaseItem) → y ≡ v.CaseItems x → ⊥) → case_items_of y ≡ []
not_case_items (v.CaseItems x) h = absurd (h x refl)
not_case_items _ h = refl

pub only_event : (y : Value) → is_event y ≡ true → ((x : EventExpression) → y ≡ v.Event x → ⊥) → ⊥
only_event (v.Event x) is h = h x refl
only_event _ is h = absurd cc

pub not_events : (y : Value) → ((x : List EventExpression) → y ≡ v.Events x → ⊥) → events_of y ≡ []
not_events (v.Events x) h = absurd (h x refl)
not_events _ h = refl

pub only_event_control : (y : Value) → is_event_control y ≡ true → ((x : EventControl) → y ≡ v.EventControl x → ⊥) → ⊥
only_event_control (v.EventControl x) is h = h x refl
only_event_control _ is h = absurd cc

pub only_argument : (y : Value) → is_argument y ≡ true → ((x : Argument) → y ≡ v.Argument x → ⊥) → ⊥
only_argument (v.Argument x) is h = h x refl
only_argument _ is h = absurd cc

pub not_arguments : (y : Value) → ((x : List Argument) → y ≡ v.Arguments x → ⊥) → arguments_of y ≡ []
not_arguments (v.Arguments x) h = absurd (h x refl)
not_arguments _ h = refl

pub only_vector : (y : Value) → is_vector y ≡ true → ((x : VectorType) → y ≡ v.Vector x → ⊥) → ⊥
only_vector (v.Vector x) is h = h x refl
only_vector _ is h = absurd cc

pub only_declared : (y : Value) → is_declared y ≡ true → ((x : DeclaredName) → y ≡ v.DeclaredName x → ⊥) → ⊥
only_declared (v.DeclaredName x) is h = h x refl
only_declared _ is h = absurd cc

pub not_declareds : (y : Value) → ((x : List DeclaredName) → y ≡ v.DeclaredNames x → ⊥) → declareds_of y ≡ []
not_declareds (v.DeclaredNames x) h = absurd (h x refl)
not_declareds _ h = refl

pub only_parameter_type : (y : Value) → is_parameter_type y ≡ true → ((x : ParameterType) → y ≡ v.ParameterType x → ⊥) → ⊥
only_parameter_type (v.ParameterType x) is h = h x refl
only_parameter_type _ is h = absurd cc

pub only_parameter : (y : Value) → is_parameter y ≡ true → ((x : ParameterAssignment) → y ≡ v.Parameter x → ⊥) → ⊥
only_parameter (v.Parameter x) is h = h x refl
only_parameter _ is h = absurd cc

pub not_parameters : (y : Value) → ((x : List ParameterAssignment) → y ≡ v.Parameters x → ⊥) → parameters_of y ≡ []
not_parameters (v.Parameters x) h = absurd (h x refl)
not_parameters _ h = refl

pub only_output_names : (y : Value) → is_output_names y ≡ true → ((x : OutputNames) → y ≡ v.OutputNames x → ⊥) → ⊥
only_output_names (v.OutputNames x) is h = h x refl
only_output_names _ is h = absurd cc

pub not_range : (y : Value) → ((x : Range) → y ≡ v.Range x → ⊥) → range_of y ≡ None
not_range (v.Range x) h = absurd (h x refl)
not_range _ h = refl

pub only_assignment : (y : Value) → is_assignment y ≡ true → ((x : Assignment) → y ≡ v.Assignment x → ⊥) → ⊥
only_assignment (v.Assignment x) is h = h x refl
only_assignment _ is h = absurd cc

pub not_assignments : (y : Value) → ((x : List Assignment) → y ≡ v.Assignments x → ⊥) → assignments_of y ≡ []
not_assignments (v.Assignments x) h = absurd (h x refl)
not_assignments _ h = refl

pub not_parameter_values : (y : Value) → ((x : ParameterValues) → y ≡ v.ParameterValues x → ⊥) → parameter_values_of y ≡ no_parameter_values
not_parameter_values (v.ParameterValues x) h = absurd (h x refl)
not_parameter_values _ h = refl

pub only_connection : (y : Value) → is_connection y ≡ true → ((x : NamedConnection) → y ≡ v.Connection x → ⊥) → ⊥
only_connection (v.Connection x) is h = h x refl
only_connection _ is h = absurd cc

pub not_connections : (y : Value) → ((x : List NamedConnection) → y ≡ v.NamedConnections x → ⊥) → connections_of y ≡ []
not_connections (v.NamedConnections x) h = absurd (h x refl)
not_connections _ h = refl

pub not_ordered : (y : Value) → ((x : List (Option Expr)) → y ≡ v.OrderedConnections x → ⊥) → ordered_of y ≡ []
not_ordered (v.OrderedConnections x) h = absurd (h x refl)
not_ordered _ h = refl

pub only_ports : (y : Value) → is_ports y ≡ true → ((x : Connections) → y ≡ v.Connections x → ⊥) → ⊥
only_ports (v.Connections x) is h = h x refl
only_ports _ is h = absurd cc

pub only_instance : (y : Value) → is_instance y ≡ true → ((x : Instance) → y ≡ v.Instance x → ⊥) → ⊥
only_instance (v.Instance x) is h = h x refl
only_instance _ is h = absurd cc

pub not_instances : (y : Value) → ((x : List Instance) → y ≡ v.Instances x → ⊥) → instances_of y ≡ []
not_instances (v.Instances x) h = absurd (h x refl)
not_instances _ h = refl

pub not_option_item : (y : Value) → ((z : Item) → y ≡ v.Item z → ⊥) → option_item_of y ≡ None
not_option_item (v.Item z) h = absurd (h z refl)
not_option_item _ h = refl

pub only_item : (y : Value) → is_item y ≡ true → ((z : Item) → y ≡ v.Item z → ⊥) → ⊥
only_item (v.Item z) is h = h z refl
only_item _ is h = absurd cc

pub not_items : (y : Value) → ((x : List Item) → y ≡ v.Items x → ⊥) → items_of y ≡ []
not_items (v.Items x) h = absurd (h x refl)
not_items _ h = refl

pub not_delay : (y : Value) → ((x : Delay) → y ≡ v.Delay x → ⊥) → delay_of y ≡ None
not_delay (v.Delay x) h = absurd (h x refl)
not_delay _ h = refl

pub not_modules : (y : Value) → ((x : List Module) → y ≡ v.Modules x → ⊥) → modules_of y ≡ []
not_modules (v.Modules x) h = absurd (h x refl)
not_modules _ h = refl

pub not_parameter_ports : (y : Value) → ((x : List ParameterDeclaration) → y ≡ v.ParameterDeclarations x → ⊥) → parameter_ports_of y ≡ []
not_parameter_ports (v.ParameterDeclarations x) h = absurd (h x refl)
not_parameter_ports _ h = refl

pub only_parameter_port : (y : Value) → is_parameter_port y ≡ true → ((x : ParameterPort) → y ≡ v.ParameterPort x → ⊥) → ⊥
only_parameter_port (v.ParameterPort x) is h = h x refl
only_parameter_port _ is h = absurd cc

pub not_more_parameters : (y : Value) → ((x : MoreParameters) → y ≡ v.MoreParameters x → ⊥) → more_parameters_of y ≡ no_more_parameters
not_more_parameters (v.MoreParameters x) h = absurd (h x refl)
not_more_parameters _ h = refl

pub not_port_list : (y : Value) → ((x : Ports) → y ≡ v.Ports x → ⊥) → port_list_of y ≡ no_ports
not_port_list (v.Ports x) h = absurd (h x refl)
not_port_list _ h = refl

pub not_declarations : (y : Value) → ((x : List PortDeclaration) → y ≡ v.PortDeclarations x → ⊥) → declarations_of y ≡ []
not_declarations (v.PortDeclarations x) h = absurd (h x refl)
not_declarations _ h = refl

pub not_more_ports : (y : Value) → ((x : MorePorts) → y ≡ v.MorePorts x → ⊥) → more_ports_of y ≡ no_more_ports
not_more_ports (v.MorePorts x) h = absurd (h x refl)
not_more_ports _ h = refl

pub only_output_ports : (y : Value) → is_output_ports y ≡ true → ((x : OutputPorts) → y ≡ v.OutputPorts x → ⊥) → ⊥
only_output_ports (v.OutputPorts x) is h = h x refl
only_output_ports _ is h = absurd cc

pub not_identifiers : (y : Value) → ((x : List Identifier) → y ≡ v.Identifiers x → ⊥) → identifiers_of y ≡ []
not_identifiers (v.Identifiers x) h = absurd (h x refl)
not_identifiers _ h = refl
