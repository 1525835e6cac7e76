-- Whether a part is of a sort. A part that is left out is of the sorts of lists and of options.
use Rattle.std.specs.Prelude.{Bool, true, false}
use Rattle.vlog_parts.specs.declared.value.Value.{Value}
use Rattle.vlog_parts.specs.declared.value.Value.TheVariants as v

abbrev pub is_identifier : Value → Bool
is_identifier (v.Identifier x) = true
is_identifier _ = false

abbrev pub is_label : Value → Bool
is_label v.Nothing = true
is_label (v.Identifier x) = true
is_label _ = false

abbrev pub is_expr : Value → Bool
is_expr (v.Expr x) = true
is_expr _ = false

abbrev pub is_option_expr : Value → Bool
is_option_expr v.Nothing = true
is_option_expr (v.Expr x) = true
is_option_expr _ = false

abbrev pub is_exprs : Value → Bool
is_exprs v.Nothing = true
is_exprs (v.Exprs x) = true
is_exprs _ = false

abbrev pub is_chain : Value → Bool
is_chain v.Nothing = true
is_chain (v.Chain x) = true
is_chain _ = false

abbrev pub is_select : Value → Bool
is_select v.Nothing = true
is_select (v.Select x) = true
is_select _ = false

abbrev pub is_select_end : Value → Bool
is_select_end (v.SelectEnd x) = true
is_select_end _ = false

abbrev pub is_brace_end : Value → Bool
is_brace_end (v.BraceEnd x) = true
is_brace_end _ = false

abbrev pub is_left : Value → Bool
is_left (v.LeftSide x) = true
is_left _ = false

abbrev pub is_lefts : Value → Bool
is_lefts v.Nothing = true
is_lefts (v.LeftSides x) = true
is_lefts _ = false

abbrev pub is_branches : Value → Bool
is_branches v.Nothing = true
is_branches (v.Branches x) = true
is_branches _ = false

abbrev pub is_stmt : Value → Bool
is_stmt (v.Stmt x) = true
is_stmt _ = false

abbrev pub is_option_stmt : Value → Bool
is_option_stmt v.Nothing = true
is_option_stmt (v.Stmt x) = true
is_option_stmt _ = false

abbrev pub is_stmts : Value → Bool
is_stmts v.Nothing = true
is_stmts (v.Stmts x) = true
is_stmts _ = false

abbrev pub is_sign : Value → Bool
is_sign (v.Sign x) = true
is_sign _ = false

abbrev pub is_case_keyword : Value → Bool
is_case_keyword (v.CaseKeyword x) = true
is_case_keyword _ = false

abbrev pub is_case_item : Value → Bool
is_case_item (v.CaseItem x) = true
is_case_item _ = false

abbrev pub is_case_items : Value → Bool
is_case_items v.Nothing = true
is_case_items (v.CaseItems x) = true
is_case_items _ = false

abbrev pub is_event : Value → Bool
is_event (v.Event x) = true
is_event _ = false

abbrev pub is_events : Value → Bool
is_events v.Nothing = true
is_events (v.Events x) = true
is_events _ = false

abbrev pub is_event_control : Value → Bool
is_event_control (v.EventControl x) = true
is_event_control _ = false

abbrev pub is_argument : Value → Bool
is_argument (v.Argument x) = true
is_argument _ = false

abbrev pub is_arguments : Value → Bool
is_arguments v.Nothing = true
is_arguments (v.Arguments x) = true
is_arguments _ = false

abbrev pub is_vector : Value → Bool
is_vector (v.Vector x) = true
is_vector _ = false

abbrev pub is_declared : Value → Bool
is_declared (v.DeclaredName x) = true
is_declared _ = false

abbrev pub is_declareds : Value → Bool
is_declareds v.Nothing = true
is_declareds (v.DeclaredNames x) = true
is_declareds _ = false

abbrev pub is_parameter_type : Value → Bool
is_parameter_type (v.ParameterType x) = true
is_parameter_type _ = false

abbrev pub is_parameter : Value → Bool
is_parameter (v.Parameter x) = true
is_parameter _ = false

abbrev pub is_parameters : Value → Bool
is_parameters v.Nothing = true
is_parameters (v.Parameters x) = true
is_parameters _ = false

abbrev pub is_output_names : Value → Bool
is_output_names (v.OutputNames x) = true
is_output_names _ = false

abbrev pub is_range : Value → Bool
is_range v.Nothing = true
is_range (v.Range x) = true
is_range _ = false

abbrev pub is_assignment : Value → Bool
is_assignment (v.Assignment x) = true
is_assignment _ = false

abbrev pub is_assignments : Value → Bool
is_assignments v.Nothing = true
is_assignments (v.Assignments x) = true
is_assignments _ = false

abbrev pub is_parameter_values : Value → Bool
is_parameter_values v.Nothing = true
is_parameter_values (v.ParameterValues x) = true
is_parameter_values _ = false

abbrev pub is_connection : Value → Bool
is_connection (v.Connection x) = true
is_connection _ = false

abbrev pub is_connections : Value → Bool
is_connections v.Nothing = true
is_connections (v.NamedConnections x) = true
is_connections _ = false

abbrev pub is_ordered : Value → Bool
is_ordered v.Nothing = true
is_ordered (v.OrderedConnections x) = true
is_ordered _ = false

abbrev pub is_ports : Value → Bool
is_ports (v.Connections x) = true
is_ports _ = false

abbrev pub is_instance : Value → Bool
is_instance (v.Instance x) = true
is_instance _ = false

abbrev pub is_instances : Value → Bool
is_instances v.Nothing = true
is_instances (v.Instances x) = true
is_instances _ = false

abbrev pub is_item : Value → Bool
is_item (v.Item x) = true
is_item _ = false

abbrev pub is_option_item : Value → Bool
is_option_item v.Nothing = true
is_option_item (v.Item x) = true
is_option_item _ = false

abbrev pub is_items : Value → Bool
is_items v.Nothing = true
is_items (v.Items x) = true
is_items _ = false

abbrev pub is_delay : Value → Bool
is_delay v.Nothing = true
is_delay (v.Delay x) = true
is_delay _ = false

abbrev pub is_modules : Value → Bool
is_modules v.Nothing = true
is_modules (v.Modules x) = true
is_modules _ = false

abbrev pub is_parameter_ports : Value → Bool
is_parameter_ports v.Nothing = true
is_parameter_ports (v.ParameterDeclarations x) = true
is_parameter_ports _ = false

abbrev pub is_parameter_port : Value → Bool
is_parameter_port (v.ParameterPort x) = true
is_parameter_port _ = false

abbrev pub is_more_parameters : Value → Bool
is_more_parameters v.Nothing = true
is_more_parameters (v.MoreParameters x) = true
is_more_parameters _ = false

abbrev pub is_port_list : Value → Bool
is_port_list v.Nothing = true
is_port_list (v.Ports x) = true
is_port_list _ = false

abbrev pub is_declarations : Value → Bool
is_declarations v.Nothing = true
is_declarations (v.PortDeclarations x) = true
is_declarations _ = false

abbrev pub is_more_ports : Value → Bool
is_more_ports v.Nothing = true
is_more_ports (v.MorePorts x) = true
is_more_ports _ = false

abbrev pub is_output_ports : Value → Bool
is_output_ports (v.OutputPorts x) = true
is_output_ports _ = false

abbrev pub is_identifiers : Value → Bool
is_identifiers v.Nothing = true
is_identifiers (v.Identifiers x) = true
is_identifiers _ = false
