-- The sort of each kind: what its parts mean. Attributes, a `:` and a refused `[` mean nothing that is asked for.
use Rattle.std.specs.Prelude.{Bool, true, false, ◌&&◌, List, [], ◌∷◌}
use Rattle.vlog_grammar.specs.declared.rule.Kind.{Kind}
use Rattle.vlog_grammar.specs.declared.rule.Kind.TheVariants as k
use Rattle.vlog_grammar.specs.declared.rule.Rule.{Rule}
use Rattle.vlog_grammar.specs.declared.table.Symbol.{Symbol}
use Rattle.vlog_grammar.specs.declared.table.Symbol.TheVariants.{Is, Refused, Of}
use Rattle.vlog_grammar.specs.Grammar.{parts_of}
use Rattle.vlog_parts.specs.declared.value.Value.{Value}
use Rattle.vlog_parts.specs.Sorts.{is_argument, is_arguments, is_assignment, is_assignments, is_brace_end, is_branches, is_case_item, is_case_items, is_case_keyword, is_chain, is_connection, is_connections, is_declarations, is_declared, is_declareds, is_delay, is_event, is_event_control, is_events, is_expr, is_exprs, is_identifier, is_identifiers, is_instance, is_instances, is_item, is_items, is_label, is_left, is_lefts, is_modules, is_more_parameters, is_more_ports, is_option_expr, is_option_item, is_option_stmt, is_ordered, is_output_names, is_output_ports, is_parameter, is_parameter_port, is_parameter_ports, is_parameter_type, is_parameter_values, is_parameters, is_port_list, is_ports, is_range, is_select, is_select_end, is_sign, is_stmt, is_stmts, is_vector}
use Rattle.vlog_parts.specs.Numbered.{first, rest}

unfoldable pub is_of_kind : Kind → Value → Bool
is_of_kind k.SourceText x = is_modules x
is_of_kind k.Identifier x = is_identifier x
is_of_kind k.ParameterPorts x = is_parameter_ports x
is_of_kind k.MoreParameterPorts x = is_more_parameters x
is_of_kind k.ParameterPort x = is_parameter_port x
is_of_kind k.PortList x = is_port_list x
is_of_kind k.Ports x = is_port_list x
is_of_kind k.MoreIdentifiers x = is_identifiers x
is_of_kind k.PortDeclaration x = is_declarations x
is_of_kind k.PortDirection x = is_declarations x
is_of_kind k.OutputPorts x = is_output_ports x
is_of_kind k.NetPorts x = is_more_ports x
is_of_kind k.NetPort x = is_more_ports x
is_of_kind k.VariablePorts x = is_more_ports x
is_of_kind k.VariablePort x = is_more_ports x
is_of_kind k.ModuleItems x = is_items x
is_of_kind k.ModuleItem x = is_item x
is_of_kind k.OutputNames x = is_output_names x
is_of_kind k.GenerateItems x = is_items x
is_of_kind k.GenerateItem x = is_item x
is_of_kind k.GenerateBlock x = is_item x
is_of_kind k.GenerateBlockOrNull x = is_item x
is_of_kind k.GenerateElse x = is_option_item x
is_of_kind k.BlockName x = is_label x
is_of_kind k.NetType x = is_vector x
is_of_kind k.SignedRange x = is_vector x
is_of_kind k.RangePart x = is_range x
is_of_kind k.DeclaredName x = is_declared x
is_of_kind k.MoreDeclaredNames x = is_declareds x
is_of_kind k.Variable x = is_declared x
is_of_kind k.InitialValue x = is_option_expr x
is_of_kind k.MoreVariables x = is_declareds x
is_of_kind k.ParameterType x = is_parameter_type x
is_of_kind k.ParamAssignment x = is_parameter x
is_of_kind k.MoreParamAssignments x = is_parameters x
is_of_kind k.DelayPart x = is_delay x
is_of_kind k.DelayValue x = is_expr x
is_of_kind k.NetAssignment x = is_assignment x
is_of_kind k.MoreNetAssignments x = is_assignments x
is_of_kind k.ParameterValues x = is_parameter_values x
is_of_kind k.ParameterList x = is_parameter_values x
is_of_kind k.ModuleInstance x = is_instance x
is_of_kind k.MoreModuleInstances x = is_instances x
is_of_kind k.Connections x = is_ports x
is_of_kind k.NamedConnection x = is_connection x
is_of_kind k.MoreNamedConnections x = is_connections x
is_of_kind k.MoreOrderedConnections x = is_ordered x
is_of_kind k.ExpressionPart x = is_option_expr x
is_of_kind k.MoreExpressions x = is_exprs x
is_of_kind k.Statement x = is_stmt x
is_of_kind k.StatementItem x = is_stmt x
is_of_kind k.AssignmentOperator x = is_sign x
is_of_kind k.Statements x = is_stmts x
is_of_kind k.ElsePart x = is_option_stmt x
is_of_kind k.CaseKeyword x = is_case_keyword x
is_of_kind k.CaseItems x = is_case_items x
is_of_kind k.MoreCaseItems x = is_case_items x
is_of_kind k.LabelledItems x = is_case_items x
is_of_kind k.CaseItem x = is_case_item x
is_of_kind k.DefaultItem x = is_case_item x
is_of_kind k.EventControl x = is_event_control x
is_of_kind k.EventExpressions x = is_event_control x
is_of_kind k.EventExpression x = is_event x
is_of_kind k.MoreEventExpressions x = is_events x
is_of_kind k.TaskArguments x = is_arguments x
is_of_kind k.TaskArgumentList x = is_arguments x
is_of_kind k.MoreTaskArguments x = is_arguments x
is_of_kind k.TaskArgument x = is_argument x
is_of_kind k.LeftSide x = is_left x
is_of_kind k.MoreLeftSides x = is_lefts x
is_of_kind k.SelectPart x = is_select x
is_of_kind k.SelectEnd x = is_select_end x
is_of_kind k.Expression x = is_expr x
is_of_kind k.PowerChain x = is_chain x
is_of_kind k.ProductChain x = is_chain x
is_of_kind k.SumChain x = is_chain x
is_of_kind k.ShiftChain x = is_chain x
is_of_kind k.RelationChain x = is_chain x
is_of_kind k.EqualityChain x = is_chain x
is_of_kind k.AndChain x = is_chain x
is_of_kind k.XorChain x = is_chain x
is_of_kind k.OrChain x = is_chain x
is_of_kind k.LogicalAndChain x = is_chain x
is_of_kind k.LogicalOrChain x = is_chain x
is_of_kind k.ConditionPart x = is_branches x
is_of_kind k.Operand x = is_expr x
is_of_kind k.FunctionArguments x = is_exprs x
is_of_kind k.BraceEnd x = is_brace_end x
is_of_kind _ x = true

-- a token is taken as it stands, and nothing is made of what is refused
abbrev pub is_of : Symbol → Value → Bool
is_of (Is c) x = true
is_of (Refused c f) x = false
is_of (Of k) x = is_of_kind k x

abbrev pub are_of : List Symbol → List Value → Bool
are_of [] ms = true
are_of (s ∷ ss) ms = is_of s (first ms) && are_of ss (rest ms)

-- the parts are of the sorts of the production's kinds
abbrev pub sorted : Rule → List Value → Bool
sorted rule ms = are_of (parts_of rule) ms
