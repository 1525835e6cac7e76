-- How deep a part nests, by its kind.
use Rattle.std.specs.Prelude.{ℕ, ◌+◌, max, Bool, true, false, List, [], ◌∷◌, map, Option, Some, None}
use Rattle.vlog_parse.proofs.Common.{Expr, Stmt, Item, ParameterAssignment, greatest, expr_nest, part_nest, left_nest, assignment_nest, argument_nest, stmt_nest, case_item_nest, range_nest}
use Rattle.vlog_parse.proofs.Common.{data_type_nest, names_nest, port_nest, parameter_type_nest, parameter_nest, delay_nest, named_nest, connections_nest, parameter_values_nest, block_nest, item_nest}
use Rattle.vlog_parse.proofs.Common.{ports_nest, Kind, Symbol, Is, Refused, Of, BraceEnd, Select, SelectEnd, MoreParameters, ParameterPort, Value}
use Rattle.vlog_syntax.specs.declared.item.Instance.{Instance}
use Rattle.vlog_syntax.specs.declared.item.ParameterDeclaration.{ParameterDeclaration}
use Rattle.vlog_grammar.specs.declared.rule.Kind.TheVariants as k
use Rattle.vlog_parts.specs.declared.declaration_parts.OutputNames.{OutputNames}
use Rattle.vlog_parts.specs.declared.expression_parts.BraceEnd.TheVariants as be
use Rattle.vlog_parts.specs.declared.expression_parts.Select.TheVariants as s
use Rattle.vlog_parts.specs.declared.expression_parts.SelectEnd.TheVariants as se
use Rattle.vlog_parts.specs.declared.module_parts.MorePorts.{MorePorts}
use Rattle.vlog_parts.specs.declared.module_parts.OutputPorts.{OutputPorts}
use Rattle.vlog_parts.specs.declared.module_parts.ParameterPort.TheVariants as pp
use Rattle.vlog_parts.specs.Values.{argument_of, arguments_of, assignment_of, assignments_of, brace_end_of, case_item_of, case_items_of, connection_of, connections_of, declarations_of, declared_of}
use Rattle.vlog_parts.specs.Values.{declareds_of, delay_of, expr_of, exprs_of, instance_of, instances_of, item_of, items_of, left_of, lefts_of, more_parameters_of, more_ports_of, option_expr_of}
use Rattle.vlog_parts.specs.Values.{option_item_of, option_stmt_of, ordered_of, output_names_of, output_ports_of, parameter_of, parameter_port_of, parameter_ports_of, parameter_type_of}
use Rattle.vlog_parts.specs.Values.{parameter_values_of, parameters_of, port_list_of, ports_of, range_of, select_end_of, select_of, stmt_of, stmts_of, vector_of}

abbrev pub else_block_nest : Option Item → ℕ
else_block_nest None = 0
else_block_nest (Some x) = block_nest x

abbrev pub else_stmt_nest : Option Stmt → ℕ
else_stmt_nest None = 0
else_stmt_nest (Some x) = stmt_nest x

-- a system function with these arguments
abbrev pub arguments_nest : List Expr → ℕ
arguments_nest [] = 0
arguments_nest (x ∷ xs) = max (expr_nest x) (greatest (map expr_nest xs)) + 1

abbrev pub select_nest : Option Select → ℕ
select_nest None = 0
select_nest (Some (s.Bit place x)) = expr_nest x + 1
select_nest (Some (s.Part place x y)) = max (expr_nest x) (expr_nest y) + 1
select_nest (Some (s.Indexed place x y)) = max (expr_nest x) (expr_nest y) + 1

abbrev pub select_end_nest : SelectEnd → ℕ
select_end_nest se.Bit = 0
select_end_nest (se.Part y) = expr_nest y
select_end_nest (se.Indexed y) = expr_nest y

abbrev pub brace_end_nest : BraceEnd → ℕ
brace_end_nest (be.Concatenation xs) = greatest (map expr_nest xs)
brace_end_nest (be.Replication xs) = greatest (map expr_nest xs)

abbrev pub values_nest : List ParameterAssignment → ℕ
values_nest xs = greatest (map (λ y. expr_nest y.value) xs)

abbrev pub declared_nest : List ParameterDeclaration → ℕ
declared_nest xs = greatest (map parameter_nest xs)

abbrev pub more_parameters_nest : MoreParameters → ℕ
more_parameters_nest x = max (values_nest x.same) (declared_nest x.others)

abbrev pub parameter_port_nest : ParameterPort → ℕ
parameter_port_nest (pp.Next x) = expr_nest x.value
parameter_port_nest (pp.First place type x) = max (parameter_type_nest type) (expr_nest x.value)

abbrev pub more_ports_nest : MorePorts → ℕ
more_ports_nest x = max (names_nest x.same) (greatest (map port_nest x.others))

abbrev pub output_ports_nest : OutputPorts → ℕ
output_ports_nest x = max (data_type_nest x.data_type) (max (names_nest x.names) (greatest (map port_nest x.others)))

abbrev pub output_names_nest : OutputNames → ℕ
output_names_nest x = max (data_type_nest x.data_type) (names_nest x.names)

abbrev pub instances_nest : List Instance → ℕ
instances_nest xs = greatest (map (λ (x : Instance). connections_nest x.ports) xs)

-- An item as a block nests one deeper than among others. A chain of operators lies round what stands left of it, and is
-- looked at with that.
unfoldable pub nest : Kind → Value → ℕ
nest k.ParameterPorts x = declared_nest (parameter_ports_of x)
nest k.MoreParameterPorts x = more_parameters_nest (more_parameters_of x)
nest k.ParameterPort x = parameter_port_nest (parameter_port_of x)
nest k.PortList x = ports_nest (port_list_of x)
nest k.Ports x = ports_nest (port_list_of x)
nest k.PortDeclaration x = greatest (map port_nest (declarations_of x))
nest k.PortDirection x = greatest (map port_nest (declarations_of x))
nest k.OutputPorts x = output_ports_nest (output_ports_of x)
nest k.NetPorts x = more_ports_nest (more_ports_of x)
nest k.NetPort x = more_ports_nest (more_ports_of x)
nest k.VariablePorts x = more_ports_nest (more_ports_of x)
nest k.VariablePort x = more_ports_nest (more_ports_of x)
nest k.ModuleItems x = greatest (map item_nest (items_of x))
nest k.ModuleItem x = item_nest (item_of x)
nest k.OutputNames x = output_names_nest (output_names_of x)
nest k.GenerateItems x = greatest (map item_nest (items_of x))
nest k.GenerateItem x = item_nest (item_of x)
nest k.GenerateBlock x = block_nest (item_of x)
nest k.GenerateBlockOrNull x = block_nest (item_of x)
nest k.GenerateElse x = else_block_nest (option_item_of x)
nest k.NetType x = range_nest (vector_of x).range
nest k.SignedRange x = range_nest (vector_of x).range
nest k.RangePart x = range_nest (range_of x)
nest k.DeclaredName x = part_nest (declared_of x).initial
nest k.Variable x = part_nest (declared_of x).initial
nest k.MoreDeclaredNames x = names_nest (declareds_of x)
nest k.MoreVariables x = names_nest (declareds_of x)
nest k.InitialValue x = part_nest (option_expr_of x)
nest k.ExpressionPart x = part_nest (option_expr_of x)
nest k.ParameterType x = parameter_type_nest (parameter_type_of x)
nest k.ParamAssignment x = expr_nest (parameter_of x).value
nest k.MoreParamAssignments x = values_nest (parameters_of x)
nest k.DelayPart x = delay_nest (delay_of x)
nest k.DelayValue x = expr_nest (expr_of x)
nest k.NetAssignment x = assignment_nest (assignment_of x)
nest k.MoreNetAssignments x = greatest (map assignment_nest (assignments_of x))
nest k.ParameterValues x = parameter_values_nest (parameter_values_of x)
nest k.ParameterList x = parameter_values_nest (parameter_values_of x)
nest k.ModuleInstance x = connections_nest (instance_of x).ports
nest k.MoreModuleInstances x = instances_nest (instances_of x)
nest k.Connections x = connections_nest (ports_of x)
nest k.NamedConnection x = part_nest (connection_of x).value
nest k.MoreNamedConnections x = named_nest (connections_of x)
nest k.MoreOrderedConnections x = greatest (map part_nest (ordered_of x))
nest k.MoreExpressions x = greatest (map expr_nest (exprs_of x))
nest k.Statement x = stmt_nest (stmt_of x)
nest k.StatementItem x = stmt_nest (stmt_of x)
nest k.Statements x = greatest (map stmt_nest (stmts_of x))
nest k.ElsePart x = else_stmt_nest (option_stmt_of x)
nest k.CaseItems x = greatest (map case_item_nest (case_items_of x))
nest k.MoreCaseItems x = greatest (map case_item_nest (case_items_of x))
nest k.LabelledItems x = greatest (map case_item_nest (case_items_of x))
nest k.CaseItem x = case_item_nest (case_item_of x)
nest k.DefaultItem x = case_item_nest (case_item_of x)
nest k.TaskArguments x = greatest (map argument_nest (arguments_of x))
nest k.TaskArgumentList x = greatest (map argument_nest (arguments_of x))
nest k.MoreTaskArguments x = greatest (map argument_nest (arguments_of x))
nest k.TaskArgument x = argument_nest (argument_of x)
nest k.LeftSide x = left_nest (left_of x)
nest k.MoreLeftSides x = greatest (map left_nest (lefts_of x))
nest k.SelectPart x = select_nest (select_of x)
nest k.SelectEnd x = select_end_nest (select_end_of x)
nest k.Expression x = expr_nest (expr_of x)
nest k.Operand x = expr_nest (expr_of x)
nest k.FunctionArguments x = arguments_nest (exprs_of x)
nest k.BraceEnd x = brace_end_nest (brace_end_of x)
nest _ x = 0

abbrev pub part_deep : Symbol → Value → ℕ
part_deep (Is c) x = 0
part_deep (Refused c f) x = 0
part_deep (Of k) x = nest k x

-- the kinds of chains, and of what stands behind a condition
unfoldable pub is_chained : Kind → Bool
is_chained k.PowerChain = true
is_chained k.ProductChain = true
is_chained k.SumChain = true
is_chained k.ShiftChain = true
is_chained k.RelationChain = true
is_chained k.EqualityChain = true
is_chained k.AndChain = true
is_chained k.XorChain = true
is_chained k.OrChain = true
is_chained k.LogicalAndChain = true
is_chained k.LogicalOrChain = true
is_chained k.ConditionPart = true
is_chained _ = false
