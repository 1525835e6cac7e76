-- Items (IEEE 1364-2005, A.1.4, A.4, A.6.1): what each production means, from what its parts mean.
use Rattle.std.specs.Prelude.{List, [], ◌∷◌, Option, Some, None}
use Rattle.vlog_syntax.specs.declared.expr.Expr.{Expr}
use Rattle.vlog_syntax.specs.declared.item.ProcessKind.{ProcessKind}
use Rattle.vlog_syntax.specs.declared.item.ProcessKind.TheVariants as pr
use Rattle.vlog_syntax.specs.declared.item.ParameterValues.TheVariants as pv
use Rattle.vlog_syntax.specs.declared.item.Connections.TheVariants as co
use Rattle.vlog_syntax.specs.declared.item.GenerateLoop.{GenerateLoop}
use Rattle.vlog_syntax.specs.declared.item.PlainItem.TheVariants as p
use Rattle.vlog_syntax.specs.declared.stmt.Assignment.{Assignment}
use Rattle.vlog_syntax.specs.declared.item.Item.TheVariants as i
use Rattle.vlog_grammar.specs.declared.rule.Rule.{Rule}
use Rattle.vlog_grammar.specs.declared.rule.Rule.TheVariants as r
use Rattle.vlog_parts.specs.declared.value.Value.{Value}
use Rattle.vlog_parts.specs.declared.value.Value.TheVariants as v
use Rattle.vlog_parts.specs.Leaves.{identifier}
use Rattle.vlog_declarations.specs.Declarations.{made_declaration, plain}
use Rattle.vlog_parts.specs.Numbered.{first, second, third, fourth, fifth, sixth, seventh, ninth, eleventh, thirteenth}
use Rattle.vlog_parts.specs.Values.{span_of, token_of, identifier_of, label_of, expr_of, exprs_of, option_expr_of, left_of, stmt_of, delay_of, assignment_of, assignments_of, parameter_values_of, connection_of, connections_of, ordered_of, ports_of, instance_of, instances_of, item_of, items_of, option_item_of}

-- `left = value`
abbrev pub assignment : Value → Value → Value → Assignment
assignment x y z = record { left = left_of x; span = span_of y; value = expr_of z }

abbrev pub process : ProcessKind → List Value → Value
process kind ms = plain (p.Process (record { span = span_of (first ms); kind = kind; body = stmt_of (second ms) }))

-- ports by place, where one that is left empty, alone, is none
unfoldable pub placed : Option Expr → List (Option Expr) → List (Option Expr)
placed None [] = []
placed (Some x) ys = Some x ∷ ys
placed None (y ∷ ys) = None ∷ y ∷ ys

-- `for ( Identifier = Expression ; Expression ; Identifier = Expression`
abbrev pub generate_loop : List Value → GenerateLoop
generate_loop ms = record { span = span_of (first ms); name = identifier_of (third ms); start = expr_of (fifth ms); condition = expr_of (seventh ms); step_name = identifier_of (ninth ms); step = expr_of (eleventh ms) }

unfoldable pub made_item : Rule → List Value → Value
made_item r.MoreModuleItems ms = v.Items (item_of (second ms) ∷ items_of (third ms))
made_item r.MoreGenerateItems ms = v.Items (item_of (second ms) ∷ items_of (third ms))
made_item r.GenerateRegion ms = v.Item (i.GenerateRegion (span_of (first ms)) (items_of (second ms)))
made_item r.ContinuousAssign ms = plain (p.ContinuousAssign (span_of (first ms)) (delay_of (second ms)) (assignment_of (third ms) ∷ assignments_of (fourth ms)))
made_item r.AlwaysConstruct ms = process pr.Always ms
made_item r.InitialConstruct ms = process pr.Initial ms
made_item r.ModuleInstantiation ms = plain (p.ModuleInstantiation (identifier (token_of (first ms))) (parameter_values_of (second ms)) (instance_of (third ms) ∷ instances_of (fourth ms)))
made_item r.LoopGenerate ms = v.Item (i.LoopGenerate (generate_loop ms) (item_of (thirteenth ms)))
made_item r.ConditionalGenerate ms = v.Item (i.IfGenerate (span_of (first ms)) (expr_of (third ms)) (item_of (fifth ms)) (option_item_of (sixth ms)))
made_item r.GenerateBeginEnd ms = v.Item (i.GenerateBlock (span_of (first ms)) (label_of (second ms)) (items_of (third ms)))
made_item r.NullGenerate ms = v.Item (i.NullGenerate (span_of (first ms)))
made_item r.SomeDelay ms = v.Delay (record { span = span_of (first ms); value = expr_of (second ms) })
made_item r.NetAssigned ms = v.Assignment (assignment (first ms) (second ms) (third ms))
made_item r.NextNetAssignment ms = v.Assignments (assignment_of (second ms) ∷ assignments_of (third ms))
made_item r.NamedParameters ms = v.ParameterValues (pv.Named (connection_of (first ms) ∷ connections_of (second ms)))
made_item r.OrderedParameters ms = v.ParameterValues (pv.Ordered (expr_of (first ms) ∷ exprs_of (second ms)))
made_item r.InstanceOfModule ms = v.Instance (record { name = identifier_of (first ms); ports = ports_of (third ms) })
made_item r.NextModuleInstance ms = v.Instances (instance_of (second ms) ∷ instances_of (third ms))
made_item r.NamedConnections ms = v.Connections (co.Named (connection_of (first ms) ∷ connections_of (second ms)))
made_item r.OrderedConnections ms = v.Connections (co.Ordered (placed (option_expr_of (first ms)) (ordered_of (second ms))))
made_item r.ConnectionByName ms = v.Connection (record { name = identifier_of (second ms); value = option_expr_of (fourth ms) })
made_item r.NextNamedConnection ms = v.NamedConnections (connection_of (second ms) ∷ connections_of (third ms))
made_item r.NextOrderedConnection ms = v.OrderedConnections (option_expr_of (second ms) ∷ ordered_of (third ms))
made_item rule ms = made_declaration rule ms
