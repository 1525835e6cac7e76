-- Events and arguments of system tasks (IEEE 1364-2005, A.6.5, A.6.9): what each production means, from what its parts mean.
use Rattle.std.specs.Prelude.{List, [], ◌∷◌}
use Rattle.vlog_syntax.specs.declared.stmt.Edge.{Edge}
use Rattle.vlog_syntax.specs.declared.stmt.Edge.TheVariants as ed
use Rattle.vlog_syntax.specs.declared.stmt.EventControl.TheVariants as ec
use Rattle.vlog_syntax.specs.declared.stmt.Argument.TheVariants as ar
use Rattle.vlog_grammar.specs.declared.rule.Rule.{Rule}
use Rattle.vlog_grammar.specs.declared.rule.Rule.TheVariants as r
use Rattle.vlog_parts.specs.declared.value.Value.{Value}
use Rattle.vlog_parts.specs.declared.value.Value.TheVariants as v
use Rattle.vlog_parts.specs.Leaves.{string}
use Rattle.vlog_items.specs.Items.{made_item}
use Rattle.vlog_parts.specs.Numbered.{first, second, third}
use Rattle.vlog_parts.specs.Values.{span_of, token_of, identifier_of, expr_of, event_of, events_of, argument_of, arguments_of}

abbrev pub edge_event : Edge → List Value → Value
edge_event edge ms = v.Event (record { edge = edge; name = identifier_of (second ms) })

unfoldable pub made_event : Rule → List Value → Value
made_event r.EventAny ms = v.EventControl ec.Implicit
made_event r.EventIdentifier ms = v.EventControl (ec.List (record { edge = ed.Any; name = identifier_of (first ms) } ∷ []))
made_event r.EventAnyInParens ms = v.EventControl ec.Implicit
made_event r.EventList ms = v.EventControl (ec.List (event_of (first ms) ∷ events_of (second ms)))
made_event r.PosedgeEvent ms = edge_event ed.Posedge ms
made_event r.NegedgeEvent ms = edge_event ed.Negedge ms
made_event r.PlainEvent ms = v.Event (record { edge = ed.Any; name = identifier_of (first ms) })
made_event r.OrEvent ms = v.Events (event_of (second ms) ∷ events_of (third ms))
made_event r.CommaEvent ms = v.Events (event_of (second ms) ∷ events_of (third ms))
made_event r.FirstTaskArgument ms = v.Arguments (argument_of (first ms) ∷ arguments_of (second ms))
made_event r.NextTaskArgument ms = v.Arguments (argument_of (second ms) ∷ arguments_of (third ms))
made_event r.StringArgument ms = v.Argument (ar.String (string (token_of (first ms))) (span_of (first ms)))
made_event r.ExpressionArgument ms = v.Argument (ar.Expr (expr_of (first ms)))
made_event rule ms = made_item rule ms
