-- Statements (IEEE 1364-2005, A.6): what each production means, from what its parts mean.
use Rattle.std.specs.Prelude.{List, [], ◌∷◌}
use Rattle.vlog_syntax.specs.Places.{first_token}
use Rattle.vlog_syntax.specs.declared.expr.Expr.{Expr}
use Rattle.vlog_syntax.specs.declared.left_side.LeftSide.{LeftSide}
use Rattle.vlog_syntax.specs.declared.stmt.Stmt.{Stmt}
use Rattle.vlog_syntax.specs.declared.stmt.Stmt.TheVariants as t
use Rattle.vlog_syntax.specs.declared.stmt.CaseItem.{roll-CaseItem}
use Rattle.vlog_syntax.specs.declared.stmt.CaseKind.{CaseKind}
use Rattle.vlog_syntax.specs.declared.stmt.CaseKind.TheVariants as ck
use Rattle.vlog_grammar.specs.declared.rule.Rule.{Rule}
use Rattle.vlog_grammar.specs.declared.rule.Rule.TheVariants as r
use Rattle.vlog_parts.specs.declared.statement_parts.AssignmentSign.{AssignmentSign}
use Rattle.vlog_parts.specs.declared.statement_parts.AssignmentSign.TheVariants as sg
use Rattle.vlog_parts.specs.declared.value.Value.{Value}
use Rattle.vlog_parts.specs.declared.value.Value.TheVariants as v
use Rattle.vlog_parts.specs.Leaves.{identifier}
use Rattle.vlog_statements.specs.Events.{made_event}
use Rattle.vlog_items.specs.Items.{assignment}
use Rattle.vlog_parts.specs.Numbered.{first, second, third, fourth, fifth, sixth, seventh, ninth, tenth, eleventh, thirteenth}
use Rattle.vlog_parts.specs.Values.{span_of, token_of, label_of, expr_of, exprs_of, left_of, stmt_of, stmts_of, option_stmt_of, sign_of, case_keyword_of, case_item_of, case_items_of, event_control_of, arguments_of}

unfoldable pub assigned : LeftSide → AssignmentSign → Expr → Stmt
assigned x (sg.Blocking place) y = t.BlockingAssignment (record { left = x; span = place; value = y })
assigned x (sg.Nonblocking place) y = t.NonblockingAssignment (record { left = x; span = place; value = y })

abbrev pub case_keyword : CaseKind → List Value → Value
case_keyword kind ms = v.CaseKeyword (record { span = span_of (first ms); kind = kind })

abbrev pub system_task : List Value → Value
system_task ms = v.Stmt (t.SystemTaskEnable (identifier (token_of (first ms))) (arguments_of (second ms)))

unfoldable pub made_statement : Rule → List Value → Value
made_statement r.NullStatement ms = v.Stmt (t.Null (span_of (first ms)))
made_statement r.SeqBlock ms = v.Stmt (t.SeqBlock (span_of (first ms)) (label_of (second ms)) (stmts_of (third ms)))
made_statement r.ConditionalStatement ms = v.Stmt (t.Conditional (span_of (first ms)) (expr_of (third ms)) (stmt_of (fifth ms)) (option_stmt_of (sixth ms)))
made_statement r.CaseStatement ms = v.Stmt (t.Case (case_keyword_of (first ms)).span (case_keyword_of (first ms)).kind (expr_of (third ms)) (case_items_of (fifth ms)))
made_statement r.ForStatement ms = v.Stmt (t.For (span_of (first ms)) (assignment (third ms) (fourth ms) (fifth ms)) (expr_of (seventh ms)) (assignment (ninth ms) (tenth ms) (eleventh ms)) (stmt_of (thirteenth ms)))
made_statement r.WhileStatement ms = v.Stmt (t.While (span_of (first ms)) (expr_of (third ms)) (stmt_of (fifth ms)))
made_statement r.RepeatStatement ms = v.Stmt (t.Repeat (span_of (first ms)) (expr_of (third ms)) (stmt_of (fifth ms)))
made_statement r.ForeverStatement ms = v.Stmt (t.Forever (span_of (first ms)) (stmt_of (second ms)))
made_statement r.EventControlStatement ms = v.Stmt (t.EventControl (span_of (first ms)) (event_control_of (second ms)) (stmt_of (third ms)))
made_statement r.DelayControlStatement ms = v.Stmt (t.DelayControl (span_of (first ms)) (expr_of (second ms)) (stmt_of (third ms)))
made_statement r.UnaryFunctionEnable ms = system_task ms
made_statement r.SystemTaskEnable ms = system_task ms
made_statement r.Assignment ms = v.Stmt (assigned (left_of (first ms)) (sign_of (second ms)) (expr_of (third ms)))
made_statement r.Blocking ms = v.Sign (sg.Blocking (span_of (first ms)))
made_statement r.Nonblocking ms = v.Sign (sg.Nonblocking (span_of (first ms)))
made_statement r.MoreStatements ms = v.Stmts (stmt_of (first ms) ∷ stmts_of (second ms))
made_statement r.CaseExact ms = case_keyword ck.Case ms
made_statement r.CaseZ ms = case_keyword ck.Casez ms
made_statement r.CaseX ms = case_keyword ck.Casex ms
made_statement r.FirstCaseItem ms = v.CaseItems (case_item_of (first ms) ∷ case_items_of (second ms))
made_statement r.FirstDefault ms = v.CaseItems (case_item_of (first ms) ∷ case_items_of (second ms))
made_statement r.NextCaseItem ms = v.CaseItems (case_item_of (first ms) ∷ case_items_of (second ms))
made_statement r.NextDefault ms = v.CaseItems (case_item_of (first ms) ∷ case_items_of (second ms))
made_statement r.NextLabelledItem ms = v.CaseItems (case_item_of (first ms) ∷ case_items_of (second ms))
made_statement r.LabelledCaseItem ms = v.CaseItem (roll-CaseItem (record { span = first_token (expr_of (first ms)); labels = expr_of (first ms) ∷ exprs_of (second ms); body = stmt_of (fourth ms) }))
made_statement r.DefaultCaseItem ms = v.CaseItem (roll-CaseItem (record { span = span_of (first ms); labels = []; body = stmt_of (third ms) }))
made_statement rule ms = made_event rule ms
