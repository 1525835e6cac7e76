use Rattle.tb_checks.proofs.Common.{◌++◌, sym, ap, ◌∙◌, take, map, add-one, arith, SystemFunction, least_at, least_nil, pair_of, randoms, all_randoms, call_random}
use Rattle.vlog_syntax.specs.declared.expr.Expr.TheOpen as e
use Rattle.vlog_syntax.specs.declared.expr.Expr.TheVariants as v
use Rattle.vlog_meaning.specs.Functions.{function_of}
use Rattle.tb_checks.proofs.Random.{random_parts, randoms_take}
use Rattle.tb_checks.proofs.randoms.+random.Goals as goal

pub random_in-returns-in-Number : goal.random_in-returns-in-Number
random_in-returns-in-Number t c = least_nil SystemFunction ∙ sym (ap (least_at SystemFunction) (random_parts c.args.expr.now (e.Number c.in-Number.field-0) (c.in-Number.is ∙ sym (v.rolls-Number c.in-Number.field-0))))

pub random_in-returns-in-Name : goal.random_in-returns-in-Name
random_in-returns-in-Name t c = least_nil SystemFunction ∙ sym (ap (least_at SystemFunction) (random_parts c.args.expr.now (e.Name c.in-Name.field-0) (c.in-Name.is ∙ sym (v.rolls-Name c.in-Name.field-0))))

pub random_in-returns-in-BitSelect : goal.random_in-returns-in-BitSelect
random_in-returns-in-BitSelect t c = (rw c.get.ensures at c.random_in.ensures) ∙ sym (ap (least_at SystemFunction) (random_parts c.args.expr.now (e.BitSelect c.in-BitSelect.field-0 c.in-BitSelect.field-1 c.in-BitSelect.index) (c.in-BitSelect.is ∙ sym (v.rolls-BitSelect c.in-BitSelect.field-0 c.in-BitSelect.field-1 c.in-BitSelect.index))))

pub random_in-returns-in-PartSelect : goal.random_in-returns-in-PartSelect
random_in-returns-in-PartSelect t c = pair_of SystemFunction (randoms c.in-PartSelect.msb) (randoms c.in-PartSelect.lsb) c.random_in-in-PartSelect.result c.random_in-in-PartSelect-2.result c.earlier.result c.earlier.ensures.earlier (rw c.get-in-PartSelect.ensures at c.random_in-in-PartSelect.ensures) (rw c.get-in-PartSelect-2.ensures at c.random_in-in-PartSelect-2.ensures) ∙ sym (ap (least_at SystemFunction) (random_parts c.args.expr.now (e.PartSelect c.in-PartSelect.field-0 c.in-PartSelect.field-1 c.in-PartSelect.msb c.in-PartSelect.lsb) (c.in-PartSelect.is ∙ sym (v.rolls-PartSelect c.in-PartSelect.field-0 c.in-PartSelect.field-1 c.in-PartSelect.msb c.in-PartSelect.lsb))))

pub random_in-returns-in-IndexedPartSelect : goal.random_in-returns-in-IndexedPartSelect
random_in-returns-in-IndexedPartSelect t c = pair_of SystemFunction (randoms c.in-IndexedPartSelect.base) (randoms c.in-IndexedPartSelect.width) c.random_in-in-IndexedPartSelect.result c.random_in-in-IndexedPartSelect-2.result c.earlier-in-IndexedPartSelect.result c.earlier-in-IndexedPartSelect.ensures.earlier (rw c.get-in-IndexedPartSelect.ensures at c.random_in-in-IndexedPartSelect.ensures) (rw c.get-in-IndexedPartSelect-2.ensures at c.random_in-in-IndexedPartSelect-2.ensures) ∙ sym (ap (least_at SystemFunction) (random_parts c.args.expr.now (e.IndexedPartSelect c.in-IndexedPartSelect.field-0 c.in-IndexedPartSelect.field-1 c.in-IndexedPartSelect.base c.in-IndexedPartSelect.width) (c.in-IndexedPartSelect.is ∙ sym (v.rolls-IndexedPartSelect c.in-IndexedPartSelect.field-0 c.in-IndexedPartSelect.field-1 c.in-IndexedPartSelect.base c.in-IndexedPartSelect.width))))

pub random_in-returns-in-Parenthesized : goal.random_in-returns-in-Parenthesized
random_in-returns-in-Parenthesized t c = (rw c.get-in-Parenthesized.ensures at c.random_in-in-Parenthesized.ensures) ∙ sym (ap (least_at SystemFunction) (random_parts c.args.expr.now (e.Parenthesized c.in-Parenthesized.field-0 c.in-Parenthesized.inner) (c.in-Parenthesized.is ∙ sym (v.rolls-Parenthesized c.in-Parenthesized.field-0 c.in-Parenthesized.inner))))

pub random_in-returns-in-Unary : goal.random_in-returns-in-Unary
random_in-returns-in-Unary t c = (rw c.get-in-Unary.ensures at c.random_in-in-Unary.ensures) ∙ sym (ap (least_at SystemFunction) (random_parts c.args.expr.now (e.Unary c.in-Unary.field-0 c.in-Unary.field-1 c.in-Unary.operand) (c.in-Unary.is ∙ sym (v.rolls-Unary c.in-Unary.field-0 c.in-Unary.field-1 c.in-Unary.operand))))

pub random_in-returns-in-Binary : goal.random_in-returns-in-Binary
random_in-returns-in-Binary t c = pair_of SystemFunction (randoms c.in-Binary.left) (randoms c.in-Binary.right) c.random_in-in-Binary.result c.random_in-in-Binary-2.result c.earlier-in-Binary.result c.earlier-in-Binary.ensures.earlier (rw c.get-in-Binary.ensures at c.random_in-in-Binary.ensures) (rw c.get-in-Binary-2.ensures at c.random_in-in-Binary-2.ensures) ∙ sym (ap (least_at SystemFunction) (random_parts c.args.expr.now (e.Binary c.in-Binary.field-0 c.in-Binary.field-1 c.in-Binary.left c.in-Binary.right) (c.in-Binary.is ∙ sym (v.rolls-Binary c.in-Binary.field-0 c.in-Binary.field-1 c.in-Binary.left c.in-Binary.right))))

pub random_in-returns-in-Conditional : goal.random_in-returns-in-Conditional
random_in-returns-in-Conditional t c = pair_of SystemFunction (randoms c.in-Conditional.condition) (randoms c.in-Conditional.yes ++ randoms c.in-Conditional.no) c.random_in-in-Conditional.result c.earlier-in-Conditional.result c.earlier-in-Conditional-2.result c.earlier-in-Conditional-2.ensures.earlier (rw c.get-in-Conditional.ensures at c.random_in-in-Conditional.ensures) (pair_of SystemFunction (randoms c.in-Conditional.yes) (randoms c.in-Conditional.no) c.random_in-in-Conditional-2.result c.random_in-in-Conditional-3.result c.earlier-in-Conditional.result c.earlier-in-Conditional.ensures.earlier (rw c.get-in-Conditional-2.ensures at c.random_in-in-Conditional-2.ensures) (rw c.get-in-Conditional-3.ensures at c.random_in-in-Conditional-3.ensures)) ∙ sym (ap (least_at SystemFunction) (random_parts c.args.expr.now (e.Conditional c.in-Conditional.field-0 c.in-Conditional.condition c.in-Conditional.yes c.in-Conditional.no) (c.in-Conditional.is ∙ sym (v.rolls-Conditional c.in-Conditional.field-0 c.in-Conditional.condition c.in-Conditional.yes c.in-Conditional.no))))

pub random_in-returns-in-Concatenation : goal.random_in-returns-in-Concatenation
random_in-returns-in-Concatenation t c = (rw c.as_slice.ensures at c.random_in_all.ensures) ∙ sym (ap (least_at SystemFunction) (random_parts c.args.expr.now (e.Concatenation c.in-Concatenation.field-0 c.in-Concatenation.parts) (c.in-Concatenation.is ∙ sym (v.rolls-Concatenation c.in-Concatenation.field-0 c.in-Concatenation.parts))))

pub random_in-returns-in-MultipleConcatenation : goal.random_in-returns-in-MultipleConcatenation
random_in-returns-in-MultipleConcatenation t c = pair_of SystemFunction (randoms c.in-MultipleConcatenation.times) (all_randoms (map randoms c.in-MultipleConcatenation.parts)) c.random_in-in-MultipleConcatenation.result c.random_in_all-in-MultipleConcatenation.result c.earlier-in-MultipleConcatenation.result c.earlier-in-MultipleConcatenation.ensures.earlier (rw c.get-in-MultipleConcatenation.ensures at c.random_in-in-MultipleConcatenation.ensures) (rw c.as_slice-in-MultipleConcatenation.ensures at c.random_in_all-in-MultipleConcatenation.ensures) ∙ sym (ap (least_at SystemFunction) (random_parts c.args.expr.now (e.MultipleConcatenation c.in-MultipleConcatenation.field-0 c.in-MultipleConcatenation.times c.in-MultipleConcatenation.parts) (c.in-MultipleConcatenation.is ∙ sym (v.rolls-MultipleConcatenation c.in-MultipleConcatenation.field-0 c.in-MultipleConcatenation.times c.in-MultipleConcatenation.parts))))

pub random_in-returns-in-SystemFunctionCall : goal.random_in-returns-in-SystemFunctionCall
random_in-returns-in-SystemFunctionCall t c = pair_of SystemFunction (call_random (function_of c.in-SystemFunctionCall.name.name) c.in-SystemFunctionCall.name.span) (all_randoms (map randoms c.in-SystemFunctionCall.arguments)) c.call_random.result c.random_in_all-in-SystemFunctionCall.result c.earlier-in-SystemFunctionCall.result c.earlier-in-SystemFunctionCall.ensures.earlier c.call_random.ensures (rw c.as_slice-in-SystemFunctionCall.ensures at c.random_in_all-in-SystemFunctionCall.ensures) ∙ sym (ap (least_at SystemFunction) (random_parts c.args.expr.now (e.SystemFunctionCall c.in-SystemFunctionCall.name c.in-SystemFunctionCall.arguments) (c.in-SystemFunctionCall.is ∙ sym (v.rolls-SystemFunctionCall c.in-SystemFunctionCall.name c.in-SystemFunctionCall.arguments))))

pub random_in_all-loop-expr-init : goal.random_in_all-loop-expr-init
random_in_all-loop-expr-init t c = least_nil SystemFunction

pub random_in_all-loop-expr-preserved : goal.random_in_all-loop-expr-preserved
random_in_all-loop-expr-preserved t c =
    let more = randoms_take c.args.exprs.now c.loop-expr.expr-index c.expr-item.result c.expr-item.is (omega arith) in
    rw (add-one, more) (pair_of SystemFunction (all_randoms (map randoms (take c.loop-expr.expr-index c.args.exprs.now))) (randoms c.expr-item.result) c.loop-expr.found c.random_in.result c.earlier-found.result c.earlier-found.ensures.earlier c.loop-expr.invariant c.random_in.ensures)
