use Rattle.std.proofs.Common.{◌∙◌, sym, arith}
use Rattle.tag_lines.specs.Grammar.{known_words, part}
use Rattle.tag_lines.proofs.PartList.{whole_end, whole_more, whole_none}
use Rattle.tag_lines.proofs.reading.+expression.Goals as goal

pub operands-returns-in_default : goal.operands-returns-in_default
operands-returns-in_default t c =
    let r = part (known_words c.args.tests.now c.args.names.now) c.args.room c.args.separator in
    sym (whole_none r c.args.separator c.parts.operands c.parts.rest.now c.args.tokens.now c.before-front.result.now c.front_len-len.result c.front_len-len.ensures.value c.before-front.ensures (sym c.in_ok-operand.ensures ∙ c.in_default.is) c.parts.invariant)

pub operands-returns-then-len-rest : goal.operands-returns-then-len-rest
operands-returns-then-len-rest t c =
    let r = part (known_words c.args.tests.now c.args.names.now) c.args.room c.args.separator in
    sym (whole_end r c.args.separator c.parts.operands c.parts.rest.now c.args.tokens.now c.before-front.result.now c.front_len-len.result c.in-Some.operand c.push.new.self c.front_len-len.ensures.value c.if-len-rest.true c.before-front.ensures (sym c.in_ok-operand.ensures ∙ c.in-Some.is) c.in_ok-push.ensures.ok c.parts.invariant)

pub operands-parts-preserved : goal.operands-parts-preserved
operands-parts-preserved t c =
    let r = part (known_words c.args.tests.now c.args.names.now) c.args.room c.args.separator in
    whole_more r c.args.separator c.parts.operands c.parts.rest.now c.args.tokens.now c.before-front.result.now c.behind-rest.result.now c.front_len-len.result c.in-Some.operand c.push.new.self c.front_len-len.ensures.value (omega (arith, c.front_len-len.ensures.shorter)) c.before-front.ensures (sym c.in_ok-operand.ensures ∙ c.in-Some.is) c.in_ok-push.ensures.ok c.behind-rest.ensures.value c.parts.invariant
