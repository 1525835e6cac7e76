use Rattle.vlog_grammar.proofs.Common.{ap, ◌∙◌, reverse, arith, List, ◌++◌, length, Symbol, start, Unexpected}
use Rattle.vlog_grammar.proofs.Stops.{unexpected_at, refused_at, taken_at, all_taken, unexpected_end, whole_read, not_asks, misfits, not_nothing, reaches_stack, fits_as, next_at, at_end, stopped_at}
use Rattle.vlog_grammar.proofs.Stops.{reaches_all}
use Rattle.vlog_grammar.proofs.reader.read.Goals as goal

pub loop-at-init : goal.loop-at-init
loop-at-init c = reaches_stack c.push.new.self.items c.new-steps.result.items c.new-steps.ensures.items (c.in_ok-push.ensures.items ∙ ap (λ (w : List Symbol). w ++ start) c.new-stack.ensures.items)

pub returns-in_default : goal.returns-in_default
returns-in_default c =
    stopped_at c.args.tokens.now c.loop-at.at (reverse c.loop-at.stack.items) c.loop-at.steps.items c.expand.new.steps.items _ _ _ c.unexpected.result _ _ c.loop-at.invariant c.in_ok-symbol.ensures.to (c.len-count.ensures ∙ c.loop-at.steps.ok.0) c.stopped.ensures.steps c.stopped.ensures.stop (c.unexpected.ensures c.args.tokens.now (unexpected_at c.args.tokens.now c.loop-at.at _ (reverse c.loop-at.stack.items) c.in_ok-symbol.field-0 (reverse c.expand.new.stack.items) c.loop-at.steps.items c.expand.new.steps.items c.loop-at-test.true c.loop-at.invariant c.in_ok-symbol.ensures.to c.in_ok-symbol.ensures.asked (not_asks c.in_ok-symbol.field-0 _ c.in_default.not-Asks)) (next_at c.args.tokens.now c.loop-at.at _ c.loop-at-test.true))

pub returns-in_default-fit : goal.returns-in_default-fit
returns-in_default-fit c =
    stopped_at c.args.tokens.now c.loop-at.at (reverse c.loop-at.stack.items) c.loop-at.steps.items c.expand.new.steps.items _ _ _ c.unexpected-in_default-fit.result _ _ c.loop-at.invariant c.in_ok-symbol.ensures.to (c.len-count.ensures ∙ c.loop-at.steps.ok.0) c.stopped-in_default-fit.ensures.steps c.stopped-in_default-fit.ensures.stop (c.unexpected-in_default-fit.ensures c.args.tokens.now (unexpected_at c.args.tokens.now c.loop-at.at _ (reverse c.loop-at.stack.items) c.in_ok-symbol.field-0 (reverse c.expand.new.stack.items) c.loop-at.steps.items c.expand.new.steps.items c.loop-at-test.true c.loop-at.invariant c.in_ok-symbol.ensures.to c.in_ok-symbol.ensures.asked (misfits c.in_ok-symbol.field-0 c.in-Asks.symbol _ c.in-Asks.is c.in_default-fit.ensures)) (next_at c.args.tokens.now c.loop-at.at _ c.loop-at-test.true))

pub returns-in-Some-refusal : goal.returns-in-Some-refusal
returns-in-Some-refusal c =
    stopped_at c.args.tokens.now c.loop-at.at (reverse c.loop-at.stack.items) c.loop-at.steps.items c.expand.new.steps.items _ _ _ c.refused.result _ _ c.loop-at.invariant c.in_ok-symbol.ensures.to (c.len-count.ensures ∙ c.loop-at.steps.ok.0) c.stopped-in-Some-refusal.ensures.steps c.stopped-in-Some-refusal.ensures.stop (c.refused.ensures c.args.tokens.now (refused_at c.args.tokens.now c.loop-at.at _ (reverse c.loop-at.stack.items) c.in_ok-symbol.field-0 c.in-Asks.symbol (reverse c.expand.new.stack.items) c.loop-at.steps.items c.expand.new.steps.items c.in-Some-refusal.feature c.loop-at-test.true c.loop-at.invariant c.in_ok-symbol.ensures.to c.in-Asks.is (fits_as _ _ _ _ c.in-Some-refusal.is c.in-Some.ensures)))

pub loop-at-preserved : goal.loop-at-preserved
loop-at-preserved c =
    taken_at c.args.tokens.now c.loop-at.at _ (reverse c.loop-at.stack.items) c.in_ok-symbol.field-0 c.in-Asks.symbol (reverse c.expand.new.stack.items) c.loop-at.steps.items c.expand.new.steps.items c.push-in-loop-at.new.self.items c.loop-at-test.true c.loop-at.invariant c.in_ok-symbol.ensures.to c.in-Asks.is (fits_as _ _ _ _ c.in_default-refusal.is c.in-Some.ensures) c.in_ok-push-2.ensures.items

pub returns-in_default-2 : goal.returns-in_default-2
returns-in_default-2 c =
    let at = all_taken c.args.tokens.now c.loop-at.at c.loop-at.steps.items (reverse c.loop-at.stack.items) (omega arith) (omega arith) c.loop-at.invariant in
    stopped_at c.args.tokens.now (length c.args.tokens.now) (reverse c.loop-at.stack.items) c.loop-at.steps.items c.expand-2.new.steps.items _ _ _ (Unexpected (length c.args.tokens.now)) _ _ (reaches_all c.args.tokens.now _ _ at) c.in_ok-expand.ensures.to (c.len-count-2.ensures ∙ c.loop-at.steps.ok.0) c.stopped-in_default-2.ensures.steps c.stopped-in_default-2.ensures.stop (at_end c.args.tokens.now (unexpected_end c.args.tokens.now (reverse c.loop-at.stack.items) c.in_ok-expand.field-0 (reverse c.expand-2.new.stack.items) c.loop-at.steps.items c.expand-2.new.steps.items at c.in_ok-expand.ensures.to c.in_ok-expand.ensures.asked (not_nothing _ c.in_default-2.not-Nothing)))

pub returns : goal.returns
returns c =
    let at = all_taken c.args.tokens.now c.loop-at.at c.loop-at.steps.items (reverse c.loop-at.stack.items) (omega arith) (omega arith) c.loop-at.invariant in
    whole_read c.args.tokens.now (reverse c.loop-at.stack.items) c.in_ok-expand.field-0 (reverse c.expand-2.new.stack.items) c.loop-at.steps.items c.expand-2.new.steps.items at c.in_ok-expand.ensures.to c.in-Nothing.is
