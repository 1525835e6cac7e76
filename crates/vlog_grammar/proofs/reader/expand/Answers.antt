use Rattle.vlog_grammar.proofs.Common.{sym, ◌∙◌, reverse}
use Rattle.vlog_grammar.proofs.Stack.{expand_more, work_less, expands_start}
use Rattle.vlog_grammar.proofs.reader.expand.Goals as goal

pub loop-symbol-init : goal.loop-symbol-init
loop-symbol-init c = expands_start _ _ _ c.requires.followed c.requires.safe

pub loop-symbol-smaller : goal.loop-symbol-smaller
loop-symbol-smaller c =
    work_less c.args.next c.loop-symbol.stack.items c.pop.new.self.items c.push_parts.new.stack.items c.in-Some.symbol c.in-Of.kind c.in-Some-choice.rule c.in-Some.ensures.items c.in-Of.is (sym c.choice.ensures ∙ c.in-Some-choice.is) c.in_ok-push_parts.ensures

pub loop-symbol-preserved : goal.loop-symbol-preserved
loop-symbol-preserved c =
    expand_more c.args.next (reverse c.args.stack.now.items) c.loop-symbol.stack.items c.pop.new.self.items c.push_parts.new.stack.items c.in-Some.symbol c.in-Of.kind c.in-Some-choice.rule c.args.steps.now.items c.loop-symbol.steps.items c.push.new.self.items c.in-Some.ensures.items c.in-Of.is (sym c.choice.ensures ∙ c.in-Some-choice.is) c.in_ok-push_parts.ensures c.in_ok-push.ensures.items c.loop-symbol.invariant
