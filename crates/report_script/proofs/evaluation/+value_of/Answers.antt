use Rattle.report_script.proofs.Common.{◌∙◌, Ok, Err, sym, arith}
use Rattle.report_script.proofs.Walking.{term_here, terms_end}
use Rattle.report_script.proofs.evaluation.+value_of.Goals as goal

pub chained-returns-in-Err-clause-exact : goal.chained-returns-in-Err-clause-exact
chained-returns-in-Err-clause-exact t c = sym (term_here c.args.counts.now c.args.terms.now c.loop-term.term-index c.term-item.result c.loop-term.value (Err c.in-Err.fault) (omega arith) c.term-item.is (sym c.in-Err.ensures.exact)) ∙ c.loop-term.invariant.value

pub chained-loop-term-preserved : goal.chained-loop-term-preserved
chained-loop-term-preserved t c = record {
  value = sym (term_here c.args.counts.now c.args.terms.now c.loop-term.term-index c.term-item.result c.loop-term.value (Ok c.in-Ok.next) (omega arith) c.term-item.is (sym c.in-Ok.ensures.exact)) ∙ c.loop-term.invariant.value;
  small = c.in-Ok.ensures.small;
}

pub chained-returns-clause-exact : goal.chained-returns-clause-exact
chained-returns-clause-exact t c = sym (terms_end c.args.counts.now c.args.terms.now c.loop-term.term-index c.loop-term.value (omega arith)) ∙ c.loop-term.invariant.value
