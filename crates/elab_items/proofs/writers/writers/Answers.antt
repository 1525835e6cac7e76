use Rattle.elab_items.proofs.Common.{rules}
use Rattle.elab_items.proofs.Writing.{tell_more}
use Rattle.elab_items.proofs.writers.writers.Goals as goal

pub loop-number-preserved : goal.loop-number-preserved
loop-number-preserved c = record {
  count = search rules;
  tells = search (rules, tell_more);
}
