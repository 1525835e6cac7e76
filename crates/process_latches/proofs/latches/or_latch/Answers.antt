use Rattle.process_latches.proofs.Common.{◌∙◌, sym, option_map, target_of}
use Rattle.process_latches.proofs.Latching.{latch_more, latch_skip}
use Rattle.process_latches.proofs.latches.or_latch.Goals as goal

pub returns-then-is_latch : goal.returns-then-is_latch
returns-then-is_latch c = λ s own ws is. latch_more s ws c.args.write (option_map target_of c.args.other) (option_map target_of c.sooner.result) (sym (c.is_latch.ensures s own) ∙ c.if-is_latch.true) is c.sooner.ensures

pub returns-else-is_latch : goal.returns-else-is_latch
returns-else-is_latch c = λ s own ws is. latch_skip s ws c.args.write (option_map target_of c.args.other) (sym (c.is_latch.ensures s own) ∙ c.if-is_latch.false) is
