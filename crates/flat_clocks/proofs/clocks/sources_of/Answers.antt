use Rattle.flat_clocks.proofs.Common.{flat_of}
use Rattle.flat_clocks.proofs.Sources.{all_passed}
use Rattle.flat_clocks.proofs.clocks.sources_of.Goals as goal

pub returns : goal.returns
returns c = all_passed (flat_of c.args.flat.now) c.new-sources.result c.enter_all.new.sources c.items.result.now c.items.ensures c.new-sources.ensures.empty c.in_ok-enter_all.ensures
