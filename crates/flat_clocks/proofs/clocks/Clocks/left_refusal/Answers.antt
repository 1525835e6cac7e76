use Rattle.flat_clocks.proofs.Common.{names_of, clock_names, clocks_in}
use Rattle.flat_clocks.proofs.Hiding.{left_alone}
use Rattle.flat_clocks.proofs.clocks.Clocks.left_refusal.Goals as goal

pub returns : goal.returns
returns c = left_alone c.new-variables.result (clock_names (clocks_in c.args.self.now) (names_of c.args.scope.now)) c.args.left.now c.left_read.result c.left_read.ensures c.new-variables.ensures
