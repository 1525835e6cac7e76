use Rattle.proc_muxes.proofs.Common.{work}
use Rattle.proc_muxes.proofs.Assigning.{keeps-from, keeps-at}
use Rattle.proc_muxes.proofs.assignment.put_piece.Goals as goal

pub returns-in_ok-put_from-in-From-clause-keeps : goal.returns-in_ok-put_from-in-From-clause-keeps
returns-in_ok-put_from-in-From-clause-keeps c = keeps-from c.args.is_blocking c.args.piece.now c.in-From.base c.args.bits.now (work c.args.builder.now c.args.variables.now) (work c.put_from.new.builder c.put_from.new.variables) c.requires.held c.requires.below c.in_ok-put_from-in-From.ensures.puts

pub returns-in_ok-put_at-in-At-clause-keeps : goal.returns-in_ok-put_at-in-At-clause-keeps
returns-in_ok-put_at-in-At-clause-keeps c = keeps-at c.args.is_blocking c.args.piece.now c.in-At.span c.in_ok-index-in-At.index c.in_ok-bits-in-At.bits (work c.args.builder.now c.args.variables.now) (work c.put_at.new.builder c.put_at.new.variables) c.requires.held c.in_ok-put_at-in-At.ensures.puts
