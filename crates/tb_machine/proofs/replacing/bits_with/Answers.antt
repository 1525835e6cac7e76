use Rattle.tb_machine.proofs.Common.{sym}
use Rattle.tb_machine.proofs.Places.{all_replaced}
use Rattle.tb_machine.proofs.replacing.bits_with.Goals as goal

pub returns-then-update-width-clause-value : goal.returns-then-update-width-clause-value
returns-then-update-width-clause-value c = sym (all_replaced c.args.bits c.args.update.value c.args.update.low c.args.update.width c.args.width c.requires.fits c.if-update-width.true c.requires.inside)
