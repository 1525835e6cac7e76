use Rattle.tb_machine.proofs.Writing.{same_widths, one_set}
use Rattle.tb_machine.proofs.applying.set.Goals as goal

pub returns-clause-widths : goal.returns-clause-widths
returns-clause-widths c = same_widths c.args.words.now.items c.args.number c.args.word c.requires.width

pub returns-clause-bits : goal.returns-clause-bits
returns-clause-bits c = one_set c.args.words.now.items c.args.number c.args.word
