use Rattle.tb_writers.proofs.Common.{IfOk-weaker, names_of, bits_in}
use Rattle.tb_writers.proofs.Parts.{name_written}
use Rattle.tb_writers.proofs.mask.untold_masks.Goals as goal

pub returns-in-Process : goal.returns-in-Process
returns-in-Process c = rw c.in-Process.is (IfOk-weaker c.name_masks.result _ _ (λ masks e p is. name_written (names_of c.args.scope.now) c.args.name.now p (bits_in masks) is e) c.name_masks.ensures)
