use Rattle.tb_assigns.proofs.Checked.{sides_suffice}
use Rattle.tb_assigns.proofs.laws.whole_sides_suffice.Goals as goal

pub returns : goal.returns
returns c = sides_suffice
