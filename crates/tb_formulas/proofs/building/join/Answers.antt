use Rattle.tb_formulas.proofs.Common.{arith}
use Rattle.tb_formulas.proofs.Widening.{widens}
use Rattle.tb_formulas.proofs.Making.{joined_fits_in}
use Rattle.tb_formulas.proofs.building.join.Goals as goal

pub returns-then-is_zero-clause-fits : goal.returns-then-is_zero-clause-fits
returns-then-is_zero-clause-fits c = λ widths k narrow fu fl. widens widths c.args.lower c.args.width _ (omega arith) fl

pub returns-clause-fits : goal.returns-clause-fits
returns-clause-fits c = λ widths k narrow fu fl. joined_fits_in widths c.in_ok-upper.upper c.args.width c.in_ok-new.field-0 k narrow (rw c.in_ok-upper.ensures fu) (rw c.in_ok-new.ensures fl)
