use Rattle.tb_formulas.proofs.Common.{arith}
use Rattle.tb_formulas.proofs.Bits.{select_fits, some_number}
use Rattle.tb_formulas.proofs.parts.part_at.Goals as goal

pub returns-clause-fits : goal.returns-clause-fits
returns-clause-fits c = λ widths known. select_fits widths c.args.signal _ c.in_ok-place.place known c.requires (record { some = omega arith; narrow = omega arith }) (some_number widths c.in_ok-place.place c.args.place 128 c.in_ok-place.ensures (omega arith))
