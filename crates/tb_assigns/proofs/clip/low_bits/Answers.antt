use Rattle.tb_assigns.proofs.Common.{arith, sym, mod-eq_of_lt, power_le}
use Rattle.tb_assigns.proofs.clip.low_bits.Goals as goal

pub returns-else-size-lt128 : goal.returns-else-size-lt128
returns-else-size-lt128 c = let le = power_le 128 c.args.size (omega arith) in sym (mod-eq_of_lt (omega (arith, le)))
