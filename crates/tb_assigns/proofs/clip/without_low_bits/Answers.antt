use Rattle.tb_assigns.proofs.Common.{arith, sym, no_bits_left}
use Rattle.tb_assigns.proofs.clip.without_low_bits.Goals as goal

pub returns-else-size-lt128 : goal.returns-else-size-lt128
returns-else-size-lt128 c = sym (no_bits_left c.args.value c.args.size (omega arith) (omega arith))
