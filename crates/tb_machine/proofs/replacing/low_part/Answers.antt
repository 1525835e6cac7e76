use Rattle.tb_machine.proofs.Common.{◌≡◌, ◌-◌, ◌*◌, ◌%◌, ◌^◌, bit_and, and_mask, one_shl}
use Rattle.tb_machine.proofs.replacing.low_part.Goals as goal

pub returns : goal.returns
returns c =
    let e : bit_and c.args.bits (1 * 2 ^ c.args.place % 2 ^ 128 - 1) ≡ c.args.bits % 2 ^ c.args.place = rw (one_shl c.args.place 128 c.requires) (and_mask c.args.bits c.args.place) in
    e
