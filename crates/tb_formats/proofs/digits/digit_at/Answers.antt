use Rattle.std.proofs.Common.{◌/◌, ◌*◌, ◌^◌}
use Rattle.tb_formats.proofs.DigitLists.{digit_small}
use Rattle.tb_formats.proofs.digits.digit_at.Goals as goal

pub returns-clause-small : goal.returns-clause-small
returns-clause-small c = digit_small (c.args.value / 2 ^ (c.args.bits * c.args.place)) c.args.bits c.pow.result c.requires.few c.pow.ensures
