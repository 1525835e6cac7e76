use Rattle.tb_machine.proofs.Pieces.{in_pieces, one_more}
use Rattle.tb_machine.proofs.laws.simulations_go_on.Goals as goal

pub returns : goal.returns
returns c = record { pieces = in_pieces; more = one_more }
