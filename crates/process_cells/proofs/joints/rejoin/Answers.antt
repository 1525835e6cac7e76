use Rattle.process_cells.proofs.Rejoining.{return_rejoined}
use Rattle.process_cells.proofs.joints.rejoin.Goals as goal

pub returns-clause-fit : goal.returns-clause-fit
returns-clause-fit c = return_rejoined c.args.own.now c.args.builder.now c.set.new.self c.join_bits.new.builder c.in_ok-bits.bits c.as_slice.result.now _ c.requires.known c.requires.wide c.as_slice.ensures c.in_ok-bits.ensures c.set.ensures c.in_ok-join_bits.ensures
