use Rattle.flat_runs.proofs.Writing.{nothing_written, writer_stays, writer_starts, registers_of}
use Rattle.flat_runs.proofs.laws.bits_have_one_writer.Goals as goal

pub returns-clause-nothing : goal.returns-clause-nothing
returns-clause-nothing c = nothing_written

pub returns-clause-stays : goal.returns-clause-stays
returns-clause-stays c = writer_stays

pub returns-clause-starts : goal.returns-clause-starts
returns-clause-starts c = writer_starts

pub returns-clause-registers : goal.returns-clause-registers
returns-clause-registers c = registers_of
