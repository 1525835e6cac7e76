use Rattle.process_cells.proofs.Sounding.{accepted_sound}
use Rattle.process_cells.proofs.laws.accepted_statements_are_sound.Goals as goal

pub returns : goal.returns
returns c = accepted_sound
