use Rattle.flat_laws.proofs.Flattened.{ports_of_tops}
use Rattle.flat_laws.proofs.laws.tops_have_their_ports.Goals as goal

pub returns : goal.returns
returns c = ports_of_tops
