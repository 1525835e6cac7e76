use Rattle.flat_laws.proofs.Flattened.{flattened_sound}
use Rattle.flat_laws.proofs.laws.flattened_designs_are_sound.Goals as goal

pub returns : goal.returns
returns c = flattened_sound
