use Rattle.sim_words.proofs.Words.{tell_the_same}
use Rattle.sim_words.proofs.laws.mutants_tell_the_same.Goals as goal

pub returns : goal.returns
returns c = tell_the_same
