use Rattle.sim_words.proofs.Words.{one_word}
use Rattle.sim_words.proofs.laws.one_sim_word.Goals as goal

pub returns : goal.returns
returns c = one_word
