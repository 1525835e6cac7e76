use Rattle.mcy_top.proofs.Simulating.{benches_say_once}
use Rattle.mcy_top.proofs.Once.{finished_misses_once, finished_text_once}
use Rattle.mcy_top.proofs.laws.finished_texts_are_the_campaigns.Goals as goal

pub returns-clause-texts : goal.returns-clause-texts
returns-clause-texts c = finished_text_once (benches_say_once c.benches_have_one_outcome.ensures c.designs_in_benches.ensures.settings c.designs_in_benches.ensures.starts c.mutants_tell_the_same.ensures c.baselines_are_one.ensures)

pub returns-clause-misses : goal.returns-clause-misses
returns-clause-misses c = finished_misses_once (benches_say_once c.benches_have_one_outcome.ensures c.designs_in_benches.ensures.settings c.designs_in_benches.ensures.starts c.mutants_tell_the_same.ensures c.baselines_are_one.ensures)
