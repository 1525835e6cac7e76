use Rattle.mcy_top.proofs.Simulating.{benches_say_once}
use Rattle.mcy_top.proofs.Once.{all_answers_once, campaigns_once, final_text_once}
use Rattle.mcy_top.proofs.laws.campaigns_are_one.Goals as goal

pub returns-clause-campaign : goal.returns-clause-campaign
returns-clause-campaign c = campaigns_once

pub returns-clause-answers : goal.returns-clause-answers
returns-clause-answers c = all_answers_once (benches_say_once c.benches_have_one_outcome.ensures c.designs_in_benches.ensures.settings c.designs_in_benches.ensures.starts c.mutants_tell_the_same.ensures c.baselines_are_one.ensures)

pub returns-clause-text : goal.returns-clause-text
returns-clause-text c = final_text_once (benches_say_once c.benches_have_one_outcome.ensures c.designs_in_benches.ensures.settings c.designs_in_benches.ensures.starts c.mutants_tell_the_same.ensures c.baselines_are_one.ensures)
