use Rattle.campaign_reading.proofs.Common.{arith}
use Rattle.project_limits.proofs.Tests.{tests_few}
use Rattle.campaign_plan.proofs.Plans.{files_few}
use Rattle.campaign_reading.proofs.preparing.prepare_scripted.Goals as goal

pub judge-requires-clause-few : goal.judge-requires-clause-few
judge-requires-clause-few c = omega (arith, files_few c.args.config.now c.args.taken.project c.args.sources.now c.requires.says c.requires.names)

pub judge-requires-clause-tests : goal.judge-requires-clause-tests
judge-requires-clause-tests c = tests_few c.args.config.now c.args.taken.project c.requires.says
