use Rattle.campaign_reading.proofs.OneCause.{refused_once, refused_not_made, unmade_not}
use Rattle.campaign_reading.proofs.laws.files_have_one_answer.Goals as goal

pub returns-clause-cause : goal.returns-clause-cause
returns-clause-cause c = refused_once

pub returns-clause-none : goal.returns-clause-none
returns-clause-none c = refused_not_made

pub returns-clause-taken : goal.returns-clause-taken
returns-clause-taken c = unmade_not
