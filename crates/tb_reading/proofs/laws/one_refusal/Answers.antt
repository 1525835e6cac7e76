use Rattle.tb_reading.proofs.Reasons.{none_refused, refused_once}
use Rattle.tb_reading.proofs.laws.one_refusal.Goals as goal

pub returns-clause-none : goal.returns-clause-none
returns-clause-none c = none_refused

pub returns-clause-one : goal.returns-clause-one
returns-clause-one c = refused_once
