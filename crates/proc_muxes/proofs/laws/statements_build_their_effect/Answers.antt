use Rattle.proc_muxes.proofs.Simulates.{building-keeps, simulates, leaves-the-effect}
use Rattle.proc_muxes.proofs.laws.statements_build_their_effect.Goals as goal

pub returns-clause-keeps : goal.returns-clause-keeps
returns-clause-keeps c = building-keeps

pub returns-clause-effect : goal.returns-clause-effect
returns-clause-effect c = simulates

pub returns-clause-left : goal.returns-clause-left
returns-clause-left c = leaves-the-effect
