use Rattle.project_benches.proofs.OneAnswer.{bench_without_fault, faults_are_one}
use Rattle.project_benches.proofs.bench.one_answer.Goals as goal

pub returns-clause-either : goal.returns-clause-either
returns-clause-either c = bench_without_fault

pub returns-clause-faults : goal.returns-clause-faults
returns-clause-faults c = faults_are_one
