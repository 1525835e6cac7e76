use Rattle.project_benches.proofs.Fitting.{bench_fits}
use Rattle.project_benches.proofs.OneAnswer.{benches_alike}
use Rattle.project_benches.proofs.bench.benches_are_alike.Goals as goal

pub returns-clause-fits : goal.returns-clause-fits
returns-clause-fits c = bench_fits

pub returns-clause-alike : goal.returns-clause-alike
returns-clause-alike c = benches_alike
