use Rattle.std.proofs.Common.{rules, ◌∙◌}
use Rattle.project_benches.specs.Choice.{benches_in}
use Rattle.project_benches.proofs.OneAnswer.{bench_error_told}
use Rattle.project_benches.proofs.bench.read_bench_of.Goals as goal

pub returns-in_ok-bench_error-in-Err : goal.returns-in_ok-bench_error-in-Err
returns-in_ok-bench_error-in-Err c = record {
  bench = tt;
  refused = record {
    fault = c.in-Err.error;
    found = search rules;
    refused = c.in-Err.ensures.refused (benches_in c.args.numbers.now c.args.name.now c.args.modules.now) c.find_bench.ensures (search rules);
    is = c.in_ok-bench_error-in-Err.ensures ∙ bench_error_told c.args.files.now c.args.test c.in-Err.error;
  };
}
