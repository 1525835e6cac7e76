use Rattle.campaign_reading.proofs.Common.{◌≡◌, ◌∙◌, ap, err_from_is_err_and, numbers_in, reading_of, Reading}
use Rattle.campaign_reading.proofs.Trying.{bench_refused}
use Rattle.campaign_reading.proofs.trials.Reading.trial.Goals as goal

pub returns-in_err-bench-clause-refused : goal.returns-in_err-bench-clause-refused
returns-in_err-bench-clause-refused c =
    let r : Reading = reading_of c.args.self.now.files.now c.args.self.now.modules.now c.args.self.now.top.now c.args.self.now.netlist.now.raw in
    let p = err_from_is_err_and c.from_residual-in_err-bench.result c.from_residual-in_err-bench.ensures.1 in
    let counted : c.deref.result.now ≡ numbers_in r.names c.in-Sim.files = c.deref.ensures.value ∙ c.in_ok-numbers.ensures ∙ ap (numbers_in r.names) c.as_slice.ensures in
    rw (p.1, p.2) (bench_refused r c.args.number c.args.kind.now c.in-Sim.bench c.in-Sim.files c.in-Sim.pass c.in-Sim.fail c.deref.result.now c.as_str.result.now c.in_err-bench.field-0.0 c.in-Sim.is counted c.as_str.ensures c.in_err-bench.ensures.refused)
