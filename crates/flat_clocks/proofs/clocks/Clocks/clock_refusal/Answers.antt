use Rattle.flat_clocks.proofs.Common.{IfOk-weaker, names_of, flat_of, clocks_in}
use Rattle.flat_clocks.proofs.Items.{enters_refused, runs_refused}
use Rattle.flat_clocks.proofs.clocks.Clocks.clock_refusal.Goals as goal

pub returns-in-Some-scope_at-2 : goal.returns-in-Some-scope_at-2
returns-in-Some-scope_at-2 c = enters_refused (clocks_in c.args.self.now) (flat_of c.args.flat.now) c.args.item.now c.entering_refusal.result c.in-Enters.place (names_of c.in-Some-scope_at-2.scope.now) c.in-Some-scope_at-2.ensures c.in-Enters.port c.in-Enters.value _ _ c.in-Enters.is c.signals.ensures c.get-in-Some-scope_at-2.ensures c.entering_refusal.ensures

pub returns-in-Some-scope_at-4 : goal.returns-in-Some-scope_at-4
returns-in-Some-scope_at-4 c = IfOk-weaker c.process_refusal.result _ _ (λ o h. runs_refused (clocks_in c.args.self.now) (flat_of c.args.flat.now) c.args.item.now o c.in-Runs.place (names_of c.in-Some-scope_at-4.scope.now) c.in-Some-scope_at-4.ensures c.in-Runs.process _ c.in-Runs.is c.get-in-Some-scope_at-4.ensures h) c.process_refusal.ensures
