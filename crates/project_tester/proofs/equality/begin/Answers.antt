use Rattle.project_tester.proofs.Common.{◌≤◌, IfOk-weaker, Plan, IsNew, Prepared, plan_limits, Asked, asked_of, lemma_turns, turns_in, IsComparing}
use Rattle.project_tester.proofs.Equalities.{new_comparing, new_few}
use Rattle.project_tester.proofs.Verdicts.{accepted_at}
use Rattle.project_tester.proofs.equality.begin.Goals as goal

pub new_job-requires-clause-limit : goal.new_job-requires-clause-limit
new_job-requires-clause-limit c = c.requires.bound

pub new_job-requires-clause-accepted : goal.new_job-requires-clause-accepted
new_job-requires-clause-accepted c =
    let prepared : Prepared = c.args.prepared.now in
    accepted_at c.mutants_are_accepted.ensures.accepted prepared c.args.mutation c.netlist-original.result.now c.args.mutant.now c.netlist-original.ensures c.raw-parts.ensures.sound c.requires.sound c.requires.broken (plan_limits prepared c.args.want.test c.requires.plan c.requires.test)

pub returns-clause-is : goal.returns-clause-is
returns-clause-is c =
    let original : Plan = c.netlist-original.result.now in
    let asked : Asked = asked_of c.args.mutation c.args.want in
    IfOk-weaker c.new_job.result (IsNew original c.args.mutant.now c.args.want.bound) (IsComparing c.args.prepared.now asked)
    (λ job new. new_comparing c.args.prepared.now asked original c.args.mutant.now job c.requires.test c.netlist-original.ensures c.raw-parts.ensures.sound c.requires.sound c.requires.broken new) c.new_job.ensures

pub returns-clause-few : goal.returns-clause-few
returns-clause-few c =
    let original : Plan = c.netlist-original.result.now in
    IfOk-weaker c.new_job.result (IsNew original c.args.mutant.now c.args.want.bound) (λ job. lemma_turns job ≤ turns_in c.args.want.bound)
    (λ job new. new_few original c.args.mutant.now c.args.want.bound job new) c.new_job.ensures
