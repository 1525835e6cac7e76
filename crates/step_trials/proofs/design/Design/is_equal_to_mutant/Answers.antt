use Rattle.step_trials.proofs.Common.{◌^◌, List, length, ap, ◌∙◌, IsTrue, ◌↔◌, IfOk-weaker, Bit, RawNetlist, design, mutant, OneStepEqual, EqualOnAllRuns, GivesAll}
use Rattle.step_trials.proofs.MutantTrials.{mutant-decides, free-same}
use Rattle.step_trials.proofs.TrialLemmas.{one_step_to_all_runs}
use Rattle.step_trials.proofs.design.Design.is_equal_to_mutant.Goals as goal

pub is_given_by-requires-clause-free : goal.is_given_by-requires-clause-free
is_given_by-requires-clause-free c = free-same c.args.self.now.netlist.now.raw c.in_ok-mutant.mutant.raw c.in_ok-mutant.ensures.one_more

-- what the mutant's netlist gives decides
pub returns-clause-equal : goal.returns-clause-equal
returns-clause-equal c =
    let raw : RawNetlist = c.args.self.now.netlist.now.raw in
    let other : RawNetlist = c.in_ok-mutant.mutant.raw in
    let decides = mutant-decides c.one_run.ensures.settles c.one_run.ensures.answer c.args.self.now.netlist.now c.raw-parts.ensures.sound other c.args.site.now c.in_ok-mutant.ensures.alike c.in_ok-mutant.ensures.each_run c.in_ok-mutant.ensures.one_more
    c.args.self.now.given (c.args.self.now.all_numbers ∙ ap (λ (bits : List Bit). 2 ^ length bits) c.args.self.now.all_free) c.args.self.now.gives in
    IfOk-weaker c.is_given_by.result (λ same. IsTrue same ↔ GivesAll (design other) c.args.self.now.given) (λ same. IsTrue same ↔ OneStepEqual (design raw) (mutant raw c.args.site.now))
    (λ same told. (λ yes. decides.0 (told.0 yes), λ equal. told.1 (decides.1 equal))) c.is_given_by.ensures

pub returns-clause-all_runs : goal.returns-clause-all_runs
returns-clause-all_runs c =
    let raw : RawNetlist = c.args.self.now.netlist.now.raw in
    IfOk-weaker c.is_given_by.result (λ same. IsTrue same ↔ OneStepEqual (design raw) (mutant raw c.args.site.now)) (λ same. IsTrue same → EqualOnAllRuns (design raw) (mutant raw c.args.site.now))
    (λ same told yes. one_step_to_all_runs (design raw) (mutant raw c.args.site.now) (told.0 yes)) (returns-clause-equal c)
