use Rattle.campaign_baseline.proofs.Common.{◌≡◌, ◌∙◌, ◌<◌, ◌≤◌, ◌+◌, ℕ, ap, subst, refl, arith, max, phases_of, Job, GoesOn, Simulated}
use Rattle.campaign_baseline.proofs.Cycles.{at_next, few_more, goes_on, one_more, says_word, still_same, takes_cycles}
use Rattle.campaign_baseline.proofs.simulating.ended.Goals as goal

pub cycles-init : goal.cycles-init
cycles-init c = record {
  going = ap (λ (j : Job). j.is_over) c.in_ok-job.ensures;
  same = record { simulated = refl; limit = refl; pass = refl; fail = refl };
  some = omega arith;
  few = omega arith;
  at = omega (arith, ap (λ (j : Job). j.phases) c.in_ok-job.ensures);
  before = λ other. absurd (other refl);
}

pub cycles-preserved : goal.cycles-preserved
cycles-preserved c =
    let before : Job = c.cycles.job in
    let now : Job = c.turn.new.self in
    let none = rw c.in_default.is at c.in_ok-verdict.ensures.none in
    let over = rw c.in_default.is at c.in_ok-verdict.ensures.over in
    let is : now.phases ≡ phases_of c.cycles.cycle = none.1 ∙ one_more before.phases c.cycles.cycle c.cycles.invariant.some c.cycles.invariant.at in record {
      going = over;
      same = still_same c.in_ok-job.job before now c.cycles.invariant.same c.turn.ensures.same;
      some = omega arith;
      few = few_more now.phases c.in_ok-job.job.limit c.cycles.cycle is (subst (λ (n : ℕ). now.phases < phases_of n) c.cycles.invariant.same.limit none.2);
      at = at_next now.phases c.cycles.cycle is;
      before = goes_on c.in_ok-job.job.simulated c.cycles.cycle now.phases is (subst (λ (x : Simulated). GoesOn x now.phases) c.cycles.invariant.same.simulated none.0);
    }

pub cycles-smaller : goal.cycles-smaller
cycles-smaller c =
    let before : Job = c.cycles.job in
    let now : Job = c.turn.new.self in
    let none = rw c.in_default.is at c.in_ok-verdict.ensures.none in
    omega (arith, none.1, none.2, c.turn.ensures.same.limit)

-- the next cycle is within the limit
pub overflow_add-cycle : goal.overflow_add-cycle
overflow_add-cycle c =
    let before : Job = c.cycles.job in
    let now : Job = c.turn.new.self in
    let none = rw c.in_default.is at c.in_ok-verdict.ensures.none in
    let is : now.phases ≡ phases_of c.cycles.cycle = none.1 ∙ one_more before.phases c.cycles.cycle c.cycles.invariant.some c.cycles.invariant.at in
    let few : c.cycles.cycle + 1 ≤ max c.in_ok-job.job.limit 1 = few_more now.phases c.in_ok-job.job.limit c.cycles.cycle is (subst (λ (n : ℕ). now.phases < phases_of n) c.cycles.invariant.same.limit none.2) in
    omega (arith, few, ap (λ (j : Job). j.limit) c.in_ok-job.ensures)

pub returns-in-Some-clause-says : goal.returns-in-Some-clause-says
returns-in-Some-clause-says c =
    let x : Simulated = record { bench = c.args.bench.now; netlist = c.args.netlist.raw; seed = c.args.word_seed } in
    let told = rw c.in-Some.is at c.in_ok-verdict.ensures.told in
    says_word x c.args.limit c.args.pass.now c.args.fail.now c.in_ok-job.job c.cycles.job c.in_ok-job.ensures c.cycles.invariant.same c.in-Some.verdict told

pub returns-in-Some-clause-takes : goal.returns-in-Some-clause-takes
returns-in-Some-clause-takes c =
    let x : Simulated = record { bench = c.args.bench.now; netlist = c.args.netlist.raw; seed = c.args.word_seed } in
    let ends = rw c.in-Some.is at c.in_ok-verdict.ensures.some in
    takes_cycles x c.args.limit c.args.pass.now c.args.fail.now c.in_ok-job.job c.cycles.job c.in_ok-job.ensures c.cycles.invariant.same c.cycles.cycle c.cycles.invariant.some c.cycles.invariant.few c.cycles.invariant.at c.cycles.invariant.before ends
