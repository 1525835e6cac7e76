use Rattle.tb_runner.proofs.Common.{[], sym, subst, Plan, tree_of, Simulated, start, IsJob}
use Rattle.tb_runner.specs.declared.simulation.Simulation.{Simulation}
use Rattle.tb_runner.proofs.Standing.{is_simulated, starts_as_job, starts_so}
use Rattle.tb_runner.proofs.job.SimJob.new.Goals as goal

pub invariant_of-result : goal.invariant_of-result
invariant_of-result c = λ _ _.
    let b = c.args.bench.now in
    let r = c.in_ok-run.run' in
    let t = c.in_ok-turns.turns in
    let begun = c.in_ok-turns.ensures.start in
    let made : Simulation = record { bench = c.args.bench; run = r } in
    let of_bench = c.in_ok-run.ensures.of in
    let stands = c.in_ok-run.ensures.start in
    let x : Simulated = is_simulated b c.args.netlist.raw c.args.word_seed in
    let job : IsJob x t.limit r t.phases t.watch = starts_as_job x t.limit t.phases r t.watch of_bench (stands (tree_of [])).phase begun.0 begun.2 (λ trees code. starts_so b r c.args.netlist trees (start x trees) c.in_ok-run.ensures.design code (stands (tree_of trees))) in
    let P : Simulation → Type 0 = λ s. IsJob (is_simulated s.bench.now s.run.sim.plan.raw c.args.word_seed) t.limit s.run t.phases t.watch in
    let Q : Plan → Type 0 = λ p. IsJob (is_simulated b p.raw c.args.word_seed) t.limit r t.phases t.watch in
    subst P (sym c.in_ok-turns.ensures.run) (subst Q (sym c.in_ok-run.ensures.design) job)
