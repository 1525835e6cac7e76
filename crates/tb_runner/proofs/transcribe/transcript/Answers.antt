use Rattle.tb_runner.proofs.Common.{[], refl, IsCode, tree_of, IsSimulation, outcome, phases_of, Simulated, setting, start}
use Rattle.tb_runner.proofs.Standing.{of_each, starts_so}
use Rattle.tb_runner.proofs.transcribe.transcript.Goals as goal

pub transcript_of-requires-clause-begins : goal.transcript_of-requires-clause-begins
transcript_of-requires-clause-begins c = (c.in_ok-run.ensures.start (tree_of [])).phase

pub returns : goal.returns
returns c =
    let x : Simulated = record { bench = c.args.bench.now; netlist = c.args.netlist.raw; seed = c.args.word_seed } in
    of_each c.transcript_of.result (λ t trees. IsCode c.args.bench.now.code trees → IsSimulation (setting x trees) (phases_of c.args.cycles) (start x trees) (outcome t.finished t.text)) (λ trees.
    of_each c.transcript_of.result (λ t code. IsSimulation (setting x trees) (phases_of c.args.cycles) (start x trees) (outcome t.finished t.text)) (λ code.
    c.transcript_of.ensures (setting x trees) (start x trees) (starts_so c.args.bench.now c.in_ok-run.run' c.args.netlist trees (start x trees) c.in_ok-run.ensures.design code (c.in_ok-run.ensures.start (tree_of trees))) refl))
