use Rattle.cycle_sim.proofs.Common.{ℕ, ◌^◌, ◌<◌, [], length, get_or, sym, ◌∙◌, subst, arith, driving}
use Rattle.cycle_sim.proofs.Lists.{copied}
use Rattle.cycle_sim.proofs.Plans.{driving-length, fit-length}
use Rattle.cycle_sim.proofs.Fronts.{word-inside, word-small}
use Rattle.cycle_sim.proofs.state.lay_words.Goals as goal

pub lay-requires-clause-source : goal.lay-requires-clause-source
lay-requires-clause-source c =
    let count = word-inside c.args.netlist.now.raw c.args.words.now c.requires.widths in
    let inside = c.loop-i-test.true in
    omega (arith, count, inside)

pub lay-requires-clause-fits : goal.lay-requires-clause-fits
lay-requires-clause-fits c =
    let raw = c.args.netlist.now.raw in
    subst (λ (v : ℕ). v < 2 ^ length (get_or (driving raw) c.loop-i.i [])) (sym c.bits.ensures.bits) (word-small raw c.args.words.now c.loop-i.i c.index-words-i.result c.requires.widths c.loop-i-test.true c.index-words-i.is)

pub loop-i-preserved : goal.loop-i-preserved
loop-i-preserved c =
    let raw = c.args.netlist.now.raw in
    let count = word-inside raw c.args.words.now c.requires.widths in
    let long = fit-length (driving raw) c.args.table.now.items c.requires.held.fit in
    let all = driving-length raw in
    (c.lay.ensures.held, c.lay.ensures.table ∙ rw c.bits.ensures.bits (copied c.loop-i.i c.args.words.now c.index-words-i.result c.loop-i.table.items c.args.table.now.items c.loop-i.invariant.1 (omega (arith, count, long, all)) c.loop-i-test.true c.index-words-i.is))
