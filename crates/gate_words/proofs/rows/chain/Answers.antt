use Rattle.gate_words.proofs.Common.{length, false, sym, subst, fold, Fixed, lit_value, Made, AddsLit, operation_value, lit_values}
use Rattle.gate_words.proofs.RowLemmas.{chain-step, chain-done, chain-adds}
use Rattle.gate_words.proofs.rows.chain.Goals as goal

pub loop-bit-preserved : goal.loop-bit-preserved
loop-bit-preserved c = chain-step c.args.operation c.args.gates.now c.loop-bit.gates c.apply.new.gates c.args.start c.args.bits.now c.loop-bit.bit-index (Fixed false) c.loop-bit.lit c.in_ok-lit.lit c.loop-bit.invariant c.requires.select c.requires.bits c.loop-bit-test.true c.in_ok-lit.ensures

pub returns-clause-adds : goal.returns-clause-adds
returns-clause-adds c =
    let made = chain-done c.args.operation c.args.gates.now c.loop-bit.gates c.args.start c.args.bits.now c.loop-bit.bit-index c.loop-bit.lit c.loop-bit.invariant c.loop-bit-test.false in
    subst (λ (m : Made). AddsLit c.args.gates.now m.gates m.lit (length c.args.bits.now) (λ values. fold (operation_value c.args.operation values) (lit_value values c.args.start) (lit_values values c.args.bits.now))) (sym made) (chain-adds c.args.operation c.args.gates.now c.args.start c.args.bits.now c.requires.select c.requires.start c.requires.bits)
