use Rattle.gate_words.proofs.Common.{length, get_or, false, sym, subst, arith, ◌<◌, Fixed, MadeRow, AddsBits}
use Rattle.gate_words.proofs.Growing.{lit-later}
use Rattle.gate_words.proofs.RowLemmas.{RowIs, row-begun, row-step, row-done, row-adds}
use Rattle.gate_words.proofs.rows.row.Goals as goal

pub loop-i-init : goal.loop-i-init
loop-i-init c = row-begun c.args.operation c.args.gates.now c.args.a.now c.args.b.now c.new-bits.result.items c.new-bits.ensures.items

pub apply-requires-clause-a : goal.apply-requires-clause-a
apply-requires-clause-a c = lit-later c.loop-i.invariant.grows (get_or c.args.a.now c.loop-i.i (Fixed false)) (c.requires.a c.loop-i.i (Fixed false) c.loop-i-test.true)

pub apply-requires-clause-b : goal.apply-requires-clause-b
apply-requires-clause-b c =
    let within : c.loop-i.i < length c.args.b.now = omega (arith, c.loop-i-test.true, c.requires.same) in
    lit-later c.loop-i.invariant.grows (get_or c.args.b.now c.loop-i.i (Fixed false)) (c.requires.b c.loop-i.i (Fixed false) within)

pub loop-i-preserved : goal.loop-i-preserved
loop-i-preserved c =
    let within : c.loop-i.i < length c.args.b.now = omega (arith, c.loop-i-test.true, c.requires.same) in
    row-step c.args.operation c.args.gates.now c.loop-i.gates c.apply.new.gates c.args.a.now c.args.b.now c.loop-i.i (Fixed false) (Fixed false) c.in_ok-apply.field-0 c.loop-i.bits.items c.push.new.self.items c.loop-i.invariant c.requires.select c.requires.a c.requires.b c.loop-i-test.true within c.in_ok-apply.ensures c.in_ok-push.ensures.items

pub returns-clause-made : goal.returns-clause-made
returns-clause-made c = row-done c.args.operation c.args.gates.now c.loop-i.gates c.args.a.now c.args.b.now c.loop-i.i c.loop-i.bits.items c.loop-i.invariant c.loop-i-test.false

pub returns-clause-adds : goal.returns-clause-adds
returns-clause-adds c =
    let made = row-done c.args.operation c.args.gates.now c.loop-i.gates c.args.a.now c.args.b.now c.loop-i.i c.loop-i.bits.items c.loop-i.invariant c.loop-i-test.false in
    subst (λ (m : MadeRow). AddsBits c.args.gates.now m.gates m.bits (length c.args.a.now) (length c.args.a.now) (RowIs c.args.operation c.args.a.now c.args.b.now)) (sym made) (row-adds c.args.operation c.args.gates.now c.args.a.now c.args.b.now c.requires.select c.requires.a c.requires.b c.requires.same)
