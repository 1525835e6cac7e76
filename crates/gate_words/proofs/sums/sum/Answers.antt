use Rattle.gate_words.proofs.Common.{ℕ, ◌≡◌, ◌-◌, ◌<◌, length, get_or, false, arith, ap, ◌∙◌, Fixed, sum_of, last_sum}
use Rattle.gate_words.proofs.Numbers.{not-zero}
use Rattle.gate_words.proofs.Growing.{lit-later, row-told}
use Rattle.gate_words.proofs.Adders.{sum-step, sum-done, sum-number}
use Rattle.gate_words.proofs.sums.sum.Goals as goal

pub loop-i-preserved : goal.loop-i-preserved
loop-i-preserved c =
    sum-step c.args.gates.now c.loop-i.gates c.full_sum.new.gates c.args.a.now c.args.b.now c.args.carry c.loop-i.i (Fixed false) (Fixed false) c.loop-i.carry c.in_ok-summed.summed.bit c.in_ok-summed.summed.carry c.loop-i.bits.items c.push.new.self.items
    c.loop-i.invariant c.requires.a c.requires.b (omega (arith, c.loop-i-test.true)) (omega (arith, c.loop-i-test.true, c.requires.same)) c.in_ok-summed.ensures c.in_ok-push.ensures.items

pub last_sum-requires-clause-a : goal.last_sum-requires-clause-a
last_sum-requires-clause-a c =
    let some = not-zero (length c.args.a.now) c.if-is_empty.ensures in
    let within : length c.args.a.now - 1 < length c.args.a.now = omega (arith, some) in
    lit-later c.loop-i.invariant.grows (get_or c.args.a.now (length c.args.a.now - 1) (Fixed false)) (c.requires.a (length c.args.a.now - 1) (Fixed false) within)

pub last_sum-requires-clause-b : goal.last_sum-requires-clause-b
last_sum-requires-clause-b c =
    let some = not-zero (length c.args.a.now) c.if-is_empty.ensures in
    let within : length c.args.a.now - 1 < length c.args.b.now = omega (arith, some, c.requires.same) in
    lit-later c.loop-i.invariant.grows (get_or c.args.b.now (length c.args.a.now - 1) (Fixed false)) (c.requires.b (length c.args.a.now - 1) (Fixed false) within)

pub returns-clause-made : goal.returns-clause-made
returns-clause-made c =
    let some = not-zero (length c.args.a.now) c.if-is_empty.ensures in
    let at : length c.args.a.now - 1 ≡ c.loop-i.i = omega (arith, c.loop-i-test.false, c.loop-i.auto.i-end) in
    sum-done c.args.gates.now c.loop-i.gates c.last_sum.new.gates c.args.a.now c.args.b.now c.args.carry c.loop-i.i (Fixed false) (Fixed false) c.loop-i.carry c.in_ok-last_sum.field-0 c.loop-i.bits.items c.push-2.new.self.items c.loop-i.invariant (omega (arith, at, some)) (omega (arith, at, some, c.requires.same))
    (c.in_ok-last_sum.ensures ∙ ap (λ (j : ℕ). last_sum c.loop-i.gates (get_or c.args.a.now j (Fixed false)) (get_or c.args.b.now j (Fixed false)) c.loop-i.carry) at)
    c.in_ok-push-2.ensures.items

pub returns-clause-adds : goal.returns-clause-adds
returns-clause-adds c = row-told (sum_of c.args.gates.now c.args.a.now c.args.b.now c.args.carry) (returns-clause-made c) (sum-number c.args.gates.now c.args.a.now c.args.b.now c.args.carry c.requires.a c.requires.b c.requires.carry c.requires.same)
