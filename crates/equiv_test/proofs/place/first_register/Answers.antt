use Rattle.equiv_test.proofs.Common.{sym, ◌∙◌, arith}
use Rattle.equiv_test.proofs.Apart.{differ-first, same-more, same-lists}
use Rattle.equiv_test.proofs.place.first_register.Goals as goal

pub returns-then-one-other : goal.returns-then-one-other
returns-then-one-other c =
    differ-first c.args.original.now.registers c.args.mutant.now.registers c.loop-place.place (omega (arith, c.loop-place-test.true, c.requires.count)) (omega (arith, c.loop-place-test.true, c.requires.same))
    (λ same. c.if-one-other.true (c.bits-one.ensures.bits ∙ c.register.ensures.bits ∙ same ∙ sym (c.bits-other.ensures.bits ∙ c.register-in-loop-place.ensures.bits))) c.loop-place.invariant

pub loop-place-preserved : goal.loop-place-preserved
loop-place-preserved c =
    same-more c.args.original.now.registers c.args.mutant.now.registers c.loop-place.place (omega (arith, c.loop-place-test.true, c.requires.count)) (omega (arith, c.loop-place-test.true, c.requires.same))
    (sym (c.bits-one.ensures.bits ∙ c.register.ensures.bits) ∙ c.if-one-other.false ∙ c.bits-other.ensures.bits ∙ c.register-in-loop-place.ensures.bits) c.loop-place.invariant

pub returns : goal.returns
returns c = same-lists c.args.original.now.registers c.args.mutant.now.registers (omega (arith, c.requires.count, c.requires.same)) (λ k inside. c.loop-place.invariant k (omega (arith, inside, c.loop-place-test.false, c.requires.count)))
