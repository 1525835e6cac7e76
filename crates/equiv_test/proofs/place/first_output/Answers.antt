use Rattle.equiv_test.proofs.Common.{◌≡◌, ℕ, List, length, sym, ◌∙◌, arith, plain, shown, Simulated, settled_nets}
use Rattle.equiv_test.proofs.Apart.{differ-first, same-more, same-lists, shown-long}
use Rattle.equiv_test.proofs.place.first_output.Goals as goal

abbrev seen : Simulated → List ℕ
seen s = shown (plain (settled_nets s)) s.plan.raw

seen-long : (s : Simulated) → length (seen s) ≡ length s.plan.raw.outputs
seen-long s = shown-long (settled_nets s) s.plan.raw.outputs

pub returns-then-one-other : goal.returns-then-one-other
returns-then-one-other c =
    let a : Simulated = c.args.original.now in
    let b : Simulated = c.args.mutant.now in
    differ-first (seen a) (seen b) c.loop-place.place (omega (arith, c.loop-place-test.true, c.requires.count, seen-long a)) (omega (arith, c.loop-place-test.true, c.requires.same, seen-long b))
    (λ same. c.if-one-other.true (c.bits-one.ensures.bits ∙ c.output.ensures.bits ∙ same ∙ sym (c.bits-other.ensures.bits ∙ c.output-in-loop-place.ensures.bits))) c.loop-place.invariant

pub loop-place-preserved : goal.loop-place-preserved
loop-place-preserved c =
    let a : Simulated = c.args.original.now in
    let b : Simulated = c.args.mutant.now in
    same-more (seen a) (seen b) c.loop-place.place (omega (arith, c.loop-place-test.true, c.requires.count, seen-long a)) (omega (arith, c.loop-place-test.true, c.requires.same, seen-long b))
    (sym (c.bits-one.ensures.bits ∙ c.output.ensures.bits) ∙ c.if-one-other.false ∙ c.bits-other.ensures.bits ∙ c.output-in-loop-place.ensures.bits) c.loop-place.invariant

pub returns : goal.returns
returns c =
    let a : Simulated = c.args.original.now in
    let b : Simulated = c.args.mutant.now in
    same-lists (seen a) (seen b) (omega (arith, c.requires.count, c.requires.same, seen-long a, seen-long b)) (λ k inside. c.loop-place.invariant k (omega (arith, inside, c.loop-place-test.false, c.requires.count, seen-long a)))
