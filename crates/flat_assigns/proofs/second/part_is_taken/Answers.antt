use Rattle.flat_assigns.proofs.Common.{◌≡◌, ℕ, false, subst, arith, first_bits, IsPassed, places_of, bit_targets, ◌++◌}
use Rattle.flat_assigns.proofs.Firsts.{part_hit, part_on}
use Rattle.flat_assigns.proofs.second.part_is_taken.Goals as goal

pub returns-then-branch : goal.returns-then-branch
returns-then-branch c = λ before seen.
    let s = c.args.slice.now in
    let h = c.loop-k.invariant before seen in
    let next = before ++ places_of (bit_targets s.span s.signal (first_bits s c.loop-k.k)) in
    part_hit c.args.builder.now c.args.inputs.now before s c.loop-k.k s.size c.loop-k.seen c.bit_is_taken.new.seen c.in_ok-bit_is_taken.field-0 c.loop-k-test.true h (c.in_ok-bit_is_taken.ensures next h.1) c.if-branch.true

pub loop-k-preserved : goal.loop-k-preserved
loop-k-preserved c = λ before seen.
    let s = c.args.slice.now in
    let h = c.loop-k.invariant before seen in
    let next = before ++ places_of (bit_targets s.span s.signal (first_bits s c.loop-k.k)) in
    part_on c.args.builder.now c.args.inputs.now before s c.loop-k.k c.loop-k.seen c.bit_is_taken.new.seen c.in_ok-bit_is_taken.field-0 h (c.in_ok-bit_is_taken.ensures next h.1) c.if-branch.false

pub returns : goal.returns
returns c = λ before seen.
    let s = c.args.slice.now in
    let same : c.loop-k.k ≡ s.size = omega (arith, c.loop-k-test.false, c.loop-k.auto.k-end) in
    subst (λ (n : ℕ). IsPassed c.args.builder.now c.args.inputs.now before s.span s.signal (first_bits s n) c.loop-k.seen false) same (c.loop-k.invariant before seen)
