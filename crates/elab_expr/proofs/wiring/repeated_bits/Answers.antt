use Rattle.elab_expr.proofs.Common.{◌≡◌, ◌∙◌, ◌++◌, ℕ, List, ap, arith, add-one, length, Bit, number, values, repeated, times}
use Rattle.elab_expr.proofs.Selects.{repeated_push, length_push, below_push}
use Rattle.elab_expr.proofs.Wires.{times_more}
use Rattle.elab_expr.proofs.wiring.repeated_bits.Goals as goal

pub loop-preserved : goal.loop-preserved
loop-preserved c =
    let is : c.in_ok-found.found ≡ c.in_ok-copied_bits.field-0 ++ c.loop.found = c.in_ok-found.ensures ∙ ap (λ (l : List Bit). c.in_ok-copied_bits.field-0 ++ l) c.as_slice.ensures in
    record {
      is = rw add-one (times_more c.args.bits.now c.loop.found c.in_ok-copied_bits.field-0 c.in_ok-found.found c.loop.counter c.in_ok-copied_bits.ensures is c.loop.invariant.is);
      long = length_push c.args.bits.now c.loop.found c.in_ok-copied_bits.field-0 c.in_ok-found.found c.loop.counter c.in_ok-copied_bits.ensures is c.loop.invariant.long;
      value = λ nets. rw add-one (repeated_push nets c.args.bits.now c.loop.found c.in_ok-copied_bits.field-0 c.in_ok-found.found c.loop.counter c.in_ok-copied_bits.ensures is (c.loop.invariant.value nets));
      below = λ n h. below_push n c.args.bits.now c.loop.found c.in_ok-copied_bits.field-0 c.in_ok-found.found c.in_ok-copied_bits.ensures is h (c.loop.invariant.below n h);
    }

pub returns-clause-value : goal.returns-clause-value
returns-clause-value c = λ nets. c.loop.invariant.value nets ∙ ap (λ (k : ℕ). repeated k (length c.args.bits.now) (number (values nets c.args.bits.now))) (omega arith)

pub returns-clause-is : goal.returns-clause-is
returns-clause-is c = c.loop.invariant.is ∙ ap (λ (k : ℕ). times k c.args.bits.now) (omega arith)
