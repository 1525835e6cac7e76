use Rattle.elab_expr.proofs.Common.{◌-◌, ◌+◌, ◌%◌, nat_eq, List, arith, ap, ◌∙◌, subst, sym, AllBelow, Bit, Fixed, number, values}
use Rattle.elab_expr.proofs.Bits.{none_left, half_small, laid_more}
use Rattle.elab_expr.proofs.Selects.{below_one}
use Rattle.elab_expr.proofs.Wires.{number_more, number_done}
use Rattle.elab_expr.proofs.wiring.constant_bits.Goals as goal

pub loop-preserved : goal.loop-preserved
loop-preserved c = record {
  is = number_more c.loop.bits.items c.push.new.self.items c.loop.counter c.loop.rest c.args.width c.args.value c.in_ok-push.ensures.items (omega arith) c.loop.invariant.is;
  long = omega (arith, c.in_ok-push.ensures.len);
  small = half_small c.loop.rest (c.args.width - c.loop.counter) (c.args.width - (c.loop.counter + 1)) c.loop.invariant.small (omega arith);
  same = λ nets. laid_more nets c.loop.bits.items c.push.new.self.items c.loop.counter c.loop.rest c.args.value c.in_ok-push.ensures.items c.loop.invariant.long (c.loop.invariant.same nets);
  below = λ n. below_one n c.loop.bits.items (Fixed (nat_eq (c.loop.rest % 2) 1)) c.push.new.self.items c.in_ok-push.ensures.items (c.loop.invariant.below n) tt;
}

pub returns-clause-value : goal.returns-clause-value
returns-clause-value c = λ nets. ap (λ (l : List Bit). number (values nets l)) c.from_vec.ensures ∙ none_left c.args.width c.loop.counter c.loop.rest _ c.args.value (omega arith) c.loop.invariant.small (c.loop.invariant.same nets)

pub returns-clause-below : goal.returns-clause-below
returns-clause-below c = λ n. subst (AllBelow n) (sym c.from_vec.ensures) (c.loop.invariant.below n)

pub returns-clause-is : goal.returns-clause-is
returns-clause-is c = c.from_vec.ensures ∙ number_done c.loop.bits.items c.loop.counter c.loop.rest c.args.width c.args.value (omega arith) c.loop.invariant.is
