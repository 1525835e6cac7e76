use Rattle.elab_expr.proofs.Common.{◌∙◌, ◌-◌, List, ap, arith, length, Bit, number, values}
use Rattle.elab_expr.proofs.Extensions.{extended_is, fill_more}
use Rattle.elab_expr.proofs.Selects.{below_filled}
use Rattle.elab_expr.proofs.Wires.{widened_is}
use Rattle.elab_expr.proofs.wiring.extended_bits.Goals as goal

pub loop-fill-preserved : goal.loop-fill-preserved
loop-fill-preserved c = record {
  short = omega (arith, c.in_ok-push-2.ensures.len);
  wide = omega (arith, c.in_ok-push-2.ensures.len);
  same = fill_more c.args.bits.now c.loop-fill.found.items c.push-in-loop-fill.new.self.items c.fill_bit-fill.result c.loop-fill.invariant.wide c.loop-fill.invariant.same c.in_ok-push-2.ensures.items (omega (arith, c.in_ok-push-2.ensures.len));
}

pub returns-clause-value : goal.returns-clause-value
returns-clause-value c = λ nets. ap (λ (l : List Bit). number (values nets l)) c.from_vec.ensures ∙ extended_is nets c.args.bits.now c.loop-fill.found.items c.args.width c.args.is_signed c.fill_bit-fill.result c.requires.some c.requires.wide c.fill_bit-fill.ensures (omega arith) c.loop-fill.invariant.same

pub returns-clause-below : goal.returns-clause-below
returns-clause-below c = λ n h. below_filled n c.args.bits.now c.from_vec.result (length c.loop-fill.found.items - length c.args.bits.now) c.args.is_signed c.fill_bit-fill.result c.fill_bit-fill.ensures (c.from_vec.ensures ∙ c.loop-fill.invariant.same) h

pub returns-clause-is : goal.returns-clause-is
returns-clause-is c = c.from_vec.ensures ∙ widened_is c.args.bits.now c.loop-fill.found.items c.args.width c.args.is_signed c.fill_bit-fill.result c.fill_bit-fill.ensures (omega arith) c.loop-fill.invariant.same
