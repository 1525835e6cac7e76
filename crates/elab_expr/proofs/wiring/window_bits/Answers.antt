use Rattle.elab_expr.proofs.Common.{◌≡◌, ℕ, List, pos, add-one, ◌-ℤ◌, arith, refl, ap, ◌∙◌, subst, sym, Bit, AllBelow, number, values, window, bound_integer, bits_from}
use Rattle.elab_expr.proofs.Selects.{window_none, window_push, below_one}
use Rattle.elab_expr.proofs.Wires.{from_more}
use Rattle.elab_expr.proofs.wiring.window_bits.Goals as goal

pub loop-k-init : goal.loop-k-init
loop-k-init c = record { is = rw c.new-found.ensures.items refl; long = rw c.new-found.ensures.items refl; value = λ nets. rw c.new-found.ensures.items (window_none (bound_integer c.args.place -ℤ pos c.args.low) (number (values nets c.args.bits.now))); below = λ n h. rw c.new-found.ensures.items tt }

pub loop-k-preserved : goal.loop-k-preserved
loop-k-preserved c = record {
  is = rw add-one (from_more c.args.bits.now c.loop-k.found.items c.push.new.self.items (bound_integer c.args.place -ℤ pos c.args.low) c.loop-k.k c.window_bit.result c.in_ok-push.ensures.items c.loop-k.invariant.is c.window_bit.ensures.is);
  long = omega (arith, c.in_ok-push.ensures.len);
  value = λ nets. window_push nets c.args.bits.now c.loop-k.found.items c.push.new.self.items (bound_integer c.args.place -ℤ pos c.args.low) c.loop-k.k c.window_bit.result c.in_ok-push.ensures.items c.loop-k.invariant.long (c.loop-k.invariant.value nets) (c.window_bit.ensures.value nets);
  below = λ n h. below_one n c.loop-k.found.items c.window_bit.result c.push.new.self.items c.in_ok-push.ensures.items (c.loop-k.invariant.below n h) (c.window_bit.ensures.below n h);
}

pub returns-clause-value : goal.returns-clause-value
returns-clause-value c = λ nets. ap (λ (l : List Bit). number (values nets l)) c.from_vec.ensures ∙ c.loop-k.invariant.value nets ∙ ap (λ (k : ℕ). window (bound_integer c.args.place -ℤ pos c.args.low) k (number (values nets c.args.bits.now))) (omega arith)

pub returns-clause-below : goal.returns-clause-below
returns-clause-below c = λ n h. subst (AllBelow n) (sym c.from_vec.ensures) (c.loop-k.invariant.below n h)

pub returns-clause-is : goal.returns-clause-is
returns-clause-is c =
    let all : c.loop-k.k ≡ c.args.width = omega arith in
    c.from_vec.ensures ∙ c.loop-k.invariant.is ∙ ap (λ (k : ℕ). bits_from c.args.bits.now (bound_integer c.args.place -ℤ pos c.args.low) k) all
