use Rattle.elab_expr.proofs.Common.{◌+◌, ◌-◌, false, refl, pos, ◌-ℤ◌, subst, sym, arith, [], ◌∷◌, Bit, Fixed, number, values, bound_integer, AllBelow}
use Rattle.elab_expr.proofs.Selects.{selected_0, selected, saturated, down_none, down_at, up_none, below_at}
use Rattle.elab_expr.proofs.Wires.{there, nowhere, there_or_past}
use Rattle.elab_expr.proofs.wiring.window_bit.Goals as goal

pub returns-then-k-zeros-clause-value : goal.returns-then-k-zeros-clause-value
returns-then-k-zeros-clause-value c = λ nets. selected_0 nets (bound_integer c.args.place -ℤ pos c.args.low) c.args.k (number (values nets c.args.bits.now)) (c.args.place.magnitude + c.args.low - c.args.k - 1) (Fixed false) (down_none c.args.place c.args.low c.args.k c.if-place.true (omega arith)) refl

pub returns-else-k-zeros-clause-value : goal.returns-else-k-zeros-clause-value
returns-else-k-zeros-clause-value c = λ nets. selected nets c.args.bits.now (bound_integer c.args.place -ℤ pos c.args.low) c.args.k (c.args.k - (c.args.place.magnitude + c.args.low)) c.bit_at.result (down_at c.args.place c.args.low c.args.k c.if-place.true (omega arith)) (rw (c.from-k.ensures, c.from-low.ensures) at c.bit_at.ensures)

pub returns-else-k-zeros-clause-below : goal.returns-else-k-zeros-clause-below
returns-else-k-zeros-clause-below c = λ n h. subst (λ (b : Bit). AllBelow n (b ∷ [])) (sym c.bit_at.ensures) (below_at n c.args.bits.now _ h)

pub returns-then-at-low-clause-value : goal.returns-then-at-low-clause-value
returns-then-at-low-clause-value c = λ nets. selected_0 nets (bound_integer c.args.place -ℤ pos c.args.low) c.args.k (number (values nets c.args.bits.now)) (c.args.low - (c.args.place.magnitude + c.args.k) - 1) (Fixed false) (up_none c.args.place c.args.low c.args.k c.if-place.false (omega arith)) refl

pub returns-else-at-low-clause-value : goal.returns-else-at-low-clause-value
returns-else-at-low-clause-value c = λ nets. saturated nets c.args.bits.now c.args.place c.args.low c.args.k c.saturating_add-at.result c.bit_at-else-at-low.result c.if-place.false c.ranges.low.fits c.requires.short (rw c.from-k.ensures at c.saturating_add-at.ensures) (omega arith) (rw c.from-low.ensures at c.bit_at-else-at-low.ensures)

pub returns-else-at-low-clause-below : goal.returns-else-at-low-clause-below
returns-else-at-low-clause-below c = λ n h. subst (λ (b : Bit). AllBelow n (b ∷ [])) (sym c.bit_at-else-at-low.ensures) (below_at n c.args.bits.now _ h)

pub returns-then-k-zeros-clause-is : goal.returns-then-k-zeros-clause-is
returns-then-k-zeros-clause-is c = nowhere c.args.bits.now _ (c.args.place.magnitude + c.args.low - c.args.k - 1) (Fixed false) (down_none c.args.place c.args.low c.args.k c.if-place.true (omega arith)) refl

pub returns-else-k-zeros-clause-is : goal.returns-else-k-zeros-clause-is
returns-else-k-zeros-clause-is c = there c.args.bits.now _ (c.args.k - (c.args.place.magnitude + c.args.low)) c.bit_at.result (down_at c.args.place c.args.low c.args.k c.if-place.true (omega arith)) (rw (c.from-k.ensures, c.from-low.ensures) at c.bit_at.ensures)

pub returns-then-at-low-clause-is : goal.returns-then-at-low-clause-is
returns-then-at-low-clause-is c = nowhere c.args.bits.now _ (c.args.low - (c.args.place.magnitude + c.args.k) - 1) (Fixed false) (up_none c.args.place c.args.low c.args.k c.if-place.false (omega arith)) refl

pub returns-else-at-low-clause-is : goal.returns-else-at-low-clause-is
returns-else-at-low-clause-is c = there_or_past c.args.bits.now c.args.place c.args.low c.args.k c.saturating_add-at.result c.bit_at-else-at-low.result c.if-place.false c.ranges.low.fits c.requires.short (rw c.from-k.ensures at c.saturating_add-at.ensures) (omega arith) (rw c.from-low.ensures at c.bit_at-else-at-low.ensures)
