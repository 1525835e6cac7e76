use Rattle.elab_expr.proofs.Common.{IfOk-weaker, names_of, number, values, extended, index_width, index_bits}
use Rattle.elab_expr.proofs.Adding.{picked_adds}
use Rattle.elab_expr.proofs.Showing.{picked_shown}
use Rattle.elab_expr.proofs.operators.picked.Goals as goal

pub returns-clause-adds : goal.returns-clause-adds
returns-clause-adds c = IfOk-weaker c.pick_bits.result _ _ (λ y b. picked_adds c.args.builder.now c.pick_bits.new.builder c.in_ok-a.a c.in_ok-at.at y c.args.size c.args.width (index_width c.args.own) (λ nets. extended c.args.own (index_width c.args.own) (number (values nets c.args.index))) c.args.span (names_of c.args.scope.now c.args.name.now.name) c.in_ok-a.ensures.long c.in_ok-a.ensures.value c.in_ok-at.ensures.long (rw c.as_slice.ensures at c.in_ok-at.ensures.value) b) c.pick_bits.ensures.adds

pub returns-clause-laid : goal.returns-clause-laid
returns-clause-laid c = IfOk-weaker c.pick_bits.result _ _ (λ y b. picked_shown c.args.builder.now c.pick_bits.new.builder c.in_ok-a.a (index_bits c.args.own c.args.index) c.in_ok-at.at y c.args.size c.args.width c.args.span _ c.in_ok-a.ensures.is (rw c.as_slice.ensures at c.in_ok-at.ensures.is) b) c.pick_bits.ensures.laid

pub pick_bits-requires-clause-below : goal.pick_bits-requires-clause-below
pick_bits-requires-clause-below c = (rw c.as_slice.ensures at c.in_ok-at.ensures.below) c.args.builder.now.nets c.requires.below
