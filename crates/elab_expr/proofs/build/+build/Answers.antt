use Rattle.elab_expr.proofs.Common.{◌≡◌, ◌∙◌, ◌++◌, List, length, refl, sym, ap, arith, rules, add-one, IfOk-weaker, IfErr-weaker, Bit, take_all, first_token, the_lemmas, Shape, bound_integer, sizing}
use Rattle.elab_expr.proofs.Common.{names_of, sense, senses, total_width, joined, own_context, context_sized, index_width, plans, all_cells, below_later, grown_nets, grows_again, showing, layout}
use Rattle.elab_expr.proofs.Common.{lay_arms, lay_condition}
use Rattle.vlog_meaning.proofs.Whole as whole
use Rattle.vlog_meaning.proofs.Whole.{element_whole}
use Rattle.elab_expr.proofs.Growing.{folded_evaluates, held, signals_kept, short_before, short_after}
use Rattle.elab_expr.proofs.Operands.{sized_as, operand_is, left_is, right_is, right_fits, element_supported, both_ok, place_built}
use Rattle.net_builder.proofs.Handed.{same_err}
use Rattle.elab_expr.proofs.Arms.{same_short, unary_cells_are, unary_built, binary_cells_are, binary_built, condition_cells_are, condition_built, choice_adds, conditional_built, pick_cells_are}
use Rattle.elab_expr.proofs.Arms.{pick_built, joins_none, joins_more, joins_short, joined_extended, joined_fits, replicated_built}
use Rattle.elab_expr.proofs.Facts as fact
use Rattle.elab_expr.proofs.Netlists as net
use Rattle.elab_expr.proofs.Netlists.{parts_more}
use Rattle.elab_expr.proofs.build.+build.Goals as goal

pub unary-returns-clause-built : goal.unary-returns-clause-built
unary-returns-clause-built t c =
    let names = names_of c.args.scope.now in
    let i = c.args.operand.now in
    let at = operand_is c.args.op c.shape_of.result (sense names i).shape c.args.context c.operand_context-at.result c.shape_of.ensures.shape c.operand_context-at.ensures in
    IfOk-weaker c.unary_bits.result _ _ (λ y b. unary_built names i c.args.op c.args.span c.args.context c.operand_context-at.result at c.args.builder.now c.build.new.builder c.unary_bits.new.builder c.in_ok-a.a y c.in_ok-a.ensures.built b) c.unary_bits.ensures.adds

pub unary-returns-in_err-a-clause-short : goal.unary-returns-in_err-a-clause-short
unary-returns-in_err-a-clause-short t c =
    let names = names_of c.args.scope.now in
    let i = c.args.operand.now in
    let at = operand_is c.args.op c.shape_of.result (sense names i).shape c.args.context c.operand_context-at.result c.shape_of.ensures.shape c.operand_context-at.ensures in
    same_err c.from_residual.result c.in_err-a.field-0.0 _ c.from_residual.ensures.1 (same_short (length c.args.builder.now.cells) _ _ _ (unary_cells_are names i c.args.op c.args.span c.args.context c.operand_context-at.result at) (short_before _ _ _ _ c.in_err-a.ensures.short))

pub unary-returns-clause-short : goal.unary-returns-clause-short
unary-returns-clause-short t c =
    let names = names_of c.args.scope.now in
    let i = c.args.operand.now in
    let at = operand_is c.args.op c.shape_of.result (sense names i).shape c.args.context c.operand_context-at.result c.shape_of.ensures.shape c.operand_context-at.ensures in
    IfErr-weaker c.unary_bits.result _ _ (λ e h. same_short (length c.args.builder.now.cells) _ _ e (unary_cells_are names i c.args.op c.args.span c.args.context c.operand_context-at.result at) (short_after c.args.builder.now c.build.new.builder c.in_ok-a.a _ _ _ _ e c.in_ok-a.ensures.built h)) c.unary_bits.ensures.short

pub binary-build-requires-2 : goal.binary-build-requires-2
binary-build-requires-2 t c =
    let names = names_of c.args.scope.now in
    let i = c.args.left.now in
    let j = c.args.right.now in
    let r = sizing c.args.op in
    let k = right_is c.sizing_of-sizing.result r c.shape_of-left_shape.result c.shape_of-right_shape.result (sense names i).shape (sense names j).shape c.args.context c.right_context-right_at.result c.sizing_of-sizing.ensures c.shape_of-left_shape.ensures.shape c.shape_of-right_shape.ensures.shape c.right_context-right_at.ensures in
    let si = sized_as c.shape_of-left_shape.result (sense names i).shape c.shape_of-left_shape.ensures.shape c.shape_of-left_shape.ensures.sized in
    let sj = sized_as c.shape_of-right_shape.result (sense names j).shape c.shape_of-right_shape.ensures.shape c.shape_of-right_shape.ensures.sized in
    (search (rules, the_lemmas), (c.requires.right, (c.requires.supported_right, ((right_fits r (sense names i).shape (sense names j).shape c.args.context c.right_context-right_at.result k si sj c.requires.context), ((context_sized (sense names j).shape c.right_context-right_at.result sj (right_fits r (sense names i).shape (sense names j).shape c.args.context c.right_context-right_at.result k si sj c.requires.context)).some, signals_kept names c.args.builder.now c.build.new.builder c.in_ok-a.ensures.built.grows c.requires.signals)))))

pub binary-binary_bits-requires-clause-below_a : goal.binary-binary_bits-requires-clause-below_a
binary-binary_bits-requires-clause-below_a t c =
    below_later c.build.new.builder.nets c.build-2.new.builder.nets c.in_ok-a.a (grown_nets c.build.new.builder c.build-2.new.builder c.in_ok-b.ensures.built.grows) c.in_ok-a.ensures.built.below

pub binary-returns-clause-built : goal.binary-returns-clause-built
binary-returns-clause-built t c =
    let names = names_of c.args.scope.now in
    let i = c.args.left.now in
    let j = c.args.right.now in
    let r = sizing c.args.op in
    let l = left_is c.sizing_of-sizing.result r c.shape_of-left_shape.result c.shape_of-right_shape.result (sense names i).shape (sense names j).shape c.args.context c.left_context-left_at.result c.sizing_of-sizing.ensures c.shape_of-left_shape.ensures.shape c.shape_of-right_shape.ensures.shape c.left_context-left_at.ensures in
    let k = right_is c.sizing_of-sizing.result r c.shape_of-left_shape.result c.shape_of-right_shape.result (sense names i).shape (sense names j).shape c.args.context c.right_context-right_at.result c.sizing_of-sizing.ensures c.shape_of-left_shape.ensures.shape c.shape_of-right_shape.ensures.shape c.right_context-right_at.ensures in
    IfOk-weaker c.binary_bits.result _ _ (λ y b. binary_built names i j c.args.op c.args.span c.args.context c.left_context-left_at.result c.right_context-right_at.result l k c.args.builder.now c.build.new.builder c.build-2.new.builder c.binary_bits.new.builder c.in_ok-a.a c.in_ok-b.b y c.in_ok-a.ensures.built c.in_ok-b.ensures.built b) c.binary_bits.ensures.adds

pub binary-returns-in_err-a-clause-short : goal.binary-returns-in_err-a-clause-short
binary-returns-in_err-a-clause-short t c =
    let names = names_of c.args.scope.now in
    let i = c.args.left.now in
    let j = c.args.right.now in
    let r = sizing c.args.op in
    let l = left_is c.sizing_of-sizing.result r c.shape_of-left_shape.result c.shape_of-right_shape.result (sense names i).shape (sense names j).shape c.args.context c.left_context-left_at.result c.sizing_of-sizing.ensures c.shape_of-left_shape.ensures.shape c.shape_of-right_shape.ensures.shape c.left_context-left_at.ensures in
    let k = right_is c.sizing_of-sizing.result r c.shape_of-left_shape.result c.shape_of-right_shape.result (sense names i).shape (sense names j).shape c.args.context c.right_context-right_at.result c.sizing_of-sizing.ensures c.shape_of-left_shape.ensures.shape c.shape_of-right_shape.ensures.shape c.right_context-right_at.ensures in
    same_err c.from_residual.result c.in_err-a.field-0.0 _ c.from_residual.ensures.1 (same_short (length c.args.builder.now.cells) _ _ _ (binary_cells_are names i j c.args.op c.args.span c.args.context c.left_context-left_at.result c.right_context-right_at.result l k) (short_before _ _ _ _ c.in_err-a.ensures.short))

pub binary-returns-in_err-b-clause-short : goal.binary-returns-in_err-b-clause-short
binary-returns-in_err-b-clause-short t c =
    let names = names_of c.args.scope.now in
    let i = c.args.left.now in
    let j = c.args.right.now in
    let r = sizing c.args.op in
    let l = left_is c.sizing_of-sizing.result r c.shape_of-left_shape.result c.shape_of-right_shape.result (sense names i).shape (sense names j).shape c.args.context c.left_context-left_at.result c.sizing_of-sizing.ensures c.shape_of-left_shape.ensures.shape c.shape_of-right_shape.ensures.shape c.left_context-left_at.ensures in
    let k = right_is c.sizing_of-sizing.result r c.shape_of-left_shape.result c.shape_of-right_shape.result (sense names i).shape (sense names j).shape c.args.context c.right_context-right_at.result c.sizing_of-sizing.ensures c.shape_of-left_shape.ensures.shape c.shape_of-right_shape.ensures.shape c.right_context-right_at.ensures in
    same_err c.from_residual-in_err-b.result c.in_err-b.field-0.0 _ c.from_residual-in_err-b.ensures.1 (same_short (length c.args.builder.now.cells) _ _ _ (binary_cells_are names i j c.args.op c.args.span c.args.context c.left_context-left_at.result c.right_context-right_at.result l k) (short_after c.args.builder.now c.build.new.builder c.in_ok-a.a _ _ _ _ _ c.in_ok-a.ensures.built (short_before _ _ _ _ c.in_err-b.ensures.short)))

pub binary-returns-clause-short : goal.binary-returns-clause-short
binary-returns-clause-short t c =
    let names = names_of c.args.scope.now in
    let i = c.args.left.now in
    let j = c.args.right.now in
    let r = sizing c.args.op in
    let l = left_is c.sizing_of-sizing.result r c.shape_of-left_shape.result c.shape_of-right_shape.result (sense names i).shape (sense names j).shape c.args.context c.left_context-left_at.result c.sizing_of-sizing.ensures c.shape_of-left_shape.ensures.shape c.shape_of-right_shape.ensures.shape c.left_context-left_at.ensures in
    let k = right_is c.sizing_of-sizing.result r c.shape_of-left_shape.result c.shape_of-right_shape.result (sense names i).shape (sense names j).shape c.args.context c.right_context-right_at.result c.sizing_of-sizing.ensures c.shape_of-left_shape.ensures.shape c.shape_of-right_shape.ensures.shape c.right_context-right_at.ensures in
    IfErr-weaker c.binary_bits.result _ _ (λ e h. same_short (length c.args.builder.now.cells) _ _ e (binary_cells_are names i j c.args.op c.args.span c.args.context c.left_context-left_at.result c.right_context-right_at.result l k) (short_after c.args.builder.now c.build.new.builder c.in_ok-a.a _ _ _ _ e c.in_ok-a.ensures.built (short_after c.build.new.builder c.build-2.new.builder c.in_ok-b.b _ _ _ _ e c.in_ok-b.ensures.built h))) c.binary_bits.ensures.short

pub condition-returns-clause-built : goal.condition-returns-clause-built
condition-returns-clause-built t c =
    let names = names_of c.args.scope.now in
    let x = c.args.expr.now in
    let is = c.shape_of-own.ensures.shape in
    IfOk-weaker c.condition_bits.result _ _ (λ y b. condition_built names x c.shape_of-own.result c.first_token.result is c.first_token.ensures c.args.builder.now c.build.new.builder c.condition_bits.new.builder c.in_ok-a.a y c.in_ok-a.ensures.built b) c.condition_bits.ensures.adds

pub condition-returns-in_err-a-clause-short : goal.condition-returns-in_err-a-clause-short
condition-returns-in_err-a-clause-short t c =
    let names = names_of c.args.scope.now in
    let x = c.args.expr.now in
    let is = c.shape_of-own.ensures.shape in
    same_err c.from_residual.result c.in_err-a.field-0.0 _ c.from_residual.ensures.1 (same_short (length c.args.builder.now.cells) _ _ _ (condition_cells_are names x c.shape_of-own.result (first_token x) is refl) (short_before _ _ _ _ c.in_err-a.ensures.short))

pub condition-returns-clause-short : goal.condition-returns-clause-short
condition-returns-clause-short t c =
    let names = names_of c.args.scope.now in
    let x = c.args.expr.now in
    let is = c.shape_of-own.ensures.shape in
    IfErr-weaker c.condition_bits.result _ _ (λ e h. same_short (length c.args.builder.now.cells) _ _ e (condition_cells_are names x c.shape_of-own.result c.first_token.result is c.first_token.ensures) (short_after c.args.builder.now c.build.new.builder c.in_ok-a.a _ _ _ _ e c.in_ok-a.ensures.built h)) c.condition_bits.ensures.short

pub choice-build-requires-2 : goal.choice-build-requires-2
choice-build-requires-2 t c =
    let names = names_of c.args.scope.now in
    (search (rules, the_lemmas), (c.requires.no, (c.requires.supported_no, (c.requires.context_no, (c.requires.some, signals_kept names c.args.builder.now c.build.new.builder c.in_ok-yes.ensures.built.grows c.requires.signals)))))

pub choice-choice_bits-requires-clause-below_s : goal.choice-choice_bits-requires-clause-below_s
choice-choice_bits-requires-clause-below_s t c =
    below_later c.args.builder.now.nets c.build-2.new.builder.nets c.args.s (grown_nets c.args.builder.now c.build-2.new.builder (grows_again c.args.builder.now c.build.new.builder c.build-2.new.builder c.in_ok-yes.ensures.built.grows c.in_ok-no.ensures.built.grows)) c.requires.below

pub choice-choice_bits-requires-clause-below_yes : goal.choice-choice_bits-requires-clause-below_yes
choice-choice_bits-requires-clause-below_yes t c =
    below_later c.build.new.builder.nets c.build-2.new.builder.nets c.in_ok-yes.yes (grown_nets c.build.new.builder c.build-2.new.builder c.in_ok-no.ensures.built.grows) c.in_ok-yes.ensures.built.below

pub choice-returns-clause-adds : goal.choice-returns-clause-adds
choice-returns-clause-adds t c =
    let names = names_of c.args.scope.now in
    let i = c.args.yes.now in
    let j = c.args.no.now in
    IfOk-weaker c.choice_bits.result _ _ (λ y b. choice_adds names i j c.args.span c.args.context c.args.builder.now c.build.new.builder c.build-2.new.builder c.choice_bits.new.builder c.args.s c.in_ok-yes.yes c.in_ok-no.no y c.in_ok-yes.ensures.built c.in_ok-no.ensures.built b) c.choice_bits.ensures.adds

pub conditional-choice-requires : goal.conditional-choice-requires
conditional-choice-requires t c =
    let names = names_of c.args.scope.now in
    (search (rules, the_lemmas), (c.in_ok-s.ensures.built.long, (c.in_ok-s.ensures.built.below, (c.requires.yes, (c.requires.no, (c.requires.supported_yes, (c.requires.supported_no, (c.requires.context_yes, (c.requires.context_no, (c.requires.some, signals_kept names c.args.builder.now c.condition.new.builder c.in_ok-s.ensures.built.grows c.requires.signals))))))))))

pub conditional-returns-clause-built : goal.conditional-returns-clause-built
conditional-returns-clause-built t c =
    let names = names_of c.args.scope.now in
    IfOk-weaker c.choice.result _ _ (λ y b. conditional_built names c.args.test.now c.args.yes.now c.args.no.now c.args.span c.args.context c.args.builder.now c.condition.new.builder c.choice.new.builder c.in_ok-s.s y c.in_ok-s.ensures.built b) c.choice.ensures.adds

pub select-picked-requires-clause-signals : goal.select-picked-requires-clause-signals
select-picked-requires-clause-signals t c =
    let names = names_of c.args.scope.now in
    signals_kept names c.args.builder.now c.build.new.builder c.in_ok-at.ensures.built.grows c.requires.signals

pub select-returns-in_ok-placed-clause-built : goal.select-returns-in_ok-placed-clause-built
select-returns-in_ok-placed-clause-built t c =
    place_built (names_of c.args.scope.now) c.args.name.now.name c.args.index.now c.args.span c.args.size c.args.width (bound_integer c.bound_of-place.result) c.args.builder.now c.in_ok-placed.field-0 (sym c.is_constant.ensures ∙ c.if-is_constant.true) c.bound_of-place.ensures.value c.in_ok-placed.ensures.holds

pub select-returns-in_ok-at-clause-built : goal.select-returns-in_ok-at-clause-built
select-returns-in_ok-at-clause-built t c =
    let names = names_of c.args.scope.now in
    let x = c.args.index.now in
    let n = c.args.name.now.name in
    IfOk-weaker c.picked.result _ _ (λ y b. pick_built names n x c.args.span c.args.size c.shape_of-own.result c.args.width c.args.builder.now c.build.new.builder c.picked.new.builder c.in_ok-at.at y (sym c.is_constant.ensures ∙ c.if-is_constant.false) c.requires.from_0 c.requires.one (signals_kept names c.args.builder.now c.build.new.builder c.in_ok-at.ensures.built.grows c.requires.signals n) c.requires.name c.shape_of-own.ensures.sized c.shape_of-own.ensures.shape c.in_ok-at.ensures.built b) c.picked.ensures.adds

pub select-returns-in_err-at-clause-short : goal.select-returns-in_err-at-clause-short
select-returns-in_err-at-clause-short t c =
    let names = names_of c.args.scope.now in
    let x = c.args.index.now in
    let n = c.args.name.now.name in
    same_err c.from_residual-in_err-at.result c.in_err-at.field-0.0 _ c.from_residual-in_err-at.ensures.1 (same_short (length c.args.builder.now.cells) _ _ _ (pick_cells_are names n x c.args.span c.args.size c.shape_of-own.result (index_width c.shape_of-own.result) (sym c.is_constant.ensures ∙ c.if-is_constant.false) c.shape_of-own.ensures.shape refl) (short_before _ _ _ _ c.in_err-at.ensures.short))

pub select-returns-in_ok-at-clause-short : goal.select-returns-in_ok-at-clause-short
select-returns-in_ok-at-clause-short t c =
    let names = names_of c.args.scope.now in
    let x = c.args.index.now in
    let n = c.args.name.now.name in
    IfErr-weaker c.picked.result _ _ (λ e h. same_short (length c.args.builder.now.cells) _ _ e (pick_cells_are names n x c.args.span c.args.size c.shape_of-own.result (index_width c.shape_of-own.result) (sym c.is_constant.ensures ∙ c.if-is_constant.false) c.shape_of-own.ensures.shape refl) (short_after c.args.builder.now c.build.new.builder c.in_ok-at.at _ _ _ _ e c.in_ok-at.ensures.built h)) c.picked.ensures.short

pub concatenation-loop-part-init : goal.concatenation-loop-part-init
concatenation-loop-part-init t c =
    let names = names_of c.args.scope.now in
    record { built = joins_none names c.args.builder.now c.from_vec-all.result (search rules); laid = ap (showing c.args.builder.now) (search rules) }

pub concatenation-shape_of-requires-in-loop-part : goal.concatenation-shape_of-requires-in-loop-part
concatenation-shape_of-requires-in-loop-part t c =
    let names = names_of c.args.scope.now in
    element_whole names c.args.parts.now c.loop-part.part-index c.part-item.result c.part-item.is (omega arith) c.requires.whole

pub concatenation-build-requires : goal.concatenation-build-requires
concatenation-build-requires t c =
    let names = names_of c.args.scope.now in
    (search (rules, the_lemmas), (element_whole names c.args.parts.now c.loop-part.part-index c.part-item.result c.part-item.is (omega arith) c.requires.whole, (element_supported names c.args.parts.now c.loop-part.part-index c.part-item.result c.part-item.is (omega arith) c.requires.supported, (own_context (sense names c.part-item.result).shape c.shape_of.result c.shape_of.ensures.shape c.shape_of.ensures.sized, (c.shape_of.ensures.sized.some, signals_kept names c.args.builder.now c.loop-part.builder c.loop-part.invariant.built.grows c.requires.signals)))))

pub concatenation-loop-part-preserved : goal.concatenation-loop-part-preserved
concatenation-loop-part-preserved t c =
    let names = names_of c.args.scope.now in
    record {
      built = rw add-one (joins_more names c.args.parts.now c.loop-part.part-index c.part-item.result c.shape_of.result c.args.builder.now c.loop-part.builder c.build.new.builder c.loop-part.all c.in_ok-bits.bits c.in_ok-all.all c.part-item.is (omega arith) c.shape_of.ensures.shape c.loop-part.invariant.built c.in_ok-bits.ensures.built (c.in_ok-all.ensures ∙ ap (λ (l : List Bit). c.in_ok-bits.bits ++ l) c.as_slice.ensures));
      laid = rw add-one (parts_more names c.args.parts.now c.loop-part.part-index c.part-item.result c.shape_of.result c.args.builder.now c.loop-part.builder c.build.new.builder c.loop-part.all c.in_ok-bits.bits c.in_ok-all.all c.part-item.is (omega arith) c.shape_of.ensures.shape c.loop-part.invariant.laid c.in_ok-bits.ensures.laid (c.in_ok-all.ensures ∙ ap (λ (l : List Bit). c.in_ok-bits.bits ++ l) c.as_slice.ensures));
    }

pub concatenation-returns-in_err-bits-clause-short : goal.concatenation-returns-in_err-bits-clause-short
concatenation-returns-in_err-bits-clause-short t c =
    let names = names_of c.args.scope.now in
    same_err c.from_residual.result c.in_err-bits.field-0.0 _ c.from_residual.ensures.1 (joins_short names c.args.parts.now c.loop-part.part-index c.part-item.result c.shape_of.result c.args.builder.now c.loop-part.builder c.loop-part.all _ c.part-item.is (omega arith) c.shape_of.ensures.shape c.loop-part.invariant.built c.in_err-bits.ensures.short)

pub joined_at-returns-clause-built : goal.joined_at-returns-clause-built
joined_at-returns-clause-built t c =
    let names = names_of c.args.scope.now in
    joined_extended c.args.builder.now c.concatenation.new.builder c.in_ok-bits.bits c.in_ok-extended_bits.field-0 c.args.own (total_width (senses names c.args.parts.now)) c.args.width (λ signals. joined signals (senses names c.args.parts.now)) (all_cells (plans names c.args.parts.now)) c.requires.own c.in_ok-bits.ensures.built c.in_ok-extended_bits.ensures.long (rw c.as_slice.ensures at c.in_ok-extended_bits.ensures.value) (rw c.as_slice.ensures at c.in_ok-extended_bits.ensures.below)

pub joined_at-returns-clause-fits : goal.joined_at-returns-clause-fits
joined_at-returns-clause-fits t c =
    let names = names_of c.args.scope.now in
    λ nets runs. joined_fits c.args.builder.now c.concatenation.new.builder c.in_ok-bits.bits c.args.own (total_width (senses names c.args.parts.now)) (λ signals. joined signals (senses names c.args.parts.now)) (all_cells (plans names c.args.parts.now)) nets c.requires.own c.in_ok-bits.ensures.built runs

pub replicated-returns-clause-built : goal.replicated-returns-clause-built
replicated-returns-clause-built t c =
    let names = names_of c.args.scope.now in
    replicated_built c.args.builder.now c.concatenation.new.builder c.in_ok-bits.bits c.in_ok-repeated_at.field-0 c.args.times (total_width (senses names c.args.parts.now)) c.args.width (λ signals. joined signals (senses names c.args.parts.now)) (all_cells (plans names c.args.parts.now)) c.in_ok-bits.ensures.built c.in_ok-repeated_at.ensures.long (rw c.as_slice.ensures at c.in_ok-repeated_at.ensures.value) (rw c.as_slice.ensures at c.in_ok-repeated_at.ensures.below)

pub build-returns-in_ok-folded-clause-built : goal.build-returns-in_ok-folded-clause-built
build-returns-in_ok-folded-clause-built t c =
    let names = names_of c.args.scope.now in
    folded_evaluates names c.args.expr.now c.args.context c.args.builder.now c.in_ok-folded.field-0 (sym c.is_constant.ensures ∙ c.if-is_constant.true) c.in_ok-folded.ensures.long c.in_ok-folded.ensures.value c.in_ok-folded.ensures.below

pub build_parts-returns-in_ok-named-in-Name-clause-built : goal.build_parts-returns-in_ok-named-in-Name-clause-built
build_parts-returns-in_ok-named-in-Name-clause-built t c =
    let names = names_of c.args.scope.now in
    fact.name_built names c.args.expr.now c.args.context c.in-Name.name c.in-Name.is c.args.builder.now c.args.builder.now c.in_ok-named-in-Name.field-0 c.requires.varies (held c.args.builder.now c.in_ok-named-in-Name.field-0 c.args.context.width _ c.in_ok-named-in-Name.ensures.holds)

pub build_parts-select-requires : goal.build_parts-select-requires
build_parts-select-requires t c =
    let names = names_of c.args.scope.now in
    (search (rules, the_lemmas), (rw c.get.ensures (whole.whole_index names c.args.expr.now c.in-BitSelect.name c.in-BitSelect.span c.in-BitSelect.index c.in-BitSelect.is c.requires.whole), (rw c.get.ensures (fact.bit_parts names c.args.expr.now c.args.context c.in-BitSelect.name c.in-BitSelect.span c.in-BitSelect.index c.in-BitSelect.is c.requires.supported).1, (rw c.get.ensures (fact.bit_parts names c.args.expr.now c.args.context c.in-BitSelect.name c.in-BitSelect.span c.in-BitSelect.index c.in-BitSelect.is c.requires.supported).0, ((λ signed varies. refl), (fact.bit_name names c.args.expr.now c.args.context c.in-BitSelect.name c.in-BitSelect.span c.in-BitSelect.index c.in-BitSelect.is c.requires.whole, (omega arith, (fact.bit_wide names c.args.expr.now c.args.context c.in-BitSelect.name c.in-BitSelect.span c.in-BitSelect.index c.in-BitSelect.is c.requires.context, (c.requires.context.narrow, c.requires.signals)))))))))

pub build_parts-returns-in-BitSelect-clause-built : goal.build_parts-returns-in-BitSelect-clause-built
build_parts-returns-in-BitSelect-clause-built t c =
    let names = names_of c.args.scope.now in
    IfOk-weaker c.select.result _ _ (λ y h. fact.bit_built names c.args.expr.now c.args.context c.in-BitSelect.name c.in-BitSelect.span c.in-BitSelect.index c.in-BitSelect.is c.args.builder.now c.select.new.builder y c.requires.varies h) (rw c.get.ensures at c.select.ensures.built)

pub build_parts-returns-in-BitSelect-clause-short : goal.build_parts-returns-in-BitSelect-clause-short
build_parts-returns-in-BitSelect-clause-short t c =
    let names = names_of c.args.scope.now in
    IfErr-weaker c.select.result _ _ (λ e h. same_short (length c.args.builder.now.cells) _ _ e (fact.bit_made names c.args.expr.now c.args.context c.in-BitSelect.name c.in-BitSelect.span c.in-BitSelect.index c.in-BitSelect.is c.requires.varies) h) (rw c.get.ensures at c.select.ensures.short)

pub build_parts-bound_of-place-requires : goal.build_parts-bound_of-place-requires
build_parts-bound_of-place-requires t c =
    let names = names_of c.args.scope.now in
    rw c.get-in-PartSelect.ensures (whole.whole_part names c.args.expr.now c.in-PartSelect.name c.in-PartSelect.field-1 c.in-PartSelect.field-2 c.in-PartSelect.lsb c.in-PartSelect.is c.requires.whole).lsb

pub build_parts-returns-in_ok-placed-in-PartSelect-clause-built : goal.build_parts-returns-in_ok-placed-in-PartSelect-clause-built
build_parts-returns-in_ok-placed-in-PartSelect-clause-built t c =
    let names = names_of c.args.scope.now in
    fact.part_built names c.args.expr.now c.args.context c.in-PartSelect.name c.in-PartSelect.field-1 c.in-PartSelect.field-2 c.in-PartSelect.lsb c.in-PartSelect.is c.args.builder.now c.args.builder.now c.in_ok-placed-in-PartSelect.field-0 (bound_integer c.bound_of-place.result) c.shape_of-size.result.width c.requires.varies (rw c.get-in-PartSelect.ensures at c.bound_of-place.ensures.value) (ap (λ (s : Shape). s.width) c.shape_of-size.ensures.shape) (held c.args.builder.now c.in_ok-placed-in-PartSelect.field-0 c.args.context.width _ c.in_ok-placed-in-PartSelect.ensures.holds)

pub build_parts-count_of-size-requires-clause-whole : goal.build_parts-count_of-size-requires-clause-whole
build_parts-count_of-size-requires-clause-whole t c =
    let names = names_of c.args.scope.now in
    rw c.get-in-IndexedPartSelect.ensures (whole.whole_indexed names c.args.expr.now c.in-IndexedPartSelect.name c.in-IndexedPartSelect.span c.in-IndexedPartSelect.base c.in-IndexedPartSelect.width c.in-IndexedPartSelect.is c.requires.whole).width

pub build_parts-select-requires-in-IndexedPartSelect : goal.build_parts-select-requires-in-IndexedPartSelect
build_parts-select-requires-in-IndexedPartSelect t c =
    let names = names_of c.args.scope.now in
    (search (rules, the_lemmas), (rw c.get-in-IndexedPartSelect-2.ensures (whole.whole_indexed names c.args.expr.now c.in-IndexedPartSelect.name c.in-IndexedPartSelect.span c.in-IndexedPartSelect.base c.in-IndexedPartSelect.width c.in-IndexedPartSelect.is c.requires.whole).base, (rw c.get-in-IndexedPartSelect-2.ensures (fact.indexed_parts names c.args.expr.now c.args.context c.in-IndexedPartSelect.name c.in-IndexedPartSelect.span c.in-IndexedPartSelect.base c.in-IndexedPartSelect.width c.in-IndexedPartSelect.is c.requires.supported).1, (rw c.get-in-IndexedPartSelect-2.ensures (fact.indexed_parts names c.args.expr.now c.args.context c.in-IndexedPartSelect.name c.in-IndexedPartSelect.span c.in-IndexedPartSelect.base c.in-IndexedPartSelect.width c.in-IndexedPartSelect.is c.requires.supported).0, (rw c.get-in-IndexedPartSelect-2.ensures (fact.indexed_one names c.args.expr.now c.args.context c.in-IndexedPartSelect.name c.in-IndexedPartSelect.span c.in-IndexedPartSelect.base c.in-IndexedPartSelect.width c.in-IndexedPartSelect.is c.count_of-size.result c.requires.supported (whole.whole_indexed names c.args.expr.now c.in-IndexedPartSelect.name c.in-IndexedPartSelect.span c.in-IndexedPartSelect.base c.in-IndexedPartSelect.width c.in-IndexedPartSelect.is c.requires.whole).base), (fact.indexed_name names c.args.expr.now c.args.context c.in-IndexedPartSelect.name c.in-IndexedPartSelect.span c.in-IndexedPartSelect.base c.in-IndexedPartSelect.width c.in-IndexedPartSelect.is c.requires.whole, (rw (rw c.get-in-IndexedPartSelect.ensures at c.count_of-size.ensures) (whole.whole_indexed names c.args.expr.now c.in-IndexedPartSelect.name c.in-IndexedPartSelect.span c.in-IndexedPartSelect.base c.in-IndexedPartSelect.width c.in-IndexedPartSelect.is c.requires.whole).some, (rw (rw c.get-in-IndexedPartSelect.ensures at c.count_of-size.ensures) (fact.indexed_wide names c.args.expr.now c.args.context c.in-IndexedPartSelect.name c.in-IndexedPartSelect.span c.in-IndexedPartSelect.base c.in-IndexedPartSelect.width c.in-IndexedPartSelect.is c.requires.context), (c.requires.context.narrow, c.requires.signals)))))))))

pub build_parts-returns-in-IndexedPartSelect-clause-built : goal.build_parts-returns-in-IndexedPartSelect-clause-built
build_parts-returns-in-IndexedPartSelect-clause-built t c =
    let names = names_of c.args.scope.now in
    IfOk-weaker c.select-in-IndexedPartSelect.result _ _ (λ y h. fact.indexed_built names c.args.expr.now c.args.context c.in-IndexedPartSelect.name c.in-IndexedPartSelect.span c.in-IndexedPartSelect.base c.in-IndexedPartSelect.width c.in-IndexedPartSelect.is c.args.builder.now c.select-in-IndexedPartSelect.new.builder y c.count_of-size.result (rw c.get-in-IndexedPartSelect.ensures at c.count_of-size.ensures) c.requires.varies h) (rw c.get-in-IndexedPartSelect-2.ensures at c.select-in-IndexedPartSelect.ensures.built)

pub build_parts-returns-in-IndexedPartSelect-clause-short : goal.build_parts-returns-in-IndexedPartSelect-clause-short
build_parts-returns-in-IndexedPartSelect-clause-short t c =
    let names = names_of c.args.scope.now in
    IfErr-weaker c.select-in-IndexedPartSelect.result _ _ (λ e h. same_short (length c.args.builder.now.cells) _ _ e (fact.indexed_made names c.args.expr.now c.args.context c.in-IndexedPartSelect.name c.in-IndexedPartSelect.span c.in-IndexedPartSelect.base c.in-IndexedPartSelect.width c.in-IndexedPartSelect.is c.count_of-size.result (rw c.get-in-IndexedPartSelect.ensures at c.count_of-size.ensures) c.requires.varies) h) (rw c.get-in-IndexedPartSelect-2.ensures at c.select-in-IndexedPartSelect.ensures.short)

pub build_parts-returns-in-Parenthesized-clause-built : goal.build_parts-returns-in-Parenthesized-clause-built
build_parts-returns-in-Parenthesized-clause-built t c =
    let names = names_of c.args.scope.now in
    IfOk-weaker c.build.result _ _ (λ y h. fact.inner_built names c.args.expr.now c.args.context c.in-Parenthesized.field-0 c.in-Parenthesized.inner c.in-Parenthesized.is c.args.builder.now c.build.new.builder y c.requires.varies h) (rw c.get-in-Parenthesized.ensures at c.build.ensures.built)

pub build_parts-returns-in-Parenthesized-clause-short : goal.build_parts-returns-in-Parenthesized-clause-short
build_parts-returns-in-Parenthesized-clause-short t c =
    let names = names_of c.args.scope.now in
    IfErr-weaker c.build.result _ _ (λ e h. same_short (length c.args.builder.now.cells) _ _ e (fact.inner_made names c.args.expr.now c.args.context c.in-Parenthesized.field-0 c.in-Parenthesized.inner c.in-Parenthesized.is c.requires.varies) h) (rw c.get-in-Parenthesized.ensures at c.build.ensures.short)

pub build_parts-returns-in-Unary-clause-built : goal.build_parts-returns-in-Unary-clause-built
build_parts-returns-in-Unary-clause-built t c =
    let names = names_of c.args.scope.now in
    IfOk-weaker c.unary.result _ _ (λ y h. fact.unary_whole names c.args.expr.now c.args.context c.in-Unary.span c.in-Unary.op c.in-Unary.operand c.in-Unary.is c.args.builder.now c.unary.new.builder y c.requires.varies h) (rw c.get-in-Unary.ensures at c.unary.ensures.built)

pub build_parts-returns-in-Unary-clause-short : goal.build_parts-returns-in-Unary-clause-short
build_parts-returns-in-Unary-clause-short t c =
    let names = names_of c.args.scope.now in
    IfErr-weaker c.unary.result _ _ (λ e h. same_short (length c.args.builder.now.cells) _ _ e (fact.unary_made names c.args.expr.now c.args.context c.in-Unary.span c.in-Unary.op c.in-Unary.operand c.in-Unary.is c.requires.varies) h) (rw c.get-in-Unary.ensures at c.unary.ensures.short)

pub build_parts-binary-requires : goal.build_parts-binary-requires
build_parts-binary-requires t c =
    let names = names_of c.args.scope.now in
    (search (rules, the_lemmas), (rw c.get-in-Binary.ensures (whole.whole_pair names c.args.expr.now c.in-Binary.span c.in-Binary.op c.in-Binary.left c.in-Binary.right c.in-Binary.is c.requires.whole).0, (rw c.get-in-Binary-2.ensures (whole.whole_pair names c.args.expr.now c.in-Binary.span c.in-Binary.op c.in-Binary.left c.in-Binary.right c.in-Binary.is c.requires.whole).1, (rw c.get-in-Binary.ensures (fact.pair_left names c.args.expr.now c.args.context c.in-Binary.span c.in-Binary.op c.in-Binary.left c.in-Binary.right c.in-Binary.is c.requires.supported), (rw c.get-in-Binary-2.ensures (fact.pair_right names c.args.expr.now c.args.context c.in-Binary.span c.in-Binary.op c.in-Binary.left c.in-Binary.right c.in-Binary.is c.requires.supported), (fact.pair_supported names c.args.expr.now c.args.context c.in-Binary.span c.in-Binary.op c.in-Binary.left c.in-Binary.right c.in-Binary.is c.requires.varies c.requires.supported, (rw (c.get-in-Binary.ensures, c.get-in-Binary-2.ensures) (fact.pair_context names c.args.expr.now c.args.context c.in-Binary.span c.in-Binary.op c.in-Binary.left c.in-Binary.right c.in-Binary.is c.requires.context), c.requires.signals)))))))

pub build_parts-returns-in-Binary-clause-built : goal.build_parts-returns-in-Binary-clause-built
build_parts-returns-in-Binary-clause-built t c =
    let names = names_of c.args.scope.now in
    IfOk-weaker c.binary.result _ _ (λ y h. fact.pair_built names c.args.expr.now c.args.context c.in-Binary.span c.in-Binary.op c.in-Binary.left c.in-Binary.right c.in-Binary.is c.args.builder.now c.binary.new.builder y c.requires.varies h) (rw (c.get-in-Binary.ensures, c.get-in-Binary-2.ensures) at c.binary.ensures.built)

pub build_parts-returns-in-Binary-clause-short : goal.build_parts-returns-in-Binary-clause-short
build_parts-returns-in-Binary-clause-short t c =
    let names = names_of c.args.scope.now in
    IfErr-weaker c.binary.result _ _ (λ e h. same_short (length c.args.builder.now.cells) _ _ e (fact.pair_made names c.args.expr.now c.args.context c.in-Binary.span c.in-Binary.op c.in-Binary.left c.in-Binary.right c.in-Binary.is c.requires.varies) h) (rw (c.get-in-Binary.ensures, c.get-in-Binary-2.ensures) at c.binary.ensures.short)

pub build_parts-conditional-requires : goal.build_parts-conditional-requires
build_parts-conditional-requires t c =
    let names = names_of c.args.scope.now in
    (search (rules, the_lemmas), (rw c.get-in-Conditional.ensures (whole.whole_choice names c.args.expr.now c.in-Conditional.span c.in-Conditional.test c.in-Conditional.yes c.in-Conditional.no c.in-Conditional.is c.requires.whole).0, (rw c.get-in-Conditional-2.ensures (whole.whole_choice names c.args.expr.now c.in-Conditional.span c.in-Conditional.test c.in-Conditional.yes c.in-Conditional.no c.in-Conditional.is c.requires.whole).1, (rw c.get-in-Conditional-3.ensures (whole.whole_choice names c.args.expr.now c.in-Conditional.span c.in-Conditional.test c.in-Conditional.yes c.in-Conditional.no c.in-Conditional.is c.requires.whole).2, (rw c.get-in-Conditional.ensures (fact.choice_supported names c.args.expr.now c.args.context c.in-Conditional.span c.in-Conditional.test c.in-Conditional.yes c.in-Conditional.no c.in-Conditional.is c.requires.supported).0, (rw c.get-in-Conditional-2.ensures (fact.choice_supported names c.args.expr.now c.args.context c.in-Conditional.span c.in-Conditional.test c.in-Conditional.yes c.in-Conditional.no c.in-Conditional.is c.requires.supported).1, (rw c.get-in-Conditional-3.ensures (fact.choice_supported names c.args.expr.now c.args.context c.in-Conditional.span c.in-Conditional.test c.in-Conditional.yes c.in-Conditional.no c.in-Conditional.is c.requires.supported).2, (rw c.get-in-Conditional-2.ensures (fact.choice_yes names c.args.expr.now c.args.context c.in-Conditional.span c.in-Conditional.test c.in-Conditional.yes c.in-Conditional.no c.in-Conditional.is c.requires.context), (rw c.get-in-Conditional-3.ensures (fact.choice_no names c.args.expr.now c.args.context c.in-Conditional.span c.in-Conditional.test c.in-Conditional.yes c.in-Conditional.no c.in-Conditional.is c.requires.context), (c.requires.some, c.requires.signals))))))))))

pub build_parts-returns-in-Conditional-clause-built : goal.build_parts-returns-in-Conditional-clause-built
build_parts-returns-in-Conditional-clause-built t c =
    let names = names_of c.args.scope.now in
    IfOk-weaker c.conditional.result _ _ (λ y h. fact.choice_built names c.args.expr.now c.args.context c.in-Conditional.span c.in-Conditional.test c.in-Conditional.yes c.in-Conditional.no c.in-Conditional.is c.args.builder.now c.conditional.new.builder y c.requires.varies h) (rw (c.get-in-Conditional.ensures, c.get-in-Conditional-2.ensures, c.get-in-Conditional-3.ensures) at c.conditional.ensures.built)

pub build_parts-returns-in-Conditional-clause-short : goal.build_parts-returns-in-Conditional-clause-short
build_parts-returns-in-Conditional-clause-short t c =
    let names = names_of c.args.scope.now in
    IfErr-weaker c.conditional.result _ _ (λ e h. same_short (length c.args.builder.now.cells) _ _ e (fact.choice_made names c.args.expr.now c.args.context c.in-Conditional.span c.in-Conditional.test c.in-Conditional.yes c.in-Conditional.no c.in-Conditional.is c.requires.varies) h) (rw (c.get-in-Conditional.ensures, c.get-in-Conditional-2.ensures, c.get-in-Conditional-3.ensures) at c.conditional.ensures.short)

pub build_parts-returns-in-Concatenation-clause-built : goal.build_parts-returns-in-Concatenation-clause-built
build_parts-returns-in-Concatenation-clause-built t c =
    let names = names_of c.args.scope.now in
    both_ok c.joined_at.result _ _ _ (λ y h k. fact.join_built names c.args.expr.now c.args.context c.in-Concatenation.field-0 c.in-Concatenation.parts c.in-Concatenation.is c.args.builder.now c.joined_at.new.builder y c.shape_of-own.result c.shape_of-own.ensures.shape c.requires.varies c.requires.context h k) (rw c.as_slice.ensures at c.joined_at.ensures.built) (rw c.as_slice.ensures at c.joined_at.ensures.fits)

pub build_parts-returns-in-Concatenation-clause-short : goal.build_parts-returns-in-Concatenation-clause-short
build_parts-returns-in-Concatenation-clause-short t c =
    let names = names_of c.args.scope.now in
    IfErr-weaker c.joined_at.result _ _ (λ e h. same_short (length c.args.builder.now.cells) _ _ e (fact.join_made names c.args.expr.now c.args.context c.in-Concatenation.field-0 c.in-Concatenation.parts c.in-Concatenation.is c.requires.varies) h) (rw c.as_slice.ensures at c.joined_at.ensures.short)

pub build_parts-count_of-times-requires-clause-whole : goal.build_parts-count_of-times-requires-clause-whole
build_parts-count_of-times-requires-clause-whole t c =
    let names = names_of c.args.scope.now in
    rw c.get-in-MultipleConcatenation.ensures (whole.whole_times names c.args.expr.now c.in-MultipleConcatenation.field-0 c.in-MultipleConcatenation.times c.in-MultipleConcatenation.parts c.in-MultipleConcatenation.is c.requires.whole).times

pub build_parts-count_of-times-requires-clause-few : goal.build_parts-count_of-times-requires-clause-few
build_parts-count_of-times-requires-clause-few t c =
    let names = names_of c.args.scope.now in
    rw c.get-in-MultipleConcatenation.ensures (whole.whole_times names c.args.expr.now c.in-MultipleConcatenation.field-0 c.in-MultipleConcatenation.times c.in-MultipleConcatenation.parts c.in-MultipleConcatenation.is c.requires.whole).few

pub build_parts-replicated-requires : goal.build_parts-replicated-requires
build_parts-replicated-requires t c =
    let names = names_of c.args.scope.now in
    (search (rules, the_lemmas), (rw c.as_slice-in-MultipleConcatenation.ensures (whole.whole_times names c.args.expr.now c.in-MultipleConcatenation.field-0 c.in-MultipleConcatenation.times c.in-MultipleConcatenation.parts c.in-MultipleConcatenation.is c.requires.whole).parts, (rw c.as_slice-in-MultipleConcatenation.ensures (fact.times_supported names c.args.expr.now c.args.context c.in-MultipleConcatenation.field-0 c.in-MultipleConcatenation.times c.in-MultipleConcatenation.parts c.in-MultipleConcatenation.is c.requires.supported), (rw ((rw c.get-in-MultipleConcatenation.ensures at c.count_of-times.ensures), c.as_slice-in-MultipleConcatenation.ensures) (whole.whole_times names c.args.expr.now c.in-MultipleConcatenation.field-0 c.in-MultipleConcatenation.times c.in-MultipleConcatenation.parts c.in-MultipleConcatenation.is c.requires.whole).some, (rw ((rw c.get-in-MultipleConcatenation.ensures at c.count_of-times.ensures), c.as_slice-in-MultipleConcatenation.ensures) (fact.times_wide names c.args.expr.now c.args.context c.in-MultipleConcatenation.field-0 c.in-MultipleConcatenation.times c.in-MultipleConcatenation.parts c.in-MultipleConcatenation.is c.requires.context), (c.requires.context.narrow, c.requires.signals))))))

pub build_parts-returns-in-MultipleConcatenation-clause-built : goal.build_parts-returns-in-MultipleConcatenation-clause-built
build_parts-returns-in-MultipleConcatenation-clause-built t c =
    let names = names_of c.args.scope.now in
    IfOk-weaker c.replicated.result _ _ (λ y h. fact.times_built names c.args.expr.now c.args.context c.in-MultipleConcatenation.field-0 c.in-MultipleConcatenation.times c.in-MultipleConcatenation.parts c.in-MultipleConcatenation.is c.args.builder.now c.replicated.new.builder y c.count_of-times.result (rw c.get-in-MultipleConcatenation.ensures at c.count_of-times.ensures) c.requires.varies h) (rw c.as_slice-in-MultipleConcatenation.ensures at c.replicated.ensures.built)

pub build_parts-returns-in-MultipleConcatenation-clause-short : goal.build_parts-returns-in-MultipleConcatenation-clause-short
build_parts-returns-in-MultipleConcatenation-clause-short t c =
    let names = names_of c.args.scope.now in
    IfErr-weaker c.replicated.result _ _ (λ e h. same_short (length c.args.builder.now.cells) _ _ e (fact.times_made names c.args.expr.now c.args.context c.in-MultipleConcatenation.field-0 c.in-MultipleConcatenation.times c.in-MultipleConcatenation.parts c.in-MultipleConcatenation.is c.requires.varies) h) (rw c.as_slice-in-MultipleConcatenation.ensures at c.replicated.ensures.short)

pub build_parts-returns-in-SystemFunctionCall-clause-built : goal.build_parts-returns-in-SystemFunctionCall-clause-built
build_parts-returns-in-SystemFunctionCall-clause-built t c =
    let names = names_of c.args.scope.now in
    both_ok c.joined_at-in-SystemFunctionCall.result _ _ _ (λ y h k. fact.call_built names c.args.expr.now c.args.context c.in-SystemFunctionCall.name c.in-SystemFunctionCall.arguments c.in-SystemFunctionCall.is c.requires.whole c.requires.supported c.requires.varies c.args.builder.now c.joined_at-in-SystemFunctionCall.new.builder y c.shape_of.result c.argument_shape-own.result c.shape_of.ensures.shape c.argument_shape-own.ensures c.requires.context h k) (rw c.as_slice-in-SystemFunctionCall.ensures at c.joined_at-in-SystemFunctionCall.ensures.built) (rw c.as_slice-in-SystemFunctionCall.ensures at c.joined_at-in-SystemFunctionCall.ensures.fits)

pub build_parts-returns-in-SystemFunctionCall-clause-short : goal.build_parts-returns-in-SystemFunctionCall-clause-short
build_parts-returns-in-SystemFunctionCall-clause-short t c =
    let names = names_of c.args.scope.now in
    IfErr-weaker c.joined_at-in-SystemFunctionCall.result _ _ (λ e h. same_short (length c.args.builder.now.cells) _ _ e (fact.call_made names c.args.expr.now c.args.context c.in-SystemFunctionCall.name c.in-SystemFunctionCall.arguments c.in-SystemFunctionCall.is c.requires.whole c.requires.supported c.requires.varies) h) (rw c.as_slice-in-SystemFunctionCall.ensures at c.joined_at-in-SystemFunctionCall.ensures.short)

pub concatenation-returns-clause-built : goal.concatenation-returns-clause-built
concatenation-returns-clause-built t c = rw (take_all c.loop-part.part-index c.args.parts.now (omega arith)) at c.loop-part.invariant.built

pub unary-returns-clause-laid : goal.unary-returns-clause-laid
unary-returns-clause-laid t c =
    let names = names_of c.args.scope.now in
    let i = c.args.operand.now in
    let at = operand_is c.args.op c.shape_of.result (sense names i).shape c.args.context c.operand_context-at.result c.shape_of.ensures.shape c.operand_context-at.ensures in
    IfOk-weaker c.unary_bits.result _ _ (λ y b. net.unary_laid names i c.args.op c.args.span c.args.context c.operand_context-at.result c.args.builder.now c.build.new.builder c.unary_bits.new.builder c.in_ok-a.a y at c.in_ok-a.ensures.laid b) c.unary_bits.ensures.laid

pub binary-returns-clause-laid : goal.binary-returns-clause-laid
binary-returns-clause-laid t c =
    let names = names_of c.args.scope.now in
    let i = c.args.left.now in
    let j = c.args.right.now in
    let r = sizing c.args.op in
    let l = left_is c.sizing_of-sizing.result r c.shape_of-left_shape.result c.shape_of-right_shape.result (sense names i).shape (sense names j).shape c.args.context c.left_context-left_at.result c.sizing_of-sizing.ensures c.shape_of-left_shape.ensures.shape c.shape_of-right_shape.ensures.shape c.left_context-left_at.ensures in
    let k = right_is c.sizing_of-sizing.result r c.shape_of-left_shape.result c.shape_of-right_shape.result (sense names i).shape (sense names j).shape c.args.context c.right_context-right_at.result c.sizing_of-sizing.ensures c.shape_of-left_shape.ensures.shape c.shape_of-right_shape.ensures.shape c.right_context-right_at.ensures in
    IfOk-weaker c.binary_bits.result _ _ (λ y b. net.binary_laid names i j c.args.op c.args.span c.args.context c.left_context-left_at.result c.right_context-right_at.result c.args.builder.now c.build.new.builder c.build-2.new.builder c.binary_bits.new.builder c.in_ok-a.a c.in_ok-b.b y l k c.in_ok-a.ensures.laid c.in_ok-b.ensures.laid b) c.binary_bits.ensures.laid

pub condition-returns-clause-laid : goal.condition-returns-clause-laid
condition-returns-clause-laid t c =
    let names = names_of c.args.scope.now in
    let x = c.args.expr.now in
    IfOk-weaker c.condition_bits.result _ _ (λ y b. net.condition_laid names x c.shape_of-own.result c.first_token.result c.args.builder.now c.build.new.builder c.condition_bits.new.builder c.in_ok-a.a y c.shape_of-own.ensures.shape c.first_token.ensures c.in_ok-a.ensures.laid b) c.condition_bits.ensures.laid

pub choice-returns-clause-laid : goal.choice-returns-clause-laid
choice-returns-clause-laid t c =
    let names = names_of c.args.scope.now in
    let i = c.args.yes.now in
    let j = c.args.no.now in
    IfOk-weaker c.choice_bits.result _ _ (λ y b. net.arms_laid names i j c.args.span c.args.context c.args.builder.now c.build.new.builder c.build-2.new.builder c.choice_bits.new.builder c.args.s c.in_ok-yes.yes c.in_ok-no.no y c.in_ok-yes.ensures.laid c.in_ok-no.ensures.laid b) c.choice_bits.ensures.laid

pub conditional-returns-clause-laid : goal.conditional-returns-clause-laid
conditional-returns-clause-laid t c =
    let names = names_of c.args.scope.now in
    IfOk-weaker c.choice.result _ _ (λ y b. net.conditional_laid names c.args.test.now c.args.yes.now c.args.no.now c.args.span c.args.context c.args.builder.now c.condition.new.builder c.choice.new.builder c.in_ok-s.s y c.in_ok-s.ensures.laid b) c.choice.ensures.laid

pub select-returns-in_ok-placed-clause-laid : goal.select-returns-in_ok-placed-clause-laid
select-returns-in_ok-placed-clause-laid t c =
    let names = names_of c.args.scope.now in
    net.place_laid names (names c.args.name.now.name) c.args.index.now c.args.span c.args.size c.args.width c.args.builder.now (bound_integer c.bound_of-place.result) c.in_ok-placed.field-0 (sym c.is_constant.ensures ∙ c.if-is_constant.true) c.bound_of-place.ensures.value c.in_ok-placed.ensures.is

pub select-returns-in_ok-at-clause-laid : goal.select-returns-in_ok-at-clause-laid
select-returns-in_ok-at-clause-laid t c =
    let names = names_of c.args.scope.now in
    IfOk-weaker c.picked.result _ _ (λ y b. net.pick_laid names (names c.args.name.now.name) c.args.index.now c.args.span c.args.size c.args.width c.args.builder.now c.shape_of-own.result c.build.new.builder c.picked.new.builder c.in_ok-at.at y (sym c.is_constant.ensures ∙ c.if-is_constant.false) c.shape_of-own.ensures.shape c.in_ok-at.ensures.laid b) c.picked.ensures.laid

pub concatenation-returns-clause-laid : goal.concatenation-returns-clause-laid
concatenation-returns-clause-laid t c = rw (take_all c.loop-part.part-index c.args.parts.now (omega arith)) at c.loop-part.invariant.laid

pub joined_at-returns-clause-laid : goal.joined_at-returns-clause-laid
joined_at-returns-clause-laid t c = net.joined_laid _ c.concatenation.new.builder c.in_ok-bits.bits c.in_ok-extended_bits.field-0 c.args.own.is_signed c.args.width c.in_ok-bits.ensures.laid (rw c.as_slice.ensures at c.in_ok-extended_bits.ensures.is)

pub replicated-returns-clause-laid : goal.replicated-returns-clause-laid
replicated-returns-clause-laid t c = net.replicated_laid _ c.concatenation.new.builder c.in_ok-bits.bits c.in_ok-repeated_at.field-0 c.args.times c.args.width c.in_ok-bits.ensures.laid (rw c.as_slice.ensures at c.in_ok-repeated_at.ensures.is)

pub build-returns-in_ok-folded-clause-laid : goal.build-returns-in_ok-folded-clause-laid
build-returns-in_ok-folded-clause-laid t c = net.constant_laid (names_of c.args.scope.now) c.args.expr.now c.args.context c.args.builder.now c.in_ok-folded.field-0 (sym c.is_constant.ensures ∙ c.if-is_constant.true) c.in_ok-folded.ensures.is

pub build_parts-returns-in_ok-named-in-Name-clause-laid : goal.build_parts-returns-in_ok-named-in-Name-clause-laid
build_parts-returns-in_ok-named-in-Name-clause-laid t c = net.name_whole (names_of c.args.scope.now) c.args.expr.now c.args.context c.args.builder.now c.requires.varies c.in-Name.name c.in_ok-named-in-Name.field-0 c.in-Name.is c.in_ok-named-in-Name.ensures.is

pub build_parts-returns-in-BitSelect-clause-laid : goal.build_parts-returns-in-BitSelect-clause-laid
build_parts-returns-in-BitSelect-clause-laid t c =
    IfOk-weaker c.select.result _ _ (λ y h. net.bit_whole (names_of c.args.scope.now) c.args.expr.now c.args.context c.args.builder.now c.requires.varies c.in-BitSelect.name c.in-BitSelect.span c.in-BitSelect.index (showing c.select.new.builder y) c.in-BitSelect.is h) (rw c.get.ensures at c.select.ensures.laid)

pub build_parts-returns-in_ok-placed-in-PartSelect-clause-laid : goal.build_parts-returns-in_ok-placed-in-PartSelect-clause-laid
build_parts-returns-in_ok-placed-in-PartSelect-clause-laid t c = net.part_whole (names_of c.args.scope.now) c.args.expr.now c.args.context c.args.builder.now c.requires.varies c.in-PartSelect.name c.in-PartSelect.field-1 c.in-PartSelect.field-2 c.in-PartSelect.lsb (bound_integer c.bound_of-place.result) c.shape_of-size.result.width c.in_ok-placed-in-PartSelect.field-0 c.in-PartSelect.is (rw c.get-in-PartSelect.ensures at c.bound_of-place.ensures.value) (ap (λ (s : Shape). s.width) c.shape_of-size.ensures.shape) c.in_ok-placed-in-PartSelect.ensures.is

pub build_parts-returns-in-IndexedPartSelect-clause-laid : goal.build_parts-returns-in-IndexedPartSelect-clause-laid
build_parts-returns-in-IndexedPartSelect-clause-laid t c =
    IfOk-weaker c.select-in-IndexedPartSelect.result _ _ (λ y h. net.indexed_whole (names_of c.args.scope.now) c.args.expr.now c.args.context c.args.builder.now c.requires.varies c.in-IndexedPartSelect.name c.in-IndexedPartSelect.span c.in-IndexedPartSelect.base c.in-IndexedPartSelect.width c.count_of-size.result (showing c.select-in-IndexedPartSelect.new.builder y) c.in-IndexedPartSelect.is (rw c.get-in-IndexedPartSelect.ensures at c.count_of-size.ensures) h) (rw c.get-in-IndexedPartSelect-2.ensures at c.select-in-IndexedPartSelect.ensures.laid)

pub build_parts-returns-in-Parenthesized-clause-laid : goal.build_parts-returns-in-Parenthesized-clause-laid
build_parts-returns-in-Parenthesized-clause-laid t c =
    IfOk-weaker c.build.result _ _ (λ y h. net.inner_whole (names_of c.args.scope.now) c.args.expr.now c.args.context c.args.builder.now c.requires.varies c.in-Parenthesized.field-0 c.in-Parenthesized.inner (showing c.build.new.builder y) c.in-Parenthesized.is h) (rw c.get-in-Parenthesized.ensures at c.build.ensures.laid)

pub build_parts-returns-in-Unary-clause-laid : goal.build_parts-returns-in-Unary-clause-laid
build_parts-returns-in-Unary-clause-laid t c =
    IfOk-weaker c.unary.result _ _ (λ y h. net.unary_whole (names_of c.args.scope.now) c.args.expr.now c.args.context c.args.builder.now c.requires.varies c.in-Unary.span c.in-Unary.op c.in-Unary.operand (showing c.unary.new.builder y) c.in-Unary.is h) (rw c.get-in-Unary.ensures at c.unary.ensures.laid)

pub build_parts-returns-in-Binary-clause-laid : goal.build_parts-returns-in-Binary-clause-laid
build_parts-returns-in-Binary-clause-laid t c =
    IfOk-weaker c.binary.result _ _ (λ y h. net.binary_whole (names_of c.args.scope.now) c.args.expr.now c.args.context c.args.builder.now c.requires.varies c.in-Binary.span c.in-Binary.op c.in-Binary.left c.in-Binary.right (showing c.binary.new.builder y) c.in-Binary.is h) (rw (c.get-in-Binary.ensures, c.get-in-Binary-2.ensures) at c.binary.ensures.laid)

pub build_parts-returns-in-Conditional-clause-laid : goal.build_parts-returns-in-Conditional-clause-laid
build_parts-returns-in-Conditional-clause-laid t c =
    let names = names_of c.args.scope.now in
    IfOk-weaker c.conditional.result (λ y. showing c.conditional.new.builder y ≡ lay_arms c.in-Conditional.span (layout names c.in-Conditional.yes) (layout names c.in-Conditional.no) c.args.context (lay_condition (layout names c.in-Conditional.test) c.args.builder.now)) _ (λ y h. net.conditional_whole names c.args.expr.now c.args.context c.args.builder.now c.requires.varies c.in-Conditional.span c.in-Conditional.test c.in-Conditional.yes c.in-Conditional.no (showing c.conditional.new.builder y) c.in-Conditional.is h) (rw (c.get-in-Conditional.ensures, c.get-in-Conditional-2.ensures, c.get-in-Conditional-3.ensures) at c.conditional.ensures.laid)

pub build_parts-returns-in-Concatenation-clause-laid : goal.build_parts-returns-in-Concatenation-clause-laid
build_parts-returns-in-Concatenation-clause-laid t c =
    IfOk-weaker c.joined_at.result _ _ (λ y h. net.concatenation_whole (names_of c.args.scope.now) c.args.expr.now c.args.context c.args.builder.now c.requires.varies c.in-Concatenation.field-0 c.in-Concatenation.parts c.shape_of-own.result (showing c.joined_at.new.builder y) c.in-Concatenation.is c.shape_of-own.ensures.shape h) (rw c.as_slice.ensures at c.joined_at.ensures.laid)

pub build_parts-returns-in-MultipleConcatenation-clause-laid : goal.build_parts-returns-in-MultipleConcatenation-clause-laid
build_parts-returns-in-MultipleConcatenation-clause-laid t c =
    IfOk-weaker c.replicated.result _ _ (λ y h. net.multiple_whole (names_of c.args.scope.now) c.args.expr.now c.args.context c.args.builder.now c.requires.varies c.in-MultipleConcatenation.field-0 c.in-MultipleConcatenation.times c.in-MultipleConcatenation.parts c.count_of-times.result (showing c.replicated.new.builder y) c.in-MultipleConcatenation.is (rw c.get-in-MultipleConcatenation.ensures at c.count_of-times.ensures) h) (rw c.as_slice-in-MultipleConcatenation.ensures at c.replicated.ensures.laid)

pub build_parts-returns-in-SystemFunctionCall-clause-laid : goal.build_parts-returns-in-SystemFunctionCall-clause-laid
build_parts-returns-in-SystemFunctionCall-clause-laid t c =
    IfOk-weaker c.joined_at-in-SystemFunctionCall.result _ _ (λ y h. net.call_whole (names_of c.args.scope.now) c.args.expr.now c.args.context c.args.builder.now c.requires.varies c.in-SystemFunctionCall.name c.in-SystemFunctionCall.arguments c.shape_of.result c.argument_shape-own.result (showing c.joined_at-in-SystemFunctionCall.new.builder y) c.in-SystemFunctionCall.is c.argument_shape-own.ensures h) (rw c.as_slice-in-SystemFunctionCall.ensures at c.joined_at-in-SystemFunctionCall.ensures.laid)
