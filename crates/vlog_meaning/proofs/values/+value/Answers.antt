use Rattle.vlog_meaning.proofs.Common.{ℤ, List, ◌≡◌, ◌+◌, ◌*◌, ◌<◌, ◌≤◌, ◌^◌, rules, ap, ◌∙◌, arith, add-one, subst, refl, ℕ, take, drop, suc, Expr, natural, bound_integer, names_of, store_of, Sense}
use Rattle.vlog_meaning.proofs.Common.{IsContext, sense, senses, own, total_width, joined, constant_integer, part_width, Shape, the_lemmas}
use Rattle.vlog_meaning.proofs.Powers.{power_le}
use Rattle.vlog_meaning.proofs.Joins.{joined_fits, shifted_whole}
use Rattle.vlog_meaning.proofs.Contexts.{window_fits}
use Rattle.vlog_meaning.proofs.Whole.{whole_part, whole_indexed, whole_pair, whole_choice, whole_join, whole_times, whole_call, element_whole}
use Rattle.vlog_meaning.proofs.Results.{fits_own, left_at, right_at, pair_result, unary_result, yes_at, no_at, parts_drop, total_take, total_parts, joined_step}
use Rattle.vlog_meaning.proofs.Steps as step
use Rattle.vlog_meaning.proofs.values.+value.Goals as goal

pub value_of-bound_of-msb-requires : goal.value_of-bound_of-msb-requires
value_of-bound_of-msb-requires t c = (search (rules, the_lemmas), rw c.get-in-PartSelect.ensures (whole_part (names_of c.args.scope.now) c.args.expr.now c.in-PartSelect.name c.in-PartSelect.field-1 c.in-PartSelect.msb c.in-PartSelect.lsb c.in-PartSelect.is c.requires.whole).msb)

pub value_of-bound_of-lsb-requires : goal.value_of-bound_of-lsb-requires
value_of-bound_of-lsb-requires t c = (search (rules, the_lemmas), rw c.get-in-PartSelect-2.ensures (whole_part (names_of c.args.scope.now) c.args.expr.now c.in-PartSelect.name c.in-PartSelect.field-1 c.in-PartSelect.msb c.in-PartSelect.lsb c.in-PartSelect.is c.requires.whole).lsb)

pub value_of-count_of-width-requires : goal.value_of-count_of-width-requires
value_of-count_of-width-requires t c = (search (rules, the_lemmas), rw c.get-in-IndexedPartSelect.ensures (whole_indexed (names_of c.args.scope.now) c.args.expr.now c.in-IndexedPartSelect.name c.in-IndexedPartSelect.field-1 c.in-IndexedPartSelect.base c.in-IndexedPartSelect.width c.in-IndexedPartSelect.is c.requires.whole).width)

pub value_of-index_of-place-requires-in-IndexedPartSelect : goal.value_of-index_of-place-requires-in-IndexedPartSelect
value_of-index_of-place-requires-in-IndexedPartSelect t c = (search (rules, the_lemmas), (rw c.get-in-IndexedPartSelect-2.ensures (whole_indexed (names_of c.args.scope.now) c.args.expr.now c.in-IndexedPartSelect.name c.in-IndexedPartSelect.field-1 c.in-IndexedPartSelect.base c.in-IndexedPartSelect.width c.in-IndexedPartSelect.is c.requires.whole).base, c.requires.stored))

pub value_of-shape_of-left_shape-requires-in-Binary : goal.value_of-shape_of-left_shape-requires-in-Binary
value_of-shape_of-left_shape-requires-in-Binary t c = (search (rules, the_lemmas), rw c.get-in-Binary.ensures (whole_pair (names_of c.args.scope.now) c.args.expr.now c.in-Binary.field-0 c.in-Binary.op c.in-Binary.left c.in-Binary.right c.in-Binary.is c.requires.whole).0)

pub value_of-shape_of-right_shape-requires-in-Binary : goal.value_of-shape_of-right_shape-requires-in-Binary
value_of-shape_of-right_shape-requires-in-Binary t c = (search (rules, the_lemmas), rw c.get-in-Binary-2.ensures (whole_pair (names_of c.args.scope.now) c.args.expr.now c.in-Binary.field-0 c.in-Binary.op c.in-Binary.left c.in-Binary.right c.in-Binary.is c.requires.whole).1)

pub value_of-value_of-left-requires : goal.value_of-value_of-left-requires
value_of-value_of-left-requires t c = (search (rules, the_lemmas), (rw c.get-in-Binary-3.ensures (whole_pair (names_of c.args.scope.now) c.args.expr.now c.in-Binary.field-0 c.in-Binary.op c.in-Binary.left c.in-Binary.right c.in-Binary.is c.requires.whole).0, (c.requires.stored, rw c.get-in-Binary-3.ensures (left_at (names_of c.args.scope.now) c.args.expr.now c.in-Binary.field-0 c.in-Binary.op c.in-Binary.left c.in-Binary.right c.args.context c.shape_of-left_shape.result c.shape_of-right_shape.result c.sizing_of-sizing.result c.in-Binary.is c.requires.context c.sizing_of-sizing.ensures (c.shape_of-left_shape.ensures.shape ∙ ap (λ (x : Expr). (sense (names_of c.args.scope.now) x).shape) c.get-in-Binary.ensures) (c.shape_of-right_shape.ensures.shape ∙ ap (λ (x : Expr). (sense (names_of c.args.scope.now) x).shape) c.get-in-Binary-2.ensures) c.shape_of-left_shape.ensures.sized c.shape_of-right_shape.ensures.sized c.left_context-left_at.result c.left_context-left_at.ensures))))

pub value_of-value_of-right-requires : goal.value_of-value_of-right-requires
value_of-value_of-right-requires t c = (search (rules, the_lemmas), (rw c.get-in-Binary-4.ensures (whole_pair (names_of c.args.scope.now) c.args.expr.now c.in-Binary.field-0 c.in-Binary.op c.in-Binary.left c.in-Binary.right c.in-Binary.is c.requires.whole).1, (c.requires.stored, rw c.get-in-Binary-4.ensures (right_at (names_of c.args.scope.now) c.args.expr.now c.in-Binary.field-0 c.in-Binary.op c.in-Binary.left c.in-Binary.right c.args.context c.shape_of-left_shape.result c.shape_of-right_shape.result c.sizing_of-sizing.result c.in-Binary.is c.requires.context c.sizing_of-sizing.ensures (c.shape_of-left_shape.ensures.shape ∙ ap (λ (x : Expr). (sense (names_of c.args.scope.now) x).shape) c.get-in-Binary.ensures) (c.shape_of-right_shape.ensures.shape ∙ ap (λ (x : Expr). (sense (names_of c.args.scope.now) x).shape) c.get-in-Binary-2.ensures) c.shape_of-left_shape.ensures.sized c.shape_of-right_shape.ensures.sized c.right_context-right_at.result c.right_context-right_at.ensures))))

pub value_of-returns-in-Binary-clause-fits : goal.value_of-returns-in-Binary-clause-fits
value_of-returns-in-Binary-clause-fits t c = pair_result (names_of c.args.scope.now) c.args.expr.now c.in-Binary.field-0 c.in-Binary.op c.in-Binary.left c.in-Binary.right c.args.context c.shape_of-left_shape.result c.shape_of-right_shape.result c.sizing_of-sizing.result c.in-Binary.is c.requires.context c.sizing_of-sizing.ensures (c.shape_of-left_shape.ensures.shape ∙ ap (λ (x : Expr). (sense (names_of c.args.scope.now) x).shape) c.get-in-Binary.ensures) (c.shape_of-right_shape.ensures.shape ∙ ap (λ (x : Expr). (sense (names_of c.args.scope.now) x).shape) c.get-in-Binary-2.ensures) c.shape_of-left_shape.ensures.sized c.shape_of-right_shape.ensures.sized c.left_context-left_at.result c.right_context-right_at.result c.value_of-left.result c.value_of-right.result c.binary_value.result c.left_context-left_at.ensures c.right_context-right_at.ensures c.value_of-left.ensures.fits c.value_of-right.ensures.fits c.binary_value.ensures

pub value_of-own_value-requires : goal.value_of-own_value-requires
value_of-own_value-requires t c = (search (rules, the_lemmas), (rw c.get-in-Conditional.ensures (whole_choice (names_of c.args.scope.now) c.args.expr.now c.in-Conditional.field-0 c.in-Conditional.condition c.in-Conditional.yes c.in-Conditional.no c.in-Conditional.is c.requires.whole).0, c.requires.stored))

pub value_of-value_of-requires-then-own_value-eq0 : goal.value_of-value_of-requires-then-own_value-eq0
value_of-value_of-requires-then-own_value-eq0 t c = (search (rules, the_lemmas), (rw c.get-then-own_value-eq0.ensures (whole_choice (names_of c.args.scope.now) c.args.expr.now c.in-Conditional.field-0 c.in-Conditional.condition c.in-Conditional.yes c.in-Conditional.no c.in-Conditional.is c.requires.whole).2, (c.requires.stored, rw c.get-then-own_value-eq0.ensures (no_at (names_of c.args.scope.now) c.args.expr.now c.in-Conditional.field-0 c.in-Conditional.condition c.in-Conditional.yes c.in-Conditional.no c.args.context c.in-Conditional.is c.requires.context))))

pub value_of-value_of-requires-else-own_value-eq0 : goal.value_of-value_of-requires-else-own_value-eq0
value_of-value_of-requires-else-own_value-eq0 t c = (search (rules, the_lemmas), (rw c.get-else-own_value-eq0.ensures (whole_choice (names_of c.args.scope.now) c.args.expr.now c.in-Conditional.field-0 c.in-Conditional.condition c.in-Conditional.yes c.in-Conditional.no c.in-Conditional.is c.requires.whole).1, (c.requires.stored, rw c.get-else-own_value-eq0.ensures (yes_at (names_of c.args.scope.now) c.args.expr.now c.in-Conditional.field-0 c.in-Conditional.condition c.in-Conditional.yes c.in-Conditional.no c.args.context c.in-Conditional.is c.requires.context))))

pub value_of-count_of-times-requires : goal.value_of-count_of-times-requires
value_of-count_of-times-requires t c = (search (rules, the_lemmas), rw c.get-in-MultipleConcatenation.ensures (whole_times (names_of c.args.scope.now) c.args.expr.now c.in-MultipleConcatenation.field-0 c.in-MultipleConcatenation.times c.in-MultipleConcatenation.parts c.in-MultipleConcatenation.is c.requires.whole).times)

pub value_of-overflow_cast-times : goal.value_of-overflow_cast-times
value_of-overflow_cast-times t c = let f = (whole_times (names_of c.args.scope.now) c.args.expr.now c.in-MultipleConcatenation.field-0 c.in-MultipleConcatenation.times c.in-MultipleConcatenation.parts c.in-MultipleConcatenation.is c.requires.whole).few in let e = c.count_of-times.ensures ∙ ap (λ (x : Expr). natural (constant_integer (sense (names_of c.args.scope.now) x))) c.get-in-MultipleConcatenation.ensures in omega (arith, f, e)

pub value_of-joined-requires-in-MultipleConcatenation : goal.value_of-joined-requires-in-MultipleConcatenation
value_of-joined-requires-in-MultipleConcatenation t c = (search (rules, the_lemmas), (rw c.as_slice-in-MultipleConcatenation.ensures (whole_times (names_of c.args.scope.now) c.args.expr.now c.in-MultipleConcatenation.field-0 c.in-MultipleConcatenation.times c.in-MultipleConcatenation.parts c.in-MultipleConcatenation.is c.requires.whole).parts, (rw c.as_slice-in-MultipleConcatenation.ensures (whole_times (names_of c.args.scope.now) c.args.expr.now c.in-MultipleConcatenation.field-0 c.in-MultipleConcatenation.times c.in-MultipleConcatenation.parts c.in-MultipleConcatenation.is c.requires.whole).short, c.requires.stored)))

pub value_of-call_value-requires : goal.value_of-call_value-requires
value_of-call_value-requires t c = (search (rules, the_lemmas), (rw (c.function_of.ensures, c.as_str-in-SystemFunctionCall.ensures, c.as_slice-in-SystemFunctionCall.ensures) (whole_call (names_of c.args.scope.now) c.args.expr.now c.in-SystemFunctionCall.name c.in-SystemFunctionCall.arguments c.in-SystemFunctionCall.is c.requires.whole), (c.requires.stored, rw (c.function_of.ensures, c.as_str-in-SystemFunctionCall.ensures, c.as_slice-in-SystemFunctionCall.ensures) (subst (λ (y : Sense). IsContext y.shape c.args.context) (ap (sense (names_of c.args.scope.now)) c.in-SystemFunctionCall.is ∙ step.sense_system_function_call (names_of c.args.scope.now) c.in-SystemFunctionCall.name c.in-SystemFunctionCall.arguments) c.requires.context))))

pub value_of-returns-in-BitSelect-clause-fits : goal.value_of-returns-in-BitSelect-clause-fits
value_of-returns-in-BitSelect-clause-fits t c = fits_own (names_of c.args.scope.now) c.args.expr.now _ c.args.context c.window.result (ap (sense (names_of c.args.scope.now)) c.in-BitSelect.is ∙ step.sense_bit_select (names_of c.args.scope.now) c.in-BitSelect.name c.in-BitSelect.field-1 c.in-BitSelect.index) c.requires.context (rw c.window.ensures (window_fits _ 1 _))

pub value_of-returns-in-PartSelect-clause-fits : goal.value_of-returns-in-PartSelect-clause-fits
value_of-returns-in-PartSelect-clause-fits t c = let w = c.part_width.ensures ∙ ap (λ (x : ℤ). part_width x (bound_integer c.bound_of-lsb.result)) (c.bound_of-msb.ensures.value ∙ ap (λ (x : Expr). constant_integer (sense (names_of c.args.scope.now) x)) c.get-in-PartSelect.ensures) ∙ ap (λ (x : ℤ). part_width (constant_integer (sense (names_of c.args.scope.now) c.in-PartSelect.msb)) x) (c.bound_of-lsb.ensures.value ∙ ap (λ (x : Expr). constant_integer (sense (names_of c.args.scope.now) x)) c.get-in-PartSelect-2.ensures) in fits_own (names_of c.args.scope.now) c.args.expr.now _ c.args.context c.window-in-PartSelect.result (ap (sense (names_of c.args.scope.now)) c.in-PartSelect.is ∙ step.sense_part_select (names_of c.args.scope.now) c.in-PartSelect.name c.in-PartSelect.field-1 c.in-PartSelect.msb c.in-PartSelect.lsb) c.requires.context (rw (c.window-in-PartSelect.ensures, w) (window_fits _ _ _))

pub value_of-returns-in-IndexedPartSelect-clause-fits : goal.value_of-returns-in-IndexedPartSelect-clause-fits
value_of-returns-in-IndexedPartSelect-clause-fits t c = let w = c.count_of-width.ensures ∙ ap (λ (x : Expr). natural (constant_integer (sense (names_of c.args.scope.now) x))) c.get-in-IndexedPartSelect.ensures in fits_own (names_of c.args.scope.now) c.args.expr.now _ c.args.context c.window-in-IndexedPartSelect.result (ap (sense (names_of c.args.scope.now)) c.in-IndexedPartSelect.is ∙ step.sense_indexed_part_select (names_of c.args.scope.now) c.in-IndexedPartSelect.name c.in-IndexedPartSelect.field-1 c.in-IndexedPartSelect.base c.in-IndexedPartSelect.width) c.requires.context (rw (c.window-in-IndexedPartSelect.ensures, w) (window_fits _ _ _))

pub value_of-returns-in-Unary-clause-fits : goal.value_of-returns-in-Unary-clause-fits
value_of-returns-in-Unary-clause-fits t c = unary_result (names_of c.args.scope.now) c.args.expr.now c.in-Unary.field-0 c.in-Unary.op c.in-Unary.operand c.args.context c.shape_of.result c.operand_context-at.result c.value_of-in-Unary.result c.unary_value.result c.in-Unary.is c.requires.context (c.shape_of.ensures.shape ∙ ap (λ (x : Expr). (sense (names_of c.args.scope.now) x).shape) c.get-in-Unary.ensures) c.shape_of.ensures.sized c.operand_context-at.ensures c.value_of-in-Unary.ensures.fits c.unary_value.ensures

pub value_of-returns-in-Concatenation-clause-fits : goal.value_of-returns-in-Concatenation-clause-fits
value_of-returns-in-Concatenation-clause-fits t c = let w = (ap (λ (s : Shape). s.width) c.joined.ensures.shape ∙ ap (λ (x : List Expr). total_width (senses (names_of c.args.scope.now) x)) c.as_slice.ensures) in let P : ℕ → Type 0 = λ n. c.joined.result.value < 2 ^ n in fits_own (names_of c.args.scope.now) c.args.expr.now _ c.args.context c.joined.result.value (ap (sense (names_of c.args.scope.now)) c.in-Concatenation.is ∙ step.sense_concatenation (names_of c.args.scope.now) c.in-Concatenation.field-0 c.in-Concatenation.parts) c.requires.context (subst P w c.joined.ensures.fits)

pub value_of-returns-in-MultipleConcatenation-clause-fits : goal.value_of-returns-in-MultipleConcatenation-clause-fits
value_of-returns-in-MultipleConcatenation-clause-fits t c = let n = (c.count_of-times.ensures ∙ ap (λ (x : Expr). natural (constant_integer (sense (names_of c.args.scope.now) x))) c.get-in-MultipleConcatenation.ensures) in let w = (ap (λ (s : Shape). s.width) c.joined-in-MultipleConcatenation.ensures.shape ∙ ap (λ (x : List Expr). total_width (senses (names_of c.args.scope.now) x)) c.as_slice-in-MultipleConcatenation.ensures) in let q = ap (λ (s : Shape). s.width) c.times_of.ensures.shape in let P : ℕ → Type 0 = λ k. c.times_of.result.value < 2 ^ k in fits_own (names_of c.args.scope.now) c.args.expr.now _ c.args.context c.times_of.result.value (ap (sense (names_of c.args.scope.now)) c.in-MultipleConcatenation.is ∙ step.sense_multiple_concatenation (names_of c.args.scope.now) c.in-MultipleConcatenation.field-0 c.in-MultipleConcatenation.times c.in-MultipleConcatenation.parts) c.requires.context (rw (← n, ← w) (subst P q c.times_of.ensures.fits))

pub total_width-shape_of-total-requires-in-loop-part : goal.total_width-shape_of-total-requires-in-loop-part
total_width-shape_of-total-requires-in-loop-part t c = (search (rules, the_lemmas), (element_whole (names_of c.args.scope.now) c.args.parts.now c.loop-part.part-index c.part-item.result c.part-item.is (omega arith) c.requires.whole))

pub joined-own_of-own-requires : goal.joined-own_of-own-requires
joined-own_of-own-requires t c = (search (rules, the_lemmas), ((element_whole (names_of c.args.scope.now) c.args.parts.now c.loop-part.part-index c.part-item.result c.part-item.is (omega arith) c.requires.whole), c.requires.stored))

pub joined-overflow_add-width : goal.joined-overflow_add-width
joined-overflow_add-width t c = let w = c.own_of-own.ensures.shape in let short = c.requires.narrow in let split = total_parts (names_of c.args.scope.now) c.args.parts.now (suc c.loop-part.part-index) in let more = total_take (names_of c.args.scope.now) c.args.parts.now c.loop-part.part-index c.part-item.result c.part-item.is (omega arith) in let is = c.loop-part.invariant.wide in rw w (omega (arith, short, split, more, is))

pub joined-overflow_add-value : goal.joined-overflow_add-value
joined-overflow_add-value t c = let w = c.own_of-own.ensures.shape in let short = c.requires.narrow in let split = total_parts (names_of c.args.scope.now) c.args.parts.now (suc c.loop-part.part-index) in let more = total_take (names_of c.args.scope.now) c.args.parts.now c.loop-part.part-index c.part-item.result c.part-item.is (omega arith) in let wide : total_width (senses (names_of c.args.scope.now) (take c.loop-part.part-index c.args.parts.now)) + c.own_of-own.result.shape.width ≤ 128 = (rw w (omega arith)) in let whole = shifted_whole c.loop-part.value (total_width (senses (names_of c.args.scope.now) (take c.loop-part.part-index c.args.parts.now))) c.own_of-own.result.shape.width c.loop-part.invariant.fits wide in let fits = joined_fits c.loop-part.value (total_width (senses (names_of c.args.scope.now) (take c.loop-part.part-index c.args.parts.now))) c.own_of-own.result.shape.width c.own_of-own.result.value c.loop-part.invariant.fits c.own_of-own.ensures.fits in let is = rw c.from.ensures at c.shift_left.ensures in let le = power_le (total_width (senses (names_of c.args.scope.now) (take c.loop-part.part-index c.args.parts.now)) + c.own_of-own.result.shape.width) 128 wide in omega (arith, is, whole, fits, le)

pub joined-loop-part-preserved : goal.joined-loop-part-preserved
joined-loop-part-preserved t c = let w = c.own_of-own.ensures.shape in let short = c.requires.narrow in let split = total_parts (names_of c.args.scope.now) c.args.parts.now (suc c.loop-part.part-index) in let more = total_take (names_of c.args.scope.now) c.args.parts.now c.loop-part.part-index c.part-item.result c.part-item.is (omega arith) in let wide : total_width (senses (names_of c.args.scope.now) (take c.loop-part.part-index c.args.parts.now)) + c.own_of-own.result.shape.width ≤ 128 = (rw w (omega arith)) in let whole = shifted_whole c.loop-part.value (total_width (senses (names_of c.args.scope.now) (take c.loop-part.part-index c.args.parts.now))) c.own_of-own.result.shape.width c.loop-part.invariant.fits wide in let fits = joined_fits c.loop-part.value (total_width (senses (names_of c.args.scope.now) (take c.loop-part.part-index c.args.parts.now))) c.own_of-own.result.shape.width c.own_of-own.result.value c.loop-part.invariant.fits c.own_of-own.ensures.fits in let is = rw c.from.ensures at c.shift_left.ensures in let value = is ∙ whole in
    let W : ℕ = (sense (names_of c.args.scope.now) c.part-item.result).shape.width in
    let V : ℕ = own (store_of c.args.store.now) (sense (names_of c.args.scope.now) c.part-item.result) in
    let rest : List Expr = drop (suc c.loop-part.part-index) c.args.parts.now in
    let before : ℕ = total_width (senses (names_of c.args.scope.now) (take c.loop-part.part-index c.args.parts.now)) in
    let d = parts_drop (names_of c.args.scope.now) c.args.parts.now c.loop-part.part-index c.part-item.result c.part-item.is (omega arith) in
    let old = rw d at c.loop-part.invariant.same in
    let new : c.shift_left.result + c.own_of-own.result.value ≡ c.loop-part.value * 2 ^ W + V = (rw (value, w, c.own_of-own.ensures.value) refl) in
    let same : (c.loop-part.value * 2 ^ W + V) * 2 ^ total_width (senses (names_of c.args.scope.now) rest) + joined (store_of c.args.store.now) (senses (names_of c.args.scope.now) rest) ≡ joined (store_of c.args.store.now) (senses (names_of c.args.scope.now) c.args.parts.now) = joined_step c.loop-part.value 0 W V (total_width (senses (names_of c.args.scope.now) rest)) (joined (store_of c.args.store.now) (senses (names_of c.args.scope.now) rest)) ∙ old in
    let fit : c.loop-part.value * 2 ^ W + V < 2 ^ (before + W) = (rw (w, c.own_of-own.ensures.value) at fits) in
    let grown : c.loop-part.width + c.own_of-own.result.shape.width ≡ before + W = ap (λ (n : ℕ). n + c.own_of-own.result.shape.width) c.loop-part.invariant.wide ∙ ap (λ (s : Shape). before + s.width) w in
    record { same = rw (new, add-one) same; fits = rw (new, add-one, more) fit; wide = rw (add-one, more) grown }

pub own_of-bound_of-msb-requires : goal.own_of-bound_of-msb-requires
own_of-bound_of-msb-requires t c = (search (rules, the_lemmas), rw c.get.ensures (whole_part (names_of c.args.scope.now) c.args.expr.now c.in-PartSelect.name c.in-PartSelect.field-1 c.in-PartSelect.msb c.in-PartSelect.lsb c.in-PartSelect.is c.requires.whole).msb)

pub own_of-bound_of-requires : goal.own_of-bound_of-requires
own_of-bound_of-requires t c = (search (rules, the_lemmas), rw c.get-in-PartSelect.ensures (whole_part (names_of c.args.scope.now) c.args.expr.now c.in-PartSelect.name c.in-PartSelect.field-1 c.in-PartSelect.msb c.in-PartSelect.lsb c.in-PartSelect.is c.requires.whole).lsb)

pub own_of-part_of-requires : goal.own_of-part_of-requires
own_of-part_of-requires t c = let e = (ap (λ (x : ℤ). part_width x (bound_integer c.bound_of.result)) (c.bound_of-msb.ensures.value ∙ ap (λ (x : Expr). constant_integer (sense (names_of c.args.scope.now) x)) c.get.ensures) ∙ ap (λ (x : ℤ). part_width (constant_integer (sense (names_of c.args.scope.now) c.in-PartSelect.msb)) x) (c.bound_of.ensures.value ∙ ap (λ (x : Expr). constant_integer (sense (names_of c.args.scope.now) x)) c.get-in-PartSelect.ensures)) in record { some = rw e (whole_part (names_of c.args.scope.now) c.args.expr.now c.in-PartSelect.name c.in-PartSelect.field-1 c.in-PartSelect.msb c.in-PartSelect.lsb c.in-PartSelect.is c.requires.whole).some; narrow = rw e (whole_part (names_of c.args.scope.now) c.args.expr.now c.in-PartSelect.name c.in-PartSelect.field-1 c.in-PartSelect.msb c.in-PartSelect.lsb c.in-PartSelect.is c.requires.whole).narrow; small = c.bound_of.ensures.small; stored = c.requires.stored }

pub own_of-count_of-width-requires : goal.own_of-count_of-width-requires
own_of-count_of-width-requires t c = (search (rules, the_lemmas), rw c.get-in-IndexedPartSelect.ensures (whole_indexed (names_of c.args.scope.now) c.args.expr.now c.in-IndexedPartSelect.name c.in-IndexedPartSelect.field-1 c.in-IndexedPartSelect.base c.in-IndexedPartSelect.width c.in-IndexedPartSelect.is c.requires.whole).width)

pub own_of-overflow_cast-width : goal.own_of-overflow_cast-width
own_of-overflow_cast-width t c = let e = c.count_of-width.ensures ∙ ap (λ (x : Expr). natural (constant_integer (sense (names_of c.args.scope.now) x))) c.get-in-IndexedPartSelect.ensures in let f = (whole_indexed (names_of c.args.scope.now) c.args.expr.now c.in-IndexedPartSelect.name c.in-IndexedPartSelect.field-1 c.in-IndexedPartSelect.base c.in-IndexedPartSelect.width c.in-IndexedPartSelect.is c.requires.whole).narrow in omega (arith, e, f)

pub own_of-index_of-at-requires : goal.own_of-index_of-at-requires
own_of-index_of-at-requires t c = (search (rules, the_lemmas), (rw c.get-in-IndexedPartSelect-2.ensures (whole_indexed (names_of c.args.scope.now) c.args.expr.now c.in-IndexedPartSelect.name c.in-IndexedPartSelect.field-1 c.in-IndexedPartSelect.base c.in-IndexedPartSelect.width c.in-IndexedPartSelect.is c.requires.whole).base, c.requires.stored))

pub own_of-indexed_of-requires : goal.own_of-indexed_of-requires
own_of-indexed_of-requires t c = let e = c.count_of-width.ensures ∙ ap (λ (x : Expr). natural (constant_integer (sense (names_of c.args.scope.now) x))) c.get-in-IndexedPartSelect.ensures in record { some = rw e (whole_indexed (names_of c.args.scope.now) c.args.expr.now c.in-IndexedPartSelect.name c.in-IndexedPartSelect.field-1 c.in-IndexedPartSelect.base c.in-IndexedPartSelect.width c.in-IndexedPartSelect.is c.requires.whole).some; narrow = rw e (whole_indexed (names_of c.args.scope.now) c.args.expr.now c.in-IndexedPartSelect.name c.in-IndexedPartSelect.field-1 c.in-IndexedPartSelect.base c.in-IndexedPartSelect.width c.in-IndexedPartSelect.is c.requires.whole).narrow; small = c.index_of-at.ensures.small; stored = c.requires.stored }

pub own_of-count_of-times-requires : goal.own_of-count_of-times-requires
own_of-count_of-times-requires t c = (search (rules, the_lemmas), rw c.get-in-MultipleConcatenation.ensures (whole_times (names_of c.args.scope.now) c.args.expr.now c.in-MultipleConcatenation.field-0 c.in-MultipleConcatenation.times c.in-MultipleConcatenation.parts c.in-MultipleConcatenation.is c.requires.whole).times)

pub own_of-overflow_cast-times : goal.own_of-overflow_cast-times
own_of-overflow_cast-times t c = let f = (whole_times (names_of c.args.scope.now) c.args.expr.now c.in-MultipleConcatenation.field-0 c.in-MultipleConcatenation.times c.in-MultipleConcatenation.parts c.in-MultipleConcatenation.is c.requires.whole).few in let e = c.count_of-times.ensures ∙ ap (λ (x : Expr). natural (constant_integer (sense (names_of c.args.scope.now) x))) c.get-in-MultipleConcatenation.ensures in omega (arith, f, e)

pub own_of-joined-requires-in-MultipleConcatenation : goal.own_of-joined-requires-in-MultipleConcatenation
own_of-joined-requires-in-MultipleConcatenation t c = (search (rules, the_lemmas), (rw c.as_slice-in-MultipleConcatenation.ensures (whole_times (names_of c.args.scope.now) c.args.expr.now c.in-MultipleConcatenation.field-0 c.in-MultipleConcatenation.times c.in-MultipleConcatenation.parts c.in-MultipleConcatenation.is c.requires.whole).parts, (rw c.as_slice-in-MultipleConcatenation.ensures (whole_times (names_of c.args.scope.now) c.args.expr.now c.in-MultipleConcatenation.field-0 c.in-MultipleConcatenation.times c.in-MultipleConcatenation.parts c.in-MultipleConcatenation.is c.requires.whole).short, c.requires.stored)))

pub value_of-times_of-requires : goal.value_of-times_of-requires
value_of-times_of-requires t c = let n = (c.count_of-times.ensures ∙ ap (λ (x : Expr). natural (constant_integer (sense (names_of c.args.scope.now) x))) c.get-in-MultipleConcatenation.ensures) in let w = (ap (λ (s : Shape). s.width) c.joined-in-MultipleConcatenation.ensures.shape ∙ ap (λ (x : List Expr). total_width (senses (names_of c.args.scope.now) x)) c.as_slice-in-MultipleConcatenation.ensures) in record { some = rw (n, w) (whole_times (names_of c.args.scope.now) c.args.expr.now c.in-MultipleConcatenation.field-0 c.in-MultipleConcatenation.times c.in-MultipleConcatenation.parts c.in-MultipleConcatenation.is c.requires.whole).some; narrow = rw (n, w) (whole_times (names_of c.args.scope.now) c.args.expr.now c.in-MultipleConcatenation.field-0 c.in-MultipleConcatenation.times c.in-MultipleConcatenation.parts c.in-MultipleConcatenation.is c.requires.whole).narrow; fits = c.joined-in-MultipleConcatenation.ensures.fits }

pub own_of-times_of-requires : goal.own_of-times_of-requires
own_of-times_of-requires t c = let n = (c.count_of-times.ensures ∙ ap (λ (x : Expr). natural (constant_integer (sense (names_of c.args.scope.now) x))) c.get-in-MultipleConcatenation.ensures) in let w = (ap (λ (s : Shape). s.width) c.joined-in-MultipleConcatenation.ensures.shape ∙ ap (λ (x : List Expr). total_width (senses (names_of c.args.scope.now) x)) c.as_slice-in-MultipleConcatenation.ensures) in record { some = rw (n, w) (whole_times (names_of c.args.scope.now) c.args.expr.now c.in-MultipleConcatenation.field-0 c.in-MultipleConcatenation.times c.in-MultipleConcatenation.parts c.in-MultipleConcatenation.is c.requires.whole).some; narrow = rw (n, w) (whole_times (names_of c.args.scope.now) c.args.expr.now c.in-MultipleConcatenation.field-0 c.in-MultipleConcatenation.times c.in-MultipleConcatenation.parts c.in-MultipleConcatenation.is c.requires.whole).narrow; fits = c.joined-in-MultipleConcatenation.ensures.fits }

pub own_of-returns-in-Concatenation-clause-sized : goal.own_of-returns-in-Concatenation-clause-sized
own_of-returns-in-Concatenation-clause-sized t c = let w = (ap (λ (s : Shape). s.width) c.joined.ensures.shape ∙ ap (λ (x : List Expr). total_width (senses (names_of c.args.scope.now) x)) c.as_slice.ensures) in record { some = rw w (whole_join (names_of c.args.scope.now) c.args.expr.now c.in-Concatenation.field-0 c.in-Concatenation.parts c.in-Concatenation.is c.requires.whole).some; narrow = rw w (whole_join (names_of c.args.scope.now) c.args.expr.now c.in-Concatenation.field-0 c.in-Concatenation.parts c.in-Concatenation.is c.requires.whole).narrow }

pub shape_of-bound_of-msb-requires : goal.shape_of-bound_of-msb-requires
shape_of-bound_of-msb-requires t c = (search (rules, the_lemmas), rw c.get.ensures (whole_part (names_of c.args.scope.now) c.args.expr.now c.in-PartSelect.field-0 c.in-PartSelect.field-1 c.in-PartSelect.msb c.in-PartSelect.lsb c.in-PartSelect.is c.requires).msb)

pub shape_of-bound_of-requires : goal.shape_of-bound_of-requires
shape_of-bound_of-requires t c = (search (rules, the_lemmas), rw c.get-in-PartSelect.ensures (whole_part (names_of c.args.scope.now) c.args.expr.now c.in-PartSelect.field-0 c.in-PartSelect.field-1 c.in-PartSelect.msb c.in-PartSelect.lsb c.in-PartSelect.is c.requires).lsb)

pub shape_of-part_width-requires : goal.shape_of-part_width-requires
shape_of-part_width-requires t c = record { narrow = let e = (ap (λ (x : ℤ). part_width x (bound_integer c.bound_of.result)) (c.bound_of-msb.ensures.value ∙ ap (λ (x : Expr). constant_integer (sense (names_of c.args.scope.now) x)) c.get.ensures) ∙ ap (λ (x : ℤ). part_width (constant_integer (sense (names_of c.args.scope.now) c.in-PartSelect.msb)) x) (c.bound_of.ensures.value ∙ ap (λ (x : Expr). constant_integer (sense (names_of c.args.scope.now) x)) c.get-in-PartSelect.ensures)) in let f = (whole_part (names_of c.args.scope.now) c.args.expr.now c.in-PartSelect.field-0 c.in-PartSelect.field-1 c.in-PartSelect.msb c.in-PartSelect.lsb c.in-PartSelect.is c.requires).narrow in rw e f }

pub shape_of-count_of-requires : goal.shape_of-count_of-requires
shape_of-count_of-requires t c = (search (rules, the_lemmas), rw c.get-in-IndexedPartSelect.ensures (whole_indexed (names_of c.args.scope.now) c.args.expr.now c.in-IndexedPartSelect.field-0 c.in-IndexedPartSelect.field-1 c.in-IndexedPartSelect.field-2 c.in-IndexedPartSelect.width c.in-IndexedPartSelect.is c.requires).width)

pub shape_of-overflow_cast-count_of : goal.shape_of-overflow_cast-count_of
shape_of-overflow_cast-count_of t c = let e = c.count_of.ensures ∙ ap (λ (x : Expr). natural (constant_integer (sense (names_of c.args.scope.now) x))) c.get-in-IndexedPartSelect.ensures in let f = (whole_indexed (names_of c.args.scope.now) c.args.expr.now c.in-IndexedPartSelect.field-0 c.in-IndexedPartSelect.field-1 c.in-IndexedPartSelect.field-2 c.in-IndexedPartSelect.width c.in-IndexedPartSelect.is c.requires).narrow in omega (arith, e, f)

pub shape_of-shape_of-requires-in-Binary : goal.shape_of-shape_of-requires-in-Binary
shape_of-shape_of-requires-in-Binary t c = (search (rules, the_lemmas), rw c.get-in-Binary.ensures (whole_pair (names_of c.args.scope.now) c.args.expr.now c.in-Binary.field-0 c.in-Binary.op c.in-Binary.left c.in-Binary.right c.in-Binary.is c.requires).0)

pub shape_of-shape_of-requires-in-Binary-2 : goal.shape_of-shape_of-requires-in-Binary-2
shape_of-shape_of-requires-in-Binary-2 t c = (search (rules, the_lemmas), rw c.get-in-Binary-2.ensures (whole_pair (names_of c.args.scope.now) c.args.expr.now c.in-Binary.field-0 c.in-Binary.op c.in-Binary.left c.in-Binary.right c.in-Binary.is c.requires).1)

pub shape_of-shape_of-requires-in-Conditional : goal.shape_of-shape_of-requires-in-Conditional
shape_of-shape_of-requires-in-Conditional t c = (search (rules, the_lemmas), rw c.get-in-Conditional.ensures (whole_choice (names_of c.args.scope.now) c.args.expr.now c.in-Conditional.field-0 c.in-Conditional.field-1 c.in-Conditional.yes c.in-Conditional.no c.in-Conditional.is c.requires).1)

pub shape_of-shape_of-requires-in-Conditional-2 : goal.shape_of-shape_of-requires-in-Conditional-2
shape_of-shape_of-requires-in-Conditional-2 t c = (search (rules, the_lemmas), rw c.get-in-Conditional-2.ensures (whole_choice (names_of c.args.scope.now) c.args.expr.now c.in-Conditional.field-0 c.in-Conditional.field-1 c.in-Conditional.yes c.in-Conditional.no c.in-Conditional.is c.requires).2)

pub shape_of-count_of-times-requires : goal.shape_of-count_of-times-requires
shape_of-count_of-times-requires t c = (search (rules, the_lemmas), rw c.get-in-MultipleConcatenation.ensures (whole_times (names_of c.args.scope.now) c.args.expr.now c.in-MultipleConcatenation.field-0 c.in-MultipleConcatenation.times c.in-MultipleConcatenation.parts c.in-MultipleConcatenation.is c.requires).times)

pub shape_of-overflow_cast-times : goal.shape_of-overflow_cast-times
shape_of-overflow_cast-times t c = let f = (whole_times (names_of c.args.scope.now) c.args.expr.now c.in-MultipleConcatenation.field-0 c.in-MultipleConcatenation.times c.in-MultipleConcatenation.parts c.in-MultipleConcatenation.is c.requires).few in let e = c.count_of-times.ensures ∙ ap (λ (x : Expr). natural (constant_integer (sense (names_of c.args.scope.now) x))) c.get-in-MultipleConcatenation.ensures in omega (arith, f, e)

pub shape_of-total_width-requires-in-MultipleConcatenation : goal.shape_of-total_width-requires-in-MultipleConcatenation
shape_of-total_width-requires-in-MultipleConcatenation t c = (search (rules, the_lemmas), (rw c.as_slice-in-MultipleConcatenation.ensures (whole_times (names_of c.args.scope.now) c.args.expr.now c.in-MultipleConcatenation.field-0 c.in-MultipleConcatenation.times c.in-MultipleConcatenation.parts c.in-MultipleConcatenation.is c.requires).parts, rw c.as_slice-in-MultipleConcatenation.ensures (whole_times (names_of c.args.scope.now) c.args.expr.now c.in-MultipleConcatenation.field-0 c.in-MultipleConcatenation.times c.in-MultipleConcatenation.parts c.in-MultipleConcatenation.is c.requires).short))

pub shape_of-call_shape-requires : goal.shape_of-call_shape-requires
shape_of-call_shape-requires t c = (search (rules, the_lemmas), rw (c.function_of.ensures, c.as_str.ensures, c.as_slice-in-SystemFunctionCall.ensures) (whole_call (names_of c.args.scope.now) c.args.expr.now c.in-SystemFunctionCall.name c.in-SystemFunctionCall.arguments c.in-SystemFunctionCall.is c.requires))

pub shape_of-returns-in-PartSelect-clause-sized : goal.shape_of-returns-in-PartSelect-clause-sized
shape_of-returns-in-PartSelect-clause-sized t c = let u = ap (λ (s : Shape). s.width) c.unsigned.ensures in let e = c.part_width.ensures ∙ (ap (λ (x : ℤ). part_width x (bound_integer c.bound_of.result)) (c.bound_of-msb.ensures.value ∙ ap (λ (x : Expr). constant_integer (sense (names_of c.args.scope.now) x)) c.get.ensures) ∙ ap (λ (x : ℤ). part_width (constant_integer (sense (names_of c.args.scope.now) c.in-PartSelect.msb)) x) (c.bound_of.ensures.value ∙ ap (λ (x : Expr). constant_integer (sense (names_of c.args.scope.now) x)) c.get-in-PartSelect.ensures)) in let f = (whole_part (names_of c.args.scope.now) c.args.expr.now c.in-PartSelect.field-0 c.in-PartSelect.field-1 c.in-PartSelect.msb c.in-PartSelect.lsb c.in-PartSelect.is c.requires).some in let g = (whole_part (names_of c.args.scope.now) c.args.expr.now c.in-PartSelect.field-0 c.in-PartSelect.field-1 c.in-PartSelect.msb c.in-PartSelect.lsb c.in-PartSelect.is c.requires).narrow in record { some = omega (arith, u, e, f); narrow = omega (arith, u, e, g) }

pub shape_of-returns-in-IndexedPartSelect-clause-sized : goal.shape_of-returns-in-IndexedPartSelect-clause-sized
shape_of-returns-in-IndexedPartSelect-clause-sized t c = let u = ap (λ (s : Shape). s.width) c.unsigned-in-IndexedPartSelect.ensures in let e = c.count_of.ensures ∙ ap (λ (x : Expr). natural (constant_integer (sense (names_of c.args.scope.now) x))) c.get-in-IndexedPartSelect.ensures in let f = (whole_indexed (names_of c.args.scope.now) c.args.expr.now c.in-IndexedPartSelect.field-0 c.in-IndexedPartSelect.field-1 c.in-IndexedPartSelect.field-2 c.in-IndexedPartSelect.width c.in-IndexedPartSelect.is c.requires).some in let g = (whole_indexed (names_of c.args.scope.now) c.args.expr.now c.in-IndexedPartSelect.field-0 c.in-IndexedPartSelect.field-1 c.in-IndexedPartSelect.field-2 c.in-IndexedPartSelect.width c.in-IndexedPartSelect.is c.requires).narrow in record { some = omega (arith, u, e, f); narrow = omega (arith, u, e, g) }
