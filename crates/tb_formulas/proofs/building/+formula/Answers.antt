use Rattle.tb_formulas.proofs.Common.{rules, ap, sym, ◌∙◌, arith, add-one, subst, Expr, function_of, natural, bound_integer, names_of, Sense, sense, constant_integer, IsContext, own_context, left_at}
use Rattle.tb_formulas.proofs.Common.{right_at, yes_at, no_at, whole_name, whole_index, whole_part, whole_indexed, whole_inner, whole_operand, whole_pair, whole_choice, whole_join, whole_times}
use Rattle.tb_formulas.proofs.Common.{whole_call, element_whole, Makes}
use Rattle.std.proofs.lemmas.Result.{IfOk-weaker}
use Rattle.vlog_syntax.specs.declared.expr.Expr.TheViews.{the_lemmas}
use Rattle.vlog_meaning.proofs.Divisions.{operand_at}
use Rattle.vlog_meaning.proofs.Steps as s
use Rattle.tb_formulas.proofs.Making.{ok_both, made_number, own_made, number_wide, number_made, name_context, name_made, bit_made, indexed_made, part_sizes, part_made, picked, aimed, unary_made}
use Rattle.tb_formulas.proofs.Making.{binary_made, choice_made, goes_first, goes_on, goes_all, repeated_made, join_made, times_made, several_made, unknown_made, one_whole, one_context, one_made}
use Rattle.tb_formulas.proofs.Making.{signed_whole, unsigned_whole, clog2_whole, signed_made, unsigned_made, clog2_made, random_made, time_made, call_made, inner_made}
use Rattle.tb_formulas.proofs.building.+formula.Goals as goal

pub boxed-formula_at-requires : goal.boxed-formula_at-requires
boxed-formula_at-requires t c = (search (rules, the_lemmas), (c.requires.whole, c.requires.context))

pub boxed-returns : goal.boxed-returns
boxed-returns t c = IfOk-weaker c.new.result _ _ (λ b same. subst (Makes (names_of c.args.scope.now) (λ store. (sense (names_of c.args.scope.now) c.args.expr.now).value store c.args.context) c.args.context.width) (sym same) c.in_ok-formula.ensures) c.new.ensures

pub own_boxed-boxed-requires : goal.own_boxed-boxed-requires
own_boxed-boxed-requires t c = (search (rules, the_lemmas), (c.requires, (own_context (sense (names_of c.args.scope.now) c.args.expr.now).shape c.shape_of.result c.shape_of.ensures.shape c.shape_of.ensures.sized)))

pub own_boxed-returns : goal.own_boxed-returns
own_boxed-returns t c = IfOk-weaker c.boxed.result _ _ (λ f h. own_made (names_of c.args.scope.now) c.args.expr.now c.shape_of.result f c.shape_of.ensures.shape h) c.boxed.ensures

pub called-returns-then-arguments-ne1 : goal.called-returns-then-arguments-ne1
called-returns-then-arguments-ne1 t c = several_made (names_of c.args.scope.now) c.args.function c.args.arguments.now c.args.context c.if-arguments-ne1.true

pub called-called_with-requires : goal.called-called_with-requires
called-called_with-requires t c = (search (rules, the_lemmas), (one_whole (names_of c.args.scope.now) c.args.function c.in-Some.function c.args.arguments.now c.index-arguments-0.result c.in-Some.is c.index-arguments-0.is c.if-arguments-ne1.false c.requires.whole, one_context (names_of c.args.scope.now) c.args.function c.in-Some.function c.args.arguments.now c.index-arguments-0.result c.in-Some.is c.index-arguments-0.is c.if-arguments-ne1.false c.args.context c.requires.context))

pub called-returns-in-Some : goal.called-returns-in-Some
called-returns-in-Some t c = IfOk-weaker c.called_with.result _ _ (λ f h. one_made (names_of c.args.scope.now) c.args.function c.in-Some.function c.args.arguments.now c.index-arguments-0.result c.in-Some.is c.index-arguments-0.is c.if-arguments-ne1.false c.args.context f h) c.called_with.ensures

pub called-returns-in-None : goal.called-returns-in-None
called-returns-in-None t c = unknown_made (names_of c.args.scope.now) c.args.function c.args.arguments.now c.args.context c.in-None.is

pub called_with-shape_of-requires-in-Signed : goal.called_with-shape_of-requires-in-Signed
called_with-shape_of-requires-in-Signed t c = (signed_whole (names_of c.args.scope.now) c.args.function c.args.argument.now c.args.context c.in-Signed.is c.requires.whole)

pub called_with-own_boxed-requires : goal.called_with-own_boxed-requires
called_with-own_boxed-requires t c = (search (rules, the_lemmas), (signed_whole (names_of c.args.scope.now) c.args.function c.args.argument.now c.args.context c.in-Signed.is c.requires.whole))

pub called_with-shape_of-requires-in-Unsigned : goal.called_with-shape_of-requires-in-Unsigned
called_with-shape_of-requires-in-Unsigned t c = (unsigned_whole (names_of c.args.scope.now) c.args.function c.args.argument.now c.args.context c.in-Unsigned.is c.requires.whole)

pub called_with-formula_at-requires : goal.called_with-formula_at-requires
called_with-formula_at-requires t c = (search (rules, the_lemmas), ((unsigned_whole (names_of c.args.scope.now) c.args.function c.args.argument.now c.args.context c.in-Unsigned.is c.requires.whole), (own_context (sense (names_of c.args.scope.now) c.args.argument.now).shape c.shape_of-in-Unsigned.result c.shape_of-in-Unsigned.ensures.shape c.shape_of-in-Unsigned.ensures.sized)))

pub called_with-shape_of-own-requires-in-Clog2 : goal.called_with-shape_of-own-requires-in-Clog2
called_with-shape_of-own-requires-in-Clog2 t c = (clog2_whole (names_of c.args.scope.now) c.args.function c.args.argument.now c.args.context c.in-Clog2.is c.requires.whole)

pub called_with-value_of-requires-clause-whole : goal.called_with-value_of-requires-clause-whole
called_with-value_of-requires-clause-whole t c = (clog2_whole (names_of c.args.scope.now) c.args.function c.args.argument.now c.args.context c.in-Clog2.is c.requires.whole)

pub called_with-value_of-requires-clause-context : goal.called_with-value_of-requires-clause-context
called_with-value_of-requires-clause-context t c = (own_context (sense (names_of c.args.scope.now) c.args.argument.now).shape c.shape_of-own.result c.shape_of-own.ensures.shape c.shape_of-own.ensures.sized)

pub called_with-returns-in_ok-inner-in-Signed : goal.called_with-returns-in_ok-inner-in-Signed
called_with-returns-in_ok-inner-in-Signed t c = signed_made (names_of c.args.scope.now) c.args.function c.args.argument.now c.args.context c.shape_of.result c.in_ok-inner-in-Signed.inner c.in-Signed.is c.requires.context c.shape_of.ensures.shape c.shape_of.ensures.sized c.in_ok-inner-in-Signed.ensures

pub called_with-returns-in-Unsigned : goal.called_with-returns-in-Unsigned
called_with-returns-in-Unsigned t c = IfOk-weaker c.formula_at.result _ _ (λ f h. unsigned_made (names_of c.args.scope.now) c.args.function c.args.argument.now c.args.context c.shape_of-in-Unsigned.result f c.in-Unsigned.is c.requires.context c.shape_of-in-Unsigned.ensures.shape h) c.formula_at.ensures

pub called_with-returns-in-Clog2 : goal.called_with-returns-in-Clog2
called_with-returns-in-Clog2 t c = clog2_made (names_of c.args.scope.now) c.args.function c.args.argument.now c.args.context c.shape_of-own.result c.value_of.result c.clog2.result c.in-Clog2.is c.requires.context c.shape_of-own.ensures.shape c.value_of.ensures.value c.clog2.ensures.value c.clog2.ensures.small

pub called_with-returns-in-Random : goal.called_with-returns-in-Random
called_with-returns-in-Random t c = random_made (names_of c.args.scope.now) c.args.function c.args.argument.now c.args.context c.in-Random.is

pub called_with-returns-in-Time : goal.called_with-returns-in-Time
called_with-returns-in-Time t c = time_made (names_of c.args.scope.now) c.args.function c.args.argument.now c.args.context c.in-Time.is

pub formula_at-constant-requires-clause-whole : goal.formula_at-constant-requires-clause-whole
formula_at-constant-requires-clause-whole t c = c.requires.whole

pub formula_at-constant-requires-clause-context : goal.formula_at-constant-requires-clause-context
formula_at-constant-requires-clause-context t c = c.requires.context

pub formula_at-returns-in-Some : goal.formula_at-returns-in-Some
formula_at-returns-in-Some t c = made_number (names_of c.args.scope.now) _ c.args.context.width c.in-Some.bits c.in-Some.ensures.means c.in-Some.ensures.fits

pub formula_at-number_formula-requires-clause-wide : goal.formula_at-number_formula-requires-clause-wide
formula_at-number_formula-requires-clause-wide t c = number_wide (names_of c.args.scope.now) c.args.expr.now c.in-Number.number c.args.context c.width.result c.in-Number.is c.requires.context c.width.ensures.width

pub formula_at-returns-in-Number : goal.formula_at-returns-in-Number
formula_at-returns-in-Number t c = number_made (names_of c.args.scope.now) c.args.expr.now c.in-Number.number c.args.context c.width.result c.bits.result c.number_formula.result c.in-Number.is c.width.ensures.width c.bits.ensures.bits c.number_formula.ensures.means c.number_formula.ensures.fits

pub formula_at-name_formula-requires-clause-sized : goal.formula_at-name_formula-requires-clause-sized
formula_at-name_formula-requires-clause-sized t c = rw c.declared.ensures (whole_name (names_of c.args.scope.now) c.args.expr.now c.in-Name.name c.in-Name.is c.requires.whole)

pub formula_at-name_formula-requires-clause-context : goal.formula_at-name_formula-requires-clause-context
formula_at-name_formula-requires-clause-context t c = name_context (names_of c.args.scope.now) c.args.expr.now c.in-Name.name c.args.context c.declared.result c.in-Name.is c.declared.ensures c.requires.context

pub formula_at-returns-in-Name : goal.formula_at-returns-in-Name
formula_at-returns-in-Name t c = name_made (names_of c.args.scope.now) c.args.expr.now c.in-Name.name c.args.context c.declared.result c.name_formula.result c.in-Name.is c.declared.ensures c.name_formula.ensures.means c.name_formula.ensures.fits

pub formula_at-selected-requires : goal.formula_at-selected-requires
formula_at-selected-requires t c = (search (rules, the_lemmas), (rw c.get.ensures (whole_index (names_of c.args.scope.now) c.args.expr.now c.in-BitSelect.name c.in-BitSelect.field-1 c.in-BitSelect.index c.in-BitSelect.is c.requires.whole), (omega arith, omega arith)))

pub formula_at-returns-in-BitSelect : goal.formula_at-returns-in-BitSelect
formula_at-returns-in-BitSelect t c = IfOk-weaker c.selected.result _ _ (λ f h. bit_made (names_of c.args.scope.now) c.args.expr.now c.in-BitSelect.name c.in-BitSelect.field-1 c.in-BitSelect.index c.args.context f c.in-BitSelect.is c.requires.context (rw c.get.ensures at h)) c.selected.ensures

pub formula_at-bound_of-place-requires : goal.formula_at-bound_of-place-requires
formula_at-bound_of-place-requires t c = rw c.get-in-PartSelect.ensures (whole_part (names_of c.args.scope.now) c.args.expr.now c.in-PartSelect.name c.in-PartSelect.field-1 c.in-PartSelect.msb c.in-PartSelect.lsb c.in-PartSelect.is c.requires.whole).lsb

pub formula_at-bound_of-requires : goal.formula_at-bound_of-requires
formula_at-bound_of-requires t c = rw c.get-in-PartSelect-2.ensures (whole_part (names_of c.args.scope.now) c.args.expr.now c.in-PartSelect.name c.in-PartSelect.field-1 c.in-PartSelect.msb c.in-PartSelect.lsb c.in-PartSelect.is c.requires.whole).msb

pub formula_at-part_width-width-requires : goal.formula_at-part_width-width-requires
formula_at-part_width-width-requires t c = record { narrow = (part_sizes (names_of c.args.scope.now) c.args.expr.now c.in-PartSelect.name c.in-PartSelect.field-1 c.in-PartSelect.msb c.in-PartSelect.lsb (bound_integer c.bound_of.result) (bound_integer c.bound_of-place.result) c.in-PartSelect.is (c.bound_of.ensures.value ∙ ap (λ (x : Expr). constant_integer (sense (names_of c.args.scope.now) x)) c.get-in-PartSelect-2.ensures) (c.bound_of-place.ensures.value ∙ ap (λ (x : Expr). constant_integer (sense (names_of c.args.scope.now) x)) c.get-in-PartSelect.ensures) c.requires.whole).1 }

pub formula_at-fixed-requires-clause-some : goal.formula_at-fixed-requires-clause-some
formula_at-fixed-requires-clause-some t c = rw c.part_width-width.ensures (part_sizes (names_of c.args.scope.now) c.args.expr.now c.in-PartSelect.name c.in-PartSelect.field-1 c.in-PartSelect.msb c.in-PartSelect.lsb (bound_integer c.bound_of.result) (bound_integer c.bound_of-place.result) c.in-PartSelect.is (c.bound_of.ensures.value ∙ ap (λ (x : Expr). constant_integer (sense (names_of c.args.scope.now) x)) c.get-in-PartSelect-2.ensures) (c.bound_of-place.ensures.value ∙ ap (λ (x : Expr). constant_integer (sense (names_of c.args.scope.now) x)) c.get-in-PartSelect.ensures) c.requires.whole).0

pub formula_at-fixed-requires-clause-narrow : goal.formula_at-fixed-requires-clause-narrow
formula_at-fixed-requires-clause-narrow t c = rw c.part_width-width.ensures (part_sizes (names_of c.args.scope.now) c.args.expr.now c.in-PartSelect.name c.in-PartSelect.field-1 c.in-PartSelect.msb c.in-PartSelect.lsb (bound_integer c.bound_of.result) (bound_integer c.bound_of-place.result) c.in-PartSelect.is (c.bound_of.ensures.value ∙ ap (λ (x : Expr). constant_integer (sense (names_of c.args.scope.now) x)) c.get-in-PartSelect-2.ensures) (c.bound_of-place.ensures.value ∙ ap (λ (x : Expr). constant_integer (sense (names_of c.args.scope.now) x)) c.get-in-PartSelect.ensures) c.requires.whole).1

pub formula_at-fixed-requires-clause-small : goal.formula_at-fixed-requires-clause-small
formula_at-fixed-requires-clause-small t c = c.bound_of-place.ensures.small

pub formula_at-returns-in-PartSelect : goal.formula_at-returns-in-PartSelect
formula_at-returns-in-PartSelect t c = ok_both c.fixed.result _ _ _ (λ f m h. part_made (names_of c.args.scope.now) c.args.expr.now c.in-PartSelect.name c.in-PartSelect.field-1 c.in-PartSelect.msb c.in-PartSelect.lsb (bound_integer c.bound_of.result) (bound_integer c.bound_of-place.result) c.in-PartSelect.is (c.bound_of.ensures.value ∙ ap (λ (x : Expr). constant_integer (sense (names_of c.args.scope.now) x)) c.get-in-PartSelect-2.ensures) (c.bound_of-place.ensures.value ∙ ap (λ (x : Expr). constant_integer (sense (names_of c.args.scope.now) x)) c.get-in-PartSelect.ensures) c.args.context c.declared-in-PartSelect.result c.part_width-width.result f c.requires.context c.declared-in-PartSelect.ensures c.part_width-width.ensures m h) c.fixed.ensures.means c.fixed.ensures.fits

pub formula_at-count_of-requires-clause-whole : goal.formula_at-count_of-requires-clause-whole
formula_at-count_of-requires-clause-whole t c = rw c.get-in-IndexedPartSelect-2.ensures (whole_indexed (names_of c.args.scope.now) c.args.expr.now c.in-IndexedPartSelect.name c.in-IndexedPartSelect.field-1 c.in-IndexedPartSelect.base c.in-IndexedPartSelect.width c.in-IndexedPartSelect.is c.requires.whole).width

pub formula_at-count_of-requires-clause-few : goal.formula_at-count_of-requires-clause-few
formula_at-count_of-requires-clause-few t c = rw c.get-in-IndexedPartSelect-2.ensures (whole_indexed (names_of c.args.scope.now) c.args.expr.now c.in-IndexedPartSelect.name c.in-IndexedPartSelect.field-1 c.in-IndexedPartSelect.base c.in-IndexedPartSelect.width c.in-IndexedPartSelect.is c.requires.whole).narrow

pub formula_at-selected-requires-in-IndexedPartSelect : goal.formula_at-selected-requires-in-IndexedPartSelect
formula_at-selected-requires-in-IndexedPartSelect t c = (search (rules, the_lemmas), (rw c.get-in-IndexedPartSelect.ensures (whole_indexed (names_of c.args.scope.now) c.args.expr.now c.in-IndexedPartSelect.name c.in-IndexedPartSelect.field-1 c.in-IndexedPartSelect.base c.in-IndexedPartSelect.width c.in-IndexedPartSelect.is c.requires.whole).base, (rw (c.count_of.ensures ∙ ap (λ (x : Expr). natural (constant_integer (sense (names_of c.args.scope.now) x))) c.get-in-IndexedPartSelect-2.ensures) (whole_indexed (names_of c.args.scope.now) c.args.expr.now c.in-IndexedPartSelect.name c.in-IndexedPartSelect.field-1 c.in-IndexedPartSelect.base c.in-IndexedPartSelect.width c.in-IndexedPartSelect.is c.requires.whole).some, rw (c.count_of.ensures ∙ ap (λ (x : Expr). natural (constant_integer (sense (names_of c.args.scope.now) x))) c.get-in-IndexedPartSelect-2.ensures) (whole_indexed (names_of c.args.scope.now) c.args.expr.now c.in-IndexedPartSelect.name c.in-IndexedPartSelect.field-1 c.in-IndexedPartSelect.base c.in-IndexedPartSelect.width c.in-IndexedPartSelect.is c.requires.whole).narrow)))

pub formula_at-returns-in-IndexedPartSelect : goal.formula_at-returns-in-IndexedPartSelect
formula_at-returns-in-IndexedPartSelect t c = IfOk-weaker c.selected-in-IndexedPartSelect.result _ _ (λ f h. indexed_made (names_of c.args.scope.now) c.args.expr.now c.in-IndexedPartSelect.name c.in-IndexedPartSelect.field-1 c.in-IndexedPartSelect.base c.in-IndexedPartSelect.width c.args.context c.count_of.result f c.in-IndexedPartSelect.is c.requires.context (c.count_of.ensures ∙ ap (λ (x : Expr). natural (constant_integer (sense (names_of c.args.scope.now) x))) c.get-in-IndexedPartSelect-2.ensures) (rw c.get-in-IndexedPartSelect.ensures at h)) c.selected-in-IndexedPartSelect.ensures

pub formula_at-formula_at-requires : goal.formula_at-formula_at-requires
formula_at-formula_at-requires t c = (search (rules, the_lemmas), rw c.get-in-Parenthesized.ensures (whole_inner (names_of c.args.scope.now) c.args.expr.now c.in-Parenthesized.field-0 c.in-Parenthesized.inner c.in-Parenthesized.is c.requires.whole, subst (λ (y : Sense). IsContext y.shape c.args.context) (ap (sense (names_of c.args.scope.now)) c.in-Parenthesized.is ∙ s.sense_parenthesized (names_of c.args.scope.now) c.in-Parenthesized.field-0 c.in-Parenthesized.inner) c.requires.context))

pub formula_at-returns-in-Parenthesized : goal.formula_at-returns-in-Parenthesized
formula_at-returns-in-Parenthesized t c = IfOk-weaker c.formula_at.result _ _ (λ f h. inner_made (names_of c.args.scope.now) c.args.expr.now c.in-Parenthesized.field-0 c.in-Parenthesized.inner c.args.context f c.in-Parenthesized.is (rw c.get-in-Parenthesized.ensures at h)) c.formula_at.ensures

pub formula_at-shape_of-requires-in-Unary : goal.formula_at-shape_of-requires-in-Unary
formula_at-shape_of-requires-in-Unary t c = rw c.get-in-Unary.ensures (whole_operand (names_of c.args.scope.now) c.args.expr.now c.in-Unary.field-0 c.in-Unary.op c.in-Unary.operand c.in-Unary.is c.requires.whole)

pub formula_at-boxed-requires : goal.formula_at-boxed-requires
formula_at-boxed-requires t c = (search (rules, the_lemmas), rw c.get-in-Unary-2.ensures (whole_operand (names_of c.args.scope.now) c.args.expr.now c.in-Unary.field-0 c.in-Unary.op c.in-Unary.operand c.in-Unary.is c.requires.whole, operand_at (names_of c.args.scope.now) c.args.expr.now c.in-Unary.field-0 c.in-Unary.op c.in-Unary.operand c.args.context c.shape_of.result c.operand_context-at.result c.in-Unary.is c.requires.context (c.shape_of.ensures.shape ∙ (ap (λ (x : Expr). (sense (names_of c.args.scope.now) x).shape) c.get-in-Unary.ensures)) c.shape_of.ensures.sized c.operand_context-at.ensures))

pub formula_at-returns-in_ok-operand-in-Unary : goal.formula_at-returns-in_ok-operand-in-Unary
formula_at-returns-in_ok-operand-in-Unary t c = unary_made (names_of c.args.scope.now) c.args.expr.now c.in-Unary.field-0 c.in-Unary.op c.in-Unary.operand c.args.context c.shape_of.result c.operand_context-at.result c.in_ok-operand-in-Unary.operand c.in-Unary.is c.requires.context (c.shape_of.ensures.shape ∙ (ap (λ (x : Expr). (sense (names_of c.args.scope.now) x).shape) c.get-in-Unary.ensures)) c.shape_of.ensures.sized c.operand_context-at.ensures (rw c.get-in-Unary-2.ensures at c.in_ok-operand-in-Unary.ensures)

pub formula_at-shape_of-left_shape-requires-in-Binary : goal.formula_at-shape_of-left_shape-requires-in-Binary
formula_at-shape_of-left_shape-requires-in-Binary t c = rw c.get-in-Binary.ensures (whole_pair (names_of c.args.scope.now) c.args.expr.now c.in-Binary.field-0 c.in-Binary.op c.in-Binary.left c.in-Binary.right c.in-Binary.is c.requires.whole).0

pub formula_at-shape_of-right_shape-requires-in-Binary : goal.formula_at-shape_of-right_shape-requires-in-Binary
formula_at-shape_of-right_shape-requires-in-Binary t c = rw c.get-in-Binary-2.ensures (whole_pair (names_of c.args.scope.now) c.args.expr.now c.in-Binary.field-0 c.in-Binary.op c.in-Binary.left c.in-Binary.right c.in-Binary.is c.requires.whole).1

pub formula_at-boxed-requires-in-Binary : goal.formula_at-boxed-requires-in-Binary
formula_at-boxed-requires-in-Binary t c = (search (rules, the_lemmas), rw c.get-in-Binary-3.ensures ((whole_pair (names_of c.args.scope.now) c.args.expr.now c.in-Binary.field-0 c.in-Binary.op c.in-Binary.left c.in-Binary.right c.in-Binary.is c.requires.whole).0, left_at (names_of c.args.scope.now) c.args.expr.now c.in-Binary.field-0 c.in-Binary.op c.in-Binary.left c.in-Binary.right c.args.context c.shape_of-left_shape.result c.shape_of-right_shape.result c.sizing_of-sizing.result c.in-Binary.is c.requires.context c.sizing_of-sizing.ensures (c.shape_of-left_shape.ensures.shape ∙ (ap (λ (x : Expr). (sense (names_of c.args.scope.now) x).shape) c.get-in-Binary.ensures)) (c.shape_of-right_shape.ensures.shape ∙ (ap (λ (x : Expr). (sense (names_of c.args.scope.now) x).shape) c.get-in-Binary-2.ensures)) c.shape_of-left_shape.ensures.sized c.shape_of-right_shape.ensures.sized c.left_context-left_at.result c.left_context-left_at.ensures))

pub formula_at-boxed-requires-in-Binary-2 : goal.formula_at-boxed-requires-in-Binary-2
formula_at-boxed-requires-in-Binary-2 t c = (search (rules, the_lemmas), rw c.get-in-Binary-4.ensures ((whole_pair (names_of c.args.scope.now) c.args.expr.now c.in-Binary.field-0 c.in-Binary.op c.in-Binary.left c.in-Binary.right c.in-Binary.is c.requires.whole).1, right_at (names_of c.args.scope.now) c.args.expr.now c.in-Binary.field-0 c.in-Binary.op c.in-Binary.left c.in-Binary.right c.args.context c.shape_of-left_shape.result c.shape_of-right_shape.result c.sizing_of-sizing.result c.in-Binary.is c.requires.context c.sizing_of-sizing.ensures (c.shape_of-left_shape.ensures.shape ∙ (ap (λ (x : Expr). (sense (names_of c.args.scope.now) x).shape) c.get-in-Binary.ensures)) (c.shape_of-right_shape.ensures.shape ∙ (ap (λ (x : Expr). (sense (names_of c.args.scope.now) x).shape) c.get-in-Binary-2.ensures)) c.shape_of-left_shape.ensures.sized c.shape_of-right_shape.ensures.sized c.right_context-right_at.result c.right_context-right_at.ensures))

pub formula_at-returns-in_ok-right-in-Binary : goal.formula_at-returns-in_ok-right-in-Binary
formula_at-returns-in_ok-right-in-Binary t c = binary_made (names_of c.args.scope.now) c.args.expr.now c.in-Binary.field-0 c.in-Binary.op c.in-Binary.left c.in-Binary.right c.args.context c.shape_of-left_shape.result c.shape_of-right_shape.result c.sizing_of-sizing.result c.left_context-left_at.result c.right_context-right_at.result c.in_ok-left-in-Binary.left c.in_ok-right-in-Binary.right c.in-Binary.is c.requires.context c.sizing_of-sizing.ensures (c.shape_of-left_shape.ensures.shape ∙ (ap (λ (x : Expr). (sense (names_of c.args.scope.now) x).shape) c.get-in-Binary.ensures)) (c.shape_of-right_shape.ensures.shape ∙ (ap (λ (x : Expr). (sense (names_of c.args.scope.now) x).shape) c.get-in-Binary-2.ensures)) c.shape_of-left_shape.ensures.sized c.shape_of-right_shape.ensures.sized c.left_context-left_at.ensures c.right_context-right_at.ensures (rw c.get-in-Binary-3.ensures at c.in_ok-left-in-Binary.ensures) (rw c.get-in-Binary-4.ensures at c.in_ok-right-in-Binary.ensures)

pub formula_at-own_boxed-requires : goal.formula_at-own_boxed-requires
formula_at-own_boxed-requires t c = (search (rules, the_lemmas), rw c.get-in-Conditional.ensures (whole_choice (names_of c.args.scope.now) c.args.expr.now c.in-Conditional.field-0 c.in-Conditional.condition c.in-Conditional.yes c.in-Conditional.no c.in-Conditional.is c.requires.whole).0)

pub formula_at-boxed-requires-in-Conditional : goal.formula_at-boxed-requires-in-Conditional
formula_at-boxed-requires-in-Conditional t c = (search (rules, the_lemmas), rw c.get-in-Conditional-2.ensures ((whole_choice (names_of c.args.scope.now) c.args.expr.now c.in-Conditional.field-0 c.in-Conditional.condition c.in-Conditional.yes c.in-Conditional.no c.in-Conditional.is c.requires.whole).1, yes_at (names_of c.args.scope.now) c.args.expr.now c.in-Conditional.field-0 c.in-Conditional.condition c.in-Conditional.yes c.in-Conditional.no c.args.context c.in-Conditional.is c.requires.context))

pub formula_at-boxed-requires-in-Conditional-2 : goal.formula_at-boxed-requires-in-Conditional-2
formula_at-boxed-requires-in-Conditional-2 t c = (search (rules, the_lemmas), rw c.get-in-Conditional-3.ensures ((whole_choice (names_of c.args.scope.now) c.args.expr.now c.in-Conditional.field-0 c.in-Conditional.condition c.in-Conditional.yes c.in-Conditional.no c.in-Conditional.is c.requires.whole).2, no_at (names_of c.args.scope.now) c.args.expr.now c.in-Conditional.field-0 c.in-Conditional.condition c.in-Conditional.yes c.in-Conditional.no c.args.context c.in-Conditional.is c.requires.context))

pub formula_at-returns-in_ok-no-in-Conditional : goal.formula_at-returns-in_ok-no-in-Conditional
formula_at-returns-in_ok-no-in-Conditional t c = choice_made (names_of c.args.scope.now) c.args.expr.now c.in-Conditional.field-0 c.in-Conditional.condition c.in-Conditional.yes c.in-Conditional.no c.args.context c.in_ok-condition-in-Conditional.condition c.in_ok-yes-in-Conditional.yes c.in_ok-no-in-Conditional.no c.in-Conditional.is (rw c.get-in-Conditional.ensures at c.in_ok-condition-in-Conditional.ensures) (rw c.get-in-Conditional-2.ensures at c.in_ok-yes-in-Conditional.ensures) (rw c.get-in-Conditional-3.ensures at c.in_ok-no-in-Conditional.ensures)

pub formula_at-joined-requires : goal.formula_at-joined-requires
formula_at-joined-requires t c = (search (rules, the_lemmas), rw c.as_slice.ensures ((whole_join (names_of c.args.scope.now) c.args.expr.now c.in-Concatenation.field-0 c.in-Concatenation.parts c.in-Concatenation.is c.requires.whole).parts, (whole_join (names_of c.args.scope.now) c.args.expr.now c.in-Concatenation.field-0 c.in-Concatenation.parts c.in-Concatenation.is c.requires.whole).narrow))

pub formula_at-returns-in-Concatenation : goal.formula_at-returns-in-Concatenation
formula_at-returns-in-Concatenation t c = IfOk-weaker c.joined.result _ _ (λ f h. join_made (names_of c.args.scope.now) c.args.expr.now c.in-Concatenation.field-0 c.in-Concatenation.parts c.args.context f c.in-Concatenation.is c.requires.context (rw c.as_slice.ensures at h)) c.joined.ensures

pub formula_at-count_of-requires-in-MultipleConcatenation-clause-whole : goal.formula_at-count_of-requires-in-MultipleConcatenation-clause-whole
formula_at-count_of-requires-in-MultipleConcatenation-clause-whole t c = rw c.get-in-MultipleConcatenation.ensures (whole_times (names_of c.args.scope.now) c.args.expr.now c.in-MultipleConcatenation.field-0 c.in-MultipleConcatenation.times c.in-MultipleConcatenation.parts c.in-MultipleConcatenation.is c.requires.whole).times

pub formula_at-count_of-requires-in-MultipleConcatenation-clause-few : goal.formula_at-count_of-requires-in-MultipleConcatenation-clause-few
formula_at-count_of-requires-in-MultipleConcatenation-clause-few t c = rw c.get-in-MultipleConcatenation.ensures (whole_times (names_of c.args.scope.now) c.args.expr.now c.in-MultipleConcatenation.field-0 c.in-MultipleConcatenation.times c.in-MultipleConcatenation.parts c.in-MultipleConcatenation.is c.requires.whole).few

pub formula_at-repeated-requires : goal.formula_at-repeated-requires
formula_at-repeated-requires t c = (search (rules, the_lemmas), rw c.as_slice-in-MultipleConcatenation.ensures ((whole_times (names_of c.args.scope.now) c.args.expr.now c.in-MultipleConcatenation.field-0 c.in-MultipleConcatenation.times c.in-MultipleConcatenation.parts c.in-MultipleConcatenation.is c.requires.whole).parts, ((whole_times (names_of c.args.scope.now) c.args.expr.now c.in-MultipleConcatenation.field-0 c.in-MultipleConcatenation.times c.in-MultipleConcatenation.parts c.in-MultipleConcatenation.is c.requires.whole).short, rw (c.count_of-in-MultipleConcatenation.ensures ∙ ap (λ (x : Expr). natural (constant_integer (sense (names_of c.args.scope.now) x))) c.get-in-MultipleConcatenation.ensures) (whole_times (names_of c.args.scope.now) c.args.expr.now c.in-MultipleConcatenation.field-0 c.in-MultipleConcatenation.times c.in-MultipleConcatenation.parts c.in-MultipleConcatenation.is c.requires.whole).narrow)))

pub formula_at-returns-in-MultipleConcatenation : goal.formula_at-returns-in-MultipleConcatenation
formula_at-returns-in-MultipleConcatenation t c = IfOk-weaker c.repeated.result _ _ (λ f h. times_made (names_of c.args.scope.now) c.args.expr.now c.in-MultipleConcatenation.field-0 c.in-MultipleConcatenation.times c.in-MultipleConcatenation.parts c.args.context c.count_of-in-MultipleConcatenation.result f c.in-MultipleConcatenation.is c.requires.context (c.count_of-in-MultipleConcatenation.ensures ∙ ap (λ (x : Expr). natural (constant_integer (sense (names_of c.args.scope.now) x))) c.get-in-MultipleConcatenation.ensures) (rw c.as_slice-in-MultipleConcatenation.ensures at h)) c.repeated.ensures

pub formula_at-called-requires : goal.formula_at-called-requires
formula_at-called-requires t c = (search (rules, the_lemmas), (rw (c.function_of.ensures, c.as_str.ensures, c.as_slice-in-SystemFunctionCall.ensures) (whole_call (names_of c.args.scope.now) c.args.expr.now c.in-SystemFunctionCall.name c.in-SystemFunctionCall.arguments c.in-SystemFunctionCall.is c.requires.whole), rw (c.function_of.ensures, c.as_str.ensures, c.as_slice-in-SystemFunctionCall.ensures) (subst (λ (y : Sense). IsContext y.shape c.args.context) (ap (sense (names_of c.args.scope.now)) c.in-SystemFunctionCall.is ∙ s.sense_system_function_call (names_of c.args.scope.now) c.in-SystemFunctionCall.name c.in-SystemFunctionCall.arguments) c.requires.context)))

pub formula_at-returns-in-SystemFunctionCall : goal.formula_at-returns-in-SystemFunctionCall
formula_at-returns-in-SystemFunctionCall t c = IfOk-weaker c.called.result _ _ (λ f h. call_made (names_of c.args.scope.now) c.args.expr.now c.in-SystemFunctionCall.name c.in-SystemFunctionCall.arguments c.function_of.result c.as_slice-in-SystemFunctionCall.result.now c.args.context f c.in-SystemFunctionCall.is (c.function_of.ensures ∙ ap function_of c.as_str.ensures) c.as_slice-in-SystemFunctionCall.ensures h) c.called.ensures

pub joined-loop-part-init : goal.joined-loop-part-init
joined-loop-part-init t c = goes_first (names_of c.args.scope.now) c.args.parts.now

pub joined-shape_of-own-requires-in-loop-part : goal.joined-shape_of-own-requires-in-loop-part
joined-shape_of-own-requires-in-loop-part t c = (element_whole (names_of c.args.scope.now) c.args.parts.now c.loop-part.part-index c.part-item.result c.part-item.is (omega arith) c.requires.whole)

pub joined-formula_at-requires : goal.joined-formula_at-requires
joined-formula_at-requires t c = (search (rules, the_lemmas), ((element_whole (names_of c.args.scope.now) c.args.parts.now c.loop-part.part-index c.part-item.result c.part-item.is (omega arith) c.requires.whole), (own_context (sense (names_of c.args.scope.now) c.part-item.result).shape c.shape_of-own.result c.shape_of-own.ensures.shape c.shape_of-own.ensures.sized)))

pub joined-loop-part-preserved : goal.joined-loop-part-preserved
joined-loop-part-preserved t c = rw add-one (goes_on (names_of c.args.scope.now) c.args.parts.now c.loop-part.part-index c.part-item.result c.shape_of-own.result c.loop-part.made c.in_ok-formula.formula _ c.part-item.is (omega arith) c.shape_of-own.ensures.shape c.requires.narrow c.in_ok-formula.ensures c.loop-part.invariant c.in_ok-made.ensures.means c.in_ok-made.ensures.fits)

pub joined-returns : goal.joined-returns
joined-returns t c = goes_all (names_of c.args.scope.now) c.args.parts.now c.loop-part.part-index c.loop-part.made (omega arith) c.loop-part.invariant

pub repeated-total_width-width-requires-clause-whole : goal.repeated-total_width-width-requires-clause-whole
repeated-total_width-width-requires-clause-whole t c = c.requires.whole

pub repeated-total_width-width-requires-clause-narrow : goal.repeated-total_width-width-requires-clause-narrow
repeated-total_width-width-requires-clause-narrow t c = c.requires.narrow

pub repeated-joined-requires : goal.repeated-joined-requires
repeated-joined-requires t c = (search (rules, the_lemmas), (c.requires.whole, c.requires.narrow))

pub repeated-returns : goal.repeated-returns
repeated-returns t c = repeated_made (names_of c.args.scope.now) c.args.parts.now c.args.times c.total_width-width.result c.in_ok-inner.inner c.in_ok-new.field-0 c.total_width-width.ensures c.in_ok-new.ensures c.requires.few c.in_ok-inner.ensures

pub selected-shape_of-shape-requires : goal.selected-shape_of-shape-requires
selected-shape_of-shape-requires t c = c.requires.whole

pub selected-constant-requires-clause-whole : goal.selected-constant-requires-clause-whole
selected-constant-requires-clause-whole t c = c.requires.whole

pub selected-constant-requires-clause-context : goal.selected-constant-requires-clause-context
selected-constant-requires-clause-context t c = (own_context (sense (names_of c.args.scope.now) c.args.index.now).shape c.shape_of-shape.result c.shape_of-shape.ensures.shape c.shape_of-shape.ensures.sized)

pub selected-returns-in-Some : goal.selected-returns-in-Some
selected-returns-in-Some t c = ok_both c.fixed.result _ _ _ (λ f m h. picked (names_of c.args.scope.now) c.args.name.now.name c.args.index.now c.declared-decl.result c.args.width c.declared-decl.ensures f c.shape_of-shape.result c.in-Some.bits _ c.shape_of-shape.ensures.shape c.of-place.ensures.value c.in-Some.ensures.means m h) c.fixed.ensures.means c.fixed.ensures.fits

pub selected-boxed-requires : goal.selected-boxed-requires
selected-boxed-requires t c = (search (rules, the_lemmas), (c.requires.whole, (own_context (sense (names_of c.args.scope.now) c.args.index.now).shape c.shape_of-shape.result c.shape_of-shape.ensures.shape c.shape_of-shape.ensures.sized)))

pub selected-returns : goal.selected-returns
selected-returns t c = aimed (names_of c.args.scope.now) c.args.name.now.name c.args.index.now c.declared-decl.result c.args.width c.declared-decl.ensures c.indexed.result c.shape_of-shape.result c.in_ok-place.place c.shape_of-shape.ensures.shape c.in_ok-place.ensures c.indexed.ensures.means c.indexed.ensures.fits
