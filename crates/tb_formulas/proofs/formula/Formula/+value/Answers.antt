use Rattle.tb_formulas.proofs.Common.{rules, ◌≡◌, ℕ, ◌+◌, ◌*◌, ◌%◌, ◌^◌, List, map, slice_index, sym, ap, ◌∙◌, arith, Word, Shape, extended, store_of, wider, the_lemmas}
use Rattle.tb_formulas.specs.declared.formula.Formula.TheOpen as o
use Rattle.tb_formulas.specs.declared.formula.Formula.TheVariants as v
use Rattle.tb_formulas.proofs.Layers.{opened}
use Rattle.tb_formulas.proofs.Values.{as_long, cut_fits, window_within, unary_within, binary_within, joined_within, says_number, says_signal, says_signed, says_slice, says_select, says_number_select}
use Rattle.tb_formulas.proofs.Values.{says_extended, says_unary, says_binary, says_no, says_yes, says_joined, says_repeated}
use Rattle.tb_formulas.proofs.formula.Formula.+value.Goals as goal

abbrev widths : List Word → List ℕ
widths ws = map (λ (w : Word). w.width) ws

pub value-returns-in-Number-clause-value : goal.value-returns-in-Number-clause-value
value-returns-in-Number-clause-value t c = says_number c.args.self.now (store_of c.args.store.now) c.in-Number.bits c.in-Number.is

pub value-returns-in-Number-clause-fits : goal.value-returns-in-Number-clause-fits
value-returns-in-Number-clause-fits t c = λ n h. (opened (widths c.args.store.now) (o.Number c.in-Number.bits) c.args.self.now n (v.rolls-Number c.in-Number.bits ∙ sym c.in-Number.is) h)

pub value-bits_of-requires : goal.value-bits_of-requires
value-bits_of-requires t c = as_long c.args.store.now c.in-Signal.signal (opened (widths c.args.store.now) (o.Signal c.in-Signal.signal c.in-Signal.field-1) c.args.self.now c.requires.0 (v.rolls-Signal c.in-Signal.signal c.in-Signal.field-1 ∙ sym c.in-Signal.is) c.requires.1).0.known

pub value-returns-in-Signal-clause-value : goal.value-returns-in-Signal-clause-value
value-returns-in-Signal-clause-value t c = says_signal c.args.self.now (store_of c.args.store.now) c.in-Signal.signal c.in-Signal.field-1 c.bits_of.result (slice_index (widths c.args.store.now) c.in-Signal.signal) c.in-Signal.is c.bits_of.ensures.value c.bits_of.ensures.fits (opened (widths c.args.store.now) (o.Signal c.in-Signal.signal c.in-Signal.field-1) c.args.self.now c.requires.0 (v.rolls-Signal c.in-Signal.signal c.in-Signal.field-1 ∙ sym c.in-Signal.is) c.requires.1).0.narrow

pub value-returns-in-Signal-clause-fits : goal.value-returns-in-Signal-clause-fits
value-returns-in-Signal-clause-fits t c = λ n h. let f = (opened (widths c.args.store.now) (o.Signal c.in-Signal.signal c.in-Signal.field-1) c.args.self.now n (v.rolls-Signal c.in-Signal.signal c.in-Signal.field-1 ∙ sym c.in-Signal.is) h) in wider c.bits_of.result (slice_index (widths c.args.store.now) c.in-Signal.signal) n c.bits_of.ensures.fits (omega (arith, f.0.narrow, f.1))

pub value-computed-requires : goal.value-computed-requires
value-computed-requires t c = (search (rules, the_lemmas), c.requires)

pub computed-returns-in-Number-clause-value : goal.computed-returns-in-Number-clause-value
computed-returns-in-Number-clause-value t c = says_number c.args.self.now (store_of c.args.store.now) c.in-Number.bits c.in-Number.is

pub computed-returns-in-Number-clause-fits : goal.computed-returns-in-Number-clause-fits
computed-returns-in-Number-clause-fits t c = λ n h. (opened (widths c.args.store.now) (o.Number c.in-Number.bits) c.args.self.now n (v.rolls-Number c.in-Number.bits ∙ sym c.in-Number.is) h)

pub computed-bits_of-requires : goal.computed-bits_of-requires
computed-bits_of-requires t c = as_long c.args.store.now c.in-Signal.signal (opened (widths c.args.store.now) (o.Signal c.in-Signal.signal c.in-Signal.field-1) c.args.self.now c.requires.0 (v.rolls-Signal c.in-Signal.signal c.in-Signal.field-1 ∙ sym c.in-Signal.is) c.requires.1).0.known

pub computed-returns-in-Signal-clause-value : goal.computed-returns-in-Signal-clause-value
computed-returns-in-Signal-clause-value t c = says_signal c.args.self.now (store_of c.args.store.now) c.in-Signal.signal c.in-Signal.field-1 c.bits_of.result (slice_index (widths c.args.store.now) c.in-Signal.signal) c.in-Signal.is c.bits_of.ensures.value c.bits_of.ensures.fits (opened (widths c.args.store.now) (o.Signal c.in-Signal.signal c.in-Signal.field-1) c.args.self.now c.requires.0 (v.rolls-Signal c.in-Signal.signal c.in-Signal.field-1 ∙ sym c.in-Signal.is) c.requires.1).0.narrow

pub computed-returns-in-Signal-clause-fits : goal.computed-returns-in-Signal-clause-fits
computed-returns-in-Signal-clause-fits t c = λ n h. let f = (opened (widths c.args.store.now) (o.Signal c.in-Signal.signal c.in-Signal.field-1) c.args.self.now n (v.rolls-Signal c.in-Signal.signal c.in-Signal.field-1 ∙ sym c.in-Signal.is) h) in wider c.bits_of.result (slice_index (widths c.args.store.now) c.in-Signal.signal) n c.bits_of.ensures.fits (omega (arith, f.0.narrow, f.1))

pub computed-bits_of-requires-in-SignedSignal : goal.computed-bits_of-requires-in-SignedSignal
computed-bits_of-requires-in-SignedSignal t c = as_long c.args.store.now c.in-SignedSignal.signal (opened (widths c.args.store.now) (o.SignedSignal c.in-SignedSignal.signal c.in-SignedSignal.from c.in-SignedSignal.to) c.args.self.now c.requires.0 (v.rolls-SignedSignal c.in-SignedSignal.signal c.in-SignedSignal.from c.in-SignedSignal.to ∙ sym c.in-SignedSignal.is) c.requires.1).0.known

pub computed-extend-requires-clause-some : goal.computed-extend-requires-clause-some
computed-extend-requires-clause-some t c = rw c.signed.ensures ((opened (widths c.args.store.now) (o.SignedSignal c.in-SignedSignal.signal c.in-SignedSignal.from c.in-SignedSignal.to) c.args.self.now c.requires.0 (v.rolls-SignedSignal c.in-SignedSignal.signal c.in-SignedSignal.from c.in-SignedSignal.to ∙ sym c.in-SignedSignal.is) c.requires.1).1)

pub computed-extend-requires-clause-wide : goal.computed-extend-requires-clause-wide
computed-extend-requires-clause-wide t c = rw c.signed.ensures ((opened (widths c.args.store.now) (o.SignedSignal c.in-SignedSignal.signal c.in-SignedSignal.from c.in-SignedSignal.to) c.args.self.now c.requires.0 (v.rolls-SignedSignal c.in-SignedSignal.signal c.in-SignedSignal.from c.in-SignedSignal.to ∙ sym c.in-SignedSignal.is) c.requires.1).2)

pub computed-extend-requires-clause-narrow : goal.computed-extend-requires-clause-narrow
computed-extend-requires-clause-narrow t c = (opened (widths c.args.store.now) (o.SignedSignal c.in-SignedSignal.signal c.in-SignedSignal.from c.in-SignedSignal.to) c.args.self.now c.requires.0 (v.rolls-SignedSignal c.in-SignedSignal.signal c.in-SignedSignal.from c.in-SignedSignal.to ∙ sym c.in-SignedSignal.is) c.requires.1).3

pub computed-extend-requires-clause-fits : goal.computed-extend-requires-clause-fits
computed-extend-requires-clause-fits t c = rw c.signed.ensures (wider c.bits_of-in-SignedSignal.result (slice_index (widths c.args.store.now) c.in-SignedSignal.signal) c.in-SignedSignal.from c.bits_of-in-SignedSignal.ensures.fits (opened (widths c.args.store.now) (o.SignedSignal c.in-SignedSignal.signal c.in-SignedSignal.from c.in-SignedSignal.to) c.args.self.now c.requires.0 (v.rolls-SignedSignal c.in-SignedSignal.signal c.in-SignedSignal.from c.in-SignedSignal.to ∙ sym c.in-SignedSignal.is) c.requires.1).0.narrow)

pub computed-returns-in-SignedSignal-clause-value : goal.computed-returns-in-SignedSignal-clause-value
computed-returns-in-SignedSignal-clause-value t c = says_signed c.args.self.now (store_of c.args.store.now) c.in-SignedSignal.signal c.in-SignedSignal.from c.in-SignedSignal.to c.bits_of-in-SignedSignal.result c.extend.result c.in-SignedSignal.is c.bits_of-in-SignedSignal.ensures.value (c.extend.ensures.value ∙ ap (λ (s : Shape). extended s c.in-SignedSignal.to c.bits_of-in-SignedSignal.result) c.signed.ensures)

pub computed-returns-in-SignedSignal-clause-fits : goal.computed-returns-in-SignedSignal-clause-fits
computed-returns-in-SignedSignal-clause-fits t c = λ n h. let f = (opened (widths c.args.store.now) (o.SignedSignal c.in-SignedSignal.signal c.in-SignedSignal.from c.in-SignedSignal.to) c.args.self.now n (v.rolls-SignedSignal c.in-SignedSignal.signal c.in-SignedSignal.from c.in-SignedSignal.to ∙ sym c.in-SignedSignal.is) h) in wider c.extend.result c.in-SignedSignal.to n c.extend.ensures.fits f.4

pub computed-bits_of-requires-in-Slice : goal.computed-bits_of-requires-in-Slice
computed-bits_of-requires-in-Slice t c = as_long c.args.store.now c.in-Slice.signal (opened (widths c.args.store.now) (o.Slice c.in-Slice.signal c.in-Slice.at c.in-Slice.width) c.args.self.now c.requires.0 (v.rolls-Slice c.in-Slice.signal c.in-Slice.at c.in-Slice.width ∙ sym c.in-Slice.is) c.requires.1).0

pub computed-overflow_shr-bits_of : goal.computed-overflow_shr-bits_of
computed-overflow_shr-bits_of t c = (opened (widths c.args.store.now) (o.Slice c.in-Slice.signal c.in-Slice.at c.in-Slice.width) c.args.self.now c.requires.0 (v.rolls-Slice c.in-Slice.signal c.in-Slice.at c.in-Slice.width ∙ sym c.in-Slice.is) c.requires.1).1

pub computed-truncate-requires : goal.computed-truncate-requires
computed-truncate-requires t c = (opened (widths c.args.store.now) (o.Slice c.in-Slice.signal c.in-Slice.at c.in-Slice.width) c.args.self.now c.requires.0 (v.rolls-Slice c.in-Slice.signal c.in-Slice.at c.in-Slice.width ∙ sym c.in-Slice.is) c.requires.1).2

pub computed-returns-in-Slice-clause-value : goal.computed-returns-in-Slice-clause-value
computed-returns-in-Slice-clause-value t c = says_slice c.args.self.now (store_of c.args.store.now) c.in-Slice.signal c.in-Slice.at c.in-Slice.width c.bits_of-in-Slice.result c.truncate.result c.in-Slice.is c.bits_of-in-Slice.ensures.value c.truncate.ensures

pub computed-returns-in-Slice-clause-fits : goal.computed-returns-in-Slice-clause-fits
computed-returns-in-Slice-clause-fits t c = λ n h. let f = (opened (widths c.args.store.now) (o.Slice c.in-Slice.signal c.in-Slice.at c.in-Slice.width) c.args.self.now n (v.rolls-Slice c.in-Slice.signal c.in-Slice.at c.in-Slice.width ∙ sym c.in-Slice.is) h) in cut_fits c.truncate.result _ c.in-Slice.width n c.truncate.ensures f.3

pub computed-bits_of-requires-in-Select : goal.computed-bits_of-requires-in-Select
computed-bits_of-requires-in-Select t c = as_long c.args.store.now c.in-Select.signal (opened (widths c.args.store.now) (o.Select c.in-Select.signal c.in-Select.part c.in-Select.index) c.args.self.now c.requires.0 (v.rolls-Select c.in-Select.signal c.in-Select.part c.in-Select.index ∙ sym c.in-Select.is) c.requires.1).0

pub computed-value-requires : goal.computed-value-requires
computed-value-requires t c = (search (rules, the_lemmas), (c.in-Select.part.index.width, rw c.get.ensures (opened (widths c.args.store.now) (o.Select c.in-Select.signal c.in-Select.part c.in-Select.index) c.args.self.now c.requires.0 (v.rolls-Select c.in-Select.signal c.in-Select.part c.in-Select.index ∙ sym c.in-Select.is) c.requires.1).4))

pub computed-part_from-requires-clause-sized : goal.computed-part_from-requires-clause-sized
computed-part_from-requires-clause-sized t c = (opened (widths c.args.store.now) (o.Select c.in-Select.signal c.in-Select.part c.in-Select.index) c.args.self.now c.requires.0 (v.rolls-Select c.in-Select.signal c.in-Select.part c.in-Select.index ∙ sym c.in-Select.is) c.requires.1).3

pub computed-part_from-requires-clause-fits : goal.computed-part_from-requires-clause-fits
computed-part_from-requires-clause-fits t c = c.value.ensures.fits c.in-Select.part.index.width (rw c.get.ensures (opened (widths c.args.store.now) (o.Select c.in-Select.signal c.in-Select.part c.in-Select.index) c.args.self.now c.requires.0 (v.rolls-Select c.in-Select.signal c.in-Select.part c.in-Select.index ∙ sym c.in-Select.is) c.requires.1).4)

pub computed-part_from-requires-clause-narrow : goal.computed-part_from-requires-clause-narrow
computed-part_from-requires-clause-narrow t c = (opened (widths c.args.store.now) (o.Select c.in-Select.signal c.in-Select.part c.in-Select.index) c.args.self.now c.requires.0 (v.rolls-Select c.in-Select.signal c.in-Select.part c.in-Select.index ∙ sym c.in-Select.is) c.requires.1).1

pub computed-returns-in-Select-clause-value : goal.computed-returns-in-Select-clause-value
computed-returns-in-Select-clause-value t c = says_select c.args.self.now (store_of c.args.store.now) c.in-Select.signal c.in-Select.part c.get.result.now c.in-Select.index c.bits_of-in-Select.result c.value.result c.part_from.result c.in-Select.is c.get.ensures c.bits_of-in-Select.ensures.value c.value.ensures.value c.part_from.ensures

pub computed-returns-in-Select-clause-fits : goal.computed-returns-in-Select-clause-fits
computed-returns-in-Select-clause-fits t c = λ n h. let f = (opened (widths c.args.store.now) (o.Select c.in-Select.signal c.in-Select.part c.in-Select.index) c.args.self.now n (v.rolls-Select c.in-Select.signal c.in-Select.part c.in-Select.index ∙ sym c.in-Select.is) h) in window_within c.part_from.result _ c.in-Select.part.width _ n c.part_from.ensures f.2

pub computed-value-requires-in-NumberSelect : goal.computed-value-requires-in-NumberSelect
computed-value-requires-in-NumberSelect t c = (search (rules, the_lemmas), (c.in-NumberSelect.part.index.width, rw c.get-in-NumberSelect.ensures (opened (widths c.args.store.now) (o.NumberSelect c.in-NumberSelect.bits c.in-NumberSelect.part c.in-NumberSelect.index) c.args.self.now c.requires.0 (v.rolls-NumberSelect c.in-NumberSelect.bits c.in-NumberSelect.part c.in-NumberSelect.index ∙ sym c.in-NumberSelect.is) c.requires.1).3))

pub computed-part_from-requires-in-NumberSelect-clause-sized : goal.computed-part_from-requires-in-NumberSelect-clause-sized
computed-part_from-requires-in-NumberSelect-clause-sized t c = (opened (widths c.args.store.now) (o.NumberSelect c.in-NumberSelect.bits c.in-NumberSelect.part c.in-NumberSelect.index) c.args.self.now c.requires.0 (v.rolls-NumberSelect c.in-NumberSelect.bits c.in-NumberSelect.part c.in-NumberSelect.index ∙ sym c.in-NumberSelect.is) c.requires.1).2

pub computed-part_from-requires-in-NumberSelect-clause-fits : goal.computed-part_from-requires-in-NumberSelect-clause-fits
computed-part_from-requires-in-NumberSelect-clause-fits t c = c.value-in-NumberSelect.ensures.fits c.in-NumberSelect.part.index.width (rw c.get-in-NumberSelect.ensures (opened (widths c.args.store.now) (o.NumberSelect c.in-NumberSelect.bits c.in-NumberSelect.part c.in-NumberSelect.index) c.args.self.now c.requires.0 (v.rolls-NumberSelect c.in-NumberSelect.bits c.in-NumberSelect.part c.in-NumberSelect.index ∙ sym c.in-NumberSelect.is) c.requires.1).3)

pub computed-part_from-requires-in-NumberSelect-clause-narrow : goal.computed-part_from-requires-in-NumberSelect-clause-narrow
computed-part_from-requires-in-NumberSelect-clause-narrow t c = (opened (widths c.args.store.now) (o.NumberSelect c.in-NumberSelect.bits c.in-NumberSelect.part c.in-NumberSelect.index) c.args.self.now c.requires.0 (v.rolls-NumberSelect c.in-NumberSelect.bits c.in-NumberSelect.part c.in-NumberSelect.index ∙ sym c.in-NumberSelect.is) c.requires.1).0

pub computed-returns-in-NumberSelect-clause-value : goal.computed-returns-in-NumberSelect-clause-value
computed-returns-in-NumberSelect-clause-value t c = says_number_select c.args.self.now (store_of c.args.store.now) c.in-NumberSelect.bits c.in-NumberSelect.part c.get-in-NumberSelect.result.now c.in-NumberSelect.index c.value-in-NumberSelect.result c.part_from-in-NumberSelect.result c.in-NumberSelect.is c.get-in-NumberSelect.ensures c.value-in-NumberSelect.ensures.value c.part_from-in-NumberSelect.ensures

pub computed-returns-in-NumberSelect-clause-fits : goal.computed-returns-in-NumberSelect-clause-fits
computed-returns-in-NumberSelect-clause-fits t c = λ n h. let f = (opened (widths c.args.store.now) (o.NumberSelect c.in-NumberSelect.bits c.in-NumberSelect.part c.in-NumberSelect.index) c.args.self.now n (v.rolls-NumberSelect c.in-NumberSelect.bits c.in-NumberSelect.part c.in-NumberSelect.index ∙ sym c.in-NumberSelect.is) h) in window_within c.part_from-in-NumberSelect.result _ c.in-NumberSelect.part.width _ n c.part_from-in-NumberSelect.ensures f.1

pub computed-value-requires-in-Extended : goal.computed-value-requires-in-Extended
computed-value-requires-in-Extended t c = (search (rules, the_lemmas), (c.in-Extended.shape.width, rw c.get-in-Extended.ensures (opened (widths c.args.store.now) (o.Extended c.in-Extended.shape c.in-Extended.to c.in-Extended.inner) c.args.self.now c.requires.0 (v.rolls-Extended c.in-Extended.shape c.in-Extended.to c.in-Extended.inner ∙ sym c.in-Extended.is) c.requires.1).4))

pub computed-extend-requires-in-Extended-clause-some : goal.computed-extend-requires-in-Extended-clause-some
computed-extend-requires-in-Extended-clause-some t c = (opened (widths c.args.store.now) (o.Extended c.in-Extended.shape c.in-Extended.to c.in-Extended.inner) c.args.self.now c.requires.0 (v.rolls-Extended c.in-Extended.shape c.in-Extended.to c.in-Extended.inner ∙ sym c.in-Extended.is) c.requires.1).0.some

pub computed-extend-requires-in-Extended-clause-wide : goal.computed-extend-requires-in-Extended-clause-wide
computed-extend-requires-in-Extended-clause-wide t c = (opened (widths c.args.store.now) (o.Extended c.in-Extended.shape c.in-Extended.to c.in-Extended.inner) c.args.self.now c.requires.0 (v.rolls-Extended c.in-Extended.shape c.in-Extended.to c.in-Extended.inner ∙ sym c.in-Extended.is) c.requires.1).1

pub computed-extend-requires-in-Extended-clause-narrow : goal.computed-extend-requires-in-Extended-clause-narrow
computed-extend-requires-in-Extended-clause-narrow t c = (opened (widths c.args.store.now) (o.Extended c.in-Extended.shape c.in-Extended.to c.in-Extended.inner) c.args.self.now c.requires.0 (v.rolls-Extended c.in-Extended.shape c.in-Extended.to c.in-Extended.inner ∙ sym c.in-Extended.is) c.requires.1).2

pub computed-extend-requires-in-Extended-clause-fits : goal.computed-extend-requires-in-Extended-clause-fits
computed-extend-requires-in-Extended-clause-fits t c = c.value-in-Extended.ensures.fits c.in-Extended.shape.width (rw c.get-in-Extended.ensures (opened (widths c.args.store.now) (o.Extended c.in-Extended.shape c.in-Extended.to c.in-Extended.inner) c.args.self.now c.requires.0 (v.rolls-Extended c.in-Extended.shape c.in-Extended.to c.in-Extended.inner ∙ sym c.in-Extended.is) c.requires.1).4)

pub computed-returns-in-Extended-clause-value : goal.computed-returns-in-Extended-clause-value
computed-returns-in-Extended-clause-value t c = says_extended c.args.self.now (store_of c.args.store.now) c.in-Extended.shape c.in-Extended.to c.get-in-Extended.result.now c.in-Extended.inner c.value-in-Extended.result c.extend-in-Extended.result c.in-Extended.is c.get-in-Extended.ensures c.value-in-Extended.ensures.value c.extend-in-Extended.ensures.value

pub computed-returns-in-Extended-clause-fits : goal.computed-returns-in-Extended-clause-fits
computed-returns-in-Extended-clause-fits t c = λ n h. let f = (opened (widths c.args.store.now) (o.Extended c.in-Extended.shape c.in-Extended.to c.in-Extended.inner) c.args.self.now n (v.rolls-Extended c.in-Extended.shape c.in-Extended.to c.in-Extended.inner ∙ sym c.in-Extended.is) h) in wider c.extend-in-Extended.result c.in-Extended.to n c.extend-in-Extended.ensures.fits f.3

pub computed-value-requires-in-Unary : goal.computed-value-requires-in-Unary
computed-value-requires-in-Unary t c = (search (rules, the_lemmas), (c.in-Unary.shape.width, rw c.get-in-Unary.ensures (opened (widths c.args.store.now) (o.Unary c.in-Unary.op c.in-Unary.shape c.in-Unary.inner) c.args.self.now c.requires.0 (v.rolls-Unary c.in-Unary.op c.in-Unary.shape c.in-Unary.inner ∙ sym c.in-Unary.is) c.requires.1).2))

pub computed-unary_value-requires-clause-sized : goal.computed-unary_value-requires-clause-sized
computed-unary_value-requires-clause-sized t c = (opened (widths c.args.store.now) (o.Unary c.in-Unary.op c.in-Unary.shape c.in-Unary.inner) c.args.self.now c.requires.0 (v.rolls-Unary c.in-Unary.op c.in-Unary.shape c.in-Unary.inner ∙ sym c.in-Unary.is) c.requires.1).0

pub computed-unary_value-requires-clause-fits : goal.computed-unary_value-requires-clause-fits
computed-unary_value-requires-clause-fits t c = c.value-in-Unary.ensures.fits c.in-Unary.shape.width (rw c.get-in-Unary.ensures (opened (widths c.args.store.now) (o.Unary c.in-Unary.op c.in-Unary.shape c.in-Unary.inner) c.args.self.now c.requires.0 (v.rolls-Unary c.in-Unary.op c.in-Unary.shape c.in-Unary.inner ∙ sym c.in-Unary.is) c.requires.1).2)

pub computed-returns-in-Unary-clause-value : goal.computed-returns-in-Unary-clause-value
computed-returns-in-Unary-clause-value t c = says_unary c.args.self.now (store_of c.args.store.now) c.in-Unary.op c.in-Unary.shape c.get-in-Unary.result.now c.in-Unary.inner c.value-in-Unary.result c.unary_value.result c.in-Unary.is c.get-in-Unary.ensures c.value-in-Unary.ensures.value c.unary_value.ensures

pub computed-returns-in-Unary-clause-fits : goal.computed-returns-in-Unary-clause-fits
computed-returns-in-Unary-clause-fits t c = λ n h. let f = (opened (widths c.args.store.now) (o.Unary c.in-Unary.op c.in-Unary.shape c.in-Unary.inner) c.args.self.now n (v.rolls-Unary c.in-Unary.op c.in-Unary.shape c.in-Unary.inner ∙ sym c.in-Unary.is) h) in unary_within c.in-Unary.op c.in-Unary.shape c.value-in-Unary.result c.unary_value.result n f.0 f.1 (c.value-in-Unary.ensures.fits c.in-Unary.shape.width (rw c.get-in-Unary.ensures f.2)) c.unary_value.ensures

pub computed-value-first-requires : goal.computed-value-first-requires
computed-value-first-requires t c = (search (rules, the_lemmas), (c.in-Binary.left.width, rw c.get-in-Binary.ensures (opened (widths c.args.store.now) (o.Binary c.in-Binary.op c.in-Binary.left c.in-Binary.right c.in-Binary.first c.in-Binary.second) c.args.self.now c.requires.0 (v.rolls-Binary c.in-Binary.op c.in-Binary.left c.in-Binary.right c.in-Binary.first c.in-Binary.second ∙ sym c.in-Binary.is) c.requires.1).4))

pub computed-value-second-requires : goal.computed-value-second-requires
computed-value-second-requires t c = (search (rules, the_lemmas), (c.in-Binary.right.width, rw c.get-in-Binary-2.ensures (opened (widths c.args.store.now) (o.Binary c.in-Binary.op c.in-Binary.left c.in-Binary.right c.in-Binary.first c.in-Binary.second) c.args.self.now c.requires.0 (v.rolls-Binary c.in-Binary.op c.in-Binary.left c.in-Binary.right c.in-Binary.first c.in-Binary.second ∙ sym c.in-Binary.is) c.requires.1).5))

pub computed-binary_value-requires-clause-left : goal.computed-binary_value-requires-clause-left
computed-binary_value-requires-clause-left t c = (opened (widths c.args.store.now) (o.Binary c.in-Binary.op c.in-Binary.left c.in-Binary.right c.in-Binary.first c.in-Binary.second) c.args.self.now c.requires.0 (v.rolls-Binary c.in-Binary.op c.in-Binary.left c.in-Binary.right c.in-Binary.first c.in-Binary.second ∙ sym c.in-Binary.is) c.requires.1).0

pub computed-binary_value-requires-clause-right : goal.computed-binary_value-requires-clause-right
computed-binary_value-requires-clause-right t c = (opened (widths c.args.store.now) (o.Binary c.in-Binary.op c.in-Binary.left c.in-Binary.right c.in-Binary.first c.in-Binary.second) c.args.self.now c.requires.0 (v.rolls-Binary c.in-Binary.op c.in-Binary.left c.in-Binary.right c.in-Binary.first c.in-Binary.second ∙ sym c.in-Binary.is) c.requires.1).1

pub computed-binary_value-requires-clause-paired : goal.computed-binary_value-requires-clause-paired
computed-binary_value-requires-clause-paired t c = (opened (widths c.args.store.now) (o.Binary c.in-Binary.op c.in-Binary.left c.in-Binary.right c.in-Binary.first c.in-Binary.second) c.args.self.now c.requires.0 (v.rolls-Binary c.in-Binary.op c.in-Binary.left c.in-Binary.right c.in-Binary.first c.in-Binary.second ∙ sym c.in-Binary.is) c.requires.1).2

pub computed-binary_value-requires-clause-fits_a : goal.computed-binary_value-requires-clause-fits_a
computed-binary_value-requires-clause-fits_a t c = (c.value-first.ensures.fits c.in-Binary.left.width (rw c.get-in-Binary.ensures (opened (widths c.args.store.now) (o.Binary c.in-Binary.op c.in-Binary.left c.in-Binary.right c.in-Binary.first c.in-Binary.second) c.args.self.now c.requires.0 (v.rolls-Binary c.in-Binary.op c.in-Binary.left c.in-Binary.right c.in-Binary.first c.in-Binary.second ∙ sym c.in-Binary.is) c.requires.1).4))

pub computed-binary_value-requires-clause-fits_b : goal.computed-binary_value-requires-clause-fits_b
computed-binary_value-requires-clause-fits_b t c = (c.value-second.ensures.fits c.in-Binary.right.width (rw c.get-in-Binary-2.ensures (opened (widths c.args.store.now) (o.Binary c.in-Binary.op c.in-Binary.left c.in-Binary.right c.in-Binary.first c.in-Binary.second) c.args.self.now c.requires.0 (v.rolls-Binary c.in-Binary.op c.in-Binary.left c.in-Binary.right c.in-Binary.first c.in-Binary.second ∙ sym c.in-Binary.is) c.requires.1).5))

pub computed-returns-in-Binary-clause-value : goal.computed-returns-in-Binary-clause-value
computed-returns-in-Binary-clause-value t c = says_binary c.args.self.now (store_of c.args.store.now) c.in-Binary.op c.in-Binary.left c.in-Binary.right c.get-in-Binary.result.now c.get-in-Binary-2.result.now c.in-Binary.first c.in-Binary.second c.value-first.result c.value-second.result c.binary_value.result c.in-Binary.is c.get-in-Binary.ensures c.get-in-Binary-2.ensures c.value-first.ensures.value c.value-second.ensures.value c.binary_value.ensures

pub computed-returns-in-Binary-clause-fits : goal.computed-returns-in-Binary-clause-fits
computed-returns-in-Binary-clause-fits t c = λ n h. let f = (opened (widths c.args.store.now) (o.Binary c.in-Binary.op c.in-Binary.left c.in-Binary.right c.in-Binary.first c.in-Binary.second) c.args.self.now n (v.rolls-Binary c.in-Binary.op c.in-Binary.left c.in-Binary.right c.in-Binary.first c.in-Binary.second ∙ sym c.in-Binary.is) h) in binary_within c.in-Binary.op c.in-Binary.left c.in-Binary.right c.value-first.result c.value-second.result c.binary_value.result n f.0 f.2 f.3 (c.value-first.ensures.fits c.in-Binary.left.width (rw c.get-in-Binary.ensures f.4)) (c.value-second.ensures.fits c.in-Binary.right.width (rw c.get-in-Binary-2.ensures f.5)) c.binary_value.ensures

pub computed-value-requires-in-Conditional : goal.computed-value-requires-in-Conditional
computed-value-requires-in-Conditional t c = (search (rules, the_lemmas), rw c.get-in-Conditional.ensures (opened (widths c.args.store.now) (o.Conditional c.in-Conditional.condition c.in-Conditional.yes c.in-Conditional.no) c.args.self.now c.requires.0 (v.rolls-Conditional c.in-Conditional.condition c.in-Conditional.yes c.in-Conditional.no ∙ sym c.in-Conditional.is) c.requires.1).0)

pub computed-value-requires-then-value-eq0 : goal.computed-value-requires-then-value-eq0
computed-value-requires-then-value-eq0 t c = (search (rules, the_lemmas), (c.requires.0, rw c.get-then-value-eq0.ensures (opened (widths c.args.store.now) (o.Conditional c.in-Conditional.condition c.in-Conditional.yes c.in-Conditional.no) c.args.self.now c.requires.0 (v.rolls-Conditional c.in-Conditional.condition c.in-Conditional.yes c.in-Conditional.no ∙ sym c.in-Conditional.is) c.requires.1).2))

pub computed-value-requires-else-value-eq0 : goal.computed-value-requires-else-value-eq0
computed-value-requires-else-value-eq0 t c = (search (rules, the_lemmas), (c.requires.0, rw c.get-else-value-eq0.ensures (opened (widths c.args.store.now) (o.Conditional c.in-Conditional.condition c.in-Conditional.yes c.in-Conditional.no) c.args.self.now c.requires.0 (v.rolls-Conditional c.in-Conditional.condition c.in-Conditional.yes c.in-Conditional.no ∙ sym c.in-Conditional.is) c.requires.1).1))

pub computed-returns-then-value-eq0-clause-value : goal.computed-returns-then-value-eq0-clause-value
computed-returns-then-value-eq0-clause-value t c = says_no c.args.self.now (store_of c.args.store.now) c.in-Conditional.condition c.in-Conditional.yes c.in-Conditional.no c.get-in-Conditional.result.now c.get-then-value-eq0.result.now c.value-in-Conditional.result c.value-then-value-eq0.result c.in-Conditional.is c.get-in-Conditional.ensures c.get-then-value-eq0.ensures c.value-in-Conditional.ensures.value c.if-value-eq0.true c.value-then-value-eq0.ensures.value

pub computed-returns-then-value-eq0-clause-fits : goal.computed-returns-then-value-eq0-clause-fits
computed-returns-then-value-eq0-clause-fits t c = λ n h. let f = (opened (widths c.args.store.now) (o.Conditional c.in-Conditional.condition c.in-Conditional.yes c.in-Conditional.no) c.args.self.now n (v.rolls-Conditional c.in-Conditional.condition c.in-Conditional.yes c.in-Conditional.no ∙ sym c.in-Conditional.is) h) in c.value-then-value-eq0.ensures.fits n (rw c.get-then-value-eq0.ensures f.2)

pub computed-returns-else-value-eq0-clause-value : goal.computed-returns-else-value-eq0-clause-value
computed-returns-else-value-eq0-clause-value t c = says_yes c.args.self.now (store_of c.args.store.now) c.in-Conditional.condition c.in-Conditional.yes c.in-Conditional.no c.get-in-Conditional.result.now c.get-else-value-eq0.result.now c.value-in-Conditional.result c.value-else-value-eq0.result c.in-Conditional.is c.get-in-Conditional.ensures c.get-else-value-eq0.ensures c.value-in-Conditional.ensures.value c.if-value-eq0.false c.value-else-value-eq0.ensures.value

pub computed-returns-else-value-eq0-clause-fits : goal.computed-returns-else-value-eq0-clause-fits
computed-returns-else-value-eq0-clause-fits t c = λ n h. let f = (opened (widths c.args.store.now) (o.Conditional c.in-Conditional.condition c.in-Conditional.yes c.in-Conditional.no) c.args.self.now n (v.rolls-Conditional c.in-Conditional.condition c.in-Conditional.yes c.in-Conditional.no ∙ sym c.in-Conditional.is) h) in c.value-else-value-eq0.ensures.fits n (rw c.get-else-value-eq0.ensures f.1)

pub computed-value-upper-requires : goal.computed-value-upper-requires
computed-value-upper-requires t c = (search (rules, the_lemmas), ((opened (widths c.args.store.now) (o.Joined c.in-Joined.upper c.in-Joined.width c.in-Joined.lower) c.args.self.now c.requires.0 (v.rolls-Joined c.in-Joined.upper c.in-Joined.width c.in-Joined.lower ∙ sym c.in-Joined.is) c.requires.1).0.0, rw c.get-in-Joined.ensures (opened (widths c.args.store.now) (o.Joined c.in-Joined.upper c.in-Joined.width c.in-Joined.lower) c.args.self.now c.requires.0 (v.rolls-Joined c.in-Joined.upper c.in-Joined.width c.in-Joined.lower ∙ sym c.in-Joined.is) c.requires.1).0.3))

pub computed-value-lower-requires : goal.computed-value-lower-requires
computed-value-lower-requires t c = (search (rules, the_lemmas), (c.in-Joined.width, rw c.get-in-Joined-2.ensures (opened (widths c.args.store.now) (o.Joined c.in-Joined.upper c.in-Joined.width c.in-Joined.lower) c.args.self.now c.requires.0 (v.rolls-Joined c.in-Joined.upper c.in-Joined.width c.in-Joined.lower ∙ sym c.in-Joined.is) c.requires.1).1))

pub computed-shift_left-requires : goal.computed-shift_left-requires
computed-shift_left-requires t c = omega arith

pub computed-overflow_add-result : goal.computed-overflow_add-result
computed-overflow_add-result t c = let f = (opened (widths c.args.store.now) (o.Joined c.in-Joined.upper c.in-Joined.width c.in-Joined.lower) c.args.self.now c.requires.0 (v.rolls-Joined c.in-Joined.upper c.in-Joined.width c.in-Joined.lower ∙ sym c.in-Joined.is) c.requires.1) in let j = joined_within c.value-upper.result f.0.0 c.in-Joined.width c.value-lower.result 128 f.0.1 f.0.1 (c.value-upper.ensures.fits f.0.0 (rw c.get-in-Joined.ensures f.0.3)) (c.value-lower.ensures.fits c.in-Joined.width (rw c.get-in-Joined-2.ensures f.1)) in let e : c.shift_left.result ≡ c.value-upper.result * 2 ^ c.in-Joined.width = (c.shift_left.ensures ∙ ap (λ (p : ℕ). c.value-upper.result * 2 ^ p % 2 ^ 128) c.from.ensures ∙ j.0) in omega (arith, e, j.1)

pub computed-returns-in-Joined-clause-value : goal.computed-returns-in-Joined-clause-value
computed-returns-in-Joined-clause-value t c = let f = (opened (widths c.args.store.now) (o.Joined c.in-Joined.upper c.in-Joined.width c.in-Joined.lower) c.args.self.now c.requires.0 (v.rolls-Joined c.in-Joined.upper c.in-Joined.width c.in-Joined.lower ∙ sym c.in-Joined.is) c.requires.1) in let j = joined_within c.value-upper.result f.0.0 c.in-Joined.width c.value-lower.result 128 f.0.1 f.0.1 (c.value-upper.ensures.fits f.0.0 (rw c.get-in-Joined.ensures f.0.3)) (c.value-lower.ensures.fits c.in-Joined.width (rw c.get-in-Joined-2.ensures f.1)) in says_joined c.args.self.now (store_of c.args.store.now) c.in-Joined.upper c.in-Joined.width c.in-Joined.lower c.get-in-Joined.result.now c.get-in-Joined-2.result.now c.value-upper.result c.value-lower.result (c.shift_left.result + c.value-lower.result) c.in-Joined.is c.get-in-Joined.ensures c.get-in-Joined-2.ensures c.value-upper.ensures.value c.value-lower.ensures.value (ap (λ (z : ℕ). z + c.value-lower.result) (c.shift_left.ensures ∙ ap (λ (p : ℕ). c.value-upper.result * 2 ^ p % 2 ^ 128) c.from.ensures ∙ j.0))

pub computed-returns-in-Joined-clause-fits : goal.computed-returns-in-Joined-clause-fits
computed-returns-in-Joined-clause-fits t c = λ n h. let f = (opened (widths c.args.store.now) (o.Joined c.in-Joined.upper c.in-Joined.width c.in-Joined.lower) c.args.self.now n (v.rolls-Joined c.in-Joined.upper c.in-Joined.width c.in-Joined.lower ∙ sym c.in-Joined.is) h) in let j = joined_within c.value-upper.result f.0.0 c.in-Joined.width c.value-lower.result n f.0.1 f.0.2 (c.value-upper.ensures.fits f.0.0 (rw c.get-in-Joined.ensures f.0.3)) (c.value-lower.ensures.fits c.in-Joined.width (rw c.get-in-Joined-2.ensures f.1)) in let e : c.shift_left.result ≡ c.value-upper.result * 2 ^ c.in-Joined.width = (c.shift_left.ensures ∙ ap (λ (p : ℕ). c.value-upper.result * 2 ^ p % 2 ^ 128) c.from.ensures ∙ j.0) in rw e j.1

pub computed-value-requires-in-Repeated : goal.computed-value-requires-in-Repeated
computed-value-requires-in-Repeated t c = (search (rules, the_lemmas), (c.in-Repeated.width, rw c.get-in-Repeated.ensures (opened (widths c.args.store.now) (o.Repeated c.in-Repeated.count c.in-Repeated.width c.in-Repeated.inner) c.args.self.now c.requires.0 (v.rolls-Repeated c.in-Repeated.count c.in-Repeated.width c.in-Repeated.inner ∙ sym c.in-Repeated.is) c.requires.1).2))

pub computed-repeated-requires-clause-narrow : goal.computed-repeated-requires-clause-narrow
computed-repeated-requires-clause-narrow t c = (opened (widths c.args.store.now) (o.Repeated c.in-Repeated.count c.in-Repeated.width c.in-Repeated.inner) c.args.self.now c.requires.0 (v.rolls-Repeated c.in-Repeated.count c.in-Repeated.width c.in-Repeated.inner ∙ sym c.in-Repeated.is) c.requires.1).0

pub computed-repeated-requires-clause-fits : goal.computed-repeated-requires-clause-fits
computed-repeated-requires-clause-fits t c = c.value-in-Repeated.ensures.fits c.in-Repeated.width (rw c.get-in-Repeated.ensures (opened (widths c.args.store.now) (o.Repeated c.in-Repeated.count c.in-Repeated.width c.in-Repeated.inner) c.args.self.now c.requires.0 (v.rolls-Repeated c.in-Repeated.count c.in-Repeated.width c.in-Repeated.inner ∙ sym c.in-Repeated.is) c.requires.1).2)

pub computed-returns-in-Repeated-clause-value : goal.computed-returns-in-Repeated-clause-value
computed-returns-in-Repeated-clause-value t c = says_repeated c.args.self.now (store_of c.args.store.now) c.in-Repeated.count c.in-Repeated.width c.get-in-Repeated.result.now c.in-Repeated.inner c.value-in-Repeated.result c.repeated.result c.in-Repeated.is c.get-in-Repeated.ensures c.value-in-Repeated.ensures.value c.repeated.ensures.value

pub computed-returns-in-Repeated-clause-fits : goal.computed-returns-in-Repeated-clause-fits
computed-returns-in-Repeated-clause-fits t c = λ n h. let f = (opened (widths c.args.store.now) (o.Repeated c.in-Repeated.count c.in-Repeated.width c.in-Repeated.inner) c.args.self.now n (v.rolls-Repeated c.in-Repeated.count c.in-Repeated.width c.in-Repeated.inner ∙ sym c.in-Repeated.is) h) in wider c.repeated.result (c.in-Repeated.count * c.in-Repeated.width) n c.repeated.ensures.fits f.1
