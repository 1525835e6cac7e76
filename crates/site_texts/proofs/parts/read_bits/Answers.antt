use Rattle.site_texts.proofs.Common.{arith, refl, Bits}
use Rattle.site_texts.specs.declared.choice.Choice.TheVariants as field
use Rattle.site_texts.proofs.Choosing.{word_below}
use Rattle.site_texts.proofs.Stuck.{handed_on, shorter}
use Rattle.site_texts.proofs.Fields.{bit_behind, bit_stuck}
use Rattle.site_texts.proofs.Joining.{bit_part}
use Rattle.site_texts.proofs.parts.read_bits.Goals as goal

pub returns-in_err-bit : goal.returns-in_err-bit
returns-in_err-bit c = handed_on c.from_residual.result c.in_err-bit.field-0.0 _ _ c.from_residual.ensures.1 (bit_stuck c.args.mode c.args.text.now c.in_err-bit.field-0.0 c.in_err-bit.ensures)

pub read_control-requires : goal.read_control-requires
read_control-requires c = let r = c.in_ok-bit.ensures in word_below field.Bit c.in_ok-bit.bit r.0 r.1

pub overflow_sub-result : goal.overflow_sub-result
overflow_sub-result c = let r = c.in_ok-bit.ensures in omega (arith, shorter r.0 c.in_ok-bit.rest.now c.args.text.now r.2)

pub overflow_add-result : goal.overflow_add-result
overflow_add-result c = let r = c.in_ok-bit.ensures in omega (arith, shorter r.0 c.in_ok-bit.rest.now c.args.text.now r.2, c.in-Err.ensures.within)

pub returns-in-Ok : goal.returns-in-Ok
returns-in-Ok c =
    let r = c.in_ok-bit.ensures in
    let bits : Bits = record { bit = c.in_ok-bit.bit; control = c.in-Ok.control; source = c.in-Ok.source } in
    bit_part c.args.mode c.in_ok-bit.bit r.0 r.1 c.in-Ok.control c.in-Ok.source bits refl refl refl c.args.text.now c.in_ok-bit.rest.now r.2 c.in-Ok.ensures

pub returns-in-Err : goal.returns-in-Err
returns-in-Err c = let r = c.in_ok-bit.ensures in bit_behind c.args.mode c.in_ok-bit.bit r.0 r.1 c.args.text.now c.in_ok-bit.rest.now r.2 c.in-Err.at c.in-Err.ensures
