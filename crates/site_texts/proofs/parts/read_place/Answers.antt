use Rattle.site_texts.proofs.Common.{arith, eqb, sym, AreOfPlace}
use Rattle.site_texts.specs.declared.choice.Choice.TheVariants as field
use Rattle.site_texts.proofs.Stuck.{handed_on, shorter}
use Rattle.site_texts.proofs.Words.{place_at, word_no_space}
use Rattle.site_texts.proofs.Fields.{place_behind, place_stuck}
use Rattle.site_texts.proofs.Joining.{place_part}
use Rattle.site_texts.proofs.parts.read_place.Goals as goal

pub returns-in_err-number : goal.returns-in_err-number
returns-in_err-number c = handed_on c.from_residual.result c.in_err-number.field-0.0 _ _ c.from_residual.ensures.1 (place_stuck c.args.mode c.args.text.now c.in_err-number.field-0.0 c.in_err-number.ensures)

pub overflow_sub-result : goal.overflow_sub-result
overflow_sub-result c = let r = c.in_ok-number.ensures in omega (arith, shorter r.0 c.in_ok-number.rest.now c.args.text.now r.2)

pub overflow_add-result : goal.overflow_add-result
overflow_add-result c = let r = c.in_ok-number.ensures in omega (arith, shorter r.0 c.in_ok-number.rest.now c.args.text.now r.2, c.in-Err.ensures.within)

pub returns-in-Ok : goal.returns-in-Ok
returns-in-Ok c =
    let r = c.in_ok-number.ensures in
    let n = c.in_ok-number.number in
    place_part c.args.mode (eqb n 0) r.0 (sym (place_at n r.0 r.1)) (AreOfPlace c.in-Ok.place) c.args.text.now c.in_ok-number.rest.now r.2 c.in-Ok.ensures

pub returns-in-Err : goal.returns-in-Err
returns-in-Err c =
    let r = c.in_ok-number.ensures in
    let n = c.in_ok-number.number in
    place_behind c.args.mode (eqb n 0) r.0 (word_no_space field.Place n r.0 r.1) (sym (place_at n r.0 r.1)) c.args.text.now c.in_ok-number.rest.now r.2 c.in-Err.at c.in-Err.ensures
