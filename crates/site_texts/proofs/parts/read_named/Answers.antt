use Rattle.site_texts.proofs.Common.{arith, refl, PlaceText}
use Rattle.site_texts.proofs.Stuck.{handed_on, shorter}
use Rattle.site_texts.proofs.Fields.{name_behind, name_stuck}
use Rattle.site_texts.proofs.Joining.{name_part}
use Rattle.site_texts.proofs.parts.read_named.Goals as goal

pub returns-in_err-name : goal.returns-in_err-name
returns-in_err-name c = handed_on c.from_residual.result c.in_err-name.field-0.0 _ _ c.from_residual.ensures.1 (name_stuck c.args.mode c.args.is_cell c.args.text.now c.in_err-name.field-0.0 c.in_err-name.ensures)

pub fact_in-name : goal.fact_in-name
fact_in-name c = c.in_ok-name.ensures.0.text.utf8

pub overflow_sub-result : goal.overflow_sub-result
overflow_sub-result c = let r = c.in_ok-name.ensures in omega (arith, shorter c.in_ok-name.name.now c.in_ok-name.rest.now c.args.text.now r.1)

pub overflow_add-result : goal.overflow_add-result
overflow_add-result c = let r = c.in_ok-name.ensures in omega (arith, shorter c.in_ok-name.name.now c.in_ok-name.rest.now c.args.text.now r.1, c.in-Err.ensures.within)

pub returns-in-Ok : goal.returns-in-Ok
returns-in-Ok c =
    let r = c.in_ok-name.ensures in
    let place : PlaceText = record { is_cell = c.args.is_cell; name = c.in_ok-name.name; port = c.in-Ok.port; bits = c.in-Ok.bits } in
    name_part c.args.mode c.args.is_cell c.in_ok-name.name.now r.0 c.in-Ok.port.now c.in-Ok.bits place refl refl refl refl c.args.text.now c.in_ok-name.rest.now r.1 c.in-Ok.ensures

pub returns-in-Err : goal.returns-in-Err
returns-in-Err c = let r = c.in_ok-name.ensures in name_behind c.args.mode c.args.is_cell c.in_ok-name.name.now r.0 c.args.text.now c.in_ok-name.rest.now r.1 c.in-Err.at c.in-Err.ensures
