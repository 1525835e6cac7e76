use Rattle.site_texts.proofs.Common.{arith, refl, Parts}
use Rattle.site_texts.proofs.Stuck.{handed_on, shorter}
use Rattle.site_texts.proofs.Fields.{top_behind, top_stuck}
use Rattle.site_texts.proofs.Joining.{top_part}
use Rattle.site_texts.proofs.parts.read_top.Goals as goal

pub returns-in_err-top : goal.returns-in_err-top
returns-in_err-top c = handed_on c.from_residual.result c.in_err-top.field-0.0 _ _ c.from_residual.ensures.1 (top_stuck c.args.mode c.args.text.now c.in_err-top.field-0.0 c.in_err-top.ensures)

pub fact_in-top : goal.fact_in-top
fact_in-top c = c.in_ok-top.ensures.0.text.utf8

pub overflow_sub-result : goal.overflow_sub-result
overflow_sub-result c = let r = c.in_ok-top.ensures in omega (arith, shorter c.in_ok-top.top.now c.in_ok-top.rest.now c.args.text.now r.1)

pub overflow_add-result : goal.overflow_add-result
overflow_add-result c = let r = c.in_ok-top.ensures in omega (arith, shorter c.in_ok-top.top.now c.in_ok-top.rest.now c.args.text.now r.1, c.in-Err.ensures.within)

pub returns-in-Ok : goal.returns-in-Ok
returns-in-Ok c =
    let r = c.in_ok-top.ensures in
    let parts : Parts = record { mode = c.args.mode; top = c.in_ok-top.top; place = c.in-Ok.place } in
    top_part c.args.mode c.in_ok-top.top.now r.0 c.in-Ok.place parts refl refl refl c.args.text.now c.in_ok-top.rest.now r.1 c.in-Ok.ensures

pub returns-in-Err : goal.returns-in-Err
returns-in-Err c = let r = c.in_ok-top.ensures in top_behind c.args.mode c.in_ok-top.top.now r.0 c.args.text.now c.in_ok-top.rest.now r.1 c.in-Err.at c.in-Err.ensures
