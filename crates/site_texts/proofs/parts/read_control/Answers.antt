use Rattle.site_texts.proofs.Common.{◌≡◌, arith, false, true, reads_control}
use Rattle.site_texts.proofs.Stuck.{handed_on, shorter}
use Rattle.site_texts.proofs.Fields.{control_behind, control_stuck, none_stuck}
use Rattle.site_texts.proofs.Joining.{control_part, none_part}
use Rattle.site_texts.proofs.parts.read_control.Goals as goal

pub returns-in-Ok : goal.returns-in-Ok
returns-in-Ok c =
    let none : reads_control c.args.mode ≡ false = cc in
    none_part c.args.mode c.args.bit none c.requires c.in-Ok.source c.args.text.now c.in-Ok.ensures

pub returns-in-Err : goal.returns-in-Err
returns-in-Err c =
    let none : reads_control c.args.mode ≡ false = cc in
    none_stuck c.args.mode c.args.bit none c.requires c.args.text.now c.in-Err.at c.in-Err.ensures

pub returns-in_err-control : goal.returns-in_err-control
returns-in_err-control c =
    let reads : reads_control c.args.mode ≡ true = cc in
    handed_on c.from_residual.result c.in_err-control.field-0.0 _ _ c.from_residual.ensures.1 (control_stuck c.args.mode c.args.bit reads c.requires c.args.text.now c.in_err-control.field-0.0 c.in_err-control.ensures)

pub overflow_sub-result : goal.overflow_sub-result
overflow_sub-result c = let r = c.in_ok-control.ensures in omega (arith, shorter r.0 c.in_ok-control.rest.now c.args.text.now r.2)

pub overflow_add-result : goal.overflow_add-result
overflow_add-result c = let r = c.in_ok-control.ensures in omega (arith, shorter r.0 c.in_ok-control.rest.now c.args.text.now r.2, c.in-Err-read_source.ensures.within)

pub returns-in-Ok-read_source : goal.returns-in-Ok-read_source
returns-in-Ok-read_source c =
    let reads : reads_control c.args.mode ≡ true = cc in
    let r = c.in_ok-control.ensures in
    control_part c.args.mode c.args.bit c.in_ok-control.control r.0 reads c.requires r.1 c.in-Ok-read_source.source c.args.text.now c.in_ok-control.rest.now r.2 c.in-Ok-read_source.ensures

pub returns-in-Err-read_source : goal.returns-in-Err-read_source
returns-in-Err-read_source c =
    let reads : reads_control c.args.mode ≡ true = cc in
    let r = c.in_ok-control.ensures in
    control_behind c.args.mode c.args.bit c.in_ok-control.control r.0 reads c.requires r.1 c.args.text.now c.in_ok-control.rest.now r.2 c.in-Err-read_source.at c.in-Err-read_source.ensures
