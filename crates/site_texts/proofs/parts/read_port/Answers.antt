use Rattle.site_texts.proofs.Common.{ℕ, List, arith, subst, sym, AreOfPort, HasPlace, IsPart, port_text}
use Rattle.site_texts.proofs.Stuck.{handed_on, shorter}
use Rattle.site_texts.proofs.Fields.{port_behind, port_stuck}
use Rattle.site_texts.proofs.Joining.{port_part}
use Rattle.site_texts.proofs.parts.read_port.Goals as goal

pub returns-in_err-number : goal.returns-in_err-number
returns-in_err-number c = handed_on c.from_residual.result c.in_err-number.field-0.0 _ _ c.from_residual.ensures.1 (port_stuck c.args.mode c.args.is_cell c.args.text.now c.in_err-number.field-0.0 c.in_err-number.ensures)

pub overflow_sub-result : goal.overflow_sub-result
overflow_sub-result c = let r = c.in_ok-number.ensures in omega (arith, shorter r.0 c.in_ok-number.rest.now c.args.text.now r.2)

pub overflow_add-result : goal.overflow_add-result
overflow_add-result c = let r = c.in_ok-number.ensures in omega (arith, shorter r.0 c.in_ok-number.rest.now c.args.text.now r.2, c.in-Err.ensures.within)

pub returns-in-Ok : goal.returns-in-Ok
returns-in-Ok c =
    let r = c.in_ok-number.ensures in
    subst (λ (p : List ℕ). IsPart (HasPlace c.args.mode c.args.is_cell) port_text (AreOfPort p c.in-Ok.bits) c.args.text.now) (sym (c.port_of.ensures r.0 r.1))
    (port_part c.args.mode c.args.is_cell r.0 (c.in_ok-number.number, r.1) c.in-Ok.bits c.args.text.now c.in_ok-number.rest.now r.2 c.in-Ok.ensures)

pub returns-in-Err : goal.returns-in-Err
returns-in-Err c = let r = c.in_ok-number.ensures in port_behind c.args.mode c.args.is_cell r.0 (c.in_ok-number.number, r.1) c.args.text.now c.in_ok-number.rest.now r.2 c.in-Err.at c.in-Err.ensures
