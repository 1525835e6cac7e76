use Rattle.process_latches.proofs.Common.{◌≡◌, [], ◌∙◌, sym, ap, subst, on_ok_weaker, Expr, least, names_of, IsWhole, left_nil, these_nil, least_none, own_faults}
use Rattle.process_latches.proofs.Fitting.{fit_part, sound_whole, sound_name}
use Rattle.process_latches.proofs.Parts.{bits_as}
use Rattle.process_latches.proofs.left.mark_select.Goals as goal

pub mark_bits-requires : goal.mark_bits-requires
mark_bits-requires c =
    let names = names_of c.args.scope.now in
    fit_part names c.args.left.now c.args.name.now c.requires.part.0 c.requires.sized c.requires.part.1 (subst (IsWhole names) c.in_ok-form.ensures (left_nil _ _ (these_nil _ _ (least_none _ (sym c.own_fault.ensures ∙ c.in-None.is)))))

pub returns : goal.returns
returns c =
    let names = names_of c.args.scope.now in
    on_ok_weaker c.mark_bits.result (λ h p is. bits_as names _ _ _ _ (sound_whole names c.args.left.now c.args.name.now p is (subst (λ (x : Expr). own_faults names x ≡ []) c.in_ok-form.ensures (least_none _ (sym c.own_fault.ensures ∙ c.in-None.is)))) h) c.mark_bits.ensures

pub returns-in-Some : goal.returns-in-Some
returns-in-Some c =
    let names = names_of c.args.scope.now in
    on_ok_weaker c.mark_name.result (λ h p is. bits_as names _ _ _ _ (sound_name names c.args.left.now c.args.name.now p c.in-Some.field-0 is (sym c.in-Some.is ∙ c.own_fault.ensures ∙ ap (λ (x : Expr). least (own_faults names x)) c.in_ok-form.ensures)) h) c.mark_name.ensures
