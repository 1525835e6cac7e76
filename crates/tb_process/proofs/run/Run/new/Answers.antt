use Rattle.tb_process.proofs.Common.{◌≡◌, List, length, map, ap, sym, ◌∙◌, subst, All, Plan, World, Parts, Waiting, FitsDesign, IsBelow}
use Rattle.mcy_base.specs.declared.word.Word.{Word}
use Rattle.tb_process.proofs.run.Run.new.Goals as goal

pub returns-clause-of : goal.returns-clause-of
returns-clause-of c =
    let b = c.args.bench.now in
    let same : c.parts-parts.result.now ≡ b = c.parts-parts.ensures.value in
    record {
      design = subst (λ (p : Plan). FitsDesign b p.raw) (sym c.in_ok-new.ensures.plan) c.requires;
      below = c.in_ok-begin_all-2.ensures.below (length b.code) (subst (λ (ws : List Waiting). All (IsBelow (length b.code)) ws) (sym (c.as_slice-3.ensures ∙ ap (λ (p : Parts). p.initial) same)) c.parts-parts.ensures.runnable.initial);
      widths = ap (λ (w : World). w.widths) c.new-2.ensures ∙ ap (map (λ (w : Word). w.width)) (c.in_ok-store.ensures.items_if_clones_equal (λ x y e. e) ∙ c.as_slice.ensures ∙ ap (λ (p : Parts). p.starts) same);
      updates = ap (λ (w : World). w.updates) c.new-2.ensures;
    }
