use Rattle.tb_machine.proofs.Common.{ℕ, ◌+◌, ◌<◌, List, length, map, drop, ap, sym, subst, ◌∙◌, arith, All, all_applied, Fits}
use Rattle.tb_machine.proofs.Writing.{rest_fits, next_applied}
use Rattle.tb_machine.proofs.applying.apply_all.Goals as goal

pub loop-update-preserved : goal.loop-update-preserved
loop-update-preserved c =
    let ws = c.loop-update.words.items in
    let us = c.args.updates.now in
    let k = c.loop-update.update-index in
    let inside : k < length us = omega arith in
    record {
      widths = c.apply.ensures.widths ∙ c.loop-update.invariant.widths;
      bits = ap (λ (store : List ℕ). all_applied store (drop (k + 1) us)) c.apply.ensures.bits ∙ next_applied (map (λ w. w.bits) ws) us k _ inside ∙ c.loop-update.invariant.bits;
      fit = subst (λ (widths : List ℕ). All (Fits widths) (drop (k + 1) us)) (sym c.apply.ensures.widths) (rest_fits (map (λ w. w.width) ws) us k inside c.loop-update.invariant.fit);
    }
