use Rattle.elab_finish.proofs.Common.{ℕ, ◌+◌, List, Option, sym, ◌∙◌, ap, subst, arith, slice_get_within, Bit, Register, head_in, after_lowest}
use Rattle.elab_finish.proofs.Orders.{HaveFirst, heads_step, register_there}
use Rattle.elab_finish.proofs.heads.Heads.of_registers.Goals as goal

pub loop-place-preserved : goal.loop-place-preserved
loop-place-preserved c =
    let k = c.loop-place.place in
    let f = head_in c.loop-place.heads.table.items in
    let rs = c.args.registers.now in
    let x = c.index-registers-place.result in
    subst (λ (g : ℕ → Option ℕ). HaveFirst rs g (k + 1)) (sym (c.in_ok-lay_lowest.ensures ∙ ap (λ (q : List Bit). after_lowest q k f) (c.as_slice.ensures ∙ ap (λ (r : Register). r.q) (sym c.index-registers-place.is)))) (heads_step rs k x f c.requires (register_there rs k x c.index-registers-place.is c.loop-place-test.true) c.loop-place.invariant)

pub returns : goal.returns
returns c = λ p n r at low. c.loop-place.invariant p n r (let less = slice_get_within c.args.registers.now p r at in omega (arith, less, c.loop-place-test.false)) at low
