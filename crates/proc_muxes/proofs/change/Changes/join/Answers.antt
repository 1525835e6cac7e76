use Rattle.proc_muxes.proofs.Common.{◌≡◌, ◌∙◌, sym, refl, true, false, Change, is_changed}
use Rattle.proc_muxes.proofs.Changing.{joined-push}
use Rattle.proc_muxes.proofs.change.Changes.join.Goals as goal

pub loop-change-preserved-in-Continue-1 : goal.loop-change-preserved-in-Continue-1
loop-change-preserved-in-Continue-1 c =
    let d : Change = c.in-Some.change in
    let new : is_changed d.is_blocking c.loop-change.self-inside.items.items d.number ≡ false = rw (c.as_slice.ensures.value) at (sym c.if-not-is_changed.ensures) in
    c.in_ok-push.ensures.items ∙ rw (joined-push c.self.inside.items.items c.loop-change.yielded d, ← c.loop-change.invariant, new) refl

pub loop-change-preserved : goal.loop-change-preserved
loop-change-preserved c =
    let d : Change = c.in-Some.change in
    let old : is_changed d.is_blocking c.loop-change.self-inside.items.items d.number ≡ true = rw (c.as_slice.ensures.value) at (sym c.if-not-is_changed.ensures) in
    rw (joined-push c.self.inside.items.items c.loop-change.yielded d, ← c.loop-change.invariant, old) refl
