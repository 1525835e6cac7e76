use Rattle.std.proofs.Common.{◌++◌, ◌∙◌, ap, append_assoc, sym}
use Rattle.std.proofs.KnownBytes.{Appends-trans}
use Rattle.mcy_outside.proofs.real_sink.write_through.Goals as goal

pub loop-preserved : goal.loop-preserved
loop-preserved g c =
    let (front, split, grew) = c.loop.invariant in
    let (more, next, took) = c.in-Some.ensures.moved in
    (front ++ more, split ∙ ap (λ l. front ++ l) next ∙ sym (append_assoc front more _), Appends-trans _ _ _ _ _ grew took)
