use Rattle.net_builder.proofs.Common.{◌≡◌, ℕ, length, replicate, refl, ◌∙◌, ap, arith, Unknown, Known}
use Rattle.net_builder.proofs.Marking.{traced_none}
use Rattle.net_builder.proofs.tracing.Trace.of.Goals as goal

pub loop-net-init : goal.loop-net-init
loop-net-init c =
    let t : Known = record { steps = c.args.steps; marks = c.in_ok-vec.field-0.items; path = c.new.result.items; loops = c.new-2.result.items } in
    let marks : t.marks ≡ replicate (length c.args.steps) Unknown = c.in_ok-vec.ensures.items_if_clones_equal (λ y h. h) ∙ ap (λ (k : ℕ). replicate k Unknown) c.len-nets.ensures.long in
    (traced_none t marks c.new.ensures.items c.new-2.ensures.items, refl, λ n less. absurd (omega (arith, less)))
