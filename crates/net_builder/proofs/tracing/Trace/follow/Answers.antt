use Rattle.net_builder.proofs.Common.{◌≡◌, inl, inr, sym, ◌∙◌, Loops, Known, known_of, mark_of}
use Rattle.net_builder.proofs.Marking.{way_ends, way_loops, way_found}
use Rattle.net_builder.proofs.tracing.Trace.follow.Goals.{in-Ends, in-Open+in_ok-push-in-Open, in-Loops}
use Rattle.net_builder.proofs.tracing.Trace.follow.Goals as goal

pub settle-requires : goal.settle-requires
settle-requires c =
    let t : Known = known_of c.walk.new.self in
    record {
      traced = elim c.match-mark.branch [
        | in-Ends w ↦ rw (w.self-is, w.mark-is) (way_ends t c.in_ok-met.met w.in-Ends.bit c.in_ok-met.ensures.met.0 (sym c.mark.ensures ∙ w.in-Ends.is))
        | in-Open+in_ok-push-in-Open w ↦ rw (w.self-is, w.mark-is, w.in_ok-push-in-Open.ensures.items) (way_found t c.in_ok-met.met c.in_ok-met.ensures.met.0 (sym c.mark.ensures ∙ w.in-Open.is))
        | in-Loops w ↦
            let looped : mark_of t c.in_ok-met.met ≡ Loops = elim w.in-Loops.is [ inl is ↦ sym c.mark.ensures ∙ is | inr is ↦ absurd (c.in_ok-met.ensures.met.1 (sym c.mark.ensures ∙ is)) ] in
            rw (w.self-is, w.mark-is) (way_loops t c.in_ok-met.met c.in_ok-met.ensures.met.0 looped)
      ];
    }
