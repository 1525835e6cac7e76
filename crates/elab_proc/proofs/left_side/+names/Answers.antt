use Rattle.elab_proc.proofs.Common.{List, map, take, add-one, arith, subst, ◌∙◌, ap, sym, flat_map, flat_map-append, names_of, Part, parts_of, concatenated, Refusal, IsFirst, part_refusals}
use Rattle.elab_proc.proofs.Lists.{parts_take}
use Rattle.elab_proc.proofs.left_side.+names.Goals as goal

pub all_names_refusal-loop-part-preserved : goal.all_names_refusal-loop-part-preserved
all_names_refusal-loop-part-preserved t c =
    let g : Part → List Refusal = part_refusals (names_of c.args.scope.now) c.args.written.now in
    let ps : List Part = concatenated (map parts_of (take c.loop-part.part-index c.args.parts.now)) in
    let more = ap (flat_map g) (parts_take c.args.parts.now c.loop-part.part-index c.part-item.result c.part-item.is (omega arith)) ∙ flat_map-append g ps (parts_of c.part-item.result) in
    rw add-one (subst (λ (l : List Refusal). IsFirst l c.earlier-found.result) (sym more) (c.earlier-found.ensures (flat_map g ps) (flat_map g (parts_of c.part-item.result)) c.loop-part.invariant c.names_refusal.ensures))
