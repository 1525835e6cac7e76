use Rattle.tb_checks.proofs.Common.{List, map, take, add-one, arith, subst, ◌∙◌, ap, sym, flat_map, option_copied, names_of, Part, parts_of, concatenated, BenchFault, IsFirst, part_faults}
use Rattle.std.proofs.lemmas.Grind.{flat_map-append}
use Rattle.elab_proc.proofs.Lists.{parts_take}
use Rattle.tb_checks.proofs.lefts.+names.Goals as goal

pub all_names_fault-loop-part-preserved : goal.all_names_fault-loop-part-preserved
all_names_fault-loop-part-preserved t c =
    let g : Part → List BenchFault = part_faults (names_of c.args.scope.now) (option_copied c.args.clock) in
    let ps : List Part = concatenated (map parts_of (take c.loop-part.part-index c.args.parts.now)) in
    let more = ap (flat_map g) (parts_take c.args.parts.now c.loop-part.part-index c.part-item.result c.part-item.is (omega arith)) ∙ flat_map-append g ps (parts_of c.part-item.result) in
    rw add-one (subst (λ (l : List BenchFault). IsFirst l c.earlier-found.result) (sym more) (c.earlier-found.ensures.joined (flat_map g ps) (flat_map g (parts_of c.part-item.result)) c.loop-part.invariant c.names_fault.ensures))
