use Rattle.tb_checks.proofs.Common.{List, map, take, add-one, arith, ◌∙◌, ap, sym, flat_map, Fault, least, names_of, least_empty, Part, parts_of, concatenated, part_indices}
use Rattle.std.proofs.lemmas.Grind.{flat_map-append}
use Rattle.vlog_effects.proofs.Folds.{parts-name, parts-range}
use Rattle.elab_proc.proofs.Lists.{parts_take}
use Rattle.tb_checks.proofs.indices.+indices.Goals as goal

pub all_indices_fault-loop-part-init : goal.all_indices_fault-loop-part-init
all_indices_fault-loop-part-init t c = least_empty

pub indices_fault-returns-in-Name : goal.indices_fault-returns-in-Name
indices_fault-returns-in-Name t c = least_empty ∙ sym (ap (λ (ps : List Part). least (flat_map (part_indices (names_of c.args.scope.now)) ps)) (ap parts_of c.in-Name.is ∙ parts-name c.in-Name.field-0))

pub indices_fault-returns-in-PartSelect : goal.indices_fault-returns-in-PartSelect
indices_fault-returns-in-PartSelect t c = least_empty ∙ sym (ap (λ (ps : List Part). least (flat_map (part_indices (names_of c.args.scope.now)) ps)) (ap parts_of c.in-PartSelect.is ∙ parts-range c.in-PartSelect.field-0 c.in-PartSelect.field-1 c.in-PartSelect.field-2 c.in-PartSelect.field-3))

pub all_indices_fault-loop-part-preserved : goal.all_indices_fault-loop-part-preserved
all_indices_fault-loop-part-preserved t c =
    let g : Part → List Fault = part_indices (names_of c.args.scope.now) in
    let ps : List Part = concatenated (map parts_of (take c.loop-part.part-index c.args.parts.now)) in
    let more = ap (flat_map g) (parts_take c.args.parts.now c.loop-part.part-index c.part-item.result c.part-item.is (omega arith)) ∙ flat_map-append g ps (parts_of c.part-item.result) in
    rw add-one (c.earlier-found.ensures.joined (flat_map g ps) (flat_map g (parts_of c.part-item.result)) c.loop-part.invariant c.indices_fault.ensures ∙ ap least (sym more))
