use Rattle.elab_hier.proofs.Common.{◌∙◌, List, Option, ℕ, ap, length, subst, sym, option_map, IfErr-weaker, ports_of, flat_of, Clocks, without, IsNetlistOf, IsRefusalOf, AreFlags, all_inputs}
use Rattle.flat_runs.proofs.Law.{built_runs}
use Rattle.elab_items.specs.Answers.{name_of}
use Rattle.elab_items.proofs.Sounding.{designs_begin}
use Rattle.elab_items.proofs.Standing.{items_added}
use Rattle.elab_hier.proofs.Netlists.{can_end, ended, not_ended}
use Rattle.elab_hier.proofs.Sources.{not_built}
use Rattle.elab_hier.proofs.Told.{all_told, handed_on}
use Rattle.elab_hier.proofs.design.elaborate_flat.Goals as goal

pub returns-in_err-builder-clause-refused : goal.returns-in_err-builder-clause-refused
returns-in_err-builder-clause-refused c =
    let flat = flat_of c.args.flat.now in
    let ports = ports_of c.args.declaration.now.ports in
    let are = subst (AreFlags (length flat.signals) (all_inputs flat ports)) (sym c.as_slice-flags.ensures.value) c.in_ok-ports.ensures.flags in
    handed_on c.from_residual-in_err-builder.result c.in_err-builder.field-0.0 (IsRefusalOf flat ports c.args.top.now) c.from_residual-in_err-builder.ensures.1
    (not_built flat ports c.as_slice-flags.result.now c.args.top.now c.in_err-builder.field-0.0 are c.in_err-builder.ensures.refused)

pub end-requires : goal.end-requires
end-requires c =
    let flat = flat_of c.args.flat.now in
    let ports = ports_of c.args.declaration.now.ports in
    let lists = c.in_ok-lists.lists in
    let are = subst (AreFlags (length flat.signals) (all_inputs flat ports)) (sym c.as_slice-flags.ensures.value) c.in_ok-ports.ensures.flags in
    let clock_is = c.clock.ensures ∙ ap (λ (k : Clocks). k.clock) c.in_ok-clocks.ensures in
    let in_is = c.in_ok-lists.ensures.inputs ∙ (ap (λ (o : Option ℕ). without o c.as_slice.result.now) clock_is ∙ ap (without _) (c.as_slice.ensures.value ∙ c.in_ok-ports.ensures.inputs)) in
    can_end flat ports c.as_slice-flags.result.now c.requires are c.in_ok-builder.builder c.in_ok-builder.ensures.built items_added c.loops_have_left_sides.ensures c.designs_can_finish.ensures.can
    lists.inputs.items c.as_slice-2.result.now lists.declared.items lists.lefts.items in_is (c.as_slice-2.ensures.value ∙ c.in_ok-ports.ensures.outputs) c.in_ok-lists.ensures.declared c.in_ok-lists.ensures.lefts c.in_ok-lists.ensures.once

pub returns-clause-ok : goal.returns-clause-ok
returns-clause-ok c =
    let flat = flat_of c.args.flat.now in
    let ports = ports_of c.args.declaration.now.ports in
    let lists = c.in_ok-lists.lists in
    let are = subst (AreFlags (length flat.signals) (all_inputs flat ports)) (sym c.as_slice-flags.ensures.value) c.in_ok-ports.ensures.flags in
    let clock_is = c.clock.ensures ∙ ap (λ (k : Clocks). k.clock) c.in_ok-clocks.ensures in
    let in_is = c.in_ok-lists.ensures.inputs ∙ (ap (λ (o : Option ℕ). without o c.as_slice.result.now) clock_is ∙ ap (without _) (c.as_slice.ensures.value ∙ c.in_ok-ports.ensures.inputs)) in
    let name_is = c.in_ok-lists.ensures.clock ∙ ap (option_map (name_of flat.signals)) clock_is in
    all_told c.end.result _ _ _ _ _ (λ n. IsNetlistOf flat ports c.args.top.now n.raw)
    (λ n ending finishes within apart runnable. subst (λ (t : List ℕ). IsNetlistOf flat ports t n.raw) c.in_ok-name.ensures
    (ended flat ports c.as_slice-flags.result.now c.requires are c.in_ok-builder.builder c.in_ok-builder.ensures.built items_added designs_begin c.designs_can_finish.ensures.design built_runs
    c.in_ok-name.name lists.clock lists.inputs.items c.as_slice-2.result.now lists.declared.items n.raw name_is in_is (c.as_slice-2.ensures.value ∙ c.in_ok-ports.ensures.outputs) c.in_ok-lists.ensures.declared ending finishes within apart runnable))
    c.end.ensures.ending c.end.ensures.finishes c.end.ensures.within c.end.ensures.apart c.end.ensures.runnable

pub returns-clause-refused : goal.returns-clause-refused
returns-clause-refused c =
    let flat = flat_of c.args.flat.now in
    let ports = ports_of c.args.declaration.now.ports in
    let lists = c.in_ok-lists.lists in
    let are = subst (AreFlags (length flat.signals) (all_inputs flat ports)) (sym c.as_slice-flags.ensures.value) c.in_ok-ports.ensures.flags in
    let clock_is = c.clock.ensures ∙ ap (λ (k : Clocks). k.clock) c.in_ok-clocks.ensures in
    let in_is = c.in_ok-lists.ensures.inputs ∙ (ap (λ (o : Option ℕ). without o c.as_slice.result.now) clock_is ∙ ap (without _) (c.as_slice.ensures.value ∙ c.in_ok-ports.ensures.inputs)) in
    let name_is = c.in_ok-lists.ensures.clock ∙ ap (option_map (name_of flat.signals)) clock_is in
    IfErr-weaker c.end.result _ (IsRefusalOf flat ports c.args.top.now)
    (λ e refused. subst (λ (t : List ℕ). IsRefusalOf flat ports t e) c.in_ok-name.ensures
    (not_ended flat ports c.as_slice-flags.result.now c.requires are c.in_ok-builder.builder c.in_ok-builder.ensures.built items_added
    c.in_ok-name.name lists.clock lists.inputs.items c.as_slice-2.result.now lists.declared.items lists.lefts.items e name_is in_is (c.as_slice-2.ensures.value ∙ c.in_ok-ports.ensures.outputs) c.in_ok-lists.ensures.declared c.in_ok-lists.ensures.lefts refused))
    c.end.ensures.refused
