use Rattle.tb_process.proofs.Common.{List, map, refl, ap, sym, ◌∙◌, subst, Node, IsCode, tree_of, max_statements, all_suspended, meaning, names, begun}
use Rattle.tb_process.proofs.Answered.{lent_answered}
use Rattle.tb_process.proofs.Answering.{both_ran}
use Rattle.tb_process.proofs.Keeping.{widths_left, woken_widths}
use Rattle.tb_process.proofs.active.run_processes.Goals as goal

pub wake_all-requires-clause-can : goal.wake_all-requires-clause-can
wake_all-requires-clause-can c = let b = c.args.parts.now in lent_answered (names b) c.nodes-nodes.result.now b.code b.plans c.as_slice.result.now c.nodes-nodes.ensures c.as_slice.ensures c.requires.runnable.known c.requires.runnable.plans

pub wake_all-requires-in-Pauses-clause-can : goal.wake_all-requires-in-Pauses-clause-can
wake_all-requires-in-Pauses-clause-can c = let b = c.args.parts.now in lent_answered (names b) c.nodes-nodes.result.now b.code b.plans c.as_slice.result.now c.nodes-nodes.ensures c.as_slice.ensures c.requires.runnable.known c.requires.runnable.plans

pub returns-in-Pauses-clause-ran : goal.returns-in-Pauses-clause-ran
returns-in-Pauses-clause-ran c = λ trees code.
    let b = c.args.parts.now in
    let nodes = c.nodes-nodes.result.now in
    let tree = tree_of trees in
    let here : IsCode nodes trees = subst (λ (ns : List Node). IsCode ns trees) (sym c.nodes-nodes.ensures) code in
    both_ran (meaning (names b) c.args.phase) c.args.event nodes b.code tree b.always c.begin_again.new.processes.items c.deref_mut.result.now c.wake_all.new.processes c.args.initial.now c.args.initial.now c.wake_all-in-Pauses.new.processes c.wake_all.new.left c.wake_all-in-Pauses.new.left c.args.scene.now c.wake_all.new.scene _ c.in_ok-wake_all.field-0 _ c.nodes-nodes.ensures c.in-Pauses.is (c.in_ok-begin_again.ensures.waits nodes tree ∙ ap (map (begun tree)) c.as_slice-2.ensures) c.deref_mut.ensures.value (c.in_ok-wake_all.ensures.ran trees here) refl (c.wake_all-in-Pauses.ensures.ran trees here)

pub returns-in-Pauses-clause-widths : goal.returns-in-Pauses-clause-widths
returns-in-Pauses-clause-widths c =
    let b = c.args.parts.now in
    let trees = c.requires.runnable.trees in
    widths_left (names b) c.args.phase c.args.event (map (begun (tree_of trees)) b.always) (all_suspended b.code (tree_of trees) c.args.initial.now) b.code (tree_of trees) c.wake_all-in-Pauses.new.processes c.args.scene.now c.wake_all-in-Pauses.new.scene c.wake_all-in-Pauses.result (returns-in-Pauses-clause-ran c trees c.requires.runnable.code)

pub returns-in-Finished-clause-widths : goal.returns-in-Finished-clause-widths
returns-in-Finished-clause-widths c =
    let b = c.args.parts.now in
    let nodes = c.nodes-nodes.result.now in
    let trees = c.requires.runnable.trees in
    let here : IsCode nodes trees = subst (λ (ns : List Node). IsCode ns trees) (sym c.nodes-nodes.ensures) c.requires.runnable.code in
    woken_widths (names b) c.args.phase c.args.event (all_suspended nodes (tree_of trees) c.deref_mut.result.now) nodes (tree_of trees) c.in_ok-wake_all.field-0 max_statements c.wake_all.new.left c.wake_all.new.processes c.args.scene.now c.wake_all.new.scene (c.in_ok-wake_all.ensures.ran trees here)

pub returns-in-TooLong-clause-widths : goal.returns-in-TooLong-clause-widths
returns-in-TooLong-clause-widths c =
    let b = c.args.parts.now in
    let nodes = c.nodes-nodes.result.now in
    let trees = c.requires.runnable.trees in
    let here : IsCode nodes trees = subst (λ (ns : List Node). IsCode ns trees) (sym c.nodes-nodes.ensures) c.requires.runnable.code in
    woken_widths (names b) c.args.phase c.args.event (all_suspended nodes (tree_of trees) c.deref_mut.result.now) nodes (tree_of trees) c.in_ok-wake_all.field-0 max_statements c.wake_all.new.left c.wake_all.new.processes c.args.scene.now c.wake_all.new.scene (c.in_ok-wake_all.ensures.ran trees here)
