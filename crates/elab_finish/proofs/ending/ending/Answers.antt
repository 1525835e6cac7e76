use Rattle.elab_finish.proofs.Common.{◌≤◌, List, sym, subst, Register, q_bits, times_at, IsEnding, AreFilled}
use Rattle.elab_finish.proofs.Ended.{apart_led, ended}
use Rattle.elab_finish.proofs.ending.ending.Goals as goal

pub all_filled-requires : goal.all_filled-requires
all_filled-requires c = λ n. subst (λ (rs : List Register). times_at n (q_bits rs) ≤ 1) (sym c.as_slice.ensures) (apart_led c.args.builder c.args.inputs.now c.args.outputs.now c.args.declared.now c.requires.can.0 c.requires.can.1 c.in_ok-ins.ins.items c.in_ok-outs.outs.items c.in_ok-netlist.netlist c.in_ok-netlist.ensures.finished n)

pub returns : goal.returns
returns c =
    let slots = c.in_ok-empty.empty.items in
    let rs = c.in_ok-registers.registers.items in
    let filled = subst (λ (l : List Register). AreFilled l slots rs) c.as_slice.ensures (subst (λ (l : List Register). AreFilled c.as_slice.result.now l rs) c.as_slice-2.ensures.value c.in_ok-registers.ensures) in
    subst (IsEnding c.args.builder c.args.top c.args.clock c.args.inputs.now c.args.outputs.now c.args.declared.now) (sym c.with_registers.ensures) (ended c.args.builder c.args.top c.args.clock c.args.inputs.now c.args.outputs.now c.args.declared.now c.requires.can.0 c.requires.can.1 c.in_ok-ins.ins.items c.in_ok-outs.outs.items c.in_ok-ins.ensures c.in_ok-outs.ensures c.in_ok-netlist.netlist c.in_ok-netlist.ensures.top c.in_ok-netlist.ensures.clock c.in_ok-netlist.ensures.finished slots rs c.in_ok-empty.ensures filled)
