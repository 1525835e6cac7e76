use Rattle.tb_settling.proofs.Common.{List, length, ap, ◌∙◌, arith, Port}
use Rattle.netlist_core.specs.declared.raw.RawNetlist.{RawNetlist}
use Rattle.tb_settling.proofs.Showing.{outputs_few}
use Rattle.tb_settling.proofs.design.output_count.Goals as goal

pub overflow_cast-result : goal.overflow_cast-result
overflow_cast-result c =
    let long = ap (λ (l : List Port). length l) (c.as_slice.ensures ∙ ap (λ (r : RawNetlist). r.outputs) c.raw.ensures.value) in
    let few = outputs_few c.netlist.result.now c.raw.ensures.sound in
    omega (arith, long, few)
