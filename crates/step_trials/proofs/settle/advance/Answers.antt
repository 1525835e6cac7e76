use Rattle.step_trials.proofs.Common.{◌≡◌, List, ap, ◌∙◌, Bit, Nets, output_port, plain, laid, number_at, nets_of}
use Rattle.step_trials.proofs.InputLemmas.{laid-low}
use Rattle.step_trials.proofs.settle.advance.Goals as goal

pub lay-requires : goal.lay-requires
lay-requires c = rw (c.output_port.ensures, c.as_slice.ensures) c.requires.below

pub returns : goal.returns
returns c number =
    let nets : Nets = nets_of c.args.table.now in
    let y : List Bit = output_port c.args.cell.now.ports in
    let is_y : c.output_port.result.now ≡ y = c.output_port.ensures ∙ ap output_port c.as_slice.ensures in
    c.lay.ensures ∙ ap (λ (bits : List Bit). laid nets bits c.compute-value.result) is_y ∙ ap (laid nets y) (c.compute-value.ensures number) ∙ laid-low nets y (number_at (plain nets) number c.args.cell.now)
