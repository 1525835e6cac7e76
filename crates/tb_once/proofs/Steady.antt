-- The stores of a bench's simulation stay within the widths of its signals, and from such a store what settles is determined.
use Rattle.tb_once.proofs.Common.{refl, bits_at, Tree, Setting, IsNetsOf, PortsFit, Parts, FitsDesign, IsRunnable, names, widths, setting_of, AreValues}
use Rattle.netlist_core.specs.Checked.{Plan, IsSound}
use Rattle.tb_settling.specs.Laws.{NetsSettleOnce}
use Rattle.tb_once.proofs.Outcomes.{IsSteady}
use Rattle.tb_once.proofs.Staying.{active_stays}
use Rattle.tb_once.proofs.Settled.{settled_values, is_store}

pub bench_steady : NetsSettleOnce → (b : Parts) (tree : Tree) (plan : Plan) → IsRunnable b → IsSound plan → FitsDesign b plan.raw → IsSteady (setting_of b tree plan.raw) (AreValues (widths b))
bench_steady settles b tree plan runs sound fits =
    let g : Setting = setting_of b tree plan.raw in
    let entered : PortsFit g.widths b.inputs (bits_at plan.raw.inputs) = record { widths_are = fits.inputs; known = runs.nets.entered } in
    let shown : PortsFit g.widths b.outputs (bits_at plan.raw.outputs) = record { widths_are = fits.outputs; known = runs.nets.shown } in
    let of : IsNetsOf g (names b) b.inputs b.outputs b.nets.nodes plan.raw = record { netlist_is = refl; inputs_are = refl; outputs_are = refl; assigns_are = refl } in
    record {
      active = active_stays b tree plan.raw runs;
      settled = settled_values b tree plan.raw runs fits;
      once = λ phase registers before a d next later one two first second. settles g phase (names b) b.inputs b.outputs b.nets plan sound runs.nets runs.signals entered shown of registers before a next d later (is_store b runs a one) (is_store b runs d two) first second;
    }
