use Rattle.net_builder.proofs.Common.{◌+◌, ap, Building, PortsBelow, numbers_of}
use Rattle.net_builder.proofs.Parts.{shows, with_cell_is, grown_by}
use Rattle.net_builder.proofs.builder.Builder.cell.Goals as goal

pub returns-clause-computes : goal.returns-clause-computes
returns-clause-computes c =
    let v : Building = record { cells = c.self.inside.cells.items; joints = c.self.inside.joints.items; registers = c.self.inside.registers.items; declared = c.self.inside.declared.items; signals = c.self.inside.signals.items; starts = numbers_of c.self.inside.starts.items; nets = c.self.inside.nets } in
    λ nets runs. shows v _ c.args.kind c.args.is_signed c.args.inputs c.args.width c.args.span c.in_ok-shown.shown nets c.in_ok-shown.ensures (with_cell_is v c.args.kind c.args.is_signed c.args.inputs c.in_ok-ports.ports c.in_ok-y.y c.args.width (c.self.inside.nets + c.from.result) c.args.span c.push.new.items.items c.in_ok-ports.ensures c.in_ok-push.ensures.ok c.in_ok-y.ensures (ap (λ n. c.self.inside.nets + n) c.from.ensures)) runs

pub returns-clause-grows : goal.returns-clause-grows
returns-clause-grows c =
    let v : Building = record { cells = c.self.inside.cells.items; joints = c.self.inside.joints.items; registers = c.self.inside.registers.items; declared = c.self.inside.declared.items; signals = c.self.inside.signals.items; starts = numbers_of c.self.inside.starts.items; nets = c.self.inside.nets } in
    λ below.
    let here : PortsBelow c.self.inside.nets c.args.inputs = rw (← c.self.view_is) at below in
    rw (← c.self.view_is) (grown_by v _ c.args.kind c.args.is_signed c.args.inputs c.args.width c.args.span (with_cell_is v c.args.kind c.args.is_signed c.args.inputs c.in_ok-ports.ports c.in_ok-y.y c.args.width (c.self.inside.nets + c.from.result) c.args.span c.push.new.items.items c.in_ok-ports.ensures c.in_ok-push.ensures.ok c.in_ok-y.ensures (ap (λ n. c.self.inside.nets + n) c.from.ensures)) c.requires.shape c.requires.wide c.requires.some c.requires.narrow here)
