use Rattle.cell_scopes.proofs.Common.{◌∙◌, ap, flat_of, empty, declared}
use Rattle.cell_scopes.proofs.Counted.{declared_cells, declared_ready, declared_widths}
use Rattle.cell_scopes.proofs.cells.design_flags.Goals as goal

pub all_flags-requires-clause-stands : goal.all_flags-requires-clause-stands
all_flags-requires-clause-stands c =
    declared_ready (flat_of c.args.flat.now) c.in-Ok.builder c.requires (c.in-Ok.ensures.declared ∙ ap (λ ss. declared ss empty) c.signals.ensures)

pub all_flags-requires-clause-serves : goal.all_flags-requires-clause-serves
all_flags-requires-clause-serves c = c.in_ok-desk.ensures (flat_of c.args.flat.now).places

pub all_flags-requires-clause-widths : goal.all_flags-requires-clause-widths
all_flags-requires-clause-widths c =
    declared_widths (flat_of c.args.flat.now) c.in-Ok.builder (c.in-Ok.ensures.declared ∙ ap (λ ss. declared ss empty) c.signals.ensures)

pub all_flags-requires-clause-none : goal.all_flags-requires-clause-none
all_flags-requires-clause-none c =
    declared_cells (flat_of c.args.flat.now) c.in-Ok.builder (c.in-Ok.ensures.declared ∙ ap (λ ss. declared ss empty) c.signals.ensures)
