use Rattle.cell_scopes.proofs.Common.{refl, flat_of, AreSkipped, cell_scopes}
use Rattle.std.proofs.lemmas.Result.{IfOk-weaker}
use Rattle.cell_scopes.proofs.Counted.{flat_sound}
use Rattle.cell_scopes.proofs.cells.skipped_cells.Goals as goal

pub design_flags-requires : goal.design_flags-requires
design_flags-requires c = flat_sound c.args.modules.now c.args.top.now (flat_of c.in-Ok.flat) c.in-Ok.ensures.flattens

pub returns-in-Ok : goal.returns-in-Ok
returns-in-Ok c =
    IfOk-weaker c.design_flags.result _ (λ flags. AreSkipped c.args.modules.now c.args.top.now c.args.instances.now flags.items)
    (λ flags are. record { scopes = cell_scopes (flat_of c.in-Ok.flat); has_scopes = record { flat = flat_of c.in-Ok.flat; flattens = c.in-Ok.ensures.flattens; are = refl }; are = are }) c.design_flags.ensures
