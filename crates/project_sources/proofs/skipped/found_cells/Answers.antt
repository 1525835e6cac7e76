use Rattle.std.proofs.Common.{List, subst}
use Rattle.std.proofs.lemmas.Result.{IfOk-weaker}
use Rattle.vlog_syntax.specs.declared.module.Module.{Module}
use Rattle.cell_scopes.specs.Scopes.{AreSkipped}
use Rattle.project_sources.specs.Skipped.{HasSkipped}
use Rattle.project_sources.proofs.skipped.found_cells.Goals as goal

pub returns-in-Ok : goal.returns-in-Ok
returns-in-Ok c =
    IfOk-weaker c.skipped_cells.result
    (λ flags. AreSkipped c.deref.result.now c.args.top.now c.args.instances.now flags.items)
    (λ flags. HasSkipped c.args.files.now c.args.top.now c.args.instances.now flags.items)
    (λ flags has. record {
      modules = c.in-Ok.modules.items;
      read = c.in-Ok.ensures.modules;
      skipped = subst (λ (ms : List Module). AreSkipped ms c.args.top.now c.args.instances.now flags.items) c.deref.ensures.value has;
    })
    c.skipped_cells.ensures
