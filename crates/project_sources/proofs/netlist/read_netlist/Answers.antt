use Rattle.std.proofs.lemmas.Result.{err_from_is_err_and}
use Rattle.project_sources.proofs.OneAnswer.{unread_unmade}
use Rattle.project_sources.proofs.netlist.read_netlist.Goals as goal

pub returns-in_err-modules-clause-refused : goal.returns-in_err-modules-clause-refused
returns-in_err-modules-clause-refused c =
    let p = err_from_is_err_and c.from_residual.result c.from_residual.ensures.1 in
    rw (p.1, p.2) (unread_unmade c.args.files.now c.args.top.now _ c.in_err-modules.ensures.refused)
