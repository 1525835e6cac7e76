use Rattle.tb_checks.proofs.Common.{◌≡◌, false, rules, names_of, is_print, is_dump}
use Rattle.tb_checks.proofs.Tasked.{other_first}
use Rattle.tb_checks.proofs.tasks.task_fault.Goals as goal

pub returns-else-is_dump : goal.returns-else-is_dump
returns-else-is_dump c =
    let print : is_print c.args.name.now.name ≡ false = search rules in
    let dump : is_dump c.args.name.now.name ≡ false = search rules in
    other_first (names_of c.args.scope.now) c.args.name.now c.args.arguments.now c.earlier.result print dump (c.earlier.ensures.joined _ _ c.name_fault-found.ensures c.arguments_fault.ensures)
