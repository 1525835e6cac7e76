use Rattle.std.proofs.Common.{◌≡◌, drop}
use Rattle.vlog_meaning.specs.Scopes.{names_of, store_of}
use Rattle.tb_tasks.specs.Tasks.{Setting, show_rest}
use Rattle.tb_tasks.proofs.argument.show_rest.Given as goal

abbrev pub invariant-loop-argument : goal.invariant-loop-argument
invariant-loop-argument l =
    let s : Setting = record { names = names_of l.moment.scope.now; phase = l.moment.phase; store = store_of l.moment.store.now } in
    show_rest s (drop l.argument-index l.arguments) (l.text.items, l.words) ≡ show_rest s l.arguments (l.fn.text.items, l.fn.words)
