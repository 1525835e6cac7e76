use Rattle.std.proofs.Common.{◌≡◌, ◌≤◌, drop, length}
use Rattle.vlog_meaning.specs.Scopes.{names_of, store_of}
use Rattle.tb_tasks.specs.Tasks.{Setting, show}
use Rattle.tb_tasks.proofs.format.show_pieces.Given as goal

abbrev pub invariant-loop-piece : goal.invariant-loop-piece
invariant-loop-piece l =
    let s : Setting = record { names = names_of l.moment.scope.now; phase = l.moment.phase; store = store_of l.moment.store.now } in
    (l.taken ≤ length l.arguments) × (show s (drop l.piece-index l.pieces) (drop l.taken l.arguments) (l.text.items, l.words) ≡ show s l.pieces l.arguments (l.fn.text.items, l.fn.words))
