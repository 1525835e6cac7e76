use Rattle.tb_choices.proofs.Common.{◌≡◌, drop, map, names_of, store_of, choice_labels, Matching, first_match}
use Rattle.tb_choices.proofs.selection.first_match.Given as goal

abbrev pub invariant-loop-number : goal.invariant-loop-number
invariant-loop-number l =
    let m : Matching = record { names = names_of l.moment.scope.now; phase = l.moment.phase; kind = l.kind; store = store_of l.moment.store.now; size = l.size } in
    first_match m l.value l.number (map choice_labels (drop l.number l.items)) l.words ≡ first_match m l.value 0 (map choice_labels l.items) l.fn.words
