use Rattle.tb_choices.proofs.Common.{◌≡◌, drop, names_of, store_of, Matching, one_matches}
use Rattle.tb_choices.proofs.matching.one_matches.Given as goal

abbrev pub invariant-loop-label : goal.invariant-loop-label
invariant-loop-label l =
    let m : Matching = record { names = names_of l.moment.scope.now; phase = l.moment.phase; kind = l.kind; store = store_of l.moment.store.now; size = l.size } in
    one_matches m l.value (drop l.label-index l.labels) l.words ≡ one_matches m l.value l.labels l.fn.words
