use Rattle.lrat_checker.proofs.Common.{ℤ, List, take, drop, ◌-◌, length, sym, subst, take-append-drop, Known, none, with_false, IsNew, Log, IsRefused, IsFit, IsFollowing, known_of}
use Rattle.lrat_checker.proofs.Judging.{new-from_unfalsified, contained-from_first, ok-weaker, err-weaker, goes-on, refused-following}
use Rattle.lrat_checker.proofs.judge.judge.Goals as goal

pub returns-in-Some-clause-err : goal.returns-in-Some-clause-err
returns-in-Some-clause-err c =
    let placed = c.in_ok-place_lemma.ensures.ok in
    (placed.0, contained-from_first c.args.free c.args.clauses c.in-Some.n c.args.store.now c.args.lemma.now (known_of c.place_lemma.new.trail) c.requires.split placed.0 placed.1 c.in-Some.ensures.found)

pub returns-clause-ok : goal.returns-clause-ok
returns-clause-ok c =
    let placed = c.in_ok-place_lemma.ensures.ok in
    let new : IsNew (drop c.args.clauses c.args.store.now) c.args.lemma.now = new-from_unfalsified c.args.free (drop c.args.clauses c.args.store.now) c.args.lemma.now (known_of c.place_lemma.new.trail) placed.0 placed.1 c.in_default.ensures.none in
    ok-weaker _ _ c.follow.result (goes-on c.args.free c.args.clauses c.args.store.now c.args.lemma.now c.args.hints.now (known_of c.place_lemma.new.trail) placed.0 new placed.1) c.follow.ensures.ok

pub returns-clause-err : goal.returns-clause-err
returns-clause-err c =
    let placed = c.in_ok-place_lemma.ensures.ok in
    let new : IsNew (drop c.args.clauses c.args.store.now) c.args.lemma.now = new-from_unfalsified c.args.free (drop c.args.clauses c.args.store.now) c.args.lemma.now (known_of c.place_lemma.new.trail) placed.0 placed.1 c.in_default.ensures.none in
    let log : Log = record { clauses = take c.args.clauses c.args.store.now; variables = length c.args.trail.now - 1; free = c.args.free; lemmas = drop c.args.clauses c.args.store.now } in
    let fit : IsFit log c.args.lemma.now = record { over_free = placed.0; new = new } in
    err-weaker (IsFollowing c.args.store.now (known_of c.place_lemma.new.trail) c.args.hints.now) (IsRefused log c.args.lemma.now c.args.hints.now) c.follow.result
    (λ e why.
    let P : Known → Type 0 = λ k. IsFollowing c.args.store.now k c.args.hints.now e in
    let Q : List (List ℤ) → Type 0 = λ clauses. IsFollowing clauses (with_false none c.args.lemma.now) c.args.hints.now e in
    refused-following log c.args.lemma.now c.args.hints.now e fit (subst Q (sym (take-append-drop c.args.clauses c.args.store.now)) (subst P placed.1 why)))
    c.follow.ensures.err
