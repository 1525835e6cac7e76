use Rattle.lrat_checker.proofs.Common.{◌≡◌, ◌+◌, ◌-◌, ◌++◌, ◌∷◌, [], ℕ, Bool, List, Option, None, length, take, drop, replicate, ap, ◌∙◌, arith, length-replicate, length-drop, length_push}
use Rattle.lrat_checker.proofs.Common.{drop-append-le, GoesOnBy, Log}
use Rattle.lrat_checker.proofs.Exact.{only_memory}
use Rattle.lrat_checker.proofs.Logs.{over-push, log-push}
use Rattle.lrat_checker.proofs.checker.Checker.add.Goals as goal

-- all variables are open again
cleared : (before judged now : List (Option Bool)) (variables : ℕ) → before ≡ replicate (variables + 1) None → length judged ≡ length before → now ≡ replicate (length judged) None → now ≡ replicate (variables + 1) None
cleared before judged now variables open_ len clear =
    clear ∙ ap (λ (n : ℕ). let none : Option Bool = None in replicate n none) (len ∙ ap (length {A = Option Bool}) open_ ∙ length-replicate (variables + 1) None)

pub judge-judged-requires-clause-over : goal.judge-judged-requires-clause-over
judge-judged-requires-clause-over c =
    let count : length c.self.inside.trail ≡ c.self.inside.variables + 1 = ap (length {A = Option Bool}) c.self.invariant.open_ ∙ length-replicate (c.self.inside.variables + 1) None in
    let greatest : c.self.inside.variables ≡ length c.self.inside.trail - 1 = omega (arith, count) in
    rw greatest at c.self.invariant.over

pub invariant_of-self-in-Ok : goal.invariant_of-self-in-Ok
invariant_of-self-in-Ok c =
    let on : GoesOnBy _ c.self.inside.free _ c.args.lemma.now c.args.hints.now = c.in-Ok.ensures.ok in
    rw c.in_ok-push-in-Ok.ensures.ok (record {
      split = let more : length (c.self.inside.store ++ c.args.lemma.now ∷ []) ≡ length c.self.inside.store + 1 = length_push c.self.inside.store c.args.lemma.now in omega (arith, more, c.self.invariant.split);
      open_ = cleared c.self.inside.trail c.judge-judged.new.trail c.clear.new.self c.self.inside.variables c.self.invariant.open_ c.judge-judged.ensures.len c.clear.ensures;
      over = over-push c.self.inside.variables c.self.inside.free c.self.inside.store c.args.lemma.now c.self.invariant.over c.self.invariant.free on.over_free;
      free = c.self.invariant.free;
      legal = log-push c.self.inside.clauses c.self.inside.free c.self.inside.store c.args.lemma.now c.args.hints.now c.self.invariant.split c.self.invariant.legal on;
      guarded = let count : length (drop c.self.inside.clauses c.self.inside.store) ≡ c.len.result - c.self.inside.clauses = omega (arith, length-drop c.self.inside.clauses c.self.inside.store) in
          rw (drop-append-le c.self.inside.clauses c.self.inside.store (c.args.lemma.now ∷ []) c.self.invariant.split) (c.in_ok-add-in-Ok.ensures.ok (drop c.self.inside.clauses c.self.inside.store) count c.judge-judged.ensures.guarded);
    })

pub invariant_of-self-in_err-push-in-Ok : goal.invariant_of-self-in_err-push-in-Ok
invariant_of-self-in_err-push-in-Ok c = rw c.in_err-push-in-Ok.ensures.err (record {
  split = c.self.invariant.split;
  open_ = cleared c.self.inside.trail c.judge-judged.new.trail c.clear.new.self c.self.inside.variables c.self.invariant.open_ c.judge-judged.ensures.len c.clear.ensures;
  over = c.self.invariant.over;
  free = c.self.invariant.free;
  legal = c.self.invariant.legal;
  guarded = c.add.ensures.kept (drop c.self.inside.clauses c.self.inside.store) c.judge-judged.ensures.guarded;
})

pub returns-in-Err-clause-exact : goal.returns-in-Err-clause-exact
returns-in-Err-clause-exact c = λ on.
    let log : Log = record { clauses = take c.self.inside.clauses c.self.inside.store; variables = length c.self.inside.trail - 1; free = c.self.inside.free; lemmas = drop c.self.inside.clauses c.self.inside.store } in
    only_memory log c.args.lemma.now c.args.hints.now c.in-Err.refusal (rw (← c.self.view_is) at on) c.in-Err.ensures.err
