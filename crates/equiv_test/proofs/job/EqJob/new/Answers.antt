use Rattle.equiv_test.proofs.Common.{◌≡◌, List, [], ℤ, refl, sym, ap, subst, ◌∙◌, Plan, IsSound, Hunt, TellDifferences}
use Rattle.equiv_test.proofs.Going.{new-job, still-seen, alike-copies, few-copy, memory-refused}
use Rattle.equiv_test.proofs.job.EqJob.new.Goals as goal

pub seen_difference-requires-clause-original : goal.seen_difference-requires-clause-original
seen_difference-requires-clause-original c = subst IsSound (sym c.in_ok-first.ensures) c.raw-parts.ensures.sound

pub seen_difference-requires-clause-mutant : goal.seen_difference-requires-clause-mutant
seen_difference-requires-clause-mutant c = subst IsSound (sym c.in_ok-second.ensures) c.raw-others.ensures.sound

pub seen_difference-requires-clause-alike : goal.seen_difference-requires-clause-alike
seen_difference-requires-clause-alike c = alike-copies c.args.original.now c.args.mutant.now _ _ c.in_ok-first.ensures c.in_ok-second.ensures c.in_ok-miter.ensures.accepted

pub seen_difference-requires-clause-few : goal.seen_difference-requires-clause-few
seen_difference-requires-clause-few c = few-copy c.args.original.now c.args.mutant.now _ c.in_ok-first.ensures c.in_ok-miter.ensures.accepted

pub invariant_of-result : goal.invariant_of-result
invariant_of-result c =
    let a : Plan = c.args.original.now in
    let b : Plan = c.args.mutant.now in
    let is : c.in_ok-search.search ≡ record { log = record { clauses = c.in_ok-miter.miter.store; variables = c.in_ok-miter.miter.variables; free = c.in_ok-miter.miter.free; lemmas = [] }; limit = c.args.limit } = c.in_ok-search.ensures.new in
    new-job a b c.seen_difference.new.original.plan c.seen_difference.new.mutant.plan c.args.limit c.in_ok-search.search c.in_ok-seen.seen
    (c.seen_difference.ensures.original ∙ c.in_ok-first.ensures) (c.seen_difference.ensures.mutant ∙ c.in_ok-second.ensures)
    c.raw-parts.ensures.sound c.raw-others.ensures.sound c.in_ok-miter.ensures.accepted
    (subst (λ (l : List (List ℤ)). TellDifferences a.raw b.raw l) c.in_ok-miter.ensures.clauses c.in_ok-miter.ensures.tell)
    (record {
      clauses = ap (λ (h : Hunt). h.log.clauses) is ∙ c.in_ok-miter.ensures.clauses;
      free = ap (λ (h : Hunt). h.log.free) is ∙ c.in_ok-miter.ensures.free;
      limit = ap (λ (h : Hunt). h.limit) is;
    })
    (still-seen a b c.in_ok-first.first.plan c.in_ok-second.second.plan c.in_ok-seen.seen c.in_ok-first.ensures c.in_ok-second.ensures c.in_ok-seen.ensures.seen)

pub returns-clause-new : goal.returns-clause-new
returns-clause-new c = record {
  original = c.seen_difference.ensures.original ∙ c.in_ok-first.ensures;
  mutant = c.seen_difference.ensures.mutant ∙ c.in_ok-second.ensures;
  limit = refl;
  lemmas = ap (λ (h : Hunt). h.log.lemmas) c.in_ok-search.ensures.new;
  going = c.in_ok-search.ensures.running;
}

pub returns-in_err-search-clause-refused : goal.returns-in_err-search-clause-refused
returns-in_err-search-clause-refused c = memory-refused c.args.original.now c.args.mutant.now c.from_residual-in_err-search.result c.from_residual-in_err-search.ensures.1
