use Rattle.equiv_test.proofs.Common.{◌≡◌, Option, Some, refl, sym, ap, subst, ◌∙◌, MatchOption, ⊤, Plan, Hunt, IsRunning, Change, Job, IsPairSearch, Shows, Tells}
use Rattle.equiv_test.proofs.Telling.{some-is, still-pair, tells-seen}
use Rattle.equiv_test.proofs.Going.{going-some, taken-running, still-job, still-fewer, goes-on, goes-long}
use Rattle.equiv_test.proofs.job.EqJob.turn.Goals as goal

pub unwrap-search-requires : goal.unwrap-search-requires
unwrap-search-requires c =
    let is : c.take.result ≡ c.args.self.now.search = c.take.ensures.value ∙ ap (λ (j : Job). j.search) c.self.view_is in
    going-some c.take.result (subst (λ (o : Option Hunt). MatchOption o ⊥ IsRunning) (sym is) c.requires.going)

pub take_turn-requires-clause-running : goal.take_turn-requires-clause-running
take_turn-requires-clause-running c =
    let is : c.take.result ≡ c.args.self.now.search = c.take.ensures.value ∙ ap (λ (j : Job). j.search) c.self.view_is in
    taken-running c.take.result c.args.self.now.search c.unwrap-search.result c.unwrap-search.ensures is c.requires.going

pub take_turn-requires-clause-pair : goal.take_turn-requires-clause-pair
take_turn-requires-clause-pair c =
    some-is (IsPairSearch c.self.inside.original.plan c.self.inside.mutant.plan c.self.inside.limit) ⊤ c.self.inside.search c.unwrap-search.result (sym c.take.ensures.value ∙ c.unwrap-search.ensures) c.self.invariant.search

pub invariant_of-self-in-Unfinished : goal.invariant_of-self-in-Unfinished
invariant_of-self-in-Unfinished c =
    let was : Job = record { original = c.self.inside.original.plan; mutant = c.self.inside.mutant.plan; limit = c.self.inside.limit; search = c.self.inside.search } in
    let pair : IsPairSearch was.original was.mutant was.limit c.unwrap-search.result = some-is (IsPairSearch was.original was.mutant was.limit) ⊤ c.self.inside.search c.unwrap-search.result (sym c.take.ensures.value ∙ c.unwrap-search.ensures) c.self.invariant.search in
    still-job was c.self.inside.seen c.take-2.new.self c.take_turn.new.original.plan c.take_turn.new.mutant.plan (Some c.in-Unfinished.search) c.take_turn.ensures.original c.take_turn.ensures.mutant c.self.invariant
    (still-pair was.original was.mutant was.limit c.args.conflicts c.unwrap-search.result c.in-Unfinished.search pair c.in-Unfinished.ensures.turns.0.1) c.take-2.ensures.after

pub invariant_of-self-in-Finished : goal.invariant_of-self-in-Finished
invariant_of-self-in-Finished c =
    let was : Job = record { original = c.self.inside.original.plan; mutant = c.self.inside.mutant.plan; limit = c.self.inside.limit; search = c.self.inside.search } in
    still-job was c.self.inside.seen c.take-2.new.self c.take_turn.new.original.plan c.take_turn.new.mutant.plan c.take.new.self c.take_turn.ensures.original c.take_turn.ensures.mutant c.self.invariant
    (subst (λ (o : Option Hunt). MatchOption o ⊤ (IsPairSearch was.original was.mutant was.limit)) (sym c.take.ensures.after) tt) c.take-2.ensures.after

pub invariant_of-self-in-OutOfMemory : goal.invariant_of-self-in-OutOfMemory
invariant_of-self-in-OutOfMemory c =
    let was : Job = record { original = c.self.inside.original.plan; mutant = c.self.inside.mutant.plan; limit = c.self.inside.limit; search = c.self.inside.search } in
    let pair : IsPairSearch was.original was.mutant was.limit c.unwrap-search.result = some-is (IsPairSearch was.original was.mutant was.limit) ⊤ c.self.inside.search c.unwrap-search.result (sym c.take.ensures.value ∙ c.unwrap-search.ensures) c.self.invariant.search in
    still-job was c.self.inside.seen c.take-2.new.self c.take_turn.new.original.plan c.take_turn.new.mutant.plan (Some c.in-OutOfMemory.search) c.take_turn.ensures.original c.take_turn.ensures.mutant c.self.invariant
    (still-pair was.original was.mutant was.limit c.args.conflicts c.unwrap-search.result c.in-OutOfMemory.search pair c.in-OutOfMemory.ensures.turns.1) c.take-2.ensures.after

pub invariant_of-self : goal.invariant_of-self
invariant_of-self c =
    let was : Job = record { original = c.self.inside.original.plan; mutant = c.self.inside.mutant.plan; limit = c.self.inside.limit; search = c.self.inside.search } in
    still-job was c.self.inside.seen c.take-2.new.self was.original was.mutant c.take.new.self refl refl c.self.invariant
    (subst (λ (o : Option Hunt). MatchOption o ⊤ (IsPairSearch was.original was.mutant was.limit)) (sym c.take.ensures.after) tt) c.take-2.ensures.after

pub returns-in-Some-clause-same : goal.returns-in-Some-clause-same
returns-in-Some-clause-same c = record {
  original = ap (λ (j : Job). j.original) c.self.view_is;
  mutant = ap (λ (j : Job). j.mutant) c.self.view_is;
  limit = ap (λ (j : Job). j.limit) c.self.view_is;
}

pub returns-in-Some-clause-told : goal.returns-in-Some-clause-told
returns-in-Some-clause-told c =
    let a : Plan = c.self.inside.original.plan in
    let b : Plan = c.self.inside.mutant.plan in
    let shows : Shows a.raw b.raw c.in-Some.difference = some-is (Shows a.raw b.raw) ⊤ c.self.inside.seen c.in-Some.difference (sym c.take-2.ensures.value ∙ c.in-Some.is) c.self.invariant.seen in
    subst (λ (j : Job). Tells j.original j.mutant j.limit (Change c.in-Some.difference)) c.self.view_is (tells-seen a b c.self.inside.limit c.in-Some.difference shows)

pub returns-in-Unfinished-clause-same : goal.returns-in-Unfinished-clause-same
returns-in-Unfinished-clause-same c = record {
  original = c.take_turn.ensures.original ∙ ap (λ (j : Job). j.original) c.self.view_is;
  mutant = c.take_turn.ensures.mutant ∙ ap (λ (j : Job). j.mutant) c.self.view_is;
  limit = ap (λ (j : Job). j.limit) c.self.view_is;
}

pub returns-in-Unfinished-clause-none : goal.returns-in-Unfinished-clause-none
returns-in-Unfinished-clause-none c =
    let now : Job = record { original = c.take_turn.new.original.plan; mutant = c.take_turn.new.mutant.plan; limit = c.self.inside.limit; search = Some c.in-Unfinished.search } in
    let was : c.args.self.now.search ≡ Some c.unwrap-search.result = sym (c.take.ensures.value ∙ ap (λ (j : Job). j.search) c.self.view_is) ∙ c.unwrap-search.ensures in (
      goes-on c.args.self.now now c.unwrap-search.result c.in-Unfinished.search c.args.conflicts was refl c.in-Unfinished.ensures.turns.0,
      goes-long c.args.self.now now c.unwrap-search.result c.in-Unfinished.search c.args.conflicts was refl c.in-Unfinished.ensures.turns.0 c.in-Unfinished.ensures.turns.1,
    )

pub returns-in-Unfinished-clause-fewer : goal.returns-in-Unfinished-clause-fewer
returns-in-Unfinished-clause-fewer c =
    let was : Job = record { original = c.self.inside.original.plan; mutant = c.self.inside.mutant.plan; limit = c.self.inside.limit; search = c.self.inside.search } in
    let pair : IsPairSearch was.original was.mutant was.limit c.unwrap-search.result = some-is (IsPairSearch was.original was.mutant was.limit) ⊤ c.self.inside.search c.unwrap-search.result (sym c.take.ensures.value ∙ c.unwrap-search.ensures) c.self.invariant.search in
    let still : IsPairSearch was.original was.mutant was.limit c.in-Unfinished.search = still-pair was.original was.mutant was.limit c.args.conflicts c.unwrap-search.result c.in-Unfinished.search pair c.in-Unfinished.ensures.turns.0.1 in
    still-fewer was.original was.mutant was.limit c.args.self.now.limit c.in-Unfinished.search still (ap (λ (j : Job). j.limit) c.self.view_is) c.in-Unfinished.ensures.turns.0.0

pub returns-in-Finished-clause-same : goal.returns-in-Finished-clause-same
returns-in-Finished-clause-same c = record {
  original = c.take_turn.ensures.original ∙ ap (λ (j : Job). j.original) c.self.view_is;
  mutant = c.take_turn.ensures.mutant ∙ ap (λ (j : Job). j.mutant) c.self.view_is;
  limit = ap (λ (j : Job). j.limit) c.self.view_is;
}

pub returns-in-Finished-clause-told : goal.returns-in-Finished-clause-told
returns-in-Finished-clause-told c = subst (λ (j : Job). Tells j.original j.mutant j.limit c.in-Finished.verdict) c.self.view_is c.in-Finished.ensures.turns

pub returns-in-OutOfMemory-clause-same : goal.returns-in-OutOfMemory-clause-same
returns-in-OutOfMemory-clause-same c = record {
  original = c.take_turn.ensures.original ∙ ap (λ (j : Job). j.original) c.self.view_is;
  mutant = c.take_turn.ensures.mutant ∙ ap (λ (j : Job). j.mutant) c.self.view_is;
  limit = ap (λ (j : Job). j.limit) c.self.view_is;
}

pub returns-in-OutOfMemory-clause-err : goal.returns-in-OutOfMemory-clause-err
returns-in-OutOfMemory-clause-err c =
    let now : Job = record { original = c.take_turn.new.original.plan; mutant = c.take_turn.new.mutant.plan; limit = c.self.inside.limit; search = Some c.in-OutOfMemory.search } in
    let was : c.args.self.now.search ≡ Some c.unwrap-search.result = sym (c.take.ensures.value ∙ ap (λ (j : Job). j.search) c.self.view_is) ∙ c.unwrap-search.ensures in
    goes-on c.args.self.now now c.unwrap-search.result c.in-OutOfMemory.search c.args.conflicts was refl c.in-OutOfMemory.ensures.turns
