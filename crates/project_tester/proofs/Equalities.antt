-- An equality at its start, and after a turn.
use Rattle.project_tester.proofs.Common.{◌≡◌, ◌∙◌, ◌<◌, ◌≤◌, ◌+◌, ℕ, length, slice_get, Option, None, Some, Result, Ok, Err, refl, sym, ap, subst, MatchResult, Plan, IsSound, MutantsAreNetlists}
use Rattle.project_tester.proofs.Common.{Comparing, IsGoing, IsNew, IsSameTest, lemmas_of, Prepared, Trial, Equality, IsBrokenAt, Asked, Ended, lemma_turns, most_by, turns_in, word_in, HasBegun}
use Rattle.project_tester.proofs.Common.{IsComparing, ComesTo, ComparesTo, GoesOn}
use Rattle.project_tester.specs.declared.job.Work.TheVariants as work
use Rattle.project_tester.proofs.Ending.{equality_ended}
use Rattle.project_tester.proofs.Lefts.{all_lemmas, fewer_lemmas}

-- ---- its start

pub new_comparing : (c : Prepared) (asked : Asked) (original mutant : Plan) (job : Comparing) → slice_get c.trials asked.test ≡ Some Equality → original.raw ≡ c.netlist → IsSound original → IsSound mutant → IsBrokenAt c asked.mutation mutant.raw → IsNew original mutant asked.bound job → IsComparing c asked job
new_comparing c asked original mutant job test is sound mutant_sound broken new = record {
  test = test;
  original = ap (λ (p : Plan). p.raw) new.original ∙ is;
  sound = subst IsSound (sym new.original) sound;
  mutant_sound = subst IsSound (sym new.mutant) mutant_sound;
  broken = subst (λ (p : Plan). IsBrokenAt c asked.mutation p.raw) (sym new.mutant) broken;
  limit = new.limit;
  going = new.going;
}

pub new_few : (original mutant : Plan) (bound : ℕ) (job : Comparing) → IsNew original mutant bound job → lemma_turns job ≤ turns_in bound
new_few original mutant bound job new = all_lemmas job.limit bound (length (lemmas_of job)) new.limit

pub equality_begun : (c : Prepared) (asked : Asked) (job : Comparing) → IsComparing c asked job → lemma_turns job ≤ turns_in asked.bound → HasBegun c asked (work.Equality job)
equality_begun c asked job is few = record { is = is; none = refl; few = subst (λ (o : Option Trial). lemma_turns job ≤ most_by c o asked.bound) (sym is.test) few }

-- ---- a turn

pub fewer_turns : (old new : Comparing) → IsSameTest old new → length (lemmas_of new) ≡ length (lemmas_of old) + 256 → length (lemmas_of new) < old.limit → lemma_turns new < lemma_turns old
fewer_turns old new same added more = fewer_lemmas old.limit new.limit (length (lemmas_of old)) (length (lemmas_of new)) same.limit added more

pub still_comparing : (c : Prepared) (asked : Asked) (old new : Comparing) → IsComparing c asked old → IsSameTest old new → IsGoing new → IsComparing c asked new
still_comparing c asked old new is same going = record {
  test = is.test;
  original = ap (λ (p : Plan). p.raw) same.original ∙ is.original;
  sound = subst IsSound (sym same.original) is.sound;
  mutant_sound = subst IsSound (sym same.mutant) is.mutant_sound;
  broken = subst (λ (p : Plan). IsBrokenAt c asked.mutation p.raw) (sym same.mutant) is.broken;
  limit = same.limit ∙ is.limit;
  going = going;
}

module _ {E : Type 0} (old new : Comparing) (same : IsSameTest old new) where
  pub compared_turned : (r : Result (Option Ended) E) → MatchResult r (ComparesTo old new) (λ _. IsGoing new) → MatchResult r (GoesOn (work.Equality old) (work.Equality new)) (λ _. word_in (work.Equality new) ≡ None)
  compared_turned (Ok None) turned = (refl, turned.1)
  compared_turned (Ok (Some ended)) turned = tt
  compared_turned (Err error) turned = refl

  pub compared_kept : MutantsAreNetlists → (c : Prepared) (asked : Asked) → IsComparing c asked old → (r : Result (Option Ended) E) → MatchResult r (ComparesTo old new) (λ _. IsGoing new) → MatchResult r (ComesTo c asked (work.Equality new)) (λ _. IsComparing c asked new)
  compared_kept laws c asked is (Ok None) turned = still_comparing c asked old new is same turned.0
  compared_kept laws c asked is (Ok (Some ended)) turned = equality_ended laws c asked old is turned.0 ended turned.1 turned.2
  compared_kept laws c asked is (Err error) turned = still_comparing c asked old new is same turned
