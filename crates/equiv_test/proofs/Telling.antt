-- What a verdict tells, and how a search goes on.
use Rattle.equiv_test.proofs.Common.{◌≡◌, ℕ, ◌<◌, ◌^◌, List, Option, Some, None, refl, sym, ap, subst, ◌∙◌, ℤ, Result, Ok, Err, IsSome, MatchOption, IfOk, slice_get, Values, IsModel, RawNetlist, Plan}
use Rattle.equiv_test.proofs.Common.{free_bits, Log, IsRefutation, IsAttempt, Hunt, IsContinued, input_numbers, register_numbers, pair_clauses, TellDifferences, Differ, Difference, NoChange, Change}
use Rattle.equiv_test.proofs.Common.{Unknown, DifferAt, Shows, IsOfPair, Tells, IsPairSearch, HasSeen}
use Rattle.step_trials.specs.Equal.{design, OneStepEqual}
use Rattle.equiv_test.specs.declared.verdict.DiffPlace.{DiffPlace}
use Rattle.equiv_test.specs.declared.verdict.DiffPlace.TheVariants.{Output, Register}

-- netlists that differ somewhere are not equal in one step
pub not-equal : (a b : RawNetlist) (inputs state : List ℕ) (place : DiffPlace) → DifferAt a b inputs state place → ¬ OneStepEqual (design a) (design b)
not-equal a b inputs state (Output k) differ equal =
    let alike = equal inputs state differ.first differ.second differ.in_first differ.in_second in
    differ.is_first.here (ap (λ (l : List ℕ). slice_get l k) alike.outputs)
not-equal a b inputs state (Register k) differ equal =
    let alike = equal inputs state differ.first differ.second differ.in_first differ.in_second in
    differ.is_first.1.here (ap (λ (l : List ℕ). slice_get l k) alike.next)

pub some-is : {X : Type 0} (P : X → Type 0) (N : Type 0) (found : Option X) (x : X) → found ≡ Some x → MatchOption found N P → P x
some-is {X = X} P N found x is told = subst (λ (o : Option X). MatchOption o N P) is told

-- a difference was found, and it shows what it says
pub is-found : (a b : RawNetlist) (inputs state : List ℕ) (found : Option Difference) → Differ a b inputs state → MatchOption found (¬ Differ a b inputs state) (Shows a b) → IsSome found
is-found a b inputs state None differ told = absurd (told differ)
is-found a b inputs state (Some d) differ told = refl

pub tells-seen : (a b : Plan) (limit : ℕ) (d : Difference) → Shows a.raw b.raw d → Tells a b limit (Change d)
tells-seen a b limit d shows = (shows, not-equal a.raw b.raw _ _ d.place shows.differ)

pub tells-change : (a b : Plan) (limit : ℕ) (inputs state : List ℕ) (found : Option Difference) (d : Difference) → found ≡ Some d → MatchOption found (¬ Differ a.raw b.raw inputs state) (Shows a.raw b.raw) → Tells a b limit (Change d)
tells-change a b limit inputs state found d is told = tells-seen a b limit d (some-is (Shows a.raw b.raw) (¬ Differ a.raw b.raw inputs state) found d is told)

-- what simulation found was seen
pub found-seen : {E : Type 0} (a b : RawNetlist) (N : Type 0) (found : Result (Option Difference) E) → IfOk found (λ o. MatchOption o N (Shows a b)) → IfOk found (HasSeen a b)
found-seen a b N (Ok (Some d)) shows = shows
found-seen a b N (Ok None) none = tt
found-seen a b N (Err e) told = tt

-- a model of the search's clauses is a difference
pub model-differs : (a b : Plan) (clauses : List (List ℤ)) (values : Values) → TellDifferences a.raw b.raw (pair_clauses a b) → clauses ≡ pair_clauses a b → IsModel values clauses → Differ a.raw b.raw (input_numbers a.raw values) (register_numbers a.raw values)
model-differs a b clauses values tell is model = tell.models values (subst (λ (cs : List (List ℤ)). IsModel values cs) is model)

-- What is true of a search of the pair's clauses after it went on.
module _ (a b : Plan) (limit most : ℕ) (before after : Hunt) (pair : IsPairSearch a b limit before) (goes : IsContinued before after most) where
  pub clauses-are : after.log.clauses ≡ pair_clauses a b
  clauses-are = goes.clauses ∙ pair.clauses

  pub free-are : after.log.free ≡ free_bits a.raw
  free-are = goes.free ∙ pair.free

  pub still-pair : IsPairSearch a b limit after
  still-pair = record { clauses = clauses-are; free = free-are; limit = goes.limit ∙ pair.limit }

  of-pair : (log : Log) → log ≡ after.log → IsOfPair a b log
  of-pair log is = (ap (λ (l : Log). l.clauses) is ∙ clauses-are, ap (λ (l : Log). l.free) is ∙ free-are)

  pub tells-no-change : (log : Log) → log ≡ after.log → IsRefutation after.log.clauses after.log.free after.log.lemmas → ((values : Values) → ¬ IsModel values after.log.clauses) → TellDifferences a.raw b.raw (pair_clauses a b) → Tells a b limit (NoChange log)
  tells-no-change log is refutes none tell = (
    of-pair log is,
    subst (λ (l : Log). IsRefutation l.clauses l.free l.lemmas) (sym is) refutes,
    tell.equal.1 (λ values model. none values (subst (λ (cs : List (List ℤ)). IsModel values cs) (sym clauses-are) model)),
  )

  pub tells-unknown : (log : Log) → log ≡ after.log → IsAttempt after.log.clauses after.log.free limit after.log.lemmas → limit < 3 ^ after.log.free → Tells a b limit (Unknown log)
  tells-unknown log is tried short = (
    of-pair log is,
    subst (λ (l : Log). IsAttempt l.clauses l.free limit l.lemmas) (sym is) tried,
    subst (λ (n : ℕ). limit < 3 ^ n) free-are short,
  )
