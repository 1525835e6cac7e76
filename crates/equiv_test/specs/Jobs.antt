-- What a job of an equivalence test is.
use Rattle.std.specs.Prelude.{◌≡◌, ℕ, ◌≤◌, List, [], ◌++◌, length, ℤ, Option, Some, None, MatchOption, ⊤}
use Rattle.netlist_core.specs.declared.raw.RawNetlist.{RawNetlist}
use Rattle.netlist_core.specs.Checked.{Plan, IsSound, free_bits}
use Rattle.sat_solver.specs.Found.{Hunt, IsRunning}
use Rattle.pair_gates.specs.Matching.{AreAlike}
use Rattle.pair_gates.specs.Copies.{pair_clauses}
use Rattle.pair_gates.specs.Differences.{TellDifferences}
use Rattle.pair_gates.specs.Refusals.{max_free}
use Rattle.equiv_test.specs.declared.verdict.Difference.{Difference}
use Rattle.equiv_test.specs.Verdicts.{Shows}

-- Two netlists, how many lemmas there may be, and the search, until something is found.
pub record Job : Type 0 where
  pub original : Plan
  pub mutant : Plan
  pub limit : ℕ
  pub search : Option Hunt

-- nothing was found yet
abbrev pub IsGoing : Job → Type 0
IsGoing job = MatchOption job.search ⊥ IsRunning

-- the lemmas so far, while nothing was found
abbrev pub lemmas_in : Option Hunt → List (List ℤ)
lemmas_in None = []
lemmas_in (Some hunt) = hunt.log.lemmas

abbrev pub lemmas_of : Job → List (List ℤ)
lemmas_of job = lemmas_in job.search

-- a job without lemmas, which may have at most so many
pub record IsNew (a b : Plan) (most : ℕ) (job : Job) : Type 0 where
  pub original : job.original ≡ a
  pub mutant : job.mutant ≡ b
  pub limit : job.limit ≡ most
  pub lemmas : lemmas_of job ≡ []
  pub going : IsGoing job

-- the netlists and the limit are the same
pub record IsSameTest (old new : Job) : Type 0 where
  pub original : new.original ≡ old.original
  pub mutant : new.mutant ≡ old.mutant
  pub limit : new.limit ≡ old.limit

-- nothing was found, and at most so many lemmas were added
pub record GoesOn (old new : Job) (most : ℕ) : Type 0 where
  pub going : IsGoing new
  pub more : List (List ℤ)
  pub lemmas : lemmas_of new ≡ lemmas_of old ++ more
  pub few : length more ≤ most

-- For proofs alone.

-- a search of the pair's clauses, with at most so many lemmas
pub record IsPairSearch (a b : Plan) (most : ℕ) (hunt : Hunt) : Type 0 where
  pub clauses : hunt.log.clauses ≡ pair_clauses a b
  pub free : hunt.log.free ≡ free_bits a.raw
  pub limit : hunt.limit ≡ most

-- what simulation has shown, if it has shown something
abbrev pub HasSeen : RawNetlist → RawNetlist → Option Difference → Type 0
HasSeen a b seen = MatchOption seen ⊤ (Shows a b)

-- what holds between the calls, with what simulation has shown
pub record IsJob (job : Job) (difference : Option Difference) : Type 0 where
  pub original : IsSound job.original
  pub mutant : IsSound job.mutant
  pub alike : AreAlike job.original.raw job.mutant.raw
  pub few_free : free_bits job.original.raw ≤ max_free
  pub tell : TellDifferences job.original.raw job.mutant.raw (pair_clauses job.original job.mutant)
  pub search : MatchOption job.search ⊤ (IsPairSearch job.original job.mutant job.limit)
  pub seen : HasSeen job.original.raw job.mutant.raw difference
