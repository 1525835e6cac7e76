-- True words, words given up, good books, and how books grow.
use Rattle.std.specs.Prelude.{◌≡◌, ◌⊎◌, ℕ, ◌+◌, ◌≤◌, List, [], ◌∷◌, ◌++◌, length, slice_get, Option, None, Some}
use Rattle.mcy_keeper.specs.declared.book.Entry.{Entry}
use Rattle.mcy_keeper.specs.declared.book.Book.{Book}
use Rattle.mcy_keeper.specs.Books.{IsBlank, IsFirst, IsSecond}
use Rattle.result_book.specs.declared.script.TestWord.TheVariants.{Pass, Fail, Unknown}
use Rattle.result_book.specs.Scripts.{word_code}
use Rattle.result_book.specs.Rows.{history, upgrade_of, IsRow, IsWellFormed}
use Rattle.mutation_sites.specs.declared.site.Site.{Site}
use Rattle.campaign_plan.specs.declared.prepared.Prepared.{Prepared}
use Rattle.tb_bench.specs.declared.parts.Parts.{Parts}
use Rattle.step_trials.specs.Equal.{OneStepEqual, design, mutant}
use Rattle.campaign_plan.specs.Campaigns.{IsPlan}
use Rattle.netlist_core.specs.declared.raw.RawNetlist.{RawNetlist}
use Rattle.campaign_run.specs.Limits.{HasItsLimit}
use Rattle.campaign_run.specs.GivenUp.{HasAttempt, IsMutantAt}
use Rattle.campaign_run.specs.Simulated.{IsSimulated}
use Rattle.campaign_plan.specs.declared.trial.Trial.{Trial}
use Rattle.campaign_plan.specs.declared.trial.Trial.TheVariants.{Equality, Simulation}

-- What a bench says of the mutant at a site: one that the project and sources of this meta have for the test of this number, under their
-- limit of cycles. They all say the same (`campaigns_are_one`).
pub record IsSaid (meta : List (List ℕ)) (t : ℕ) (site : Site) (word : ℕ) : Type 0 where
  pub other : Prepared
  pub plan : IsPlan other
  pub limit : HasItsLimit other
  pub same : other.campaign.meta ≡ meta
  pub bench : Parts
  pub pass : List ℕ
  pub fail : List ℕ
  pub at : slice_get other.trials t ≡ Some (Simulation bench pass fail)
  pub said : IsSimulated other.netlist site (record { bench = bench; seed = other.word_seed; cycles = other.cycles; pass = pass; fail = fail }) word

-- The true word of a test on the mutant at a site. That of an equality is PASS where the mutant does in one step what the design does,
-- and FAIL where it does not; that of a simulation is what its bench says of the mutant.
abbrev pub IsTrueWordOf : Prepared → ℕ → Site → Trial → ℕ → Type 0
IsTrueWordOf c t site Equality word = ((word ≡ word_code Pass) × OneStepEqual (design c.netlist) (mutant c.netlist site)) ⊎ ((word ≡ word_code Fail) × (¬ OneStepEqual (design c.netlist) (mutant c.netlist site)))
IsTrueWordOf c t site (Simulation bench pass fail) word = IsSaid c.campaign.meta t site word

abbrev pub IsTrueWordAt : Prepared → ℕ → Option Site → Option Trial → ℕ → Type 0
IsTrueWordAt c t (Some site) (Some trial) word = IsTrueWordOf c t site trial word
IsTrueWordAt c t site trial word = ⊥

abbrev pub IsTrueWord : Prepared → (m t word : ℕ) → Type 0
IsTrueWord c m t word = IsTrueWordAt c t (slice_get c.sites m) (slice_get c.trials t) word

-- UNKNOWN of an equality, where the clauses of the mutant and the design have an attempt for the bound
abbrev pub IsGivenUpOf : Prepared → Site → Trial → (bound word : ℕ) → Type 0
IsGivenUpOf c site Equality bound word = (word ≡ word_code Unknown) × HasAttempt c.netlist site bound
IsGivenUpOf c site (Simulation bench pass fail) bound word = ⊥

abbrev pub IsGivenUpAt : Prepared → Option Site → Option Trial → (bound word : ℕ) → Type 0
IsGivenUpAt c (Some site) (Some trial) bound word = IsGivenUpOf c site trial bound word
IsGivenUpAt c site trial bound word = ⊥

abbrev pub IsGivenUp : Prepared → (m t bound word : ℕ) → Type 0
IsGivenUp c m t bound word = IsGivenUpAt c (slice_get c.sites m) (slice_get c.trials t) bound word

-- the word that the test may have that was run under this bound: the true one, or UNKNOWN where it may be given up
abbrev pub IsRightWord : Prepared → (m t bound word : ℕ) → Type 0
IsRightWord c m t bound word = IsTrueWord c m t word ⊎ IsGivenUp c m t bound word

-- the netlist is the mutant of this mutation
abbrev pub IsBroken : RawNetlist → Option Site → RawNetlist → Type 0
IsBroken netlist None mutated = ⊥
IsBroken netlist (Some site) mutated = IsMutantAt netlist mutated site

abbrev pub IsBrokenAt : Prepared → ℕ → RawNetlist → Type 0
IsBrokenAt c m mutated = IsBroken c.netlist (slice_get c.sites m) mutated

-- each row of a book of the second format has such a word, under its own bound
abbrev pub AreRight : Prepared → List Entry → Type 0
AreRight c [] = Unit {0}
AreRight c (e ∷ more) = IsRightWord c e.mutation e.test e.bound e.word × AreRight c more

-- The book is well-formed for the project that it keeps itself, and its words are right: those of a book of the first format
-- under the project's limit, which its upgrade has as bounds.
pub record IsGood (book : Book) : Type 0 where
  pub prepared : Prepared
  pub plan : IsPlan prepared
  pub form : IsWellFormed prepared.campaign book
  pub words_right : AreRight prepared (history prepared.campaign book).journal

abbrev pub IsBlankOrGood : Book → Type 0
IsBlankOrGood book = IsBlank book ⊎ IsGood book

-- the other book goes on from this one
pub record GoesOn (book other : Book) : Type 0 where
  pub meta : other.meta ≡ book.meta
  pub mutations : other.mutations ≡ book.mutations
  pub more : List Entry
  pub rows : other.journal ≡ book.journal ++ more

-- The next book is the upgrade of one of the first format whose project is one.
pub record IsUpgrade (book next : Book) : Type 0 where
  pub prepared : Prepared
  pub plan : IsPlan prepared
  pub first : IsFirst book
  pub meta : next.meta ≡ prepared.campaign.meta
  pub is : next ≡ upgrade_of prepared.campaign book

-- the book stands as it is, or as its upgrade
abbrev pub Stands : (book other : Book) → Type 0
Stands book other = (other ≡ book) ⊎ IsUpgrade book other

-- the other book goes on from this one, as these two stand
pub record GoesOnAs (book other : Book) : Type 0 where
  pub one : Book
  pub two : Book
  pub stands : Stands book one
  pub other_stands : Stands other two
  pub goes_on : GoesOn one two

-- The book is a first part of the other: it is empty, or the other goes on from it, as they stand or as their upgrades do. Books of
-- two formats go on from one another only as upgrades, for a book keeps the number of its format.
abbrev pub IsPrefix : Book → Book → Type 0
IsPrefix book other = IsBlank book ⊎ GoesOnAs book other

-- the other book has the book as its first part, and one entry more at most
pub record IsWithinOne (book other : Book) : Type 0 where
  pub prefix : IsPrefix book other
  pub one : length other.journal ≤ length book.journal + 1

-- the row may come next in a book of the second format, with a word that its test may have under its bound
pub record IsNextRow (c : Prepared) (book : Book) (e : Entry) : Type 0 where
  pub second : IsSecond book
  pub row : IsRow c.campaign book.journal e
  pub word_right : IsRightWord c e.mutation e.test e.bound e.word
