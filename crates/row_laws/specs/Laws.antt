-- What the rows of a good book say: a row of an equivalence test is about the mutant at the site of its mutation. The rows are those of
-- the book's history, which are its own but for the bounds of the first format.
use Rattle.std.specs.Prelude.{◌≡◌, ◌<◌, ◌^◌, ℕ, List, Some, slice_get}
use Rattle.std.specs.List.{Contains}
use Rattle.netlist_core.specs.Checked.{free_bits}
use Rattle.mutation_sites.specs.declared.site.Site.{Site}
use Rattle.mcy_keeper.specs.declared.book.Book.{Book}
use Rattle.mcy_keeper.specs.declared.book.Entry.{Entry}
use Rattle.step_trials.specs.Equal.{EqualOnAllRuns, Machine, OneStepEqual, design, mutant}
use Rattle.result_book.specs.declared.script.TestWord.TheVariants.{Pass, Fail, Unknown}
use Rattle.result_book.specs.Rows.{history}
use Rattle.result_book.specs.Scripts.{word_code}
use Rattle.campaign_run.specs.Prepared.{Prepared}
use Rattle.tb_bench.specs.declared.parts.Parts.{Parts}
use Rattle.campaign_run.specs.Trial.TheVariants.{Equality, Simulation}
use Rattle.campaign_run.specs.Rows.{IsGood, IsSaid}

-- so it is of the design of a campaign and of its mutant of this number
pub record IsOfMutant (c : Prepared) (number : ℕ) (IsSo : Machine → Machine → Type 0) : Type 0 where
  pub site : Site
  pub placed : slice_get c.sites number ≡ Some site
  pub is : IsSo (design c.netlist) (mutant c.netlist site)

-- the row is one of a test that compares mutants with the design
abbrev pub IsOfEquality : Prepared → Entry → Type 0
IsOfEquality c row = slice_get c.trials row.test ≡ Some Equality

-- A mutant with a row PASS of such a test has the design's outputs on every list of inputs from equal registers.
abbrev pub PassesAreAlike : Type 0
PassesAreAlike = (book : Book) (good : IsGood book) (row : Entry) → Contains (history good.prepared.campaign book).journal row → IsOfEquality good.prepared row → row.word ≡ word_code Pass → IsOfMutant good.prepared row.mutation EqualOnAllRuns

-- One with a row FAIL of such a test is not equal to the design in one step.
abbrev pub FailsDiffer : Type 0
FailsDiffer = (book : Book) (good : IsGood book) (row : Entry) → Contains (history good.prepared.campaign book).journal row → IsOfEquality good.prepared row → row.word ≡ word_code Fail → IsOfMutant good.prepared row.mutation (λ a b. ¬ OneStepEqual a b)

-- A row UNKNOWN stands only where fewer lemmas were allowed than the free bits have assignments of 0, 1 and none: never where its
-- bound is at least 3 ^ k for k free bits. The bound of a row of a book of the first format is the project's limit, which its history
-- gives the row.
abbrev pub UnknownsAreLong : Type 0
UnknownsAreLong = (book : Book) (good : IsGood book) (row : Entry) → Contains (history good.prepared.campaign book).journal row → row.word ≡ word_code Unknown → row.bound < 3 ^ free_bits good.prepared.netlist

-- the bench of the test with this number says this word of the mutant of that
pub record SaysOfMutant (c : Prepared) (test number word : ℕ) : Type 0 where
  pub site : Site
  pub placed : slice_get c.sites number ≡ Some site
  pub is : IsSaid c.campaign.meta test site word

-- A row of a simulation has the word that the bench of its test says of the mutant.
abbrev pub SimulationsAreSaid : Type 0
SimulationsAreSaid = (book : Book) (good : IsGood book) (row : Entry) (bench : Parts) (pass fail : List ℕ) → Contains (history good.prepared.campaign book).journal row → slice_get good.prepared.trials row.test ≡ Some (Simulation bench pass fail) → SaysOfMutant good.prepared row.test row.mutation row.word
