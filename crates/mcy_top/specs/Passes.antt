-- What a row PASS of an equivalence test says, in the words of the book alone: of the design whose files the book keeps, and of the
-- mutation whose text it keeps.
use Rattle.std.specs.Prelude.{◌≡◌, ℕ, false, List, [], ◌++◌, drop, map, slice_get, slice_index_or, Option, Some, IsSomeAnd}
use Rattle.std.specs.List.{Contains}
use Rattle.std.specs.Str.Lines.{lines}
use Rattle.mcy_base.specs.declared.file.SourceFile.{SourceFile}
use Rattle.netlist_core.specs.declared.raw.RawNetlist.{RawNetlist}
use Rattle.mutation_sites.specs.declared.site.Site.{Site}
use Rattle.mutation_sites.specs.Mutants.{IsSite}
use Rattle.mutation_sites.specs.SiteTexts.{site_text}
use Rattle.mcy_keeper.specs.declared.book.Book.{Book}
use Rattle.mcy_keeper.specs.declared.book.Entry.{Entry}
use Rattle.step_trials.specs.Equal.{EqualOnAllRuns, design, mutant}
use Rattle.result_book.specs.declared.script.TestWord.TheVariants.{Pass}
use Rattle.result_book.specs.Scripts.{word_code}
use Rattle.project_lines.specs.Sections.{Part, parts_of, tests_in}
use Rattle.project_lines.specs.Paths.{with_names}
use Rattle.project_file.specs.Projects.{design_in, top_in}
use Rattle.project_file.specs.Tests.{is_sim}
use Rattle.project_sources.specs.Netlists.{IsNetlistOf}
use Rattle.campaign_choice.specs.Campaigns.{file_item, names_of}
use Rattle.campaign_run.specs.Rows.{IsGood}

-- the sections of the project file that a book keeps
abbrev pub sections : Book → List Part
sections book = parts_of 1 (lines (slice_index_or book.meta 1 []))

-- The netlist of a book: of the files that it keeps behind its project file, those that this names for the design stand first, each once,
-- and mean it with the top that this names.
pub record KeepsNetlist (book : Book) (files others : List SourceFile) (netlist : RawNetlist) : Type 0 where
  pub kept : drop 2 book.meta ≡ map file_item (files ++ others)
  pub named : names_of files ≡ with_names [] (design_in (sections book))
  pub means : IsNetlistOf files (top_in (sections book)) netlist

-- The mutation's text is that of a site of this netlist, and the mutant there gives what the design gives, on every list of inputs
-- from equal registers.
pub record IsNoChange (book : Book) (mutation : ℕ) : Type 0 where
  pub files : List SourceFile
  pub others : List SourceFile
  pub netlist : RawNetlist
  pub keeps_netlist : KeepsNetlist book files others netlist
  pub site : Site
  pub placed : IsSite netlist site
  pub told : slice_get book.mutations mutation ≡ Some (site_text netlist (names_of (files ++ others)) site)
  pub alike : EqualOnAllRuns (design netlist) (mutant netlist site)

-- the test of this number is no simulation, so that it compares mutants with the design
abbrev pub IsEquality : Book → ℕ → Type 0
IsEquality book test = IsSomeAnd (slice_get (tests_in (sections book)) test) (λ part. is_sim part.lines ≡ false)

-- Each row PASS of such a test is true.
abbrev pub PassesAreTrue : Book → Type 0
PassesAreTrue book = (row : Entry) → Contains book.journal row → IsEquality book row.test → row.word ≡ word_code Pass → IsNoChange book row.mutation

-- It is so of each book that a crash may leave.
abbrev pub LeavesTruePasses : (Option Book → Type 0) → Type 0
LeavesTruePasses leaves = (book : Book) → leaves (Some book) → PassesAreTrue book

-- They are true in each good book.
abbrev pub GoodBooksTellTrue : Type 0
GoodBooksTellTrue = (book : Book) → IsGood book → PassesAreTrue book
