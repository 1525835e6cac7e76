-- The tests of a project as they are run: a test that is a simulation has its bench, read from its files for the design's netlist.
use Rattle.std.specs.Prelude.{◌≡◌, ◌⊎◌, ℕ, ◌+◌, List, [], ◌∷◌, map, ⊤, if◌then◌else◌}
use Rattle.mcy_base.specs.declared.file.SourceFile.{SourceFile}
use Rattle.netlist_core.specs.declared.raw.RawNetlist.{RawNetlist}
use Rattle.vlog_syntax.specs.declared.module.Module.{Module}
use Rattle.source_trees.specs.Files.{AreRead}
use Rattle.project_benches.specs.SourceError.{SourceError}
use Rattle.project_file.specs.declared.project.TestKind.{TestKind}
use Rattle.project_file.specs.declared.project.TestKind.TheVariants.{Eq, Sim}
use Rattle.project_file.specs.declared.project.TestPlan.{TestPlan}
use Rattle.project_lines.specs.Words.{is_among}
use Rattle.project_benches.specs.NetlistError.{NetlistError}
use Rattle.project_benches.specs.NetlistError.TheVariants.{Source as Refused, Memory}
use Rattle.flat_items.specs.Tops.{IsTop}
use Rattle.project_benches.specs.Benches.{HasBench, HasNoBench}
use Rattle.campaign_plan.specs.declared.trial.Trial.{Trial}
use Rattle.campaign_plan.specs.declared.trial.Trial.TheVariants.{Equality, Simulation}

-- What tests are read from: all files and their modules, and the design's top and its netlist.
pub record Reading : Type 0 where
  pub names : List (List ℕ)
  pub modules : List Module
  pub top : Module
  pub netlist : RawNetlist

-- the numbers, from here on, of those names that are among the files
abbrev pub numbers_from : ℕ → (names files : List (List ℕ)) → List ℕ
numbers_from number [] files = []
numbers_from number (name ∷ names) files = if is_among name files then number ∷ numbers_from (number + 1) names files else numbers_from (number + 1) names files

abbrev pub numbers_in : (names files : List (List ℕ)) → List ℕ
numbers_in names files = numbers_from 0 names files

-- a test as it is run
abbrev pub IsTrial : Reading → TestKind → Trial → Type 0
IsTrial r Eq Equality = ⊤
IsTrial r (Sim name files pass fail) (Simulation bench passing failing) = HasBench r.modules (numbers_in r.names files) name r.top r.netlist bench × (passing ≡ pass) × (failing ≡ fail)
IsTrial r kind trial = ⊥

-- all tests, in their order
abbrev pub AreTrials : Reading → List TestPlan → List Trial → Type 0
AreTrials r [] [] = ⊤
AreTrials r (test ∷ tests) (trial ∷ trials) = IsTrial r test.kind trial × AreTrials r tests trials
AreTrials r tests trials = ⊥

-- why the test of this number has no bench
abbrev pub HasNoTrial : Reading → ℕ → TestKind → SourceError → Type 0
HasNoTrial r number Eq error = ⊥
HasNoTrial r number (Sim name files pass fail) error = HasNoBench r.names number r.modules (numbers_in r.names files) name r.top r.netlist (Refused error)

-- why the first of these tests has none that has none; the first of them has this number
abbrev pub IsTrialFault : Reading → ℕ → List TestPlan → SourceError → Type 0
IsTrialFault r number [] error = ⊥
IsTrialFault r number (test ∷ tests) error = HasNoTrial r number test.kind error ⊎ (((trial : Trial) × IsTrial r test.kind trial) × IsTrialFault r (number + 1) tests error)

-- the files are modules, and the first of these that has the name is the top
pub record IsReading (files : List SourceFile) (names : List (List ℕ)) (top : List ℕ) (netlist : RawNetlist) (r : Reading) : Type 0 where
  pub names_are : r.names ≡ names
  pub read : AreRead files r.modules
  pub is_top : IsTop r.modules top r.top
  pub netlist_is : r.netlist ≡ netlist

-- For proofs alone.

-- what tests of these files are read from
abbrev pub reading_of : List SourceFile → List Module → Module → RawNetlist → Reading
reading_of files modules top netlist = record { names = map (λ file. file.name) files; modules = modules; top = top; netlist = netlist }

-- the same, as what a test or the tests are refused for; want of memory may come always
abbrev pub HasNoTrialFor : Reading → ℕ → TestKind → NetlistError → Type 0
HasNoTrialFor r number kind (Refused error) = HasNoTrial r number kind error
HasNoTrialFor r number kind Memory = ⊤

abbrev pub HasNoTrials : Reading → List TestPlan → NetlistError → Type 0
HasNoTrials r tests (Refused error) = IsTrialFault r 0 tests error
HasNoTrials r tests Memory = ⊤
