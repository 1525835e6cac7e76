-- What a project's tests are, the files that it reads, and its scripts.
use Rattle.std.specs.Prelude.{◌≡◌, ◌≢◌, ◌⊎◌, ℕ, List, Result, Ok, Err, length, map, take}
use Rattle.std.specs.List.{Any}
use Rattle.project_file.specs.declared.project.Project.{Project}
use Rattle.project_file.specs.declared.project.TestKind.{TestKind}
use Rattle.project_file.specs.declared.project.TestKind.TheVariants.{Eq}
use Rattle.project_file.specs.Projects.{design_files}
use Rattle.tag_script.specs.declared.script.Script.{Script}
use Rattle.tag_script.specs.declared.script.ScriptError.{ScriptError}
use Rattle.tag_script.specs.declared.script.ScriptError.TheVariants.{Memory}
use Rattle.tag_script.specs.Reading.{script_of}
use Rattle.report_script.specs.declared.report.Report.{Report}
use Rattle.report_script.specs.Reading.{report_of}
use Rattle.result_book.specs.Campaigns.{eq_kind, sim_kind}

-- one of its tests compares the mutant with the design
abbrev pub HasEquality : Project → Type 0
HasEquality project = Any (λ test. test.kind ≡ Eq) project.tests

-- of the files that a project reads, those of its design
abbrev pub design_part : {X : Type 0} → Project → List X → List X
design_part project files = take (length (design_files project)) files

-- the tests, by their names and by the codes of their kinds
abbrev pub test_names : Project → List (List ℕ)
test_names project = map (λ test. test.name) project.tests

abbrev pub kind_of : TestKind → ℕ
kind_of Eq = eq_kind
kind_of other = sim_kind

abbrev pub test_kinds : Project → List ℕ
test_kinds project = map (λ test. kind_of test.kind) project.tests

-- the reading of the logic, and that of the report
abbrev pub logic_read : Project → Result Script ScriptError
logic_read project = script_of (test_names project) project.tags project.logic

abbrev pub report_read : Project → Result Report ScriptError
report_read project = report_of project.tags project.report

-- the tag script and the report of the project
pub record HasScripts (project : Project) (script : Script) (printed : Report) : Type 0 where
  pub logic : logic_read project ≡ Ok script
  pub report : report_read project ≡ Ok printed

-- the first fault of the logic, else of the report
abbrev pub IsScriptFault : Project → ScriptError → Type 0
IsScriptFault project error = (error ≢ Memory) × ((logic_read project ≡ Err error) ⊎ ((script : Script) × (logic_read project ≡ Ok script) × (report_read project ≡ Err error)))

-- the project has a tag script and a report
pub record IsScripted (project : Project) : Type 0 where
  pub script : Script
  pub report : Report
  pub scripts : HasScripts project script report
