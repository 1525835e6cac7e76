-- All files that a project reads: those of its design, and behind them those of its tests, each once.
use Rattle.std.specs.Prelude.{ℕ, List, []}
use Rattle.std.specs.List.{flat_map}
use Rattle.project_file.specs.declared.project.Project.{Project}
use Rattle.project_file.specs.declared.project.TestKind.{TestKind}
use Rattle.project_file.specs.declared.project.TestKind.TheVariants.{Eq, Sim}
use Rattle.project_lines.specs.Paths.{with_names}
use Rattle.project_file.specs.Projects.{design_files}

-- the files of a test
abbrev pub kind_files : TestKind → List (List ℕ)
kind_files Eq = []
kind_files (Sim bench files pass fail) = files

abbrev pub all_files : Project → List (List ℕ)
all_files project = with_names (design_files project) (flat_map (λ test. kind_files test.kind) project.tests)
