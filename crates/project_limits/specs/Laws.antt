-- Laws of projects: the limits of what is read of a project file hold of the project (docs/FORMATS.md).
use Rattle.std.specs.Prelude.{ℕ, ◌≤◌, IfSome, IsTrue, List, length}
use Rattle.std.specs.List.{All, list_all}
use Rattle.project_lines.specs.Words.{is_among}
use Rattle.project_file.specs.declared.project.LineRange.{LineRange}
use Rattle.project_file.specs.declared.project.Project.{Project}
use Rattle.project_file.specs.declared.project.Requirement.{Requirement}
use Rattle.project_file.specs.Projects.{design_files, IsProject}
use Rattle.project_limits.specs.Files.{all_files}

-- A project reads at most 64 files for its design,
abbrev pub FilesAreFew : Type 0
FilesAreFew = (bytes : List ℕ) (project : Project) → IsProject bytes project → length (design_files project) ≤ 64

-- and at most 64 in all,
abbrev pub SourcesAreFew : Type 0
SourcesAreFew = (bytes : List ℕ) (project : Project) → IsProject bytes project → length (all_files project) ≤ 64

-- asks for at most 10,000 mutations,
abbrev pub SizesAreWithin : Type 0
SizesAreWithin = (bytes : List ℕ) (project : Project) → IsProject bytes project → project.size ≤ 10000

-- gives an equivalence test 1 to 100,000 lemmas,
abbrev pub ConflictsAreWithin : Type 0
ConflictsAreWithin = (bytes : List ℕ) (project : Project) → IsProject bytes project → (1 ≤ project.conflicts) × (project.conflicts ≤ 100000)

-- has at most 16 tests,
abbrev pub TestsAreFew : Type 0
TestsAreFew = (bytes : List ℕ) (project : Project) → IsProject bytes project → length project.tests ≤ 16

-- and at most 32 tags.
abbrev pub TagsAreFew : Type 0
TagsAreFew = (bytes : List ℕ) (project : Project) → IsProject bytes project → length project.tags ≤ 32

-- What a project requires is 1 to 100 percent, and it speaks of the project's tags.
pub record IsOfTags (project : Project) (requirement : Requirement) : Type 0 where
  pub least : 1 ≤ requirement.percent
  pub most : requirement.percent ≤ 100
  pub counted : IsTrue (is_among requirement.counted project.tags)
  pub among : IsTrue (list_all (λ tag. is_among tag project.tags) requirement.among)

abbrev pub RequirementsAreOfTags : Type 0
RequirementsAreOfTags = (bytes : List ℕ) (project : Project) → IsProject bytes project → IfSome project.requirement (IsOfTags project)

-- The lines whose sites are taken are those of a file of the design, from 1 on, and the first is not above the last.
pub record IsOfDesign (project : Project) (range : LineRange) : Type 0 where
  pub file : IsTrue (is_among range.file project.design)
  pub least : 1 ≤ range.from
  pub ordered : range.from ≤ range.to

abbrev pub PlacesAreOfDesign : Type 0
PlacesAreOfDesign = (bytes : List ℕ) (project : Project) → IsProject bytes project → All (IsOfDesign project) project.only

-- At most 64 of these are named, and as many instances that are left out.
abbrev pub PlacesAreFew : Type 0
PlacesAreFew = (bytes : List ℕ) (project : Project) → IsProject bytes project → (length project.only ≤ 64) × (length project.skip ≤ 64)
