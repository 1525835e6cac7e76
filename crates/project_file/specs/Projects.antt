-- What the bytes of a project file say: a project, or the first fault.
use Rattle.std.specs.Prelude.{◌≡◌, ◌⊎◌, ℕ, ◌+◌, Bool, false, ◌&&◌, not, List, [], ◌∷◌, Option, None, Some, codes, is_some, length, map, nat_lt, unwrap_or, if◌then◌else◌}
use Rattle.std.specs.Str.{IsUtf8, IsValidUpTo}
use Rattle.std.specs.Str.Lines.{lines}
use Rattle.mcy_base.specs.declared.file.Line.{Line}
use Rattle.project_lines.specs.declared.error.ProjectError.{ProjectError}
use Rattle.project_lines.specs.declared.error.ProjectError.TheVariants.{NotUtf8, BadLine, Repeated, OutOfRange, Missing}
use Rattle.project_lines.specs.declared.error.What.TheVariants as what
use Rattle.project_file.specs.declared.project.Project.{Project}
use Rattle.project_file.specs.declared.project.TestPlan.{TestPlan}
use Rattle.project_lines.specs.declared.section.Title.{Title}
use Rattle.project_lines.specs.declared.section.Title.TheVariants.{Options, Script, Files, Test}
use Rattle.project_lines.specs.Checks.{first_fault, first_of_two}
use Rattle.project_lines.specs.Lines.{is_said, has_line}
use Rattle.project_lines.specs.Sections.{Part, lead, parts_of, title_of, name_in, has_header, find_part, lines_in, tests_in}
use Rattle.project_lines.specs.Paths.{Known, find_path, files_fault, with_names, gather}
use Rattle.project_options.specs.Options.{Around, option_fault}
use Rattle.project_file.specs.Values.{conflicts_in, cycles_in, is_auto_in, is_checked_in, is_even_in, modes_in, only_in, requirement_in, seed_in, size_in, skip_in, tags_in}
use Rattle.project_lines.specs.Scripts.{script_fault, script_reads, first_top}
use Rattle.project_file.specs.Tests.{test_fault, test_reads, plan_of, is_sim, has_kind}

-- Faults.

-- a line that says something stands in front of the first header
unfoldable pub lead_fault : List (List ℕ) → ℕ → List ℕ → Option ProjectError
lead_fault earlier number line = if is_said line then Some (BadLine number) else None

-- a test more than 16
abbrev pub is_test_too_many : Title → List Part → Bool
is_test_too_many Test earlier = nat_lt 15 (length (tests_in earlier))
is_test_too_many _ earlier = false

abbrev pub titled_fault : Option Title → List Part → ℕ → List ℕ → Option ProjectError
titled_fault None earlier number header = Some (BadLine number)
titled_fault (Some title) earlier number header =
    if has_header header earlier then Some (Repeated number) else
    (if is_test_too_many title earlier then Some (OutOfRange number) else None)

-- what is wrong with a header behind these sections
unfoldable pub header_fault : List Part → ℕ → List ℕ → Option ProjectError
header_fault earlier number header = titled_fault (title_of header) earlier number header

-- what is wrong with the lines of a section, numbered from here on
abbrev pub lines_fault : Around → List (List ℕ) → Option Title → ℕ → List (List ℕ) → Option ProjectError
lines_fault around names (Some Options) number lines = first_fault (option_fault around) [] number lines
lines_fault around names (Some Script) number lines = first_fault (script_fault around.known names) [] number lines
lines_fault around names (Some Files) number lines = first_fault files_fault [] number lines
lines_fault around names (Some Test) number lines = first_fault (test_fault names) [] number lines
lines_fault around names _ number lines = None

-- the files that the lines of a section read
abbrev pub reads_in : Known → Option Title → List (List ℕ) → List (List ℕ)
reads_in known (Some Script) lines = gather (script_reads known) lines
reads_in known (Some Test) lines = gather test_reads lines
reads_in known _ lines = []

unfoldable pub part_reads : Known → Part → List (List ℕ)
part_reads known part = reads_in known (title_of part.header) part.lines

-- the same with the files `names` that are read before it
unfoldable pub part_at : Around → List (List ℕ) → List Part → Part → Option ProjectError
part_at around names earlier part =
    first_of_two (header_fault earlier part.number part.header) (lines_fault around names (title_of part.header) (part.number + 1) part.lines)

-- what is wrong with a section behind these
unfoldable pub part_fault : Around → List Part → ℕ → Part → Option ProjectError
part_fault around earlier number part = part_at around (with_names [] (gather (part_reads around.known) earlier)) earlier part

-- the first test without a kind
unfoldable pub missing_kind : ℕ → List Part → Option ProjectError
missing_kind number [] = None
missing_kind number (test ∷ more) = if has_kind test.lines then missing_kind (number + 1) more else Some (Missing (what.Kind number))

abbrev pub lacks_pass : List (List ℕ) → Bool
lacks_pass lines = is_sim lines && not (has_line (codes "pass") lines)

-- the first sim test without a pass text
unfoldable pub missing_pass : ℕ → List Part → Option ProjectError
missing_pass number [] = None
missing_pass number (test ∷ more) = if lacks_pass test.lines then Some (Missing (what.Pass number)) else missing_pass (number + 1) more

-- the first thing that the tests lack
abbrev pub missing_in_tests : List Part → Option ProjectError
missing_in_tests tests = first_of_two (missing_kind 0 tests) (missing_pass 0 tests)

-- the first thing that the lines of `[script]` lack
abbrev pub missing_in_script : List (List ℕ) → Option ProjectError
missing_in_script lines =
    if not (has_line (codes "read_verilog") lines) then Some (Missing what.Read) else
    (if not (is_some (first_top lines)) then Some (Missing what.Top) else None)

-- the first thing that is missing behind `[script]`
abbrev pub missing_behind_script : List Part → Option ProjectError
missing_behind_script parts =
    if not (is_some (find_part (codes "logic") parts)) then Some (Missing what.Logic) else missing_in_tests (tests_in parts)

-- the first thing that is missing
unfoldable pub missing : List Part → Option ProjectError
missing parts =
    if not (is_some (find_part (codes "script") parts)) then Some (Missing what.Script) else
    first_of_two (missing_in_script (lines_in (codes "script") parts)) (missing_behind_script parts)

-- the paths of `[files]`
abbrev pub known_in : List Part → Known
known_in parts = find_path (lines_in (codes "files") parts)

-- the files of the design
unfoldable pub design_in : List Part → List (List ℕ)
design_in parts = gather (script_reads (known_in parts)) (lines_in (codes "script") parts)

-- what lines of `[options]` may speak of
abbrev pub around_in : List Part → Around
around_in parts = record { tags = tags_in (lines_in (codes "options") parts); known = known_in parts; design = design_in parts }

-- what is wrong with these sections, and what they lack
unfoldable pub parts_fault : List Part → Option ProjectError
parts_fault parts = first_of_two (first_fault (part_fault (around_in parts)) [] 0 parts) (missing parts)

-- the fault of the first bad line, else of what is missing
unfoldable pub fault_of : List (List ℕ) → Option ProjectError
fault_of all = first_of_two (first_fault lead_fault [] 1 (lead all)) (parts_fault (parts_of 1 all))

-- The project.

-- lines with their numbers
unfoldable pub numbered : ℕ → List (List ℕ) → List Line
numbered number [] = []
numbered number (line ∷ more) = record { number = number; text = line } ∷ numbered (number + 1) more

-- the lines of a section with their numbers, or none
unfoldable pub raw_lines : List ℕ → List Part → List Line
raw_lines word parts = elim (find_part word parts) [ None ↦ [] | Some part ↦ numbered (part.number + 1) part.lines ]

abbrev pub test_of : Part → TestPlan
test_of part = plan_of (name_in part.header) part.lines

unfoldable pub top_in : List Part → List ℕ
top_in parts = unwrap_or (first_top (lines_in (codes "script") parts)) []

-- the project of these sections
unfoldable pub project_of : List Part → Project
project_of parts =
    let options = lines_in (codes "options") parts in
    record {
      size = size_in options;
      tags = tags_in options;
      word_seed = seed_in options;
      modes = modes_in options;
      even = is_even_in options;
      conflicts = conflicts_in options;
      cycles = cycles_in options;
      auto_cycles = is_auto_in options;
      baseline = is_checked_in options;
      requirement = requirement_in options;
      only = only_in (known_in parts) options;
      skip = skip_in options;
      design = design_in parts;
      top = top_in parts;
      logic = raw_lines (codes "logic") parts;
      report = raw_lines (codes "report") parts;
      tests = map test_of (tests_in parts);
    }

-- the files of the design, each once
abbrev pub design_files : Project → List (List ℕ)
design_files project = with_names [] project.design

-- The bytes are a project file, and this is its project.
pub record IsProject (bytes : List ℕ) (project : Project) : Type 0 where
  pub utf8 : IsUtf8 bytes
  pub faultless : fault_of (lines bytes) ≡ None
  pub says : project ≡ project_of (parts_of 1 (lines bytes))

-- The bytes are no UTF-8 behind so many.
abbrev pub IsCut : List ℕ → ProjectError → Type 0
IsCut bytes (NotUtf8 len) = IsValidUpTo bytes len
IsCut bytes _ = ⊥

-- The bytes are no project file, and this is why.
abbrev pub IsFault : List ℕ → ProjectError → Type 0
IsFault bytes e = IsCut bytes e ⊎ (IsUtf8 bytes × (fault_of (lines bytes) ≡ Some e))
