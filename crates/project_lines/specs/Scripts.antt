-- The section `[script]`: the commands of Yosys that are taken.
use Rattle.std.specs.Prelude.{ℕ, ◌==◌, Bool, false, not, ◌&&◌, ◌||◌, List, [], ◌∷◌, Option, None, Some, bytes_eq, codes, map, slice_index, if◌then◌else◌}
use Rattle.std.specs.List.{list_any}
use Rattle.std.specs.Option.{option_or}
use Rattle.project_lines.specs.declared.error.ProjectError.{ProjectError}
use Rattle.project_lines.specs.declared.error.ProjectError.TheVariants.{BadLine, Repeated, UnsupportedCommand}
use Rattle.project_lines.specs.declared.script.Command.{Command}
use Rattle.project_lines.specs.declared.script.Command.TheVariants.{Read, Prep, Hierarchy}
use Rattle.project_lines.specs.Lines.{key_of, args_of, is_said}
use Rattle.project_lines.specs.Words.{is_name}
use Rattle.project_lines.specs.Paths.{Known, path_of, with_names, count_fault, gather}

unfoldable pub command_of : List ℕ → Option Command
command_of word =
    if bytes_eq word (codes "read_verilog") then Some Read else
    (if bytes_eq word (codes "prep") then Some Prep else
    (if bytes_eq word (codes "hierarchy") then Some Hierarchy else None))

-- a word that begins with `-` (45) is an option
abbrev pub is_option : List ℕ → Bool
is_option word = slice_index word 0 == 45

-- the options that are taken
abbrev pub is_taken : Command → List ℕ → Bool
is_taken Read word = false
is_taken Prep word = bytes_eq word (codes "-top") || bytes_eq word (codes "-flatten")
is_taken Hierarchy word = bytes_eq word (codes "-top")

abbrev pub is_strange : Command → List ℕ → Bool
is_strange command word = is_option word && not (is_taken command word)

-- some option is none of those
unfoldable pub has_strange : Command → List (List ℕ) → Bool
has_strange command args = list_any (is_strange command) args

-- the name in `-top NAME`
abbrev pub top_if : List ℕ → List ℕ → Option (List ℕ)
top_if option name = if bytes_eq option (codes "-top") && is_name name then Some name else None

-- the same with a `-flatten` in front of it or behind it
abbrev pub flattened_top : List ℕ → List ℕ → List ℕ → Option (List ℕ)
flattened_top first second third =
    if bytes_eq first (codes "-flatten") then top_if second third else
    (if bytes_eq third (codes "-flatten") then top_if first second else None)

abbrev pub hierarchy_top : List (List ℕ) → Option (List ℕ)
hierarchy_top (option ∷ name ∷ []) = top_if option name
hierarchy_top _ = None

abbrev pub prep_top : List (List ℕ) → Option (List ℕ)
prep_top (first ∷ second ∷ third ∷ []) = flattened_top first second third
prep_top args = hierarchy_top args

-- the top that a command names
unfoldable pub top_named : Command → List (List ℕ) → Option (List ℕ)
top_named Read args = None
top_named Prep args = prep_top args
top_named Hierarchy args = hierarchy_top args

abbrev pub top_by : Option Command → List (List ℕ) → Option (List ℕ)
top_by None args = None
top_by (Some command) args = top_named command args

unfoldable pub top_of : List ℕ → Option (List ℕ)
top_of line = if is_said line then top_by (command_of (key_of line)) (args_of line) else None

-- the first top that the lines name
unfoldable pub first_top : List (List ℕ) → Option (List ℕ)
first_top [] = None
first_top (line ∷ more) = option_or (top_of line) (first_top more)

abbrev pub reads_by : Option Command → List (List ℕ) → List (List ℕ)
reads_by (Some Read) args = args
reads_by _ args = []

-- the files that a line reads, where these paths are known
unfoldable pub script_reads : Known → List ℕ → List (List ℕ)
script_reads known line = if is_said line then map (path_of known) (reads_by (command_of (key_of line)) (args_of line)) else []

-- another top than the first
abbrev pub is_second_top : Option (List ℕ) → List ℕ → Bool
is_second_top None name = false
is_second_top (Some top) name = not (bytes_eq top name)

unfoldable pub read_fault : List (List ℕ) → ℕ → List (List ℕ) → Option ProjectError
read_fault names number [] = Some (BadLine number)
read_fault names number (file ∷ more) = count_fault names number (file ∷ more)

unfoldable pub top_fault : Option (List ℕ) → ℕ → Option (List ℕ) → Option ProjectError
top_fault top number None = Some (BadLine number)
top_fault top number (Some name) = if is_second_top top name then Some (Repeated number) else None

-- what is wrong with a command, where the files `names` are read and `top` is named before it
abbrev pub command_fault : Known → List (List ℕ) → Option (List ℕ) → ℕ → Command → List (List ℕ) → Option ProjectError
command_fault known names top number Read args = read_fault names number (map (path_of known) args)
command_fault known names top number Prep args = top_fault top number (top_named Prep args)
command_fault known names top number Hierarchy args = top_fault top number (top_named Hierarchy args)

abbrev pub script_line_fault : Known → List (List ℕ) → Option (List ℕ) → ℕ → Option Command → List (List ℕ) → Option ProjectError
script_line_fault known names top number None args = Some (UnsupportedCommand number)
script_line_fault known names top number (Some command) args =
    if has_strange command args then Some (UnsupportedCommand number) else command_fault known names top number command args

-- the same of a line
unfoldable pub script_at : Known → List (List ℕ) → Option (List ℕ) → ℕ → List ℕ → Option ProjectError
script_at known names top number line =
    if is_said line then script_line_fault known names top number (command_of (key_of line)) (args_of line) else None

-- What is wrong with a line of `[script]` behind these: `names` are the files that the sections before it read.
unfoldable pub script_fault : Known → List (List ℕ) → List (List ℕ) → ℕ → List ℕ → Option ProjectError
script_fault known names earlier number line =
    script_at known (with_names names (gather (script_reads known) earlier)) (first_top earlier) number line
