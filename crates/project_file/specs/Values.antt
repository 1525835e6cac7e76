-- The values of `[options]`: each stands on the line with its key, and else is the default.
use Rattle.std.specs.Prelude.{ℕ, ◌==◌, ◌-◌, ◌^◌, Bool, true, List, [], ◌∷◌, Option, None, Some, codes, length, map, if◌then◌else◌, slice_index_or}
use Rattle.project_file.specs.declared.values.Settings.{Settings}
use Rattle.project_file.specs.declared.project.LineRange.{LineRange}
use Rattle.project_file.specs.declared.project.ModeFlags.{ModeFlags}
use Rattle.project_file.specs.declared.project.Requirement.{Requirement}
use Rattle.project_lines.specs.Lines.{args_of, find_line}
use Rattle.project_lines.specs.Numbers.{value_within}
use Rattle.project_lines.specs.Paths.{Known, path_of}
use Rattle.project_options.specs.Ranges.{file_part, from_part, max_line, to_part}
use Rattle.project_lines.specs.Words.{is_among}

-- the words behind a key, or none
unfoldable pub args_in : List ℕ → List (List ℕ) → List (List ℕ)
args_in key lines = elim (find_line key lines) [ None ↦ [] | Some line ↦ args_of line ]

-- the number behind a key
unfoldable pub number_in : ℕ → ℕ → ℕ → List ℕ → List (List ℕ) → ℕ
number_in default least most key lines = value_within default least most (slice_index_or (args_in key lines) 0 [])

abbrev pub size_in : List (List ℕ) → ℕ
size_in lines = number_in 20 1 10000 (codes "size") lines

abbrev pub seed_in : List (List ℕ) → ℕ
seed_in lines = number_in 1 0 (2 ^ 64 - 1) (codes "seed") lines

abbrev pub conflicts_in : List (List ℕ) → ℕ
conflicts_in lines = number_in 20000 1 100000 (codes "conflicts") lines

abbrev pub cycles_in : List (List ℕ) → ℕ
cycles_in lines = number_in 100000 1 1000000 (codes "cycles") lines

abbrev pub tags_in : List (List ℕ) → List (List ℕ)
tags_in lines = args_in (codes "tags") lines

unfoldable pub is_even_in : List (List ℕ) → Bool
is_even_in lines = is_among (codes "even") (args_in (codes "pick") lines)

-- all modes, or those that stand on the line
unfoldable pub flags_of : List (List ℕ) → ModeFlags
flags_of words =
    if length words == 0
    then record { inv = true; const0 = true; const1 = true; cnot0 = true; cnot1 = true }
    else record {
      inv = is_among (codes "inv") words;
      const0 = is_among (codes "const0") words;
      const1 = is_among (codes "const1") words;
      cnot0 = is_among (codes "cnot0") words;
      cnot1 = is_among (codes "cnot1") words;
    }

unfoldable pub modes_in : List (List ℕ) → ModeFlags
modes_in lines = flags_of (args_in (codes "modes") lines)

-- whether the bench is given the design itself first, and whether the cycles are counted from that
unfoldable pub is_checked_in : List (List ℕ) → Bool
is_checked_in lines = is_among (codes "on") (args_in (codes "baseline") lines)

unfoldable pub is_auto_in : List (List ℕ) → Bool
is_auto_in lines = is_among (codes "auto") (args_in (codes "cycles") lines)

-- what is required of the tags
abbrev pub requirement_of : List (List ℕ) → Option Requirement
requirement_of (percent ∷ tag ∷ of ∷ tags) = Some (record { percent = value_within 100 1 100 percent; counted = tag; among = tags })
requirement_of _ = None

unfoldable pub requirement_in : List (List ℕ) → Option Requirement
requirement_in lines = requirement_of (args_in (codes "require") lines)

-- the lines whose sites are taken, each by its path; all where none is named
abbrev pub range_of : Known → List ℕ → LineRange
range_of known word = record {
  file = path_of known (file_part word);
  from = value_within 1 1 max_line (from_part word);
  to = value_within 1 1 max_line (to_part word);
}

unfoldable pub only_in : Known → List (List ℕ) → List LineRange
only_in known lines = map (range_of known) (args_in (codes "only") lines)

-- the instances whose sites are left out
abbrev pub skip_in : List (List ℕ) → List (List ℕ)
skip_in lines = args_in (codes "skip") lines

-- For proofs alone.

-- what the lines say beside the tags, the requirement, and the places
abbrev pub settings_in : List (List ℕ) → Settings
settings_in lines = record {
  size = size_in lines;
  word_seed = seed_in lines;
  modes = modes_in lines;
  even = is_even_in lines;
  conflicts = conflicts_in lines;
  cycles = cycles_in lines;
  auto_cycles = is_auto_in lines;
  baseline = is_checked_in lines;
}
