-- Lines of a file, `FILE:FROM-TO`: what stands before the last `:` (58), and behind it two numbers with a `-` (45) between them.
use Rattle.std.specs.Prelude.{ℕ, ◌==◌, ◌-◌, ◌^◌, Bool, ◌&&◌, List}
use Rattle.std.specs.List.{after_first, after_last, before_first, before_last}
use Rattle.project_lines.specs.Lines.{is_filled}
use Rattle.project_lines.specs.Numbers.{is_number, is_within, value}

-- what stands before the last `:`, or nothing where there is none
unfoldable pub file_part : List ℕ → List ℕ
file_part word = before_last (λ byte. byte == 58) word

-- what stands behind it
unfoldable pub lines_part : List ℕ → List ℕ
lines_part word = after_last (λ byte. byte == 58) word

-- what stands before the first `-`, and what stands behind it
unfoldable pub front_number : List ℕ → List ℕ
front_number lines = before_first (λ byte. byte == 45) lines

unfoldable pub back_number : List ℕ → List ℕ
back_number lines = after_first (λ byte. byte == 45) lines

abbrev pub from_part : List ℕ → List ℕ
from_part word = front_number (lines_part word)

abbrev pub to_part : List ℕ → List ℕ
to_part word = back_number (lines_part word)

-- the word has this form
unfoldable pub is_range : List ℕ → Bool
is_range word = is_filled (file_part word) && (is_number (from_part word) && is_number (to_part word))

-- the greatest number that a line may have
abbrev pub max_line : ℕ
max_line = 2 ^ 32 - 1

-- lines are numbered from 1, and the first number is not above the second
unfoldable pub is_range_within : List ℕ → Bool
is_range_within word = is_within 1 max_line (from_part word) && is_within (value (from_part word)) max_line (to_part word)
