-- The lines of a project file. Blanks are spaces and tabs. A line's key is its first word.
use Rattle.std.specs.Prelude.{ℕ, ◌==◌, ◌-◌, Bool, not, ◌&&◌, ◌||◌, List, Option, Some, None, bytes_eq, drop, take, length, filter, find, is_some, slice_index, nat_lt, if◌then◌else◌}
use Rattle.std.specs.List.{prefix_len, suffix_len, slice_split}

-- a space or a tab
unfoldable pub is_blank : ℕ → Bool
is_blank byte = byte == 32 || byte == 9

abbrev pub is_of_word : ℕ → Bool
is_of_word byte = not (is_blank byte)

-- without the blanks in front
unfoldable pub from_word : List ℕ → List ℕ
from_word line = drop (prefix_len is_blank line) line

-- without the blanks behind
unfoldable pub without_blanks_behind : List ℕ → List ℕ
without_blanks_behind line = take (length line - suffix_len is_blank line) line

-- the word that begins a text, and what stands behind it
unfoldable pub front_word : List ℕ → List ℕ
front_word text = take (prefix_len is_of_word text) text

unfoldable pub behind_word : List ℕ → List ℕ
behind_word text = drop (prefix_len is_of_word text) text

-- the first word of a line, and what stands behind it
abbrev pub key_of : List ℕ → List ℕ
key_of line = front_word (from_word line)

abbrev pub behind_key : List ℕ → List ℕ
behind_key line = behind_word (from_word line)

-- what stands behind the first word, without the blanks around it
abbrev pub text_of : List ℕ → List ℕ
text_of line = without_blanks_behind (from_word (behind_key line))

abbrev pub is_filled : List ℕ → Bool
is_filled text = nat_lt 0 (length text)

-- The words of a text: what stands between blanks.
unfoldable pub words : List ℕ → List (List ℕ)
words text = filter is_filled (slice_split is_blank text)

-- the words behind the first
abbrev pub args_of : List ℕ → List (List ℕ)
args_of line = words (behind_key line)

-- The line says something: it is not blank, and no comment, whose first character is `#` (35).
unfoldable pub is_said : List ℕ → Bool
is_said line = is_filled (key_of line) && not (slice_index (key_of line) 0 == 35)

-- the first of the lines with this key
unfoldable pub find_line : List ℕ → List (List ℕ) → Option (List ℕ)
find_line key lines = find (λ line. bytes_eq (key_of line) key) lines

abbrev pub has_line : List ℕ → List (List ℕ) → Bool
has_line key lines = is_some (find_line key lines)

-- A line is a header where it stands in brackets (91, 93), without the blanks around it.
abbrev pub is_bracketed : List ℕ → Bool
is_bracketed text = nat_lt 1 (length text) && (slice_index text 0 == 91 && slice_index text (length text - 1) == 93)

abbrev pub in_brackets : List ℕ → Option (List ℕ)
in_brackets text = if is_bracketed text then Some (take (length text - 2) (drop 1 text)) else None

-- what stands in the brackets of a header
unfoldable pub header_of : List ℕ → Option (List ℕ)
header_of line = in_brackets (without_blanks_behind (from_word line))
