-- A line of a file as a terminal is shown it, with a caret below a byte of it.
use Rattle.std.specs.Prelude.{ℕ, ◌==◌, ◌-◌, List, [], ◌∷◌, ◌++◌, Option, None, codes, decimal, drop, take, length, map, nat_lt, replicate, slice_get, if◌then◌else◌}
use Rattle.std.specs.List.{prefix_len, slice_split}
use Rattle.project_lines.specs.Lines.{is_blank}

-- For proofs alone.

-- A byte as a terminal is shown it: a tab (9) and what is printable in ASCII as it is, another control character as a blank (32), and
-- what is not ASCII as `?` (63).
abbrev pub shown_byte : ℕ → ℕ
shown_byte byte = if byte == 9 then 9 else if nat_lt byte 32 then 32 else if nat_lt byte 127 then byte else 63

-- what stands in front of a caret below a byte
abbrev pub blank_byte : ℕ → ℕ
blank_byte byte = if byte == 9 then 9 else 32

-- Where a byte is among the first 61 the line is shown from its first byte on, else from the 30th in front of it.
abbrev pub start_of : ℕ → ℕ
start_of at = if nat_lt 60 at then at - 30 else 0

abbrev pub behind : List ℕ → ℕ → List ℕ
behind bytes count = drop count bytes

abbrev pub front : List ℕ → ℕ → List ℕ
front bytes count = take count bytes

-- the lines of a file; what stands behind the last newline (10) is a line too
abbrev pub lines_of : List ℕ → List (List ℕ)
lines_of source = slice_split (λ byte. byte == 10) source

-- the line with this number, from 1
abbrev pub line_at : List (List ℕ) → ℕ → Option (List ℕ)
line_at lines number = if number == 0 then None else slice_get lines (number - 1)

-- the part of a line that is shown
abbrev pub part_of : List ℕ → ℕ → List ℕ
part_of line at = front (behind line (start_of at)) 160

-- what stands in front of a line: its number in five columns, and a stroke
abbrev pub margin : ℕ → List ℕ
margin number = replicate (5 - length (decimal number)) 32 ++ (decimal number ++ codes " | ")

-- ESC [ ? 7 l, from where on a terminal goes on on no other line, and a caret (94), a newline and ESC [ ? 7 h
abbrev pub cut : List ℕ
cut = 27 ∷ 91 ∷ 63 ∷ 55 ∷ 108 ∷ []

abbrev pub caret : List ℕ
caret = 94 ∷ 10 ∷ 27 ∷ 91 ∷ 63 ∷ 55 ∷ 104 ∷ []

-- the line with its number, and a line with a caret below its byte with this number, from 0
abbrev pub excerpt_text : ℕ → List ℕ → ℕ → List ℕ
excerpt_text number line at = (cut ++ (margin number ++ map shown_byte (part_of line at))) ++ (codes "\n      | " ++ (map blank_byte (front (part_of line at) (at - start_of at)) ++ caret))

-- how many blanks and tabs a line begins with
abbrev pub blanks_of : List ℕ → ℕ
blanks_of line = prefix_len is_blank line
