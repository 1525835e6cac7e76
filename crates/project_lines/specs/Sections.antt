-- Sections of a project file: a header, and the lines up to the next one.
use Rattle.std.specs.Prelude.{ℕ, ◌+◌, Bool, true, false, ◌&&◌, List, [], ◌∷◌, ◌++◌, Option, None, Some, bytes_eq, codes, filter, find, map, if◌then◌else◌}
use Rattle.std.specs.List.{list_any}
use Rattle.project_lines.specs.declared.section.Section.{Section}
use Rattle.project_lines.specs.declared.section.Title.{Title}
use Rattle.project_lines.specs.declared.section.Title.TheVariants.{Options, Script, Files, Logic, Report, Test}
use Rattle.project_lines.specs.Lines.{key_of, behind_key, is_filled, header_of}
use Rattle.project_lines.specs.Words.{is_name}

-- a section: the number of its header's line, what stands in the header's brackets, and its lines
pub record Part : Type 0 where
  pub number : ℕ
  pub header : List ℕ
  pub lines : List (List ℕ)

-- a section of the reader as contracts see it
abbrev pub seen : Section → Part
seen section = record { number = section.number; header = section.header.now; lines = map (λ line. line.now) section.lines.now }

abbrev pub is_plain : List ℕ → Bool
is_plain line = elim (header_of line) [ None ↦ true | Some header ↦ false ]

-- the lines in front of the first header
unfoldable pub lead : List (List ℕ) → List (List ℕ)
lead [] = []
lead (line ∷ more) = if is_plain line then line ∷ lead more else []

abbrev pub section_by : Option (List ℕ) → ℕ → List (List ℕ) → List Part
section_by None number more = []
section_by (Some header) number more = record { number = number; header = header; lines = lead more } ∷ []

-- the section that a line begins, where it is a header
unfoldable pub section_at : ℕ → List ℕ → List (List ℕ) → List Part
section_at number line more = section_by (header_of line) number more

-- the sections of lines that are numbered from here on
unfoldable pub parts_of : ℕ → List (List ℕ) → List Part
parts_of number [] = []
parts_of number (line ∷ more) = section_at number line more ++ parts_of (number + 1) more

abbrev pub plain_title : List ℕ → Option Title
plain_title word =
    if bytes_eq word (codes "options") then Some Options else
    (if bytes_eq word (codes "script") then Some Script else
    (if bytes_eq word (codes "files") then Some Files else
    (if bytes_eq word (codes "logic") then Some Logic else
    (if bytes_eq word (codes "report") then Some Report else None))))

-- the second word of a header
abbrev pub name_in : List ℕ → List ℕ
name_in header = key_of (behind_key header)

-- the title of a header: one word, or `test` and a name
unfoldable pub title_of : List ℕ → Option Title
title_of header =
    if is_filled (key_of (behind_key (behind_key header))) then None else
    (if is_filled (name_in header)
    then (if bytes_eq (key_of header) (codes "test") && is_name (name_in header) then Some Test else None)
    else plain_title (key_of header))

-- both headers are those of one section
abbrev pub is_same_header : List ℕ → List ℕ → Bool
is_same_header other header = bytes_eq (key_of other) (key_of header) && bytes_eq (name_in other) (name_in header)

-- one of the sections has this header
unfoldable pub has_header : List ℕ → List Part → Bool
has_header header parts = list_any (λ part. is_same_header part.header header) parts

-- the first section whose header begins with this word
unfoldable pub find_part : List ℕ → List Part → Option Part
find_part word parts = find (λ part. bytes_eq (key_of part.header) word) parts

-- its lines, or none
unfoldable pub lines_in : List ℕ → List Part → List (List ℕ)
lines_in word parts = elim (find_part word parts) [ None ↦ [] | Some part ↦ part.lines ]

-- the section is a test's
unfoldable pub is_test : Part → Bool
is_test part = bytes_eq (key_of part.header) (codes "test")

-- the sections of tests
unfoldable pub tests_in : List Part → List Part
tests_in parts = filter is_test parts
