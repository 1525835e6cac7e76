-- The design's files, line by line: beside each line, on how many of its mutations the script ended with each tag.
use Rattle.std.specs.Prelude.{◌≡◌, ℕ, ◌+◌, ◌-◌, ◌^◌, ◌<◌, Bool, true, ◌==◌, ◌&&◌, List, [], ◌∷◌, ◌++◌, length, drop, map, slice_get, slice_index, slice_set, replicate, count_by, Option, None, Some, codes, decimal, if◌then◌else◌, Vec}
use Rattle.std.specs.Borrow.{Bor}
use Rattle.std.specs.declared.alloc.Global.{Global}
use Rattle.std.specs.Str.Lines.{lines, lines_of_parts}
use Rattle.mcy_base.specs.declared.file.SourceFile.{SourceFile}
use Rattle.mcy_keeper.specs.declared.book.Entry.{Entry}
use Rattle.result_book.specs.declared.campaign.Campaign.{Campaign}
use Rattle.tag_script.specs.declared.answer.Ask.{Ask}
use Rattle.result_book.specs.declared.answer.Answer.{Answer}
use Rattle.result_book.specs.Scripts.{ask}
use Rattle.result_book.specs.Rows.{groups}
use Rattle.source_report.specs.declared.counts.End.{End}
use Rattle.source_report.specs.declared.counts.End.TheVariants.{Tag}
use Rattle.source_report.specs.declared.line_counts.LineCounts.{LineCounts}
use Rattle.source_report.specs.Texts.{is_end, tag_counts}

-- the place is this line of this file
abbrev pub is_at : ℕ → ℕ → ℕ × ℕ → Bool
is_at file line place = place.0 == file && place.1 == line

-- the answers of those mutations that are at a line of a file, of mutations at these places and with these answers
abbrev pub answers_at : ℕ → ℕ → List (ℕ × ℕ) → List (List Answer) → List (List Answer)
answers_at file line (place ∷ places) (answers ∷ groups) =
    if is_at file line place then answers ∷ answers_at file line places groups else answers_at file line places groups
answers_at file line places groups = []

-- a text in so many columns, behind blanks
abbrev pub aligned : ℕ → List ℕ → List ℕ
aligned width text = replicate (width - length text) 32 ++ text

-- a count, or a point where there is no mutation
abbrev pub count_text : ℕ → ℕ → List ℕ
count_text mutations count = if mutations == 0 then codes "." else decimal count

-- a column for each count, of a line with so many mutations
abbrev pub columns : ℕ → List ℕ → List ℕ
columns mutations [] = []
columns mutations (count ∷ counts) = codes " " ++ (aligned 6 (count_text mutations count) ++ columns mutations counts)

-- a line with its number, counted from 1, how many mutations it has, and on how many of them the script ended with each tag
abbrev pub line_text : ℕ → ℕ → List ℕ → List ℕ → List ℕ
line_text number mutations counts line = aligned 5 (decimal number) ++ (columns mutations counts ++ (codes " | " ++ (line ++ codes "\n")))

-- the line with these mutations
abbrev pub source_line : Campaign → ℕ → List (List Answer) → List ℕ → List ℕ
source_line c number here line = line_text number (length here) (tag_counts c here 0 c.tags) line

-- lines of a file, numbered from here on
abbrev pub source_lines : Campaign → List (List Answer) → ℕ → ℕ → List (List ℕ) → List ℕ
source_lines c groups file number [] = []
source_lines c groups file number (line ∷ more) = source_line c number (answers_at file number c.lines groups) line ++ source_lines c groups file (number + 1) more

-- the names of the tags, each behind a blank
abbrev pub tag_names : List (List ℕ) → List ℕ
tag_names [] = []
tag_names (name ∷ names) = codes " " ++ (name ++ tag_names names)

-- what stands before a file's lines: its name, and those of the tags
abbrev pub head_text : List (List ℕ) → List ℕ → List ℕ
head_text tags name = codes "File: " ++ (name ++ (codes "\nColumns:" ++ (tag_names tags ++ codes "\n")))

abbrev pub file_text : Campaign → List (List Answer) → ℕ → SourceFile → List ℕ
file_text c groups number file = head_text c.tags file.name ++ source_lines c groups number 1 (lines file.bytes)

-- files, numbered from here on
abbrev pub file_texts : Campaign → List (List Answer) → ℕ → List SourceFile → List ℕ
file_texts c groups number [] = []
file_texts c groups number (file ∷ files) = file_text c groups number file ++ file_texts c groups (number + 1) files

-- the files of the design in the order of reading, for a campaign whose journal has these rows
unfoldable pub source_text : Campaign → List Entry → List SourceFile → List ℕ
source_text c rows files = file_texts c (groups c rows) 0 files

-- For proofs alone.

-- How the text of a file is made.

-- the lines of the parts of a file from one on
abbrev pub lines_from : List (Bor (List ℕ)) → ℕ → List (List ℕ)
lines_from parts row = lines_of_parts (drop row (map (λ part. part.now) parts))

-- a script ended in this way, or stands in any
abbrev pub is_wanted : Option End → Ask → Bool
is_wanted None ask = true
is_wanted (Some end) ask = is_end end ask

-- a mutation at this place, on which the script stands so, counts on a line of a file, which is counted from 0
abbrev pub is_counted : ℕ → Option End → ℕ → (ℕ × ℕ) × Ask → Bool
is_counted file wanted row mutation = is_at file (row + 1) mutation.0 && is_wanted wanted mutation.1

-- the counts with one more on a line, if one is given
abbrev pub counted : Option ℕ → List ℕ → List ℕ
counted None counts = counts
counted (Some row) counts = slice_set counts row (slice_index counts row + 1)

-- on how many of these mutations it did
abbrev pub wanted_count : Campaign → List (List Answer) → Option End → ℕ
wanted_count c here wanted = count_by (λ answers. is_wanted wanted (ask c answers)) here

-- The counts are those of so many lines of a file, from the first line on.
pub record AreCounted (c : Campaign) (groups : List (List Answer)) (file lines : ℕ) (wanted : Option End) (counts : List ℕ) : Type 0 where
  pub count : length counts ≡ lines
  pub each : (row : ℕ) → row < lines → slice_index counts row ≡ wanted_count c (answers_at file (row + 1) c.lines groups) wanted

-- They are those of all mutations, and those of each tag.
pub record AreLineCounts (c : Campaign) (groups : List (List Answer)) (file lines : ℕ) (all : LineCounts) : Type 0 where
  pub mutations : AreCounted c groups file lines None all.mutations.items
  pub count : length all.tags.items ≡ length c.tags
  pub tags : (tag : ℕ) (counts : Vec ℕ Global) → slice_get all.tags.items tag ≡ Some counts → AreCounted c groups file lines (Some (Tag (2 ^ tag))) counts.items
