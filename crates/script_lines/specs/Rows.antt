-- Rows: the lines of a script that say something.
use Rattle.std.specs.Prelude.{ℕ, ◌==◌, Bool, List, [], ◌∷◌, ◌++◌, Option, None, Some, take, if◌then◌else◌}
use Rattle.std.specs.List.{list_all, prefix_len}
use Rattle.mcy_base.specs.declared.file.Line.{Line}
use Rattle.project_lines.specs.Lines.{from_word}
use Rattle.script_lines.specs.declared.class.Class.TheVariants.{Blank}
use Rattle.script_lines.specs.declared.row.Row.{Row}
use Rattle.script_lines.specs.Classes.{is_in}
use Rattle.script_lines.specs.Tokens.{is_end, tokens}

abbrev pub is_space : ℕ → Bool
is_space byte = byte == 32

-- how many spaces (32) stand in front, where no tab stands among the blanks there
unfoldable pub indent_of : List ℕ → Option ℕ
indent_of text =
    let len = prefix_len (is_in Blank) text in
    if list_all is_space (take len text) then Some len else None

unfoldable pub row_of : Line → Row
row_of line = record { number = line.number; indent = indent_of line.text; tokens = tokens line.text }

-- the row of a line, where it is not blank and no comment alone
unfoldable pub rows_at : Line → List Row
rows_at line = if is_end (from_word line.text) then [] else row_of line ∷ []

-- the rows of lines
unfoldable pub rows_of : List Line → List Row
rows_of [] = []
rows_of (line ∷ more) = rows_at line ++ rows_of more
