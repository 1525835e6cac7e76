-- Places: lines by the newlines, columns by the bytes of the line, both counted from 1.
use Rattle.std.specs.Prelude.{ℕ, ◌+◌, List, if◌then◌else◌, count_by, fold}
use Rattle.std.specs.List.{suffix_len}
use Rattle.mcy_base.specs.declared.span.Span.{Span}
use Rattle.vlog_token.specs.Bytes.{is_newline, is_in_line}

-- the place behind these bytes of a file
abbrev pub place_after : ℕ → List ℕ → Span
place_after file before = record {
  file = file;
  line = 1 + count_by is_newline before;
  col = 1 + suffix_len is_in_line before;
}

-- For proofs alone.

-- the place one byte on
abbrev pub next_place : Span → ℕ → Span
next_place at c =
    if is_newline c
    then record { file = at.file; line = at.line + 1; col = 1 }
    else record { file = at.file; line = at.line; col = at.col + 1 }

-- the place these bytes on
abbrev pub place_moved : Span → List ℕ → Span
place_moved at bytes = fold next_place at bytes
