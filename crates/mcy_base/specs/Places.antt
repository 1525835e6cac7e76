-- Places in the sources.
use Rattle.std.specs.Prelude.{Bool, ◌==◌, nat_lt, if◌then◌else◌}
use Rattle.mcy_base.specs.declared.span.Span.{Span}

-- one place stands before another: by file, line and column
abbrev pub stands_before : Span → Span → Bool
stands_before p q =
    if p.file == q.file
    then (if p.line == q.line then nat_lt p.col q.col else nat_lt p.line q.line)
    else nat_lt p.file q.file
