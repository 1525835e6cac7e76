-- What every crash leaves.
use Rattle.std.specs.Prelude.{Option, IsSomeAnd}
use Rattle.mcy_keeper.specs.declared.book.Book.{Book}

-- whatever a crash leaves is a book, and it is so
abbrev pub LeavesBooks : (Option Book → Type 0) → (Book → Type 0) → Type 0
LeavesBooks leaves IsSo = (left : Option Book) → leaves left → IsSomeAnd left IsSo
