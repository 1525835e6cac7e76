-- A book is not of two formats.
use Rattle.std.proofs.Common.{◌≡◌, false, true, sym, ◌∙◌}
use Rattle.mcy_keeper.specs.declared.book.Book.{Book}
use Rattle.mcy_keeper.specs.Books.{IsFirst, IsSecond}
use Rattle.result_book.proofs.Formats.{second_is_not_first}

pub not_first : (book : Book) → IsSecond book → ¬ IsFirst book
not_first book second first = let both : true ≡ false = sym first ∙ second_is_not_first book second in cc
