-- What every crash leaves, from what a keeper says.
use Rattle.std.proofs.Common.{◌≡◌, ◌⊎◌, inl, inr, sym, subst, Option, Some, None, IsSomeAnd}
use Rattle.mcy_keeper.specs.declared.book.Book.{Book}
use Rattle.mcy_keeper.specs.Books.{LeavesEither, LeavesOnly}
use Rattle.campaign_run.specs.Crashes.{LeavesBooks}

pub only_books : (leaves : Option Book → Type 0) (IsSo : Book → Type 0) (book : Book) → LeavesOnly leaves book → IsSo book → LeavesBooks leaves IsSo
only_books leaves IsSo book only so left is = subst (λ (o : Option Book). IsSomeAnd o IsSo) (sym (only.nothing_else left is)) so

pub either_books : (leaves : Option Book → Type 0) (IsSo : Book → Type 0) (before after : Book) → LeavesEither leaves before after → IsSo before → IsSo after → LeavesBooks leaves IsSo
either_books leaves IsSo before after either was so left is = go (either left is)
  where
    go : (left ≡ Some before) ⊎ (left ≡ Some after) → IsSomeAnd left IsSo
    go (inl same) = subst (λ (o : Option Book). IsSomeAnd o IsSo) (sym same) was
    go (inr same) = subst (λ (o : Option Book). IsSomeAnd o IsSo) (sym same) so

pub weaker_books : (leaves : Option Book → Type 0) (IsSo AlsoSo : Book → Type 0) → ((book : Book) → IsSo book → AlsoSo book) → LeavesBooks leaves IsSo → LeavesBooks leaves AlsoSo
weaker_books leaves IsSo AlsoSo also books left is = go left (books left is)
  where
    go : (o : Option Book) → IsSomeAnd o IsSo → IsSomeAnd o AlsoSo
    go None so = so
    go (Some book) so = also book so
