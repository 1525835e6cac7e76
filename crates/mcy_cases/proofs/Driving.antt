-- A campaign that is begun in the empty book of a keeper, and a core over it.
use Rattle.std.proofs.Common.{◌≡◌, List, [], Option, Result, Ok, Err, sym, subst}
use Rattle.std.specs.Prelude.{OnOk}
use Rattle.mcy_keeper.specs.declared.book.Book.{Book}
use Rattle.mcy_keeper.specs.declared.book.Entry.{Entry}
use Rattle.mcy_keeper.specs.declared.keeper.KeepError.{KeepError}
use Rattle.mcy_keeper.specs.Books.{begun as begun_book, Keeps}
use Rattle.result_book.specs.declared.campaign.Campaign.{Campaign}
use Rattle.campaign_core.specs.Running.{book_of}
use Rattle.campaign_core.specs.Turns.{Turns}

-- a begin that ended well leaves the campaign's book without rows
pub begins_kept : (holds holds' : Book → Type 0) (leaves' : Option Book → Type 0) (result : Result (Unit {0}) KeepError) (c : Campaign) (was : Book) → holds was
    → OnOk result ((book : Book) → holds book → Keeps holds' leaves' (begun_book c.meta c.mutations)) → OnOk result (Keeps holds' leaves' (book_of c []))
begins_kept holds holds' leaves' (Ok done) c was held keeps = keeps was held
begins_kept holds holds' leaves' (Err error) c was held keeps = tt

-- and a new core over a state without rows has those of that book
pub core_kept : {T : Type 0} (holds : Book → Type 0) (leaves : Option Book → Type 0) (c : Campaign) (s : Turns T) → s.campaign ≡ c → s.state.rows ≡ [] → Keeps holds leaves (book_of c []) → Keeps holds leaves (book_of s.campaign s.state.rows)
core_kept {T} holds leaves c s campaign rows kept =
    subst (λ (d : Campaign). Keeps holds leaves (book_of d s.state.rows)) (sym campaign) (subst (λ (rs : List Entry). Keeps holds leaves (book_of c rs)) (sym rows) kept)
