-- What the events do to the keeper.
use Rattle.std.specs.Prelude.{◌≡◌, ℕ, List, Option, Result, OnOk, IsErrOf, ⊤}
use Rattle.mcy_keeper.specs.declared.book.Entry.{Entry}
use Rattle.mcy_keeper.specs.declared.book.Book.{Book}
use Rattle.mcy_keeper.specs.Books.{IsSecond, Keeps, LeavesEither, LeavesNothingNew, TellsStill, with_entry}
use Rattle.campaign_core.specs.declared.event.CoreError.{CoreError}
use Rattle.campaign_core.specs.declared.event.CoreError.TheVariants.{Keeper as Failed, Memory as NoMemory}
use Rattle.campaign_core.specs.declared.event.Event.{Event}
use Rattle.campaign_core.specs.declared.event.Event.TheVariants.{Start, Turn, Commit, Stop}
use Rattle.campaign_core.specs.Events.{IsRowOf}
use Rattle.campaign_core.specs.Turns.{Turns}

-- where a book is told, it has these rows, and is of the second format
abbrev pub AreTold : (Book → Type 0) → List Entry → Type 0
AreTold holds rows = (book : Book) → holds book → (book.journal ≡ rows) × IsSecond book

-- The row of the slot's word was added to the book that was told; or its keeper failed, and a crash leaves that book or the one with
-- the row; or there was no memory, and all is as before.
pub record AddsRow {T : Type 0} (s : Turns T) (slot : ℕ) (holds holds' : Book → Type 0) (leaves leaves' : Option Book → Type 0) (result : Result (Unit {0}) CoreError) : Type 0 where
  pub entry : Entry
  pub row : IsRowOf s slot entry
  pub done : OnOk result ((book : Book) → holds book → Keeps holds' leaves' (with_entry book entry))
  pub failed : IsErrOf result Failed → (book : Book) → holds book → LeavesEither leaves' book (with_entry book entry)
  pub still : IsErrOf result NoMemory → TellsStill holds holds' × LeavesNothingNew leaves leaves'

-- what an event does to a keeper that tells
abbrev pub AddsRowBy : {T : Type 0} → Turns T → Event → (holds holds' : Book → Type 0) → (leaves leaves' : Option Book → Type 0) → Result (Unit {0}) CoreError → Type 0
AddsRowBy s (Start slot m t bound) holds holds' leaves leaves' result = ⊤
AddsRowBy s (Turn slot) holds holds' leaves leaves' result = ⊤
AddsRowBy s (Commit slot) holds holds' leaves leaves' result = AddsRow s slot holds holds' leaves leaves' result
AddsRowBy s Stop holds holds' leaves leaves' result = ⊤

-- the event is one that touches no keeper
abbrev pub TouchesNone : Event → Type 0
TouchesNone (Start slot m t bound) = ⊤
TouchesNone (Turn slot) = ⊤
TouchesNone (Commit slot) = ⊥
TouchesNone Stop = ⊤

-- how many steps an event takes that takes place
abbrev pub steps_of : Event → ℕ
steps_of (Start slot m t bound) = 1
steps_of (Turn slot) = 0
steps_of (Commit slot) = 0
steps_of Stop = 0
