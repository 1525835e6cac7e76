-- The row of a slot's word, and what a commit leaves of its keeper.
use Rattle.campaign_core.proofs.Common.{◌≡◌, ◌∙◌, ℕ, List, [], length, Option, Some, Result, Ok, Err, false, refl, sym, ap, subst, Book, Entry, AreNumbered, IsNext, Keeps, LeavesEither}
use Rattle.campaign_core.proofs.Common.{LeavesNothingNew, TellsStill, with_entry, Campaign, IsWordOf, AreRows, IsPair, IsRow, CoreError, Answered, IsRowOf, AddsRow, Asked, IsIn, Turns, IsUnderWay}
use Rattle.mcy_keeper.specs.declared.keeper.KeepError.{KeepError}
use Rattle.mcy_keeper.specs.declared.keeper.KeepError.TheVariants.{Fault, Memory}
use Rattle.result_book.proofs.Growing.{are_numbered}
use Rattle.campaign_core.specs.declared.event.CoreError.TheVariants.{Keeper as Failed, Memory as NoMemory}
use Rattle.campaign_core.specs.Refusals.{refused_as}
use Rattle.campaign_core.proofs.StageLemmas.{ended}

-- ---- what an append asks

-- the row is the next of a book that is told
pub next_told : (c : Campaign) (rows : List Entry) (book : Book) (e : Entry) → AreRows c [] rows → book.journal ≡ rows → IsRow c rows e → IsNext book e
next_told c rows book e form same row = record {
  numbered = subst (AreNumbered 0) (sym same) (are_numbered false c [] rows 0 refl form);
  next = row.seq ∙ ap length (sym same);
}

-- ---- the row

module _ {T : Type 0} (s : Turns T) (slot : ℕ) (told : Answered) (at : IsIn s.slots slot (ended told)) where
  pub row_of : (e : Entry) → IsRow s.campaign s.state.rows e → IsPair told.mutation told.want.test e → e.word ≡ told.word → e.bound ≡ told.want.bound → IsRowOf s slot e
  row_of e row pair word bound = record { busy = ended told; at = at; row = row; pair = pair; bound = bound; word = ap (λ (w : ℕ). Some w) (sym word) }

  -- its word is one of its test
  pub word_told : (gives : Asked → ℕ → Type 0) → IsUnderWay gives s → IsWordOf s.campaign told.want.test told.word
  word_told gives order = (order.tests slot (ended told) at).given.1

-- ---- what an append leaves

ok_no_err : {X E : Type 0} (x : X) (e : E) → Ok x ≡ Err e → ⊥
ok_no_err x e h = cc

failed_no_memory : ◌≡◌ {A = Result (Unit {0}) CoreError} (Err Failed) (Err NoMemory) → ⊥
failed_no_memory h = cc

memory_no_failed : ◌≡◌ {A = Result (Unit {0}) CoreError} (Err NoMemory) (Err Failed) → ⊥
memory_no_failed h = cc

module _ {T : Type 0} (s : Turns T) (slot : ℕ) (e : Entry) (row : IsRowOf s slot e) (holds holds' : Book → Type 0) (leaves leaves' : Option Book → Type 0) where
  pub row_added : ((book : Book) → holds book → Keeps holds' leaves' (with_entry book e)) → AddsRow s slot holds holds' leaves leaves' (Ok tt)
  row_added keeps = record { entry = e; row = row; done = keeps; failed = λ never. absurd (ok_no_err tt Failed never); still = λ never. absurd (ok_no_err tt NoMemory never) }

  pub row_refused : (refused : KeepError) → (refused ≡ Fault → (book : Book) → holds book → LeavesEither leaves' book (with_entry book e)) → (refused ≡ Memory → TellsStill holds holds') → (refused ≡ Memory → LeavesNothingNew leaves leaves')
      → AddsRow s slot holds holds' leaves leaves' (Err (refused_as refused))
  row_refused Fault either same nothing = record { entry = e; row = row; done = tt; failed = λ is. either refl; still = λ never. absurd (failed_no_memory never) }
  row_refused Memory either same nothing = record { entry = e; row = row; done = tt; failed = λ never. absurd (memory_no_failed never); still = λ is. (same refl, nothing refl) }
