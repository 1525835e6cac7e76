-- What the events of a program leave of the keeper's book.
use Rattle.campaign_core.proofs.Common.{◌≡◌, ◌∙◌, inl, inr, ℕ, [], ◌∷◌, ◌++◌, Option, Some, Result, Ok, Err, refl, sym, ap, subst, ◌⊎◌, OnOk, Book, Entry, IsSecond, Keeps, with_entry, Campaign}
use Rattle.campaign_core.proofs.Common.{CoreError, Event, Start, Turn, Commit, Stop, IsRowOf, Takes, AddsRow, AddsRowBy, AreTold, TouchesNone, next_event, LeavesNext, book_of, Asked, Busy, Turns}
use Rattle.campaign_core.proofs.Common.{IsUnderWay, same_Some}
use Rattle.result_book.proofs.Refusals.{one_row}
use Rattle.campaign_core.specs.declared.event.CoreError.TheVariants.{Keeper as Failed, Memory as NoMemory}

-- a keeper that keeps the book of these rows tells them alone
pub kept_told : {T : Type 0} (gives : Asked → ℕ → Type 0) (s : Turns T) (holds : Book → Type 0) (leaves : Option Book → Type 0) → IsUnderWay gives s → ((book other : Book) → holds book → holds other → book ≡ other)
    → ((book : Book) → holds book → Keeps holds leaves (book_of s.campaign s.state.rows)) → AreTold holds s.state.rows
kept_told gives s holds leaves order one kept book held =
    let same : book_of s.campaign s.state.rows ≡ book = one (book_of s.campaign s.state.rows) book (kept book held).told held in
    subst (λ (b : Book). (b.journal ≡ s.state.rows) × IsSecond b) same (refl, order.fit.format)

-- the word of a slot's job makes one row
same_row : {T : Type 0} (s : Turns T) (slot : ℕ) (e f : Entry) → IsRowOf s slot e → IsRowOf s slot f → e ≡ f
same_row s slot e f one two =
    let there : Some one.busy ≡ Some two.busy = same_Some (Some one.busy) (Some two.busy) (sym one.at ∙ two.at) in
    let busy : one.busy ≡ two.busy = same_Some one.busy two.busy there in
    let mutation : e.mutation ≡ f.mutation = one.pair.0 ∙ ap (λ (b : Busy). b.asked.mutation) busy ∙ sym two.pair.0 in
    let test : e.test ≡ f.test = one.pair.1 ∙ ap (λ (b : Busy). b.asked.test) busy ∙ sym two.pair.1 in
    let word : e.word ≡ f.word = same_Some e.word f.word (sym one.word ∙ ap (λ (b : Busy). b.word) busy ∙ two.word) in
    let bound : e.bound ≡ f.bound = one.bound ∙ ap (λ (b : Busy). b.asked.bound) busy ∙ sym two.bound in
    one_row s.campaign s.state.rows e f one.row two.row mutation test word bound

module _ {T K : Type 0} (gives : Asked → ℕ → Type 0) (most : Asked → ℕ) (holds : K → Book → Type 0) (leaves : K → Option Book → Type 0) (old new : Turns T) (k k' : K)
    (kept : Keeps (holds k) (leaves k) (book_of old.campaign old.state.rows)) where
  -- ---- an event that took place

  -- without a row
  still : k' ≡ k → new.campaign ≡ old.campaign → new.state.rows ≡ old.state.rows → Keeps (holds k') (leaves k') (book_of new.campaign new.state.rows)
  still same campaign rows =
      let book : book_of new.campaign new.state.rows ≡ book_of old.campaign old.state.rows = ap (λ (c : Campaign). book_of c new.state.rows) campaign ∙ ap (book_of old.campaign) rows in
      subst (λ (x : K). Keeps (holds x) (leaves x) (book_of new.campaign new.state.rows)) (sym same) (subst (λ (b : Book). Keeps (holds k) (leaves k) b) (sym book) kept)

  -- with one
  grown : (e f : Entry) → e ≡ f → new.campaign ≡ old.campaign → new.state.rows ≡ old.state.rows ++ f ∷ [] → ((book : Book) → holds k book → Keeps (holds k') (leaves k') (with_entry book e)) → Keeps (holds k') (leaves k') (book_of new.campaign new.state.rows)
  grown e f same campaign rows done =
      let book : with_entry (book_of old.campaign old.state.rows) e ≡ book_of new.campaign new.state.rows =
      ap (λ (x : Entry). book_of old.campaign (old.state.rows ++ x ∷ [])) same ∙ ap (book_of old.campaign) (sym rows) ∙ ap (λ (c : Campaign). book_of c new.state.rows) (sym campaign) in
      subst (λ (b : Book). Keeps (holds k') (leaves k') b) book (done (book_of old.campaign old.state.rows) kept.told)

  pub kept_after : (e : Event) (result : Result (Unit {0}) CoreError) → result ≡ Ok tt → (TouchesNone e → k' ≡ k) → AddsRowBy old e (holds k) (holds k') (leaves k) (leaves k') result → Takes gives most old e new → Keeps (holds k') (leaves k') (book_of new.campaign new.state.rows)
  kept_after (Start slot m t bound) result ok untouched adds taken = still (untouched tt) (ap (λ (s : Turns T). s.campaign) taken.is) (ap (λ (s : Turns T). s.state.rows) taken.is)
  kept_after (Turn slot) result ok untouched adds taken = still (untouched tt) (ap (λ (s : Turns T). s.campaign) taken.is) (ap (λ (s : Turns T). s.state.rows) taken.is)
  kept_after (Commit slot) result ok untouched adds taken =
      grown adds.entry taken.entry (same_row old slot adds.entry taken.entry adds.row taken.row) (ap (λ (s : Turns T). s.campaign) taken.is) taken.state.rows_are
      (subst (λ (r : Result (Unit {0}) CoreError). OnOk r ((book : Book) → holds k book → Keeps (holds k') (leaves k') (with_entry book adds.entry))) ok adds.done)
  kept_after Stop result ok untouched adds taken = still (untouched tt) (ap (λ (s : Turns T). s.campaign) taken) (ap (λ (s : Turns T). s.state.rows) taken)

  -- ---- one that was refused

  -- a crash leaves what it left before
  only : k' ≡ k → LeavesNext (leaves k') old
  only same other is = inl (kept.crash.nothing_else other (subst (λ (x : K). leaves x other) same is))

  left_row : (slot : ℕ) (err : CoreError) (result : Result (Unit {0}) CoreError) → result ≡ Err err → next_event old ≡ Some (Commit slot) → AddsRow old slot (holds k) (holds k') (leaves k) (leaves k') result → LeavesNext (leaves k') old
  left_row slot Failed result is comes adds other left = go (adds.failed is (book_of old.campaign old.state.rows) kept.told other left)
    where
      go : (other ≡ Some (book_of old.campaign old.state.rows)) ⊎ (other ≡ Some (with_entry (book_of old.campaign old.state.rows) adds.entry))
          → (other ≡ Some (book_of old.campaign old.state.rows)) ⊎ ((at : ℕ) × (e : Entry) × (next_event old ≡ Some (Commit at)) × IsRowOf old at e × (other ≡ Some (with_entry (book_of old.campaign old.state.rows) e)))
      go (inl before) = inl before
      go (inr after) = inr (slot, adds.entry, comes, adds.row, after)
  left_row slot NoMemory result is comes adds other left = inl (kept.crash.nothing_else other ((adds.still is).1 other left))

  pub left_next : (e : Event) (err : CoreError) (result : Result (Unit {0}) CoreError) → result ≡ Err err → next_event old ≡ Some e → (TouchesNone e → k' ≡ k) → AddsRowBy old e (holds k) (holds k') (leaves k) (leaves k') result → LeavesNext (leaves k') old
  left_next (Start slot m t bound) err result is comes untouched adds = only (untouched tt)
  left_next (Turn slot) err result is comes untouched adds = only (untouched tt)
  left_next (Commit slot) err result is comes untouched adds = left_row slot err result is comes adds
  left_next Stop err result is comes untouched adds = only (untouched tt)
