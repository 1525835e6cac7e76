-- A keeper in memory whose calls fail by a list, as its callers see it, and what its calls do.
use Rattle.std.specs.Prelude.{◌≡◌, ℕ, Bool, true, false, if◌then◌else◌, List, Option, None, Result, OnOk, IfOk, IsErrOf, MatchOption}
use Rattle.mcy_base.specs.Calls.{at_call, call_after}
use Rattle.mcy_base.specs.Causes.{one_more}
use Rattle.mcy_keeper.specs.declared.book.Book.{Book}
use Rattle.mcy_keeper.specs.declared.keeper.KeepError.{KeepError}
use Rattle.mcy_keeper.specs.declared.keeper.KeepError.TheVariants.{Fault, Memory}

pub record ScriptedKeeper : Type 0 where
  -- the book that it keeps
  pub book : Book
  -- whether it tells that book: no write has failed since the last load
  pub told : Bool
  -- whether a load has ended well, and no write has failed since
  pub settled : Bool
  -- the numbers of the calls that fail, each with whether a write leaves the new book all the same
  pub failing : List (ℕ × Bool)
  -- the number of the next call
  pub next : Option ℕ
  -- how many calls have failed
  pub faults : ℕ

-- For proofs alone.

-- what is said of the next call, if it is one that fails
abbrev pub failure : ScriptedKeeper → Option Bool
failure k = at_call k.failing k.next

-- the keeper with one call counted
abbrev pub called : ScriptedKeeper → ScriptedKeeper
called k = record k { next = call_after k.next }

-- what a load does
pub record Loads (old new : ScriptedKeeper) (result : Result Book KeepError) : Type 0 where
  pub ok : IfOk result (λ found. (failure old ≡ None) × (found ≡ old.book) × (new ≡ record (called old) { told = true; settled = true }))
  pub fault : IsErrOf result Fault → (failure old ≡ None → ⊥) × (new ≡ record (called old) { faults = one_more old.faults })
  pub memory : IsErrOf result Memory → (failure old ≡ None) × (new ≡ called old)

-- what a write does that makes of the book this one
pub record Writes (old new : ScriptedKeeper) (after : Book) {T : Type 0} (result : Result T KeepError) : Type 0 where
  pub ok : OnOk result ((failure old ≡ None) × (new ≡ record (called old) { book = after }))
  pub fault : IsErrOf result Fault → MatchOption (failure old) ⊥ (λ whole. new ≡ record (called old) { book = if whole then after else old.book; told = false; settled = false; faults = one_more old.faults })
  pub memory : IsErrOf result Memory → new ≡ called old
