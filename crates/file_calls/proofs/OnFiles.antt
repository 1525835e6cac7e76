-- A call on a file, and lists of them.
use Rattle.std.proofs.Common.{◌≡◌, ◌⊎◌, inl, inr, ℕ, List, [], ◌∷◌, Option, Some, subst, sym}
use Rattle.sqlite_wal.specs.Recovery.{Image}
use Rattle.mcy_keeper.specs.declared.book.Book.{Book}
use Rattle.mcy_keeper.specs.Books.{LeavesNothingNew, LeavesSome}
use Rattle.mcy_outside.specs.Files.{Held}
use Rattle.campaign_outcomes.specs.declared.outcome.Outcome.{Outcome}
use Rattle.command_words.specs.declared.command.Command.{Command}
use Rattle.keeper_file.specs.Contents.{HasOnly}
use Rattle.keeper_file.proofs.Reopened.{empty_found}
use Rattle.mcy_top.specs.Complete.{IsReady, NoneRose}
use Rattle.mcy_top.specs.Life.{Early, HasCause, Life, Unloaded}
use Rattle.mcy_top.specs.Histories.{AllFindBooks, AreTurns, IsNew, Left, Turn}
use Rattle.mcy_top.proofs.Histories.{calls_find, calls_history, calls_safe, calls_tell}
use Rattle.file_calls.specs.Turns.{AreOnFiles, CallsOnFilesAreSafe, EmptyFilesAreBlank, HaveBooks}

-- where the keeper left at the beginning only what is found, and told no book
module _ (words : List (List ℕ)) (held : Option Held) (holds : Book → Type 0) (found old : Option Book → Type 0) (only : LeavesNothingNew found old) where
  early_on : (new : Option Book → Type 0) (taken taken' : ℕ) (outcome : Outcome) → Early old new taken taken' outcome → Early found new taken taken' outcome
  early_on new taken taken' outcome early = record { early = early.early; leaves_is = λ left is. only left (early.leaves_is left is); steps_is = early.steps_is }

  unloaded_on : (new : Option Book → Type 0) (taken taken' : ℕ) (outcome : Outcome) → Unloaded words old new taken taken' outcome → Unloaded words found new taken taken' outcome
  unloaded_on new taken taken' outcome (inl early) = inl (early_on new taken taken' outcome early)
  unloaded_on new taken taken' outcome (inr aside) = inr (record { asked = aside.asked; leaves_is = λ left is. only left (aside.leaves_is left is) })

  life_on : (new : Option Book → Type 0) (written written' : Option (List ℕ)) (taken taken' : ℕ) (outcome : Outcome)
      → Life words held holds old new written written' taken taken' outcome → Life words held (λ _. ⊥) found new written written' taken taken' outcome
  life_on new written written' taken taken' outcome life = record {
    command = life.command;
    prepared = life.prepared;
    loaded = life.loaded;
    asked = life.asked;
    on_book = life.on_book;
    made = life.made;
    found = λ was none. absurd none;
    allowed = only (Some life.loaded) life.allowed;
    work = life.work;
    passes = life.passes;
  }

  pub lived_on : (new : Option Book → Type 0) (written written' : Option (List ℕ)) (outcome : Outcome)
      → (n : ℕ) × (Unloaded words old new 0 n outcome ⊎ Life words held holds old new written written' 0 n outcome)
      → (n : ℕ) × (Unloaded words found new 0 n outcome ⊎ Life words held (λ _. ⊥) found new written written' 0 n outcome)
  lived_on new written written' outcome (n, (inl unloaded)) = (n, inl (unloaded_on new 0 n outcome unloaded))
  lived_on new written written' outcome (n, (inr life)) = (n, inr (life_on new written written' 0 n outcome life))

  pub ready_on : (command : Command) → IsReady words held (λ _. ⊥) found command → IsReady words held holds old command
  ready_on command ready = record {
    asked = ready.asked;
    on_book = ready.on_book;
    readable = ready.readable;
    takes = λ c book made left told. ready.takes c book made (only (Some book) left) (λ was none. absurd none);
    passes = ready.passes;
  }

-- Lists of calls.

module _ {K : Type 0} (holds : K → Book → Type 0) (leaves : K → Option Book → Type 0) where
  turns_on : (found : Option Book → Type 0) (may : Image → Type 0) → ((image : Image) → may image → HasOnly found image) → (turns : List (Turn K)) → AreOnFiles holds leaves may turns → AreTurns holds leaves found turns
  turns_on found may only [] on = tt
  turns_on found may only (turn ∷ more) (begins, (is, rest)) =
      (λ left was. only begins.0 begins.1 left ((begins.2 left).0 was), (is, turns_on (Left holds leaves turn is) (HasOnly (Left holds leaves turn is)) (λ image has. has) more rest))

  pub calls_on : (start : Book) (turns : List (Turn K)) → AreOnFiles holds leaves (HasOnly (IsNew start)) turns → AreTurns holds leaves (IsNew start) turns
  calls_on start = turns_on (IsNew start) (HasOnly (IsNew start)) (λ image has. has)

  -- what is found at each entry is what the keeper leaves there
  books_on : (tells : K → Type 0) (found : Option Book → Type 0) (may : Image → Type 0) (only : (image : Image) → may image → HasOnly found image) (turns : List (Turn K)) (on : AreOnFiles holds leaves may turns)
      → AllFindBooks tells holds leaves found turns (turns_on found may only turns on) → HaveBooks holds leaves may turns on
  unfolding turns_on
  books_on tells found may only [] on all = tt
  books_on tells found may only (turn ∷ more) (begins, (is, rest)) all =
      (λ left has. all.0.good left ((begins.2 left).1 has), books_on tells (Left holds leaves turn is) (HasOnly (Left holds leaves turn is)) (λ image has. has) more rest all.1)

pub safe_on : {K : Type 0} (tells : K → Type 0) (holds : K → Book → Type 0) (leaves : K → Option Book → Type 0) → ((k : K) → tells k → LeavesSome (leaves k)) → CallsOnFilesAreSafe tells holds leaves
safe_on tells holds leaves survives start turns is on =
    let are : AreTurns holds leaves (IsNew start) turns = turns_on holds leaves (IsNew start) (HasOnly (IsNew start)) (λ image has. has) turns on in
    let restarts : AllFindBooks tells holds leaves (IsNew start) turns are = calls_find tells holds leaves survives start turns is are in
    record {
      are = are;
      history = calls_history holds leaves start turns are;
      safe = calls_safe holds leaves start turns is are;
      texts = calls_tell holds leaves start turns is are;
      restarts = restarts;
      books = books_on holds leaves tells (IsNew start) (HasOnly (IsNew start)) (λ image has. has) turns on restarts;
    }

pub blank_on : EmptyFilesAreBlank
blank_on = empty_found

-- the causes of a call whose keeper had counted this many faults before
pub cause_on : (files files' keeper keeper' count sink sink' : ℕ) (outcome : Outcome) → keeper ≡ count → HasCause files files' keeper keeper' sink sink' outcome → HasCause files files' count keeper' sink sink' outcome
cause_on files files' keeper keeper' count sink sink' outcome is cause = subst (λ (n : ℕ). HasCause files files' n keeper' sink sink' outcome) is cause

pub none_on : (files files' keeper keeper' count sink sink' : ℕ) → keeper ≡ count → NoneRose files files' count keeper' sink sink' → NoneRose files files' keeper keeper' sink sink'
none_on files files' keeper keeper' count sink sink' is none = subst (λ (n : ℕ). NoneRose files files' n keeper' sink sink') (sym is) none
