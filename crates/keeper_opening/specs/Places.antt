-- A keeper before its first load, and after it.
use Rattle.std.specs.Prelude.{◌≡◌, refl, ℕ, Bool, false, Option, Some, None, ⊤, Result, Ok, Err, is_ok, is_some}
use Rattle.std.specs.Option.{option_or}
use mathlib.Core.Logic.{inl, inr}
use Rattle.sqlite.specs.Tree.{Trees}
use Rattle.sqlite.specs.Store.{Ghosts}
use Rattle.sqlite.specs.Held.{Held}
use Rattle.sqlite_trees.specs.View.{IsClean}
use Rattle.mcy_keeper.specs.declared.book.Book.{Book}
use Rattle.mcy_keeper.specs.Books.{LeavesSome}
use Rattle.mcy_keeper.specs.declared.keeper.KeepError.{KeepError}
use Rattle.mcy_keeper.specs.declared.keeper.KeepError.TheVariants.{Fault, Memory as NoMemory}
use Rattle.keeper_sqlite.specs.declared.sql_keeper.SqlKeeper.{SqlKeeper}
use Rattle.keeper_sqlite.specs.Stands.{Tells, Holds, Leaves}
use Rattle.keeper_sqlite.specs.Laws.{holds_one, holds_tells, leaves_some}
use Rattle.keeper_opening.specs.declared.opening.DatabaseFault.{DatabaseFault}
use Rattle.keeper_opening.specs.declared.opening.OpenError.{OpenError}
use Rattle.keeper_opening.specs.declared.opening.OpenError.TheVariants.{Memory, Refused}
use Rattle.keeper_opening.specs.declared.opening.OpeningKeeper.{OpeningKeeper}
use Rattle.keeper_opening.specs.declared.opening.Place.{Place}
use Rattle.keeper_opening.specs.declared.opening.Place.TheVariants.{Closed, Opened}
use Rattle.keeper_opening.specs.Found.{MayBeFound, IsFresh}

abbrev pub is_settled : {S O : Type 0} → Place S O → Bool
is_settled (Closed opener) = false
is_settled (Opened it) = it.settled

abbrev pub faults : {S O : Type 0} → Place S O → ℕ
faults (Closed opener) = 0
faults (Opened it) = it.faults

abbrev pub connection_of : {S O : Type 0} → Place S O → Option (Held S)
connection_of (Closed opener) = None
connection_of (Opened it) = it.connection

-- of the whole keeper: the connection that it gives back, and why its first fault came
abbrev pub connection_in : {S O : Type 0} → OpeningKeeper S O → Option (Held S)
connection_in k = connection_of k.place

abbrev pub fault_of : {S O : Type 0} → OpeningKeeper S O → Option DatabaseFault
fault_of k = k.fault

module _ {S O : Type 0} (g : Ghosts S) where
  abbrev pub PlaceTells : Place S O → Type 0
  PlaceTells (Closed opener) = ⊤
  PlaceTells (Opened it) = Tells g it.connection

  abbrev pub PlaceHolds : Place S O → Book → Type 0
  PlaceHolds (Closed opener) book = ⊥
  PlaceHolds (Opened it) book = Holds g it.connection it.settled it.table book

  -- before the first load what the opener may find
  abbrev pub PlaceLeaves : (O → Trees → Type 0) → Place S O → Option Book → Type 0
  PlaceLeaves found (Closed opener) left = MayBeFound (found opener) left
  PlaceLeaves found (Opened it) left = Leaves g it.connection left

  -- of the whole keeper
  abbrev pub KeeperTells : OpeningKeeper S O → Type 0
  KeeperTells k = PlaceTells k.place

  abbrev pub KeeperHolds : OpeningKeeper S O → Book → Type 0
  KeeperHolds k = PlaceHolds k.place

  abbrev pub KeeperLeaves : (O → Trees → Type 0) → OpeningKeeper S O → Option Book → Type 0
  KeeperLeaves found k = PlaceLeaves found k.place

  -- the keeper that is behind the opening, or the one that was there
  abbrev pub Opens : (O → Trees → Type 0) → Place S O → SqlKeeper S → Type 0
  Opens found (Closed opener) k = IsFresh g (found opener) k.connection k.settled k.faults
  Opens found (Opened it) k = k ≡ it

  pub place_one : (p : Place S O) (a b : Book) → PlaceHolds p a → PlaceHolds p b → a ≡ b
  place_one (Closed opener) a b p q = absurd p
  place_one (Opened it) a b p q = holds_one g it.connection it.settled it.table a b p q

  pub place_told : (p : Place S O) (b : Book) → PlaceHolds p b → PlaceTells p
  place_told (Closed opener) b p = tt
  place_told (Opened it) b p = holds_tells g it.connection it.settled it.table b p

  pub place_survives : ((s : S) → IsClean (g.view s) → ∥ ((trees : Trees) × g.recovers s trees) ∥₁) → (found : O → Trees → Type 0) (p : Place S O) → PlaceTells p → LeavesSome (PlaceLeaves found p)
  place_survives survives found (Closed opener) tells none =
      none None (inr (refl, λ trees finds. none None (inl (trees, finds, λ book stands. none (Some book) (inl (trees, finds, stands))))))
  place_survives survives found (Opened it) tells none = leaves_some g survives it.connection tells none

-- For proofs alone.

-- the cause, where a call has answered a fault
abbrev pub noted_cause : {T : Type 0} → Result T KeepError → DatabaseFault → Option DatabaseFault
noted_cause (Err Fault) cause = Some cause
noted_cause (Err NoMemory) cause = None
noted_cause (Ok answer) cause = None

-- where the opening was refused, so it is with the reason
abbrev pub IfRefused : {H : Type 0} → Result H OpenError → (DatabaseFault → Type 0) → Type 0
IfRefused (Err (Refused fault)) IsTold = IsTold fault
IfRefused (Err Memory) IsTold = ⊤
IfRefused (Ok connection) IsTold = ⊤

-- The opening has answered: there is a connection just where it gave one, and the reason of a refusal is told.
pub record HasAnswered {H : Type 0} (gives : Result H OpenError → Type 0) (connection : Option H) (IsTold : DatabaseFault → Type 0) : Type 0 where
  pub answer : Result H OpenError
  pub given : gives answer
  pub connected : is_some connection ≡ is_ok answer
  pub refused : IfRefused answer IsTold

module _ {S O : Type 0} (gives : O → Result (Held S) OpenError → Type 0) where
  -- The first load asks the opening, and later ones neither find a connection nor let one go.
  abbrev pub Answers : Place S O → Option (Held S) → (DatabaseFault → Type 0) → Type 0
  Answers (Closed opener) connection IsTold = HasAnswered (gives opener) connection IsTold
  Answers (Opened it) connection IsTold = is_some connection ≡ is_some it.connection

  -- the opening found no memory
  abbrev pub IsUnanswered : Place S O → Type 0
  IsUnanswered (Closed opener) = gives opener (Err Memory)
  IsUnanswered (Opened it) = ⊥

  -- so it is of a load, where the first cause of a fault is kept
  abbrev pub Connects : OpeningKeeper S O → OpeningKeeper S O → {T : Type 0} → Result T KeepError → Type 0
  Connects old new loaded = Answers old.place (connection_in new) (λ fault. fault_of new ≡ option_or (fault_of old) (noted_cause loaded fault))
