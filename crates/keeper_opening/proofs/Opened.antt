-- What may be left after the opening was found.
use Rattle.keeper_opening.proofs.Common.{IsErrOf, ◌≡◌, inl, Option, Some, None, Ok, Err, Result, IfOk, OnErr, IsTrue, refl, sym, subst, Held, state, Book, LeavesEither, LeavesNothingNew, KeepError}
use Rattle.keeper_opening.proofs.Common.{StandsAs, Tells, Holds, Leaves, Place, Closed, Opened, PlaceTells, PlaceHolds, PlaceLeaves, Opens}
use Rattle.sqlite.specs.Tree.{Trees}
use Rattle.sqlite.specs.Store.{Ghosts}
use Rattle.mcy_keeper.specs.declared.keeper.KeepError.TheVariants.{Fault}
use Rattle.keeper_sqlite.specs.declared.sql_keeper.SqlKeeper.{SqlKeeper}
use Rattle.keeper_opening.specs.Found.{MayBeFound, Finds}

module _ {S : Type 0} (g : Ghosts S) where
  -- an open store leaves what it has committed
  abbrev pub LeavesCommitted : Type 0
  LeavesCommitted = (c : Held S) (trees : Trees) → IsTrue (state g c).is_open → (state g c).may_leave trees → trees ≡ (state g c).committed.trees

  left_found : LeavesCommitted → (found : Trees → Type 0) (connection : Option (Held S)) → ((c : Held S) → connection ≡ Some c → Finds found (state g c))
      → Tells g connection → (left : Option Book) → Leaves g connection left → MayBeFound found left
  left_found settled found None finds clean left leaves = absurd leaves
  left_found settled found (Some c) finds clean left leaves =
      let it = finds c refl clean in
      inl ((state g c).committed.trees, it.1, subst (λ t. StandsAs t left) (settled c leaves.0 it.0 leaves.1) leaves.2)

module _ {S O : Type 0} (g : Ghosts S) where
  left_before : LeavesCommitted g → (found : O → Trees → Type 0) (p : Place S O) (k : SqlKeeper S) → Opens g found p k → Tells g k.connection
      → (left : Option Book) → Leaves g k.connection left → PlaceLeaves g found p left
  left_before settled found (Closed opener) k fresh clean left leaves = left_found g settled (found opener) k.connection fresh.finds clean left leaves
  left_before settled found (Opened it) k same clean left leaves = subst (λ (x : SqlKeeper S). Leaves g x.connection left) same leaves

  pub told_before : (found : O → Trees → Type 0) (p : Place S O) (k : SqlKeeper S) → Opens g found p k → Tells g k.connection → PlaceTells g p
  told_before found (Closed opener) k fresh clean = tt
  told_before found (Opened it) k same clean = subst (λ (x : SqlKeeper S). Tells g x.connection) same clean

  pub allowed_before : LeavesCommitted g → (found : O → Trees → Type 0) (p : Place S O) (k : SqlKeeper S) → Opens g found p k → Tells g k.connection
      → {E : Type 0} (r : Result Book E) → IfOk r (λ book. Leaves g k.connection (Some book)) → IfOk r (λ book. PlaceLeaves g found p (Some book))
  allowed_before settled found p k opens clean (Ok book) leaves = left_before settled found p k opens clean (Some book) leaves
  allowed_before settled found p k opens clean (Err e) leaves = tt

  pub refused_before : LeavesCommitted g → (found : O → Trees → Type 0) (p : Place S O) (k : SqlKeeper S) → Opens g found p k → Tells g k.connection
      → (new : Option Book → Type 0) {T E : Type 0} (r : Result T E) → OnErr r (LeavesNothingNew (Leaves g k.connection) new) → OnErr r (LeavesNothingNew (PlaceLeaves g found p) new)
  refused_before settled found p k opens clean new (Ok x) same = tt
  refused_before settled found p k opens clean new (Err e) same = λ left leaves. left_before settled found p k opens clean left (same left leaves)

  -- a write that has failed leaves of the place what it leaves of its keeper
  pub either_after : (found : O → Trees → Type 0) (p q : Place S O) (k k' : SqlKeeper S) → p ≡ Opened k → q ≡ Opened k' → {T : Type 0} (r r' : Result T KeepError) → r' ≡ r → (after : Book → Book)
      → (Tells g k'.connection → IsErrOf r Fault → (was : Book) → Holds g k.connection k.settled k.table was → LeavesEither (Leaves g k'.connection) was (after was))
      → PlaceTells g q → IsErrOf r' Fault → (was : Book) → PlaceHolds g p was → LeavesEither (PlaceLeaves g found q) was (after was)
  either_after found p q k k' old new r r' same after either tells fails was holds =
      subst (λ (x : Place S O). LeavesEither (PlaceLeaves g found x) was (after was)) (sym new)
      (either (subst (λ (x : Place S O). PlaceTells g x) new tells) (subst (λ x. IsErrOf x Fault) same fails) was (subst (λ (x : Place S O). PlaceHolds g x was) old holds))
