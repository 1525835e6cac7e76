-- What is found in files by what they hold, and after a closing.
use Rattle.std.proofs.Common.{◌≡◌, inl, inr, refl, sym, ap, subst, arith, length, [], Option, Some, None}
use Rattle.std.proofs.Math.Logic.{∥∥₁_elim}
use Rattle.sqlite_disk.specs.declared.Disk.{Ghosts}
use Rattle.sqlite_disk.specs.declared.Files.{Files}
use Rattle.sqlite_wal.proofs.LogLemmas.{SeenMayStay}
use Rattle.sqlite_wal.specs.Recovery.{Image}
use Rattle.sqlite_trees.specs.Tree.{Trees}
use Rattle.sqlite_trees.specs.Props.{Trees-set}
use Rattle.sqlite_store.specs.declared.store.FileStore.{FileStore}
use Rattle.sqlite_store.specs.Laws.{stays_at}
use Rattle.sqlite.proofs.FileLemmas.{is_something}
use Rattle.sqlite.proofs.ListingLemmas.{empty_is_sound}
use Rattle.sqlite.specs.Held.{Held}
use Rattle.sqlite.specs.Files.{file_state, HoldsDatabase, IsEmpty, IsNothing, over_files}
use Rattle.sqlite.specs.Closing.{IsCopied}
use Rattle.mcy_keeper.specs.declared.book.Book.{Book}
use Rattle.mcy_keeper.specs.Books.{blank, LeavesSome}
use Rattle.keeper_sqlite.specs.Stands.{StandsAs, Leaves}
use Rattle.keeper_sqlite.proofs.Keeping.{stands_as}
use Rattle.keeper_opening.specs.declared.opening.Place.{Place}
use Rattle.keeper_opening.specs.declared.opening.Place.TheVariants.{Closed, Opened}
use Rattle.keeper_opening.specs.Places.{connection_of, PlaceLeaves}
use Rattle.keeper_file.specs.Contents.{FindsAgain, Found, IsEmptyFile, IsFoundIn}
use Rattle.keeper_file.proofs.OneDatabase.{one_database}

-- the database that files hold is found in them
pub found_held : (image : Image) (db : Trees) → HoldsDatabase image db → IsFoundIn image db
found_held image db held =
    record { holds = λ other also. one_database image db other held also; reads = inl (held.0, held.2.pages, held.2.wanted, held.2.found, ∣ held.2.ours ∣₁, held.2.reads) }

-- and an empty one where they hold nothing
pub found_nothing : (image : Image) (db : Trees) → IsNothing image → IsEmpty db → IsFoundIn image db
found_nothing image db nothing empty = record { holds = λ other held. absurd (is_something image other held nothing); reads = inr (nothing, empty) }

-- of each content it is not so that neither a book nor none is found
pub found_some : (image : Image) → LeavesSome (Found image)
found_some image none = none None (inr (refl, λ trees finds. none None (inl (trees, finds, λ book stands. none (Some book) (inl (trees, finds, stands))))))

module _ {D : Type 0} {g : Ghosts D} where
  found_again : SeenMayStay g → (c : Held (FileStore D g)) (files : Files D) → IsCopied c files → FindsAgain g files (Leaves over_files (Some c))
  found_again stays c files copied image may left (inl (trees, found, stands)) =
      let committed : Trees = (file_state c).committed.trees in
      let same : trees ≡ committed = ∥∥₁_elim (copied.left image may).both (Trees-set trees committed) (λ held. found.holds committed held) in
      (committed, stays_at c.store stays copied.was_open, subst (λ t. StandsAs t left) same stands)
  found_again stays c files copied image may left (inr (is, none)) =
      absurd (∥∥₁_elim (copied.left image may).both (λ a b. absurd a) (λ held. none (file_state c).committed.trees (found_held image (file_state c).committed.trees held)))

  -- where a place has this connection, it leaves what that leaves
  left_of_place : {O : Type 0} (found : O → Trees → Type 0) (p : Place (FileStore D g) O) (c : Held (FileStore D g)) → connection_of p ≡ Some c
      → (left : Option Book) → Leaves over_files (Some c) left → PlaceLeaves over_files found p left
  left_of_place found (Closed opener) c is left leaves = cc
  left_of_place found (Opened it) c is left leaves = subst (λ o. Leaves over_files o left) (sym is) leaves

  pub closed_again : {O : Type 0} → SeenMayStay g → (found : O → Trees → Type 0) (p : Place (FileStore D g) O) (c : Held (FileStore D g)) → connection_of p ≡ Some c
      → (files : Files D) → IsCopied c files → FindsAgain g files (PlaceLeaves over_files found p)
  closed_again stays found p c is files copied image may left has = left_of_place found p c is left (found_again stays c files copied image may left has)

nothing_in_empty : (image : Image) → IsEmptyFile image → IsNothing image
nothing_in_empty image empty = inl (inl (ap length empty))

-- in an empty file the empty book is found
pub empty_found : (image : Image) → IsEmptyFile image → (left : Option Book) → Found image left → left ≡ Some blank
empty_found image empty left (inl (trees, found, stands)) = elim found.reads [
  | inl held ↦ absurd (let some = held.3.found.present in let none : length image.db ≡ 0 = ap length empty in omega (arith, some, none))
  | inr nothing ↦ stands_as trees left blank stands (inr (inr (empty_is_sound trees nothing.1.1, refl)))
]
empty_found image empty left (inr (is, none)) = absurd (none (λ _. []) (found_nothing image (λ _. []) (nothing_in_empty image empty) (λ tree low. refl, refl)))
