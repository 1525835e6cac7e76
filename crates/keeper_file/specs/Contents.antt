-- What an open finds in the files of a database, and what a crash leaves of them.
use Rattle.std.specs.Prelude.{◌≡◌, [], Option, Some}
use Rattle.sqlite_disk.specs.declared.Disk.{Ghosts}
use Rattle.sqlite_disk.specs.declared.Files.{Files}
use Rattle.sqlite_wal.specs.Recovery.{Image}
use Rattle.sqlite_wal.specs.Files.{outcomes}
use Rattle.sqlite_trees.specs.Tree.{Trees}
use Rattle.sqlite_trees.specs.View.{IsClean}
use Rattle.sqlite_store.specs.declared.store.FileStore.{FileStore}
use Rattle.sqlite_store.specs.FileStore.{view}
use Rattle.sqlite.specs.declared.error.Error.{Error}
use Rattle.sqlite.specs.Held.{Held}
use Rattle.sqlite.specs.Files.{HoldsDatabase, AreFoundIn, IsClosed, FailsToClose}
use Rattle.mcy_keeper.specs.declared.book.Book.{Book}
use Rattle.mcy_keeper.specs.Books.{LeavesNothingNew}
use Rattle.keeper_opening.specs.Found.{MayBeFound}

-- An open of files that hold this finds these trees: those of the database that they hold, if they hold one.
pub record IsFoundIn (image : Image) (trees : Trees) : Type 0 where
  pub holds : (db : Trees) → HoldsDatabase image db → trees ≡ db
  pub reads : AreFoundIn image trees

-- what is found in such files stands for this book, or for none; where nothing is found, there is no book
abbrev pub Found : Image → Option Book → Type 0
Found image = MayBeFound (IsFoundIn image)

-- the database file is empty, or was missing, whatever its log holds
abbrev pub IsEmptyFile : Image → Type 0
IsEmptyFile image = image.db ≡ []

-- nothing is found in files of this content but what may have been left
abbrev pub HasOnly : (Option Book → Type 0) → Image → Type 0
HasOnly left image = LeavesNothingNew left (Found image)

-- Whatever content a crash leaves of the files, it has only that.
abbrev pub FindsAgain : {D : Type 0} → Ghosts D → Files D → (Option Book → Type 0) → Type 0
FindsAgain g files left = (image : Image) → outcomes g files.log files.db image → HasOnly left image

-- the log of this connection could not be copied: for want of memory, or because the disk failed
abbrev pub FailsToCopy : {D : Type 0} {g : Ghosts D} → Option (Held (FileStore D g)) → Error → Type 0
FailsToCopy {D} {g} connection error =
    (c : Held (FileStore D g)) × (connection ≡ Some c) × (last : FileStore D g) × IsClosed c last × (IsClean (view last) → FailsToClose c last error)
