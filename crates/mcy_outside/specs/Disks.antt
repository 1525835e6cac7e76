-- What stands under the names of a disk, what is told of a name, and what a read of it answers.
use Rattle.std.specs.Prelude.{◌≡◌, ℕ, ◌≤◌, Bool, true, false, List, length, Option, None, Some, ⊤, Result, Ok, Err, Vec}
use Rattle.std.specs.declared.alloc.Global.{Global}
use Rattle.mcy_outside.specs.declared.files.FileError.{FileError}
use Rattle.mcy_outside.specs.declared.files.FileError.TheVariants.{Failed, Missing, TooLarge, Memory}
use Rattle.mcy_outside.specs.Files.{IsLarge}

-- under a name stands nothing, what is no regular file, or a regular file with its bytes
abbrev pub Entry : Type 0
Entry = Option (Option (List ℕ))

abbrev pub Entries : Type 0
Entries = List ℕ → Entry

-- the bytes of a regular file
abbrev pub bytes_of : Entry → Option (List ℕ)
bytes_of None = None
bytes_of (Some file) = file

-- what is told of a name: whether a regular file stands there, or that nothing does
abbrev pub Looks : Option Entries → List ℕ → Result Bool FileError → Type 0
Looks None name result = ⊤
Looks (Some entries) name (Ok true) = (bytes : List ℕ) × (entries name ≡ Some (Some bytes))
Looks (Some entries) name (Ok false) = entries name ≡ Some None
Looks (Some entries) name (Err Missing) = entries name ≡ None
Looks (Some entries) name (Err TooLarge) = ⊥
Looks (Some entries) name (Err Failed) = ⊤
Looks (Some entries) name (Err Memory) = ⊤

-- a reader of a regular file has all its bytes before it
abbrev pub HasFile : Entry → Option (List ℕ) → Type 0
HasFile entry before = (bytes : List ℕ) × (before ≡ Some bytes) × (entry ≡ Some (Some bytes))

-- what an opening of a regular file gives: a reader of it
abbrev pub Opens : Option Entries → List ℕ → {F : Type 0} → (F → Option (List ℕ)) → Result F FileError → Type 0
Opens None name before result = ⊤
Opens (Some entries) name before (Ok file) = HasFile (entries name) (before file)
Opens (Some entries) name before (Err Missing) = entries name ≡ None
Opens (Some entries) name before (Err TooLarge) = ⊥
Opens (Some entries) name before (Err Failed) = ⊤
Opens (Some entries) name before (Err Memory) = ⊤

-- all bytes of a regular file, and not too many
pub record GivesAll (entry : Entry) (max : ℕ) (bytes : List ℕ) : Type 0 where
  pub same : entry ≡ Some (Some bytes)
  pub few : length bytes ≤ max

-- what a read of a name answers, where the disk tells what stands there
abbrev pub ReadsFrom : Option Entries → List ℕ → ℕ → Result (Vec ℕ Global) FileError → Type 0
ReadsFrom None name max result = ⊤
ReadsFrom (Some entries) name max (Ok v) = GivesAll (entries name) max v.items
ReadsFrom (Some entries) name max (Err Missing) = entries name ≡ None
ReadsFrom (Some entries) name max (Err TooLarge) = IsLarge (bytes_of (entries name)) max
ReadsFrom (Some entries) name max (Err Failed) = ⊤
ReadsFrom (Some entries) name max (Err Memory) = ⊤
