-- What files hold, and what a read of them answers.
use Rattle.std.specs.Prelude.{◌≡◌, ℕ, ◌<◌, ◌≤◌, List, length, Option, None, Some, ⊤, bytes_eq, find, option_map, Result, Ok, Err, Vec}
use Rattle.std.specs.declared.alloc.Global.{Global}
use Rattle.mcy_outside.specs.declared.files.FileError.{FileError}
use Rattle.mcy_outside.specs.declared.files.FileError.TheVariants.{Failed, Missing, TooLarge, Memory}
use Rattle.mcy_base.specs.declared.file.SourceFile.{SourceFile}

-- what is held under a name
abbrev pub Held : Type 0
Held = List ℕ → Option (List ℕ)

-- the first file of this name
abbrev pub look_up : List SourceFile → List ℕ → Option (List ℕ)
look_up files name = option_map (λ f. f.bytes) (find (λ f. bytes_eq f.name name) files)

-- these bytes are held, and not too many
pub record Gives (held : Option (List ℕ)) (max : ℕ) (bytes : List ℕ) : Type 0 where
  pub same : held ≡ Some bytes
  pub few : length bytes ≤ max

-- more bytes are held than are wanted
abbrev pub IsLarge : Option (List ℕ) → ℕ → Type 0
IsLarge None max = ⊥
IsLarge (Some bytes) max = max < length bytes

-- what a read answers where the files tell what they hold
abbrev pub Reads : Option Held → List ℕ → ℕ → Result (Vec ℕ Global) FileError → Type 0
Reads None name max result = ⊤
Reads (Some held) name max (Ok v) = Gives (held name) max v.items
Reads (Some held) name max (Err Missing) = held name ≡ None
Reads (Some held) name max (Err TooLarge) = IsLarge (held name) max
Reads (Some held) name max (Err Failed) = ⊤
Reads (Some held) name max (Err Memory) = ⊤
