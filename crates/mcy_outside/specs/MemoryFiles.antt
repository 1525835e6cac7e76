-- Files in memory whose reads fail by a list, as their callers see them, and what a read does.
use Rattle.std.specs.Prelude.{◌≡◌, ◌↔◌, ℕ, ◌==◌, Bool, false, IsTrue, if◌then◌else◌, List, Option, None, Some, Result, IsErrOf, Vec}
use Rattle.std.specs.List.{list_any}
use Rattle.std.specs.declared.alloc.Global.{Global}
use Rattle.mcy_base.specs.Calls.{call_after}
use Rattle.mcy_base.specs.Causes.{one_more}
use Rattle.mcy_base.specs.declared.file.SourceFile.{SourceFile}
use Rattle.mcy_outside.specs.declared.files.FileError.{FileError}
use Rattle.mcy_outside.specs.declared.files.FileError.TheVariants.{Failed}
use Rattle.mcy_outside.specs.Files.{Reads, look_up}

pub record ScriptedFiles : Type 0 where
  -- the files
  pub files : List SourceFile
  -- the numbers of the calls that fail
  pub failing : List ℕ
  -- the number of the next call
  pub next : Option ℕ
  -- how many calls have failed
  pub faults : ℕ

-- For proofs alone.

-- whether a list numbers this call
abbrev pub is_listed : List ℕ → Option ℕ → Bool
is_listed calls None = false
is_listed calls (Some call) = list_any (λ c. c == call) calls

-- what a read does: it fails where the list numbers it, and nowhere else
pub record ReadsOnce (old new : ScriptedFiles) (name : List ℕ) (max : ℕ) (result : Result (Vec ℕ Global) FileError) : Type 0 where
  pub after : new ≡ record old { next = call_after old.next; faults = if is_listed old.failing old.next then one_more old.faults else old.faults }
  pub failed : IsErrOf result Failed ↔ IsTrue (is_listed old.failing old.next)
  pub reads : Reads (Some (look_up old.files)) name max result
