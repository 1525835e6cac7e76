-- A sink in memory, as its callers see it, and what a write does to it.
use Rattle.std.specs.Prelude.{◌≡◌, ℕ, ◌+◌, Bool, ◌&&◌, if◌then◌else◌, nat_le, is_none, List, ◌++◌, length, take, Option, None, Some}
use Rattle.mcy_base.specs.Calls.{at_call, call_after}
use Rattle.mcy_base.specs.Causes.{one_more}

pub record ScriptedSink : Type 0 where
  -- the numbers of the calls that fail, each with how many bytes that call takes
  pub failing : List (ℕ × ℕ)
  -- the number of the next call
  pub next : Option ℕ
  -- what was written
  pub seen : List ℕ
  -- for how many bytes there is room
  pub room : ℕ
  -- how many calls have failed
  pub faults : ℕ

-- For proofs alone.

-- what a call takes of its piece: all of it, or so many bytes at most
abbrev pub taken : Option ℕ → List ℕ → List ℕ
taken None piece = piece
taken (Some part) piece = take part piece

-- whether what was written has room for this too
abbrev pub has_room : ScriptedSink → List ℕ → Bool
has_room sink text = nat_le (length sink.seen + length text) sink.room

-- what a write of a piece does: its number says whether it fails, and a text without room is left out
pub record Records (old new : ScriptedSink) (piece : List ℕ) (is_ok : Bool) : Type 0 where
  pub failing : new.failing ≡ old.failing
  pub next : new.next ≡ call_after old.next
  pub room : new.room ≡ old.room
  pub seen : let text = taken (at_call old.failing old.next) piece in new.seen ≡ (if has_room old text then old.seen ++ text else old.seen)
  pub ok : is_ok ≡ (is_none (at_call old.failing old.next) && has_room old piece)
  pub faults : new.faults ≡ (if is_ok then old.faults else one_more old.faults)
