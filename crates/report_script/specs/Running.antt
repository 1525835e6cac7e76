-- Which arm of an `if` is done.
use Rattle.std.specs.Prelude.{◌≡◌, ℕ, List, Option, None, Some, get_or, map}
use Rattle.report_script.specs.declared.report.Arm.{Arm}
use Rattle.report_script.specs.declared.running.Stopped.{Stopped}
use Rattle.report_script.specs.Texts.{Printing, choice, chosen, doing, in_turn, stopped_at}

-- For proofs alone.

-- what the arms print is what the one at this place does, or the other statements
abbrev pub Picks : List ℕ → List Arm → Option ℕ → Type 0
Picks counts arms None = (other : Printing) → chosen (map choice arms) other counts ≡ other counts
Picks counts arms (Some place) = (d : Arm) (other : Printing) → chosen (map choice arms) other counts ≡ in_turn (map doing (get_or arms place d).body) counts

-- the arms print nothing, since a condition has no value
abbrev pub StopsAt : List ℕ → List Arm → Stopped → Type 0
StopsAt counts arms s = (other : Printing) → chosen (map choice arms) other counts ≡ stopped_at s.line s.fault
