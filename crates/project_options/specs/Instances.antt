-- Names of instances within the design, and what stands within them, by names (IEEE 1364-2005, 12.4): `u.core.count` and
-- `u.core.x.count` stand within `u.core`.
use Rattle.std.specs.Prelude.{ℕ, ◌==◌, Bool, false, ◌&&◌, ◌||◌, List, [], ◌∷◌, Option, None, Some, length, nat_eq, slice_get}
use Rattle.std.specs.List.{list_all, list_any, slice_split, starts_with}
use Rattle.project_lines.specs.Words.{is_name_byte, is_name_start}

-- a byte of a name, `$` (36), or a byte of an index in brackets (91, 93), which may be below 0 (45)
unfoldable pub is_inner_byte : ℕ → Bool
is_inner_byte byte = is_name_byte byte || ((byte == 36 || byte == 45) || (byte == 91 || byte == 93))

-- the name of an instance, or of a generate block, which may have an index
unfoldable pub is_inner_name : List ℕ → Bool
is_inner_name [] = false
is_inner_name (byte ∷ more) = is_name_start byte && list_all is_inner_byte more

-- such names with a `.` (46) between them, as those of an instance within others
unfoldable pub is_instance : List ℕ → Bool
is_instance word = list_all is_inner_name (slice_split (λ byte. byte == 46) word)

-- a `.`
abbrev pub is_dot : Option ℕ → Bool
is_dot None = false
is_dot (Some byte) = byte == 46

-- a name, or what stands before the names of a scope, begins with the name of the instance and a `.`
abbrev pub is_within : (instance name : List ℕ) → Bool
is_within instance name = starts_with nat_eq name instance && is_dot (slice_get name (length instance))

-- it is within one of these instances
abbrev pub is_within_some : (instances : List (List ℕ)) → (name : List ℕ) → Bool
is_within_some instances name = list_any (λ instance. is_within instance name) instances
