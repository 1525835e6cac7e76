-- What a flattened item means: what holds of the values of a cycle, what registers take next, and which bits are written.
use Rattle.std.specs.Prelude.{◌≡◌, ◌⊎◌, ℕ, ◌/◌, ◌%◌, List, [], ◌∷◌, ◌++◌, Option, None, Some, map, nat_eq, if◌then◌else◌}
use Rattle.std.specs.List.{Contains}
use Rattle.std.specs.Int.{bit_at}
use Rattle.vlog_meaning.specs.Scopes.{Store}

-- A bit of a signal: the signal's number, and the bit's, from 0.
pub record Place : Type 0 where
  pub signal : ℕ
  pub bit : ℕ

-- An `assign` or a connection has the places of its left side, from the lowest on, and the value of its right side, from
-- the values of the cycle. None is a place outside the declared range.
-- A process has the variables that it assigns, and its effect: what it leaves where it is run from these values.
pub data Meaning : Type 0 where
  Assign : (left : List (Option Place)) (value : Store → ℕ) → Meaning
  Combinational : (variables : List ℕ) (effect : Store → Store) → Meaning
  Clocked : (variables : List ℕ) (effect : Store → Store) → Meaning

-- What holds in a cycle.

-- the place has this bit
abbrev pub PlaceIs : Store → Option Place → ℕ → Type 0
PlaceIs store None b = Unit {0}
PlaceIs store (Some p) b = bit_at (store p.signal) p.bit ≡ b

-- the places have the bits of the value; bits above them are dropped
abbrev pub LeftIs : Store → List (Option Place) → ℕ → Type 0
LeftIs store [] value = Unit {0}
LeftIs store (p ∷ more) value = PlaceIs store p (value % 2) × LeftIs store more (value / 2)

-- the same values in all signals but these
abbrev pub SameBut : List ℕ → Store → Store → Type 0
SameBut variables a b = (k : ℕ) → ¬ Contains variables k → a k ≡ b k

-- An assign holds. A combinational process, run from any values of the variables that it assigns, leaves exactly the
-- values held. A clocked process says nothing of the cycle in which it is run.
abbrev pub Says : Meaning → Store → Type 0
Says (Assign left value) store = LeftIs store left (value store)
Says (Combinational variables effect) store = (from : Store) → SameBut variables from store → (k : ℕ) → Contains variables k → effect from k ≡ store k
Says (Clocked variables effect) store = Unit {0}

abbrev pub AllSay : List Meaning → Store → Type 0
AllSay [] store = Unit {0}
AllSay (m ∷ more) store = Says m store × AllSay more store

-- What registers take.

-- a signal that is a register, and the value that it takes
pub record Taken : Type 0 where
  pub signal : ℕ
  pub value : ℕ

-- a clocked process leaves what it leaves where it is run from this cycle's values
abbrev pub leaves : Meaning → Store → List Taken
leaves (Assign left value) store = []
leaves (Combinational variables effect) store = []
leaves (Clocked variables effect) store = map (λ k. record { signal = k; value = effect store k }) variables

abbrev pub all_leave : List Meaning → Store → List Taken
all_leave [] store = []
all_leave (m ∷ more) store = leaves m store ++ all_leave more store

-- what a register takes, and 0 where nothing writes it
abbrev pub taken_by : List Taken → ℕ → ℕ
taken_by [] k = 0
taken_by (t ∷ more) k = if nat_eq t.signal k then t.value else taken_by more k

-- Which bits are written.

-- the item writes bit i of signal k
abbrev pub Writes : Meaning → ℕ → ℕ → Type 0
Writes (Assign left value) k i = Contains left (Some (record { signal = k; bit = i }))
Writes (Combinational variables effect) k i = Contains variables k
Writes (Clocked variables effect) k i = Contains variables k

-- no number stands twice
abbrev pub NoneTwice : List ℕ → Type 0
NoneTwice [] = Unit {0}
NoneTwice (k ∷ more) = (¬ Contains more k) × NoneTwice more

-- no place of a bit stands twice
abbrev pub NamesOnce : List (Option Place) → Type 0
NamesOnce [] = Unit {0}
NamesOnce (None ∷ more) = NamesOnce more
NamesOnce (Some p ∷ more) = (¬ Contains more (Some p)) × NamesOnce more

-- the item names each bit once at most
abbrev pub WritesOnce : Meaning → Type 0
WritesOnce (Assign left value) = NamesOnce left
WritesOnce (Combinational variables effect) = NoneTwice variables
WritesOnce (Clocked variables effect) = NoneTwice variables

-- the variables that become registers
abbrev pub stored_by : Meaning → List ℕ
stored_by (Assign left value) = []
stored_by (Combinational variables effect) = []
stored_by (Clocked variables effect) = variables

-- the item joins bit i of signal k
abbrev pub Joins : Meaning → ℕ → ℕ → Type 0
Joins (Assign left value) k i = Contains left (Some (record { signal = k; bit = i }))
Joins (Combinational variables effect) k i = Contains variables k
Joins (Clocked variables effect) k i = ⊥

abbrev pub all_stored : List Meaning → List ℕ
all_stored [] = []
all_stored (m ∷ more) = stored_by m ++ all_stored more

abbrev pub SomeWrites : List Meaning → ℕ → ℕ → Type 0
SomeWrites [] k i = ⊥
SomeWrites (m ∷ more) k i = Writes m k i ⊎ SomeWrites more k i
