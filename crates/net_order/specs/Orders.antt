-- Nodes that read one another: loops, and the order in which each stands behind those that it reads.
use Rattle.std.specs.Prelude.{ℕ, ◌≤◌, ◌<◌, List, [], ◌∷◌, length, take, slice_index, slice_index_or, Option, None, Some}
use Rattle.std.specs.List.{Contains}

-- In these definitions `R c d` says that node c reads node d; nodes are numbers below a count.

-- node c reads node e through the nodes between, each of which reads the next
abbrev pub ReadsThrough : (ℕ → ℕ → Type 0) → ℕ → List ℕ → ℕ → Type 0
ReadsThrough R c [] e = R c e
ReadsThrough R c (d ∷ more) e = R c d × ReadsThrough R d more e

-- the node reads itself, directly or through others
abbrev pub IsOnLoop : (ℕ → ℕ → Type 0) → ℕ → Type 0
IsOnLoop R c = (between : List ℕ) × ReadsThrough R c between c

-- the node is not listed yet, and all that it reads are
pub record IsReady (count : ℕ) (R : ℕ → ℕ → Type 0) (listed : List ℕ) (c : ℕ) : Type 0 where
  pub node : c < count
  pub unlisted : ¬ Contains listed c
  pub reads : (d : ℕ) → R c d → Contains listed d

-- the least numbered node that is ready
pub record IsLeastReady (count : ℕ) (R : ℕ → ℕ → Type 0) (listed : List ℕ) (c : ℕ) : Type 0 where
  pub ready : IsReady count R listed c
  pub least : (d : ℕ) → IsReady count R listed d → c ≤ d

-- at each place stands the least numbered node that is not listed yet and whose read nodes are all listed
abbrev pub IsInOrder : ℕ → (ℕ → ℕ → Type 0) → List ℕ → Type 0
IsInOrder count R order = (k : ℕ) → k < length order → IsLeastReady count R (take k order) (slice_index order k)

-- the order of all nodes
pub record IsOrder (count : ℕ) (R : ℕ → ℕ → Type 0) (order : List ℕ) : Type 0 where
  pub places : IsInOrder count R order
  pub each : (c : ℕ) → c < count → Contains order c

-- no number has the property
abbrev pub Never : (ℕ → Type 0) → Type 0
Never P = (n : ℕ) → ¬ P n

-- the number has the property, and no lesser one has it
pub record IsFirst (P : ℕ → Type 0) (n : ℕ) : Type 0 where
  pub here : P n
  pub before : (m : ℕ) → m < n → ¬ P m

-- Nodes by a list for each: those that it reads.

-- the list at a place, empty where there is none
abbrev pub row_of : List (List ℕ) → ℕ → List ℕ
row_of rows c = slice_index_or rows c []

abbrev pub Reads : List (List ℕ) → ℕ → ℕ → Type 0
Reads rows c d = Contains (row_of rows c) d

-- each node that is read is one of the nodes
abbrev pub AreInside : List (List ℕ) → Type 0
AreInside rows = (c d : ℕ) → Reads rows c d → d < length rows

-- For proofs alone.

-- the option is the least number with the property
abbrev pub IsLeast : (ℕ → Type 0) → Option ℕ → Type 0
IsLeast P None = Never P
IsLeast P (Some n) = IsFirst P n
