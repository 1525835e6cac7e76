-- How the nodes are listed, step by step.
use Rattle.std.specs.Prelude.{◌≡◌, ℕ, ◌<◌, ◌⊎◌, Bool, true, false, List, [], ◌∷◌, ◌++◌, map, length, Option, None, Some, slice_set, slice_index_or}
use Rattle.std.specs.List.{Contains}
use Rattle.std.specs.BTreeSet.{insert_key}
use Rattle.std.specs.Ordering.{nat_cmp}
use Rattle.net_order.specs.declared.listing.Listing.{Listing}
use Rattle.net_order.specs.Orders.{row_of, Reads, AreInside, IsReady, IsInOrder}

-- For proofs alone.

abbrev pub is_listed : List Bool → ℕ → Bool
is_listed listed c = slice_index_or listed c false

-- Which nodes are listed, which nodes each node reads that may not be listed, which are ready and which wait for each
-- node, and the order so far.
pub record Stage : Type 0 where
  pub listed : List Bool
  pub reads : List (List ℕ)
  pub ready : List ℕ
  pub waiting : List (List ℕ)
  pub order : List ℕ

abbrev pub stage_of : Listing → Stage
stage_of listing = record { listed = listing.listed.items; reads = map (λ v. v.items) listing.reads.items; ready = listing.ready.keys; waiting = map (λ v. v.items) listing.waiting.items; order = listing.order.items }

-- Some listed nodes at the end are dropped, and the option is the last node that is left, which is not listed.
pub record IsNext (listed : List Bool) (old new : List ℕ) (o : Option ℕ) : Type 0 where
  pub fewer : (d : ℕ) → Contains new d → Contains old d
  pub rest : (d : ℕ) → Contains old d → (is_listed listed d ≡ true) ⊎ Contains new d
  pub none : (d : ℕ) → o ≡ None → ¬ Contains new d
  pub some : (d : ℕ) → o ≡ Some d → Contains new d × (is_listed listed d ≡ false)

-- the nodes that a node reads are told anew
abbrev pub with_row : ℕ → List ℕ → Stage → Stage
with_row c row s = record s { reads = slice_set s.reads c row }

-- a node is ready, or waits for one that is not listed
abbrev pub placed : Option ℕ → ℕ → Stage → Stage
placed None c s = record s { ready = insert_key nat_cmp s.ready c }
placed (Some d) c s = record s { waiting = slice_set s.waiting d (row_of s.waiting d ++ c ∷ []) }

-- a node is placed by what it reads
pub record IsPlaced (c : ℕ) (s t : Stage) : Type 0 where
  pub row : List ℕ
  pub unlisted : Option ℕ
  pub next : IsNext s.listed (row_of s.reads c) row unlisted
  pub is : t ≡ placed unlisted c (with_row c row s)

-- a node is listed
abbrev pub marked : ℕ → Stage → Stage
marked c s = record { listed = slice_set s.listed c true; reads = s.reads; ready = s.ready; waiting = slice_set s.waiting c []; order = s.order ++ c ∷ [] }

-- there are as many lists as nodes, and no node past them is read
pub record IsSized (s : Stage) : Type 0 where
  pub rows : length s.reads ≡ length s.listed
  pub wide : length s.waiting ≡ length s.listed
  pub inside : (c d : ℕ) → Contains (row_of s.reads c) d → d < length s.listed

-- nodes that can be placed
abbrev pub CanBePlaced : List (List ℕ) → List Bool → List ℕ → Type 0
CanBePlaced graph listed nodes = (x : ℕ) → Contains nodes x → (x < length graph) × (is_listed listed x ≡ false)

-- What holds of each stage.

-- the node waits for one that is not listed
abbrev pub Waits : Stage → ℕ → Type 0
Waits s c = (d : ℕ) × (is_listed s.listed d ≡ false) × Contains (row_of s.waiting d) c

-- The order so far is right, and each node that is not listed is ready, or waits for one that it reads and that is not
-- listed, or is still to be placed.
pub record IsStage (graph : List (List ℕ)) (s : Stage) (IsLeft : ℕ → Type 0) : Type 0 where
  pub inside : AreInside graph
  pub room : length s.listed ≡ length graph
  pub rows : length s.reads ≡ length graph
  pub wide : length s.waiting ≡ length graph
  pub sound : (c d : ℕ) → Contains (row_of s.reads c) d → Reads graph c d
  pub covers : (c d : ℕ) → Reads graph c d → (is_listed s.listed d ≡ true) ⊎ Contains (row_of s.reads c) d
  pub order : IsInOrder (length graph) (Reads graph) s.order
  pub told : (c : ℕ) → is_listed s.listed c ≡ true → Contains s.order c
  pub lists : (c : ℕ) → Contains s.order c → is_listed s.listed c ≡ true
  pub ready : (c : ℕ) → Contains s.ready c → IsReady (length graph) (Reads graph) s.order c
  pub each : (c : ℕ) → c < length graph → is_listed s.listed c ≡ false → Contains s.ready c ⊎ (Waits s c ⊎ IsLeft c)
  pub waits : (c d : ℕ) → is_listed s.listed d ≡ false → Contains (row_of s.waiting d) c → Reads graph c d

-- no node is left to be placed
abbrev pub none_left : ℕ → Type 0
none_left c = ⊥
