-- How the nodes are found that a node reads through others, step by step.
use Rattle.std.specs.Prelude.{◌≡◌, ℕ, ◌+◌, ◌⊎◌, Bool, true, List, [], ◌∷◌, ◌++◌, length, slice_set, if◌then◌else◌}
use Rattle.std.specs.List.{Contains}
use Rattle.net_order.specs.declared.loops.Search.{Search}
use Rattle.net_order.specs.Orders.{AreInside, Reads, ReadsThrough}
use Rattle.net_order.specs.Listing.{is_listed}

-- For proofs alone.

-- Which nodes were found, and which of them are still to be looked at.
pub record Trail : Type 0 where
  pub found : List Bool
  pub open_nodes : List ℕ

abbrev pub trail_of : Search → Trail
trail_of search = record { found = search.found.items; open_nodes = search.open_nodes.items }

abbrev pub after_node : ℕ → Trail → Trail
after_node e s = if is_listed s.found e then s else record { found = slice_set s.found e true; open_nodes = s.open_nodes ++ e ∷ [] }

-- the nodes of a list are found
abbrev pub after_nodes : List ℕ → Trail → Trail
after_nodes [] s = s
after_nodes (e ∷ more) s = after_nodes more (after_node e s)

-- how many nodes were not found
abbrev pub unfound : List Bool → ℕ
unfound [] = 0
unfound (b ∷ more) = (if b then 0 else 1) + unfound more

-- Cell c reads node e, directly or through others.
abbrev pub Reaches : List (List ℕ) → ℕ → ℕ → Type 0
Reaches graph c e = (between : List ℕ) × ReadsThrough (Reads graph) c between e

abbrev pub IsFound : Trail → ℕ → Type 0
IsFound s e = is_listed s.found e ≡ true

-- Where the nodes are looked for that c reads, directly or through others: what is found is so, and what c or a found
-- node reads is found, but where the node is still to be looked at.
pub record IsTrail (graph : List (List ℕ)) (c : ℕ) (s : Trail) (IsLeft : ℕ → Type 0) : Type 0 where
  pub inside : AreInside graph
  pub room : length s.found ≡ length graph
  pub sound : (e : ℕ) → IsFound s e → Reaches graph c e
  pub opened : (e : ℕ) → Contains s.open_nodes e → IsFound s e
  pub closed : (d e : ℕ) → (c ≡ d) ⊎ IsFound s d → Reads graph d e → Contains s.open_nodes d ⊎ (IsLeft d ⊎ IsFound s e)
