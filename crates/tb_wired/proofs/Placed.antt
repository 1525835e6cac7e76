-- Each node of the nets of items has its place.
use Rattle.tb_wired.proofs.Common.{◌≡◌, zero, suc, ℕ, ◌<◌, true, List, [], ◌∷◌, length, refl, ap, subst, arith, slice_get, BenchItem, NetNode, Wiring, reads_of, ReadsNode, nodes_of, places_of}
use Rattle.net_order.specs.Orders.{ReadsThrough, IsOnLoop, IsFirst}
use Rattle.tb_items.specs.declared.item.BenchItem.TheVariants as b

as_many : (items : List BenchItem) → length (nodes_of items) ≡ length (places_of items)
as_many [] = refl
as_many (b.Refused f ∷ more) = as_many more
as_many (b.Starts k x ∷ more) = as_many more
as_many (b.Drives n x ∷ more) = ap suc (as_many more)
as_many (b.Assigns a ∷ more) = ap suc (as_many more)
as_many (b.Clocks at g ∷ more) = as_many more
as_many (b.Runs p ∷ more) = as_many more
as_many (b.Holds at ∷ more) = ap suc (as_many more)
as_many (b.Reads x ∷ more) = as_many more
as_many (b.Enters port x ∷ more) = ap suc (as_many more)
as_many (b.Leaves port left ∷ more) = ap suc (as_many more)

inside : (w : Wiring) (nodes : List NetNode) (k n i : ℕ) → reads_of w (slice_get nodes k) n i ≡ true → k < length nodes
inside w [] k n i e = absurd cc
inside w (x ∷ xs) zero n i e = omega arith
inside w (x ∷ xs) (suc k) n i e = let rest : k < length xs = inside w xs k n i e in omega arith

reads_inside : (w : Wiring) (nodes : List NetNode) (k : ℕ) (between : List ℕ) → ReadsThrough (ReadsNode w nodes) k between k → k < length nodes
reads_inside w nodes k [] r = inside w nodes k r.0 r.1 r.2
reads_inside w nodes k (d ∷ more) r = inside w nodes k r.0.0 r.0.1 r.0.2

-- a node on a loop is one of the nodes
pub loop_inside : (w : Wiring) (items : List BenchItem) (k : ℕ) → IsFirst (IsOnLoop (ReadsNode w (nodes_of items))) k → k < length (places_of items)
loop_inside w items k first = subst (λ (m : ℕ). k < m) (as_many items) (reads_inside w (nodes_of items) k first.here.0 first.here.1)
