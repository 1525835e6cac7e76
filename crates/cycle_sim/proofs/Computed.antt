-- A cell among the others: its gate, and its number's place in the table.
use Rattle.cycle_sim.proofs.Common.{◌≡◌, ℕ, zero, suc, ◌+◌, ◌<◌, List, [], ◌∷◌, ◌++◌, length, get_or, slice_get, Some, refl, ap, arith, Bit, Cell, RawNetlist, Plan, FitPorts, driving, Gate, IsGate}
use Rattle.cycle_sim.proofs.Common.{IsGateOf, AllGates}
use Rattle.cycle_sim.proofs.Plans.{driving-length, fit-length}

-- the gate of a cell among those of all
pub gates-length : (drivers : List (List Bit)) (gates : List Gate) (cells : List Cell) → AllGates drivers gates cells → length gates ≡ length cells
gates-length drivers [] [] are = refl
gates-length drivers [] (cell ∷ cells) are = absurd are
gates-length drivers (g ∷ more) [] are = absurd are
gates-length drivers (g ∷ more) (cell ∷ cells) are = ap suc (gates-length drivers more cells are.1)

pub gates-at : (drivers : List (List Bit)) (gates : List Gate) (cells : List Cell) (c : ℕ) (d : Gate) → AllGates drivers gates cells → c < length cells → IsGateOf drivers (get_or gates c d) (slice_get cells c)
gates-at drivers [] [] c d are inside = absurd (omega (arith, inside))
gates-at drivers [] (cell ∷ cells) c d are inside = absurd are
gates-at drivers (g ∷ more) [] c d are inside = absurd are
gates-at drivers (g ∷ more) (cell ∷ cells) zero d are inside = are.0
gates-at drivers (g ∷ more) (cell ∷ cells) (suc c) d are inside = gates-at drivers more cells c d are.1 (omega (arith, inside))

pub gates-push : (drivers : List (List Bit)) (gates : List Gate) (cells : List Cell) (g : Gate) (cell : Cell) → AllGates drivers gates cells → IsGate drivers g cell → AllGates drivers (gates ++ g ∷ []) (cells ++ cell ∷ [])
gates-push drivers [] [] g cell are is = (is, tt)
gates-push drivers [] (x ∷ cells) g cell are is = absurd are
gates-push drivers (v ∷ more) [] g cell are is = absurd are
gates-push drivers (v ∷ more) (x ∷ cells) g cell are is = (are.0, gates-push drivers more cells g cell are.1 is)

-- an item below the length is there
pub item-some : {X : Type 0} (xs : List X) (i : ℕ) → i < length xs → (x : X) × (slice_get xs i ≡ Some x)
item-some [] i inside = absurd (omega (arith, inside))
item-some (x ∷ more) zero inside = (x, refl)
item-some (x ∷ more) (suc i) inside = item-some more i (omega (arith, inside))

-- the place of a cell's number in the table
abbrev pub place : RawNetlist → ℕ → ℕ
place raw c = length raw.inputs + length raw.registers + c

pub place-inside : (plan : Plan) (table : List ℕ) (c : ℕ) → FitPorts (driving plan.raw) table → c < length plan.raw.cells → place plan.raw c < length table
place-inside plan table c fit inside = (let long = driving-length plan.raw in let same = fit-length (driving plan.raw) table fit in omega (arith, long, same, inside))
