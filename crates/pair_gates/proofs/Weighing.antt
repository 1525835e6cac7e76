-- Both copies of a pair have at most as many gates as the weights of their cells say, since the order names each cell once.
use Rattle.pair_gates.proofs.Common.{◌≡◌, ℕ, zero, suc, ◌+◌, ◌≤◌, List, [], ◌∷◌, ◌++◌, length, map, Some, refl, ap, ◌∙◌, arith, RawNetlist, Plan, IsSound, free_bits, CellShape, cell_shape}
use Rattle.pair_gates.proofs.Common.{driver_shapes, HasSameShapes, Gates, Grows, grown-length, MadeNets, netlist_made, cell_weight, weight_of, netlist-leads, copies, cells_weight}
use Rattle.std.proofs.Common.{slice_get}
use Rattle.netlist_core.specs.declared.cell.Cell.{Cell}
use Rattle.netlist_core.specs.Orders.{Reads}
use Rattle.netlist_core.proofs.Reading.{listed, total, order-total}
use Rattle.mutation_sites.specs.declared.mode.Mode.{Mode}
use Rattle.mutation_sites.specs.declared.mode.Mode.TheVariants.{Inv, Const0, Const1, Cnot0, Cnot1}
use Rattle.cell_gates.specs.Weights.{weight}

total-shift : (f : ℕ → ℕ) (n : ℕ) → total f (suc n) ≡ f 0 + total (λ k. f (suc k)) n
total-shift f zero = omega arith
total-shift f (suc n) = let rest = total-shift f n in omega (arith, rest)

-- The weight of cells in order is at most that of the cells.

cells-total : (cells : List Cell) → total (λ c. cell_weight (slice_get cells c)) (length cells) ≡ cells_weight cells
cells-total [] = refl
cells-total (cell ∷ more) =
    let step : total (λ c. cell_weight (slice_get (cell ∷ more) c)) (suc (length more)) ≡ cell_weight (Some cell) + total (λ c. cell_weight (slice_get more c)) (length more) = total-shift (λ c. cell_weight (slice_get (cell ∷ more) c)) (length more) in
    step ∙ ap (λ (n : ℕ). cell_weight (Some cell) + n) (cells-total more)

order-listed : (cells : List Cell) (order : List ℕ) → weight_of cells order ≡ listed (λ c. cell_weight (slice_get cells c)) order
order-listed cells [] = refl
order-listed cells (c ∷ more) = ap (λ (n : ℕ). cell_weight (slice_get cells c) + n) (order-listed cells more)

order-weight : (plan : Plan) → IsSound plan → weight_of plan.raw.cells plan.order ≤ cells_weight plan.raw.cells
order-weight plan sound =
    let f : ℕ → ℕ = λ c. cell_weight (slice_get plan.raw.cells c) in
    let most : listed f plan.order ≤ total f (length plan.raw.cells) = order-total f (length plan.raw.cells) (Reads plan.raw) plan.order sound.order in
    omega (arith, most, order-listed plan.raw.cells plan.order, cells-total plan.raw.cells)

-- both copies together, over the free bits of the first
pub pair-few : (a b : Plan) → IsSound a → IsSound b → free_bits b.raw ≤ free_bits a.raw → length (copies a b).gates.made ≤ cells_weight a.raw.cells + cells_weight b.raw.cells
pair-few a b sound_a sound_b room =
    let none : Gates = record { free = free_bits a.raw; made = [] } in
    let one : MadeNets = netlist_made none a in
    let two : MadeNets = netlist_made one.gates b in
    let first : Grows none one.gates (weight_of a.raw.cells a.order) = (netlist-leads a sound_a none (omega arith)).grows in
    let second : Grows one.gates two.gates (weight_of b.raw.cells b.order) = (netlist-leads b sound_b one.gates (omega (arith, room, first.free))).grows in
    omega (arith, (grown-length first).1, (grown-length second).1, order-weight a sound_a, order-weight b sound_b)

-- The mutant's cells weigh at most 1 more.

abbrev shapes_weight : List CellShape → ℕ
shapes_weight [] = 0
shapes_weight (shape ∷ more) = weight shape.kind shape.widths + shapes_weight more

cells-shapes : (cells : List Cell) → cells_weight cells ≡ shapes_weight (map cell_shape cells)
cells-shapes [] = refl
cells-shapes (cell ∷ more) = ap (λ (n : ℕ). cell_weight (Some cell) + n) (cells-shapes more)

shapes-append : (xs ys : List CellShape) → shapes_weight (xs ++ ys) ≡ shapes_weight xs + shapes_weight ys
shapes-append [] ys = omega arith
shapes-append (x ∷ xs) ys = let rest = shapes-append xs ys in omega (arith, rest)

driver-light : (mode : Mode) → shapes_weight (driver_shapes mode) ≤ 1
driver-light Inv = omega arith
driver-light Const0 = omega arith
driver-light Const1 = omega arith
driver-light Cnot0 = omega arith
driver-light Cnot1 = omega arith

pub mutant-light : (netlist mutant : RawNetlist) (mode : Mode) → HasSameShapes netlist mutant mode → cells_weight mutant.cells ≤ cells_weight netlist.cells + 1
mutant-light netlist mutant mode same =
    let all : cells_weight mutant.cells ≡ shapes_weight (map cell_shape netlist.cells) + shapes_weight (driver_shapes mode) = cells-shapes mutant.cells ∙ ap shapes_weight same ∙ shapes-append (map cell_shape netlist.cells) (driver_shapes mode) in
    omega (arith, all, cells-shapes netlist.cells, driver-light mode)
