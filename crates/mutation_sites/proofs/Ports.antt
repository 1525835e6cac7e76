-- The ports of a sound netlist: at most four a cell, and registers of at most 128 bits.
use Rattle.mutation_sites.proofs.Common.{◌≡◌, ℕ, zero, suc, ◌<◌, ◌≤◌, List, [], ◌∷◌, length, get_or, slice_get, Some, sym, subst, arith, length-map, Bit, shape_of, HasWidths, HasShape, widths}
use Rattle.mutation_sites.proofs.Common.{AllRegistersFit, Plan, IsSound}
use Rattle.netlist_core.specs.declared.cell.Cell.{Cell}
use Rattle.netlist_core.specs.declared.port.Register.{Register}
use Rattle.netlist_core.specs.declared.shape.Shape.{Shape}
use Rattle.netlist_core.specs.declared.shape.Shape.TheVariants.{Unary, Binary, Relation, Shift, Reduction, Logical, Choice, Selection, Insertion}

-- a row has at most four ports
few : (shape : Shape) (ws : List ℕ) → HasWidths shape ws → length ws ≤ 4
few shape [] has = omega arith
few shape (a ∷ []) has = omega arith
few shape (a ∷ b ∷ []) has = omega arith
few shape (a ∷ b ∷ c ∷ []) has = omega arith
few shape (a ∷ b ∷ c ∷ d ∷ []) has = omega arith
few Unary (a ∷ b ∷ c ∷ d ∷ e ∷ more) has = absurd has
few Binary (a ∷ b ∷ c ∷ d ∷ e ∷ more) has = absurd has
few Relation (a ∷ b ∷ c ∷ d ∷ e ∷ more) has = absurd has
few Shift (a ∷ b ∷ c ∷ d ∷ e ∷ more) has = absurd has
few Reduction (a ∷ b ∷ c ∷ d ∷ e ∷ more) has = absurd has
few Logical (a ∷ b ∷ c ∷ d ∷ e ∷ more) has = absurd has
few Choice (a ∷ b ∷ c ∷ d ∷ e ∷ more) has = absurd has
few Selection (a ∷ b ∷ c ∷ d ∷ e ∷ more) has = absurd has
few Insertion (a ∷ b ∷ c ∷ d ∷ e ∷ more) has = absurd has

pub few-ports : (cell : Cell) → HasShape cell → length cell.ports ≤ 4
few-ports cell has = let count : length (widths cell.ports) ≤ 4 = few (shape_of cell.kind) (widths cell.ports) has in omega (arith, count, length-map cell.ports (λ (bits : List Bit). length bits))

pub few-there : (plan : Plan) → IsSound plan → (c : ℕ) (cell : Cell) → slice_get plan.raw.cells c ≡ Some cell → length cell.ports ≤ 4
few-there plan sound c cell is = few-ports cell (sound.connected.driven.shaped.shapes c cell is)

-- D and Q have the width of the start value
fits-at : (registers : List Register) (k : ℕ) (r d : Register) → AllRegistersFit registers → k < length registers → r ≡ get_or registers k d → (length r.d ≡ r.start.width) × (length r.q ≡ r.start.width)
fits-at [] k r d all h is = absurd (omega (arith, h))
fits-at (first ∷ more) zero r d all h is = (let P : Register → Type 0 = λ x. (length x.d ≡ x.start.width) × (length x.q ≡ x.start.width) in subst P (sym is) (all.0, all.1))
fits-at (first ∷ more) (suc k) r d all h is = fits-at more k r d all.2 (omega (arith, h)) is

-- the D and the Q of a register have at most 128 bits
pub narrow-register : (registers : List Register) (k : ℕ) (r : Register) → AllRegistersFit registers → k < length registers → r ≡ get_or registers k r → (length r.d ≤ 128) × (length r.q ≤ 128)
narrow-register registers k r all h is =
    let fit = fits-at registers k r r all h is in
    let narrow : r.start.width ≤ 128 = r.start.narrow in
    (omega (arith, fit.0, narrow), omega (arith, fit.1, narrow))
