-- The cells of a netlist, one after the other in its order.
use Rattle.netlist_gates.proofs.Common.{◌≡◌, ℕ, ◌+◌, ◌<◌, List, ◌∷◌, length, drop, get_or, slice_get, Option, Some, refl, sym, ap, subst, ◌∙◌, arith, drop_more, Cell, Plan, IsSound, grown-length}
use Rattle.netlist_gates.proofs.Common.{AreWithin, MadeNets, with_cell, with_cells}
use Rattle.std.specs.Prelude.{Result, Ok, Err, IfErr}
use Rattle.std.specs.Result.{IsErrAnd}
use Rattle.netlist_gates.proofs.Solving.{sound-shaped, some-leads, cells-lead}

-- one cell more
pub cells-step : (cells : List Cell) (order : List ℕ) (i n : ℕ) (cell : Cell) (made next whole : MadeNets) → i < length order → get_or order i 0 ≡ n → slice_get cells n ≡ Some cell → next ≡ with_cell (Some cell) made → with_cells cells (drop i order) made ≡ whole → with_cells cells (drop (i + 1) order) next ≡ whole
cells-step cells order i n cell made next whole inside at found is so_far =
    let rest : List ℕ = drop (i + 1) order in
    let cut : drop i order ≡ n ∷ rest = drop_more order i 0 inside ∙ ap (λ (k : ℕ). k ∷ rest) at in
    ap (with_cells cells rest) is
    ∙ ap (λ (o : Option Cell). with_cells cells rest (with_cell o made)) (sym found)
    ∙ sym (ap (λ (l : List ℕ). with_cells cells l made) cut)
    ∙ so_far

-- where there are too many gates with one cell, there are with all
pub cells-many : (plan : Plan) → IsSound plan → (i n most : ℕ) (cell : Cell) (made whole : MadeNets) → i < length plan.order → get_or plan.order i 0 ≡ n → slice_get plan.raw.cells n ≡ Some cell → AreWithin made.gates made.lits → with_cells plan.raw.cells (drop i plan.order) made ≡ whole → most < length (with_cell (Some cell) made).gates.made → most < length whole.gates.made
cells-many plan sound i n most cell made whole inside at found within so_far many =
    let next : MadeNets = with_cell (Some cell) made in
    let rest : List ℕ = drop (i + 1) plan.order in
    let end : with_cells plan.raw.cells rest next ≡ whole = cells-step plan.raw.cells plan.order i n cell made next whole inside at found refl so_far in
    let is = sound-shaped plan sound n cell found in
    let first = some-leads n cell made is.0 is.1 within in
    let more = grown-length (cells-lead plan.raw.cells rest next (sound-shaped plan sound) first.within).grows in
    omega (arith, many, more.0, ap (λ (m : MadeNets). length m.gates.made) end)

-- what holds of an error holds of the one that it is passed on as
pub same_err : {T E : Type 0} (r : Result T E) (e : E) (P : E → Type 0) → IsErrAnd r (λ x. x ≡ e) → P e → IfErr r P
same_err (Ok x) e P h p = tt
same_err (Err x) e P h p = subst P (sym h) p
