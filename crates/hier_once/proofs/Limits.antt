-- What is built of a source has no more cells than a netlist may have.
use Rattle.hier_once.proofs.Common.{◌≡◌, ℕ, ◌≤◌, Bool, List, [], ◌∷◌, length, sym, ap, ◌∙◌, subst, arith, length-map, RawNetlist, Building, empty, led_cell, max_cells, FlatItem, Flat, Clocks}
use Rattle.hier_once.proofs.Common.{clocks_of, BuildsAll, built_count, laid, IsAccepted, Source}
use Rattle.elab_items.proofs.Declaring.{no_cells}

few_on : (inputs : List Bool) (flat : Flat) (clocks : Clocks) (items : List FlatItem) (b last : Building) → length b.cells ≤ max_cells → BuildsAll inputs flat clocks items b last → length last.cells ≤ max_cells
few_on inputs flat clocks [] b last h d = subst (λ (x : Building). length x.cells ≤ max_cells) (sym d) h
few_on inputs flat clocks (item ∷ more) b last h (mid, d, rest) =
    let count = built_count inputs flat.places item b mid d.builds in
    let most = d.few in
    let here : length mid.cells ≤ max_cells = omega (arith, count, most) in
    few_on inputs flat clocks more mid last here rest

pub few_cells : (source : Source) (top : List ℕ) (n : RawNetlist) → IsAccepted source top n → length n.cells ≤ max_cells
few_cells source top n h =
    let first = h.is.first in
    let last = laid source first in
    let none : first.cells ≡ [] = ap (λ (b : Building). b.cells) h.is.begins ∙ no_cells source.flat.signals empty in
    let start = ap length none in
    let begun : length first.cells ≤ max_cells = omega (arith, start) in
    let most = few_on source.flags source.flat (clocks_of source.flags source.flat) source.flat.items first last begun h.builds.all in
    let same : length n.cells ≡ length last.cells = ap length h.is.ends.cells ∙ length-map last.cells (led_cell h.is.ends.to) in
    omega (arith, same, most)
