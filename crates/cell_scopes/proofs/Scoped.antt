-- A design has one list of the scopes of its cells, with one scope for each cell.
use Rattle.cell_scopes.proofs.Common.{◌≡◌, ℕ, ◌+◌, Bool, List, [], ◌∷◌, length, sym, ap, ◌∙◌, arith, length-append, map, length-map, length-replicate, Module, Building, empty, widths_in, FlatItem}
use Rattle.cell_scopes.proofs.Common.{Flat, widths_of, cell_count, declared, no_cells, widths_are, is_within_some, AreSkipped, cell_scopes, item_scopes, prefix_at, scope_of, scopes_from, built_count}
use Rattle.process_cells.specs.Starts.{SameButStarts}
use Rattle.flat_clocks.specs.Clocks.{Clocks, clocks_of}
use Rattle.flat_once.proofs.Flattened.{flattens_once}
use Rattle.elab_items.specs.Timed.{BuildsAll}
use Rattle.elab_items.proofs.Starting.{same_widths}
use Rattle.cell_scopes.specs.Laws.{CellsHaveScopes, ScopesAreOne}
use Rattle.cell_scopes.proofs.Counted.{item_widths}

pub scopes_are_one : ScopesAreOne
scopes_are_one modules top scopes other h k = h.are ∙ ap cell_scopes (flattens_once modules top h.flat k.flat h.flattens k.flattens) ∙ sym k.are

-- as many as an item adds
item_count : (flat : Flat) (item : FlatItem) → length (item_scopes flat item) ≡ cell_count (widths_of flat.signals) flat.places item
item_count flat item = length-replicate (cell_count (widths_of flat.signals) flat.places item) (prefix_at flat.places (scope_of item))

all_count : (inputs : List Bool) (flat : Flat) (clocks : Clocks) (items : List FlatItem) (b last : Building) → widths_in b ≡ widths_of flat.signals → BuildsAll inputs flat clocks items b last → length last.cells ≡ length b.cells + length (scopes_from flat items)
all_count inputs flat clocks [] b last widths d =
    let same : length last.cells ≡ length b.cells = ap (λ (x : Building). length x.cells) d in
    omega (arith, same)
all_count inputs flat clocks (item ∷ more) b last widths (mid, d, rest) =
    let added = built_count inputs flat.places item b mid d.builds in
    let count : cell_count (widths_in b) flat.places item ≡ length (item_scopes flat item) = ap (λ (w : ℕ → ℕ). cell_count w flat.places item) widths ∙ sym (item_count flat item) in
    let later = all_count inputs flat clocks more mid last (item_widths inputs flat.places item b mid d.builds ∙ widths) rest in
    let both = length-append (item_scopes flat item) (scopes_from flat more) in
    omega (arith, added, count, later, both)

pub cells_have_scopes : CellsHaveScopes
cells_have_scopes flat inputs clocks items first last begins d =
    let widths : widths_in first ≡ widths_of flat.signals = same_widths (declared flat.signals empty) first begins ∙ (λ i k. widths_are flat.signals k i) in
    let none : first.cells ≡ [] = ap (λ (b : Building). b.cells) begins ∙ no_cells flat.signals empty in
    let start : length first.cells ≡ 0 = ap length none in
    let all = all_count inputs flat clocks items first last widths d in
    omega (arith, start, all)

-- of all items
pub all_scoped : (flat : Flat) (inputs : List Bool) (first last : Building) → SameButStarts (declared flat.signals empty) first → BuildsAll inputs flat (clocks_of inputs flat) flat.items first last → length (cell_scopes flat) ≡ length last.cells
unfolding cell_scopes
all_scoped flat inputs first last begins d = cells_have_scopes flat inputs (clocks_of inputs flat) flat.items first last begins d

-- Flags of the same modules, top and instances are the same, one for each scope.

pub skipped_once : (modules : List Module) (top : List ℕ) (instances : List (List ℕ)) (flags other : List Bool) → AreSkipped modules top instances flags → AreSkipped modules top instances other → flags ≡ other
skipped_once modules top instances flags other h k =
    h.are ∙ ap (map (is_within_some instances)) (scopes_are_one modules top h.scopes k.scopes h.has_scopes k.has_scopes) ∙ sym k.are

pub skipped_count : (modules : List Module) (top : List ℕ) (instances : List (List ℕ)) (flags : List Bool) (h : AreSkipped modules top instances flags) → length flags ≡ length h.scopes
skipped_count modules top instances flags h = ap length h.are ∙ length-map h.scopes (is_within_some instances)
