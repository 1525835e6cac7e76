-- The rows at a cell's ports have the widths of the ports.
use Rattle.cell_gates.proofs.Common.{◌≡◌, ℕ, ◌≤◌, Bool, List, [], ◌∷◌, ◌++◌, length, map, refl, sym, ap, subst, ◌∙◌, arith, All, All-nil, All-cons, Bit, CellKind, Shape, Unary, Binary, Relation}
use Rattle.cell_gates.proofs.Common.{Shift, Reduction, Logical, Choice, Selection, Insertion, shape_of, widths, HasWidths, GateLit, Gates, count, IsLit, AddsBits, cell_row, weight, CellIs}
use Rattle.netlist_core.specs.Runs.{input_ports, output_port}
use Rattle.netlist_core.specs.Checked.{AllWide}
use Rattle.cell_gates.proofs.CellLemmas.{cell-adds}

no-ports : (shape : Shape) → HasWidths shape [] → ⊥
no-ports Unary has = has
no-ports Binary has = has
no-ports Relation has = has
no-ports Shift has = has
no-ports Reduction has = has
no-ports Logical has = has
no-ports Choice has = has
no-ports Selection has = has
no-ports Insertion has = has

all-widths : (shape : Shape) (ports : List (List Bit)) → HasWidths shape (widths ports) → map length (input_ports ports) ++ length (output_port ports) ∷ [] ≡ widths ports
all-widths shape [] has = absurd (no-ports shape has)
all-widths shape (p ∷ more) has = from p more where
  from : (p : List Bit) (more : List (List Bit)) → map length (input_ports (p ∷ more)) ++ length (output_port (p ∷ more)) ∷ [] ≡ widths (p ∷ more)
  from p [] = refl
  from p (q ∷ more) = ap (λ (l : List ℕ). length p ∷ l) (from q more)

pub same-widths : (shape : Shape) (ports : List (List Bit)) (inputs : List (List GateLit)) (w : ℕ) → HasWidths shape (widths ports) → map length inputs ≡ widths (input_ports ports) → w ≡ length (output_port ports) → map length inputs ++ w ∷ [] ≡ widths ports
same-widths shape ports inputs w has same is = ap (λ (l : List ℕ). l ++ w ∷ []) same ∙ ap (λ (k : ℕ). widths (input_ports ports) ++ k ∷ []) is ∙ all-widths shape ports has

pub inputs-narrow : (ports : List (List Bit)) (inputs : List (List GateLit)) → AllWide ports → map length inputs ≡ widths (input_ports ports) → All (λ bits. length bits ≤ 128) inputs
inputs-narrow ports [] wide same = All-nil (λ bits. length bits ≤ 128)
inputs-narrow [] (x ∷ inputs) wide same = cc
inputs-narrow (y ∷ []) (x ∷ inputs) wide same = cc
inputs-narrow (p ∷ q ∷ more) (x ∷ inputs) wide same =
    let first : length x ≡ length p = cc in
    let rest : map length inputs ≡ widths (input_ports (q ∷ more)) = cc in
    All-cons (λ bits. length bits ≤ 128) x inputs (omega (arith, first, wide.1)) (inputs-narrow (q ∷ more) inputs wide.2 rest)

pub cell-told : (kind : CellKind) (signed : Bool) (gates : Gates) (ports : List (List Bit)) (inputs : List (List GateLit)) → HasWidths (shape_of kind) (widths ports) → AllWide ports → map length inputs ≡ widths (input_ports ports) → All (All (IsLit (count gates))) inputs → AddsBits gates (cell_row kind signed (length (output_port ports)) gates inputs).gates (cell_row kind signed (length (output_port ports)) gates inputs).bits (length (output_port ports)) (weight kind (widths ports)) (CellIs kind signed (length (output_port ports)) inputs)
cell-told kind signed gates ports inputs has wide same lits =
    let w : ℕ = length (output_port ports) in
    let all : map length inputs ++ w ∷ [] ≡ widths ports = same-widths (shape_of kind) ports inputs w has same refl in
    subst (λ (l : List ℕ). AddsBits gates (cell_row kind signed w gates inputs).gates (cell_row kind signed w gates inputs).bits w (weight kind l) (CellIs kind signed w inputs)) all
    (cell-adds kind signed w gates inputs lits (inputs-narrow ports inputs wide same) (subst (λ (l : List ℕ). HasWidths (shape_of kind) l) (sym all) has))
