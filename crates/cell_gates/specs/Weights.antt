-- How many gates a cell may add, by its kind and the widths of its ports.
use Rattle.std.specs.Prelude.{ℕ, ◌+◌, ◌*◌, max, List, [], ◌∷◌}
use Rattle.netlist_core.specs.declared.cell.CellKind.{CellKind}
use Rattle.netlist_core.specs.declared.cell.CellKind.TheVariants.{Not, Neg, And, Or, Xor, Xnor, Add, Sub, Mul, Lt, Le, Gt, Ge, Eq, Ne, Shl, Shr, Sshr, Rand, Ror, Rxor, Rnand, Rnor, Rxnor, Lnot, Land, Lor, Mux, Pick, Put}

abbrev pub greatest : List ℕ → ℕ
greatest [] = 0
greatest (w ∷ more) = max w (greatest more)

-- the width of port B
abbrev pub second : List ℕ → ℕ
second [] = 0
second (a ∷ []) = 0
second (a ∷ b ∷ more) = b

-- from the greatest width of a port, and that of port B
abbrev pub kind_weight : CellKind → ℕ → ℕ → ℕ
kind_weight Not w b = 0
kind_weight Neg w b = 5 * w
kind_weight And w b = w
kind_weight Or w b = w
kind_weight Xor w b = w
kind_weight Xnor w b = w
kind_weight Add w b = 5 * w
kind_weight Sub w b = 5 * w
kind_weight Mul w b = 6 * (w * w)
kind_weight Lt w b = 5 * w
kind_weight Le w b = 5 * w
kind_weight Gt w b = 5 * w
kind_weight Ge w b = 5 * w
kind_weight Eq w b = 2 * w
kind_weight Ne w b = 2 * w
kind_weight Shl w b = 8 * w + b
kind_weight Shr w b = 8 * w + b
kind_weight Sshr w b = 8 * w + b
kind_weight Rand w b = w
kind_weight Ror w b = w
kind_weight Rxor w b = w
kind_weight Rnand w b = w
kind_weight Rnor w b = w
kind_weight Rxnor w b = w
kind_weight Lnot w b = w
kind_weight Land w b = 2 * w
kind_weight Lor w b = 2 * w
kind_weight Mux w b = w
kind_weight Pick w b = 8 * w + b
kind_weight Put w b = 18 * w + 2 * b

-- from the widths of the ports
abbrev pub weight : CellKind → List ℕ → ℕ
weight kind widths = kind_weight kind (greatest widths) (second widths)
