-- The text of a site: `MODE TOP cell NAME PORT BIT FILE:LINE`, with `reg` in place of `cell` at a register. Where the mode reads a
-- control bit, its number stands after BIT. One space divides fields.
use Rattle.std.specs.Prelude.{ℕ, zero, suc, ◌+◌, ◌%◌, List, [], ◌++◌, length, slice_get, slice_index_or, Option, None, Some, codes, decimal}
use Rattle.mcy_base.specs.declared.span.Span.{Span}
use Rattle.netlist_core.specs.declared.cell.CellKind.{CellKind}
use Rattle.netlist_core.specs.declared.cell.CellKind.TheVariants.{Not, Neg, And, Or, Xor, Xnor, Add, Sub, Mul, Lt, Le, Gt, Ge, Eq, Ne, Shl, Shr, Sshr, Rand, Ror, Rxor, Rnand, Rnor, Rxnor, Lnot, Land, Lor, Mux, Pick, Put}
use Rattle.netlist_core.specs.declared.cell.Cell.{Cell as Gate}
use Rattle.netlist_core.specs.declared.port.Register.{Register as Flop}
use Rattle.netlist_core.specs.declared.raw.RawNetlist.{RawNetlist}
use Rattle.netlist_core.specs.declared.shape.Shape.{Shape}
use Rattle.netlist_core.specs.declared.shape.Shape.TheVariants.{Unary, Binary, Relation, Shift, Reduction, Logical, Choice, Selection, Insertion}
use Rattle.netlist_core.specs.Shapes.{shape_of}
use Rattle.mutation_sites.specs.declared.mode.Mode.{Mode}
use Rattle.mutation_sites.specs.declared.mode.Mode.TheVariants.{Inv, Const0, Const1, Cnot0, Cnot1}
use Rattle.mutation_sites.specs.declared.site.Place.{Place}
use Rattle.mutation_sites.specs.declared.site.Place.TheVariants.{Cell, Register}
use Rattle.mutation_sites.specs.declared.site.Site.{Site}
use Rattle.mutation_sites.specs.Mutants.{port_at}
use Rattle.mutation_sites.specs.Wiring.{span_at}

abbrev pub mode_text : Mode → List ℕ
mode_text Inv = codes "inv"
mode_text Const0 = codes "const0"
mode_text Const1 = codes "const1"
mode_text Cnot0 = codes "cnot0"
mode_text Cnot1 = codes "cnot1"

abbrev pub kind_text : CellKind → List ℕ
kind_text Not = codes "not"
kind_text Neg = codes "neg"
kind_text And = codes "and"
kind_text Or = codes "or"
kind_text Xor = codes "xor"
kind_text Xnor = codes "xnor"
kind_text Add = codes "add"
kind_text Sub = codes "sub"
kind_text Mul = codes "mul"
kind_text Lt = codes "lt"
kind_text Le = codes "le"
kind_text Gt = codes "gt"
kind_text Ge = codes "ge"
kind_text Eq = codes "eq"
kind_text Ne = codes "ne"
kind_text Shl = codes "shl"
kind_text Shr = codes "shr"
kind_text Sshr = codes "sshr"
kind_text Rand = codes "rand"
kind_text Ror = codes "ror"
kind_text Rxor = codes "rxor"
kind_text Rnand = codes "rnand"
kind_text Rnor = codes "rnor"
kind_text Rxnor = codes "rxnor"
kind_text Lnot = codes "lnot"
kind_text Land = codes "land"
kind_text Lor = codes "lor"
kind_text Mux = codes "mux"
kind_text Pick = codes "pick"
kind_text Put = codes "put"

-- The name of a cell's port by its number: A and Y,
abbrev pub one_input_text : ℕ → List ℕ
one_input_text zero = codes "A"
one_input_text (suc p) = codes "Y"

-- A, B and Y,
abbrev pub two_inputs_text : ℕ → List ℕ
two_inputs_text zero = codes "A"
two_inputs_text (suc zero) = codes "B"
two_inputs_text (suc (suc p)) = codes "Y"

-- S, A, B and Y,
abbrev pub choice_text : ℕ → List ℕ
choice_text zero = codes "S"
choice_text (suc zero) = codes "A"
choice_text (suc (suc zero)) = codes "B"
choice_text (suc (suc (suc p))) = codes "Y"

-- or A, B, D and Y.
abbrev pub insertion_text : ℕ → List ℕ
insertion_text zero = codes "A"
insertion_text (suc zero) = codes "B"
insertion_text (suc (suc zero)) = codes "D"
insertion_text (suc (suc (suc p))) = codes "Y"

abbrev pub port_text : Shape → ℕ → List ℕ
port_text Unary p = one_input_text p
port_text Binary p = two_inputs_text p
port_text Relation p = two_inputs_text p
port_text Shift p = two_inputs_text p
port_text Reduction p = one_input_text p
port_text Logical p = two_inputs_text p
port_text Choice p = choice_text p
port_text Selection p = two_inputs_text p
port_text Insertion p = insertion_text p

-- the name of a cell, its kind and its number, as `and_0`
abbrev pub cell_text : CellKind → ℕ → List ℕ
cell_text kind c = kind_text kind ++ (codes "_" ++ decimal c)

-- D or Q
abbrev pub register_port_text : ℕ → List ℕ
register_port_text zero = codes "D"
register_port_text (suc p) = codes "Q"

-- what stands there, its name and the port's
abbrev pub at_cell : ℕ → Option Gate → ℕ → List ℕ
at_cell c None p = []
at_cell c (Some cell) p = codes "cell " ++ (cell_text cell.kind c ++ (codes " " ++ port_text (shape_of cell.kind) p))

abbrev pub at_register : Option Flop → ℕ → List ℕ
at_register None p = []
at_register (Some register) p = codes "reg " ++ (register.name ++ (codes " " ++ register_port_text p))

abbrev pub place_text : RawNetlist → Place → ℕ → List ℕ
place_text netlist (Cell c) p = at_cell c (slice_get netlist.cells c) p
place_text netlist (Register r) p = at_register (slice_get netlist.registers r) p

-- bit i of a port of width w, and where the mode reads a control bit that one
abbrev pub bit_text : Mode → ℕ → ℕ → List ℕ
bit_text Inv i w = decimal i
bit_text Const0 i w = decimal i
bit_text Const1 i w = decimal i
bit_text Cnot0 i w = decimal i ++ (codes " " ++ decimal ((i + 1) % w))
bit_text Cnot1 i w = decimal i ++ (codes " " ++ decimal ((i + 1) % w))

-- the file's name and the line
abbrev pub source_text : List (List ℕ) → Span → List ℕ
source_text files span = slice_index_or files span.file [] ++ (codes ":" ++ decimal span.line)

-- the site's text, where the files have these names
abbrev pub site_text : RawNetlist → List (List ℕ) → Site → List ℕ
site_text netlist files site = mode_text site.mode ++ (codes " " ++ (netlist.top ++ (codes " " ++ (place_text netlist site.place site.port ++ (codes " " ++ (bit_text site.mode site.bit (length (port_at netlist site.place site.port)) ++ (codes " " ++ source_text files (span_at netlist site.place))))))))
