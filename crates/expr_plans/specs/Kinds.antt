-- The kinds of cells that operators make.
use Rattle.std.specs.Prelude.{Bool, true, false, Option, None, Some, if◌then◌else◌}
use Rattle.vlog_syntax.specs.declared.operator.UnaryOperator.{UnaryOperator}
use Rattle.vlog_syntax.specs.declared.operator.UnaryOperator.TheVariants.{Plus, Minus, LogicalNot, BitwiseNot, ReductionAnd, ReductionNand, ReductionOr, ReductionNor, ReductionXor, ReductionXnor}
use Rattle.vlog_syntax.specs.declared.operator.BinaryOperator.{BinaryOperator}
use Rattle.vlog_syntax.specs.declared.operator.BinaryOperator.TheVariants as b
use Rattle.netlist_core.specs.declared.cell.CellKind.{CellKind}
use Rattle.netlist_core.specs.declared.cell.CellKind.TheVariants.{Not, Neg, And, Or, Xor, Xnor, Add, Sub, Mul, Lt, Le, Gt, Ge, Eq, Ne, Shl, Shr, Sshr, Rand, Ror, Rxor, Rnand, Rnor, Rxnor, Lnot, Land, Lor}

-- the kind that `op a` makes; unary `+` is wiring
abbrev pub unary_kind : UnaryOperator → Option CellKind
unary_kind Plus = None
unary_kind Minus = Some Neg
unary_kind LogicalNot = Some Lnot
unary_kind BitwiseNot = Some Not
unary_kind ReductionAnd = Some Rand
unary_kind ReductionNand = Some Rnand
unary_kind ReductionOr = Some Ror
unary_kind ReductionNor = Some Rnor
unary_kind ReductionXor = Some Rxor
unary_kind ReductionXnor = Some Rxnor

-- the kind that `a op b` makes, where a is evaluated with this sign; `/`, `%` and `**` make none
abbrev pub binary_kind : BinaryOperator → Bool → Option CellKind
binary_kind b.Power signed = None
binary_kind b.Multiply signed = Some Mul
binary_kind b.Divide signed = None
binary_kind b.Modulus signed = None
binary_kind b.Add signed = Some Add
binary_kind b.Subtract signed = Some Sub
binary_kind b.LogicalShiftLeft signed = Some Shl
binary_kind b.LogicalShiftRight signed = Some Shr
binary_kind b.ArithmeticShiftLeft signed = Some Shl
binary_kind b.ArithmeticShiftRight signed = Some (if signed then Sshr else Shr)
binary_kind b.Less signed = Some Lt
binary_kind b.LessEqual signed = Some Le
binary_kind b.Greater signed = Some Gt
binary_kind b.GreaterEqual signed = Some Ge
binary_kind b.LogicalEquality signed = Some Eq
binary_kind b.LogicalInequality signed = Some Ne
binary_kind b.CaseEquality signed = Some Eq
binary_kind b.CaseInequality signed = Some Ne
binary_kind b.BitwiseAnd signed = Some And
binary_kind b.BitwiseXor signed = Some Xor
binary_kind b.BitwiseXnor signed = Some Xnor
binary_kind b.BitwiseOr signed = Some Or
binary_kind b.LogicalAnd signed = Some Land
binary_kind b.LogicalOr signed = Some Lor

-- the kinds that compare by order, of signed or of unsigned numbers
abbrev pub is_order : CellKind → Bool
is_order Lt = true
is_order Le = true
is_order Gt = true
is_order Ge = true
is_order kind = false
