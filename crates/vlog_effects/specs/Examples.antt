-- Statements whose effects and latches were worked out by hand.
use Rattle.std.specs.Prelude.{◌≡◌, ℕ, zero, suc, Bool, true, false, List, [], ◌∷◌, Option, Some, None}
use Rattle.mcy_base.specs.declared.span.Span.{Span}
use Rattle.mcy_base.specs.declared.word.Word.{Word}
use Rattle.vlog_syntax.specs.declared.identifier.Identifier.{Identifier}
use Rattle.vlog_syntax.specs.declared.operator.BinaryOperator.{BinaryOperator}
use Rattle.vlog_syntax.specs.declared.operator.BinaryOperator.TheVariants.{Add, Subtract, Less, BitwiseAnd}
use Rattle.vlog_syntax.specs.declared.operator.UnaryOperator.TheVariants.{BitwiseNot}
use Rattle.vlog_syntax.specs.declared.expr.Expr.{Expr}
use Rattle.vlog_syntax.specs.declared.expr.Expr.TheVariants as e
use Rattle.vlog_syntax.specs.declared.left_side.LeftSide.{LeftSide}
use Rattle.vlog_syntax.specs.declared.left_side.LeftSide.TheVariants as l
use Rattle.vlog_syntax.specs.declared.stmt.Assignment.{Assignment}
use Rattle.vlog_syntax.specs.declared.stmt.CaseItem.{CaseItem, roll-CaseItem}
use Rattle.vlog_syntax.specs.declared.stmt.CaseKind.{CaseKind}
use Rattle.vlog_syntax.specs.declared.stmt.CaseKind.TheVariants.{Case as Plain, Casez}
use Rattle.vlog_syntax.specs.declared.stmt.Stmt.{Stmt}
use Rattle.vlog_syntax.specs.declared.stmt.Stmt.TheVariants as t
use Rattle.vlog_meaning.specs.declared.scope.Decl.TheVariants.{Signal}
use Rattle.vlog_meaning.specs.Scopes.{Names, names_of}
use Rattle.vlog_effects.specs.Expressions.{number, bits_of}
use Rattle.vlog_effects.specs.Steps.{Steps, word_of, steps_of}
use Rattle.vlog_effects.specs.Effects.{Values, left_by}
use Rattle.vlog_effects.specs.Latches.{Target, latch_of}

-- Signals, and their values before each example: a = 5, b = 9, i = 1, k = 0, w = 165 and y = 0.

abbrev pub a : ℕ
a = 97

abbrev pub b : ℕ
b = 98

abbrev pub i : ℕ
i = 105

abbrev pub k : ℕ
k = 107

abbrev pub w : ℕ
w = 119

abbrev pub y : ℕ
y = 121

-- `reg [3:0] a, b, y; reg [1:0] i; integer k; reg [7:0] w;`
abbrev pub names : Names
names = names_of ((a ∷ [], Signal 4 0 false 0) ∷ (b ∷ [], Signal 4 0 false 1) ∷ (i ∷ [], Signal 2 0 false 2) ∷ (k ∷ [], Signal 32 0 true 3) ∷ (w ∷ [], Signal 8 0 false 4) ∷ (y ∷ [], Signal 4 0 false 5) ∷ [])

abbrev pub listed : List (List Bool) → Values
listed [] n = []
listed (x ∷ more) zero = x
listed (x ∷ more) (suc n) = listed more n

abbrev pub values : Values
values = listed (bits_of 4 5 ∷ bits_of 4 9 ∷ bits_of 2 1 ∷ bits_of 32 0 ∷ bits_of 8 165 ∷ bits_of 4 0 ∷ [])

-- the numbers that a, b, i, w and y hold after steps, and after a statement
abbrev pub results_of : Steps → List ℕ
results_of steps =
    let after = left_by steps values in
    number (after 0) ∷ number (after 1) ∷ number (after 2) ∷ number (after 4) ∷ number (after 5) ∷ []

abbrev pub results : Stmt → List ℕ
results s = results_of (steps_of s names)

-- Trees. Places play no part but for the columns of left sides.

abbrev pub place : ℕ → Span
place column = record { file = 0; line = 1; col = column }

abbrev pub named : ℕ → ℕ → Identifier
named letter column = record { name = letter ∷ []; span = place column }

abbrev pub read : ℕ → Expr
read letter = e.Name (named letter 1)

abbrev pub bit : ℕ → Expr → Expr
bit letter index = e.BitSelect (named letter 1) (place 1) index

abbrev pub literal_of : Option Word → (z_bits : ℕ) → Expr
literal_of None z_bits = read a
literal_of (Some v) z_bits = e.Number (record { value = v; is_signed = true; x_bits = 0; z_bits = z_bits; span = place 1 })

-- a decimal number
abbrev pub decimal : ℕ → Expr
decimal v = literal_of (word_of 32 v) 0

abbrev pub binary : BinaryOperator → Expr → Expr → Expr
binary operator x y = e.Binary (place 1) operator x y

abbrev pub assigns : LeftSide → Expr → Assignment
assigns left value = record { left = left; span = place 1; value = value }

-- a name as a left side, at this column
abbrev pub whole : ℕ → ℕ → LeftSide
whole letter column = l.Name (named letter column)

-- `letter[index]`, `letter[msb:lsb]`, `letter[base +: count]` and `{..}` as left sides
abbrev pub bit_of : ℕ → Expr → LeftSide
bit_of letter index = l.BitSelect (named letter 1) (place 1) index

abbrev pub range_of : ℕ → Expr → Expr → LeftSide
range_of letter msb lsb = l.PartSelect (named letter 1) (place 1) msb lsb

abbrev pub part_of : ℕ → Expr → Expr → LeftSide
part_of letter base count = l.IndexedPartSelect (named letter 1) (place 1) base count

abbrev pub joined : List LeftSide → LeftSide
joined parts = l.Concatenation (place 1) parts

abbrev pub blocking : LeftSide → Expr → Stmt
blocking left value = t.BlockingAssignment (assigns left value)

abbrev pub nonblocking : LeftSide → Expr → Stmt
nonblocking left value = t.NonblockingAssignment (assigns left value)

-- `letter = value;`
abbrev pub set : ℕ → Expr → Stmt
set letter value = blocking (whole letter 1) value

-- `letter <= value;`
abbrev pub schedule : ℕ → Expr → Stmt
schedule letter value = nonblocking (whole letter 1) value

abbrev pub block : List Stmt → Stmt
block body = t.SeqBlock (place 1) None body

abbrev pub choice : Expr → Stmt → Stmt → Stmt
choice condition first second = t.Conditional (place 1) condition first (Some second)

-- `if` without `else`
abbrev pub only_if : Expr → Stmt → Stmt
only_if condition first = t.Conditional (place 1) condition first None

abbrev pub selected : CaseKind → Expr → List CaseItem → Stmt
selected kind selector items = t.Case (place 1) kind selector items

-- Kinds of assignment (IEEE 1364-2005, 9.2).

-- `a = b; y = a;`
abbrev pub BlockingIsSeen : Type 0
BlockingIsSeen = results (block (set a (read b) ∷ set y (read a) ∷ [])) ≡ 9 ∷ 9 ∷ 1 ∷ 165 ∷ 9 ∷ []

-- `a <= b; y = a;`
abbrev pub NonblockingIsNotSeen : Type 0
NonblockingIsNotSeen = results (block (schedule a (read b) ∷ set y (read a) ∷ [])) ≡ 9 ∷ 9 ∷ 1 ∷ 165 ∷ 5 ∷ []

-- `a <= b; b <= a;`
abbrev pub NonblockingSwaps : Type 0
NonblockingSwaps = results (block (schedule a (read b) ∷ schedule b (read a) ∷ [])) ≡ 9 ∷ 5 ∷ 1 ∷ 165 ∷ 0 ∷ []

-- `y <= a; y <= b;`
abbrev pub LastScheduledStays : Type 0
LastScheduledStays = results (block (schedule y (read a) ∷ schedule y (read b) ∷ [])) ≡ 5 ∷ 9 ∷ 1 ∷ 165 ∷ 9 ∷ []

-- Left sides.

-- `{a, b} = w;`
abbrev pub LeftPartGetsHighBits : Type 0
LeftPartGetsHighBits = results (blocking (joined (whole a 1 ∷ whole b 1 ∷ [])) (read w)) ≡ 10 ∷ 5 ∷ 1 ∷ 165 ∷ 0 ∷ []

-- `{y, y} = w;`
abbrev pub LeftPartStays : Type 0
LeftPartStays = results (blocking (joined (whole y 1 ∷ whole y 1 ∷ [])) (read w)) ≡ 5 ∷ 9 ∷ 1 ∷ 165 ∷ 10 ∷ []

-- `{i, y[i]} = w;`: the index is the old i, which is 1, and the bits are 101
abbrev pub IndexIsReadBefore : Type 0
IndexIsReadBefore = results (blocking (joined (whole i 1 ∷ bit_of y (read i) ∷ [])) (read w)) ≡ 5 ∷ 9 ∷ 2 ∷ 165 ∷ 2 ∷ []

-- `w[5:2] = a;`
abbrev pub PartIsWritten : Type 0
PartIsWritten = results (blocking (range_of w (decimal 5) (decimal 2)) (read a)) ≡ 5 ∷ 9 ∷ 1 ∷ 149 ∷ 0 ∷ []

-- `y[i +: 4] = b;`: the highest of the bits 1001 is past the end
abbrev pub BitsPastTheEndAreDropped : Type 0
BitsPastTheEndAreDropped = results (blocking (part_of y (read i) (decimal 4)) (read b)) ≡ 5 ∷ 9 ∷ 1 ∷ 165 ∷ 2 ∷ []

-- Loops and cases (IEEE 1364-2005, 9.5 and 9.6).

-- `for (k = 0; k < 4; k = k + 1) y[k] = a[3 - k];`
abbrev pub start : Assignment
start = assigns (whole k 1) (decimal 0)

abbrev pub condition : Expr
condition = binary Less (read k) (decimal 4)

abbrev pub step : Assignment
step = assigns (whole k 1) (binary Add (read k) (decimal 1))

abbrev pub turn : Stmt
turn = blocking (bit_of y (read k)) (bit a (binary Subtract (decimal 3) (read k)))

abbrev pub reversal : Stmt
reversal = t.For (place 1) start condition step turn

abbrev pub LoopReverses : Type 0
LoopReverses = results reversal ≡ 5 ∷ 9 ∷ 1 ∷ 165 ∷ 10 ∷ []

-- an item with one label of 4 bits, some of them no matter, and one without labels
abbrev pub item : (v z_bits : ℕ) → Stmt → CaseItem
item v z_bits body = roll-CaseItem (record { span = place 1; labels = literal_of (word_of 4 v) z_bits ∷ []; body = body })

abbrev pub default : Stmt → CaseItem
default body = roll-CaseItem (record { span = place 1; labels = []; body = body })

-- `casez (a) 4'b01??: y = b; default: y = i; endcase`, where a is 0101
abbrev pub DontCareMatches : Type 0
DontCareMatches = results (selected Casez (read a) (item 4 3 (set y (read b)) ∷ default (set y (read i)) ∷ [])) ≡ 5 ∷ 9 ∷ 1 ∷ 165 ∷ 9 ∷ []

-- `casez (a) 4'b1??1: y = b; default: y = i; endcase`
abbrev pub OtherBitsDiffer : Type 0
OtherBitsDiffer = results (selected Casez (read a) (item 9 6 (set y (read b)) ∷ default (set y (read i)) ∷ [])) ≡ 5 ∷ 9 ∷ 1 ∷ 165 ∷ 1 ∷ []

-- Latches.

-- the number of the variable that would be a latch
abbrev pub number_of : Option Target → Option ℕ
number_of None = None
number_of (Some x) = Some x.number

abbrev pub latch : Stmt → Option ℕ
latch s = number_of (latch_of (steps_of s names))

-- `if (a) y = b; else y = w;`
abbrev pub AllPathsAssign : Type 0
AllPathsAssign = latch (choice (read a) (set y (read b)) (set y (read w))) ≡ None

-- `if (a) y = b;`
abbrev pub PathLeavesY : Type 0
PathLeavesY = latch (only_if (read a) (set y (read b))) ≡ Some 5

-- `y = w; if (a) y = b;`
abbrev pub FirstValueServes : Type 0
FirstValueServes = latch (block (set y (read w) ∷ only_if (read a) (set y (read b)) ∷ [])) ≡ None

-- `if (a) y = b; else y[2:0] = b;`
abbrev pub OneBitIsMissing : Type 0
OneBitIsMissing = latch (choice (read a) (set y (read b)) (blocking (range_of y (decimal 2) (decimal 0)) (read b))) ≡ Some 5

-- `y[i] = b;`
abbrev pub VariableIndexCoversNothing : Type 0
VariableIndexCoversNothing = latch (blocking (bit_of y (read i)) (read b)) ≡ Some 5

-- `b = y; y = a;`
abbrev pub ReadBeforeAssigned : Type 0
ReadBeforeAssigned = latch (block (set b (read y) ∷ set y (read a) ∷ [])) ≡ Some 5

-- `if (a) y = b; else i = w;`, i to the left of y: the latch is the variable that a left side names first by its place
abbrev pub LeastPlaceCounts : Type 0
LeastPlaceCounts = latch (choice (read a) (blocking (whole y 7) (read b)) (blocking (whole i 3) (read w))) ≡ Some 2

-- an item with a decimal label
abbrev pub numbered : ℕ → Stmt → CaseItem
numbered v body = roll-CaseItem (record { span = place 1; labels = decimal v ∷ []; body = body })

-- `case (i) 0: y = a; 1: y = b; 2: y = b; 3: y = a; endcase` names each value of i
abbrev pub LastItemIsDefault : Type 0
LastItemIsDefault = latch (selected Plain (read i) (numbered 0 (set y (read a)) ∷ numbered 1 (set y (read b)) ∷ numbered 2 (set y (read b)) ∷ numbered 3 (set y (read a)) ∷ [])) ≡ None

-- and without the item of 2 it does not
abbrev pub OneValueIsMissing : Type 0
OneValueIsMissing = latch (selected Plain (read i) (numbered 0 (set y (read a)) ∷ numbered 1 (set y (read b)) ∷ numbered 3 (set y (read a)) ∷ [])) ≡ Some 5

-- `case (~i) 0: y = a; 1: y = b; 2: y = b; 3: y = a; endcase`: brought to 32 bits, `~i` is none of them
abbrev pub InvertedIsGreater : Type 0
InvertedIsGreater = latch (selected Plain (e.Unary (place 1) BitwiseNot (read i)) (numbered 0 (set y (read a)) ∷ numbered 1 (set y (read b)) ∷ numbered 2 (set y (read b)) ∷ numbered 3 (set y (read a)) ∷ [])) ≡ Some 5

-- `case (i & a[2:1]) 0: y = a; 1: y = b; 2: y = b; 3: y = a; endcase`
abbrev pub BitwiseKeepsItsWidth : Type 0
BitwiseKeepsItsWidth = latch (selected Plain (binary BitwiseAnd (read i) (e.PartSelect (named a 1) (place 1) (decimal 2) (decimal 1))) (numbered 0 (set y (read a)) ∷ numbered 1 (set y (read b)) ∷ numbered 2 (set y (read b)) ∷ numbered 3 (set y (read a)) ∷ [])) ≡ None
