-- What an expression says in a scope: its shape, its value, and what is wrong in it. By cases on the tree, from what
-- its operands say.
use Rattle.std.specs.Prelude.{◌≡◌, ◌≤◌, ℕ, zero, suc, ◌+◌, ◌*◌, ◌^◌, max, ℤ, pos, negsuc, ◌+ℤ◌, ◌-ℤ◌, int_lt, Bool, true, false, ◌&&◌, ◌||◌, not, nat_le, nat_lt, ◌==◌, List, [], ◌∷◌, ◌++◌, map, Option, None, Some, if◌then◌else◌}
use Rattle.mcy_base.specs.declared.span.Span.{Span}
use Rattle.vlog_syntax.specs.declared.expr.Expr.{Expr}
use Rattle.vlog_syntax.specs.declared.expr.Expr.TheOpen as e
use Rattle.vlog_syntax.specs.declared.expr.Expr.TheOpen.{Expr-F}
use Rattle.vlog_syntax.specs.declared.expr.Expr.TheFolds.{fold-Expr}
use Rattle.vlog_syntax.specs.declared.operator.BinaryOperator.{BinaryOperator}
use Rattle.vlog_syntax.specs.declared.operator.BinaryOperator.TheVariants.{Power, Divide, Modulus}
use Rattle.vlog_meaning.specs.declared.fault.Cause.{Cause}
use Rattle.vlog_meaning.specs.declared.fault.Cause.TheVariants.{Unknown, NotConstant, DivideByZero, TooWide, RangeForm, SystemFunction, DivideOrPower, IndexedBase, Drawn}
use Rattle.vlog_meaning.specs.declared.fault.Fault.{Fault}
use Rattle.vlog_meaning.specs.declared.function.Function.{Function}
use Rattle.vlog_meaning.specs.declared.function.Function.TheVariants.{Signed, Unsigned, Clog2, Random, Time}
use Rattle.vlog_meaning.specs.declared.scope.Decl.{Decl}
use Rattle.vlog_meaning.specs.declared.scope.Decl.TheVariants.{Signal, Constant}
use Rattle.vlog_meaning.specs.declared.shapes.Shape.{Shape}
use Rattle.vlog_meaning.specs.Functions.{function_of}
use Rattle.vlog_meaning.specs.Integers.{integer, extended, natural, window, clog2}
use Rattle.vlog_meaning.specs.Operators.{bit, joint, sizing, pair_shape, left_context, right_context, unary_shape, operand_context, unary_value, binary_value, divides_by_zero}
use Rattle.vlog_meaning.specs.Scopes.{Names, Store, nothing, decl_shape, decl_low, decl_value}

-- What an expression says.
pub record Sense : Type 0 where
  -- its own width and sign
  pub shape : Shape
  -- its value, from those of the signals, where it is evaluated at a width and sign
  pub value : Store → Shape → ℕ
  -- the bits of signals on which its value depends: by the number of the signal, and the bit's place from the lowest on
  pub reads : ℕ → ℕ → Bool
  -- where it reads signals, or calls what has another value each time, which a constant does not
  pub signals : List Fault
  -- why it has no shape: what is wrong in it, each at its place
  pub faults : List Fault
  -- what an expression that is no constant may not hold
  pub features : List Fault
  -- where it divides constants by 0, where it is evaluated at a width and sign
  pub zeros : Shape → List Span

-- its value where it stands for itself
abbrev pub own : Store → Sense → ℕ
own store a = a.value store a.shape

-- the integer that it is by its sign, as an index
abbrev pub index_of : Store → Sense → ℤ
index_of store a = integer a.shape (own store a)

-- the integer that a constant is
abbrev pub constant_integer : Sense → ℤ
constant_integer a = index_of nothing a

abbrev pub fault : Cause → Span → Fault
fault cause span = record { cause = cause; span = span }

abbrev pub is_empty : {A : Type 0} → List A → Bool
is_empty [] = true
is_empty (x ∷ xs) = false

-- these, or where there are none those
abbrev pub or_else : List Fault → List Fault → List Fault
or_else [] those = those
or_else (x ∷ these) those = x ∷ these

-- why it is no constant, or has no shape
abbrev pub not_constant : Sense → List Fault
not_constant a = a.signals ++ a.faults

-- why it has no constant value at a width and sign
abbrev pub constant_faults_at : Sense → Shape → List Fault
constant_faults_at a c = or_else (not_constant a) (map (fault DivideByZero) (a.zeros c))

-- why it has no constant value
abbrev pub constant_faults : Sense → List Fault
constant_faults a = constant_faults_at a a.shape

-- the width and sign at which it is evaluated where it is assigned to so many bits (5.4.1)
abbrev pub assigned : Sense → ℕ → Shape
assigned a width = record { width = max a.shape.width width; is_signed = a.shape.is_signed }

-- Widths and signs (Table 5-22, and 5.5.1).

-- the width of a part select, from the bounds
abbrev pub part_width : ℤ → ℤ → ℕ
part_width msb lsb = natural (msb -ℤ lsb +ℤ pos 1)

abbrev pub total_width : List Sense → ℕ
total_width [] = 0
total_width (a ∷ more) = a.shape.width + total_width more

abbrev pub unsigned : ℕ → Shape
unsigned width = record { width = width; is_signed = false }

abbrev pub call_shape : Option Function → List Sense → Shape
call_shape (Some Signed) (a ∷ []) = record { width = a.shape.width; is_signed = true }
call_shape (Some Unsigned) (a ∷ []) = unsigned a.shape.width
call_shape (Some Time) [] = unsigned 64
call_shape function arguments = record { width = 32; is_signed = true }

abbrev pub shape_step : Names → Expr-F Sense → Shape
shape_step names (e.Number n) = record { width = n.value.width; is_signed = n.is_signed }
shape_step names (e.Name n) = decl_shape (names n.name)
shape_step names (e.BitSelect n s i) = bit
shape_step names (e.PartSelect n s msb lsb) = unsigned (part_width (constant_integer msb) (constant_integer lsb))
shape_step names (e.IndexedPartSelect n s base width) = unsigned (natural (constant_integer width))
shape_step names (e.Parenthesized s i) = i.shape
shape_step names (e.Unary s op i) = unary_shape op i.shape
shape_step names (e.Binary s op i j) = pair_shape (sizing op) i.shape j.shape
shape_step names (e.Conditional s c i j) = joint i.shape j.shape
shape_step names (e.Concatenation s parts) = unsigned (total_width parts)
shape_step names (e.MultipleConcatenation s count parts) = unsigned (natural (constant_integer count) * total_width parts)
shape_step names (e.SystemFunctionCall n arguments) = call_shape (function_of n.name) arguments

-- Values.

-- the value of a concatenation: the first part has the highest bits
abbrev pub joined : Store → List Sense → ℕ
joined store [] = 0
joined store (a ∷ more) = own store a * 2 ^ total_width more + joined store more

-- so many times the same bits
abbrev pub repeated : ℕ → ℕ → ℕ → ℕ
repeated zero width v = 0
repeated (suc count) width v = repeated count width v * 2 ^ width + v

abbrev pub call_value : Option Function → List Sense → Store → Shape → ℕ
call_value (Some Signed) (a ∷ []) store c = extended (record { width = a.shape.width; is_signed = c.is_signed }) c.width (own store a)
call_value (Some Unsigned) (a ∷ []) store c = own store a
call_value (Some Clog2) (a ∷ []) store c = clog2 (own nothing a)
call_value function arguments store c = 0

-- a number or name at the width and sign of its context (5.5.4)
abbrev pub taken : Shape → Shape → ℕ → ℕ
taken own c v = extended (record { width = own.width; is_signed = c.is_signed }) c.width v

abbrev pub binary_step : BinaryOperator → Sense → Sense → Store → Shape → ℕ
binary_step op i j store c =
    let s = left_context (sizing op) i.shape j.shape c in
    let t = right_context (sizing op) i.shape j.shape c in
    binary_value op s (i.value store s) t (j.value store t)

abbrev pub value_step : Names → Expr-F Sense → Store → Shape → ℕ
value_step names (e.Number n) store c = taken (record { width = n.value.width; is_signed = n.is_signed }) c n.value.bits
value_step names (e.Name n) store c = taken (decl_shape (names n.name)) c (decl_value store (names n.name))
value_step names (e.BitSelect n s i) store c = window (index_of store i -ℤ pos (decl_low (names n.name))) 1 (decl_value store (names n.name))
value_step names (e.PartSelect n s msb lsb) store c = window (constant_integer lsb -ℤ pos (decl_low (names n.name))) (part_width (constant_integer msb) (constant_integer lsb)) (decl_value store (names n.name))
value_step names (e.IndexedPartSelect n s base width) store c = window (index_of store base -ℤ pos (decl_low (names n.name))) (natural (constant_integer width)) (decl_value store (names n.name))
value_step names (e.Parenthesized s i) store c = i.value store c
value_step names (e.Unary s op i) store c = unary_value op (operand_context op i.shape c) (i.value store (operand_context op i.shape c))
value_step names (e.Binary s op i j) store c = binary_step op i j store c
value_step names (e.Conditional s x i j) store c = if own store x == 0 then j.value store c else i.value store c
value_step names (e.Concatenation s parts) store c = joined store parts
value_step names (e.MultipleConcatenation s count parts) store c = repeated (natural (constant_integer count)) (total_width parts) (joined store parts)
value_step names (e.SystemFunctionCall n arguments) store c = call_value (function_of n.name) arguments store c

-- Bits that are read.

abbrev pub Bits : Type 0
Bits = ℕ → ℕ → Bool

abbrev pub no_bits : Bits
no_bits number at = false

abbrev pub either : Bits → Bits → Bits
either these those number at = these number at || those number at

abbrev pub all_reads : List Sense → Bits
all_reads [] = no_bits
all_reads (a ∷ more) = either a.reads (all_reads more)

-- the bits of a name
abbrev pub name_bits : Option Decl → Bits
name_bits (Some (Signal width low is_signed number)) other at = other == number && nat_lt at width
name_bits decl other at = false

-- whether a bit is among so many from a place on
abbrev pub is_among : ℤ → ℕ → ℕ → Bool
is_among (pos from) size at = nat_le from at && nat_lt at (from + size)
is_among (negsuc n) size at = nat_lt (at + (n + 1)) size

abbrev pub part_bits : Option Decl → ℤ → ℕ → Bits
part_bits decl from size other at = name_bits decl other at && is_among from size at

-- a select whose place is no constant can read each bit
abbrev pub select_bits : Option Decl → Sense → ℕ → Bits
select_bits decl place size =
    if is_empty place.signals
    then part_bits decl (constant_integer place -ℤ pos (decl_low decl)) size
    else either (name_bits decl) place.reads

abbrev pub reads_step : Names → Expr-F Sense → Bits
reads_step names (e.Number n) = no_bits
reads_step names (e.Name n) = name_bits (names n.name)
reads_step names (e.BitSelect n s i) = select_bits (names n.name) i 1
reads_step names (e.PartSelect n s msb lsb) = part_bits (names n.name) (constant_integer lsb -ℤ pos (decl_low (names n.name))) (part_width (constant_integer msb) (constant_integer lsb))
reads_step names (e.IndexedPartSelect n s base width) = select_bits (names n.name) base (natural (constant_integer width))
reads_step names (e.Parenthesized s i) = i.reads
reads_step names (e.Unary s op i) = i.reads
reads_step names (e.Binary s op i j) = either i.reads j.reads
reads_step names (e.Conditional s x i j) = either x.reads (either i.reads j.reads)
reads_step names (e.Concatenation s parts) = all_reads parts
reads_step names (e.MultipleConcatenation s count parts) = all_reads parts
reads_step names (e.SystemFunctionCall n arguments) = all_reads arguments

-- What is wrong.

abbrev pub name_signals : Span → Option Decl → List Fault
name_signals span (Some (Signal width low is_signed number)) = fault NotConstant span ∷ []
name_signals span other = []

abbrev pub all_signals : List Sense → List Fault
all_signals [] = []
all_signals (a ∷ more) = a.signals ++ all_signals more

-- a call that changes from one evaluation to the next
abbrev pub call_signals : Option Function → Span → List Fault
call_signals (Some Random) span = fault Drawn span ∷ []
call_signals (Some Time) span = fault Drawn span ∷ []
call_signals function span = []

-- the signals that are read in it, and such calls
abbrev pub signals_step : Names → Expr-F Sense → List Fault
signals_step names (e.Number n) = []
signals_step names (e.Name n) = name_signals n.span (names n.name)
signals_step names (e.BitSelect n s i) = name_signals n.span (names n.name) ++ i.signals
signals_step names (e.PartSelect n s msb lsb) = name_signals n.span (names n.name) ++ (msb.signals ++ lsb.signals)
signals_step names (e.IndexedPartSelect n s base width) = name_signals n.span (names n.name) ++ (base.signals ++ width.signals)
signals_step names (e.Parenthesized s i) = i.signals
signals_step names (e.Unary s op i) = i.signals
signals_step names (e.Binary s op i j) = i.signals ++ j.signals
signals_step names (e.Conditional s c i j) = c.signals ++ (i.signals ++ j.signals)
signals_step names (e.Concatenation s parts) = all_signals parts
signals_step names (e.MultipleConcatenation s count parts) = count.signals ++ all_signals parts
signals_step names (e.SystemFunctionCall n arguments) = call_signals (function_of n.name) n.span ++ all_signals arguments

-- a part has from 1 to 128 bits
abbrev pub sized : Span → ℕ → List Fault
sized span width = if nat_le 1 width && nat_le width 128 then [] else fault TooWide span ∷ []

-- a replication has a count of at least 1
abbrev pub counted : Span → ℕ → List Fault
counted span count = if nat_lt 0 count then [] else fault TooWide span ∷ []

abbrev pub name_faults : Span → Option Decl → List Fault
name_faults span None = fault Unknown span ∷ []
name_faults span (Some (Signal width low is_signed number)) = sized span width
name_faults span (Some (Constant value low is_signed)) = []

abbrev pub all_faults : List Sense → List Fault
all_faults [] = []
all_faults (a ∷ more) = a.faults ++ all_faults more

abbrev pub range_faults : Span → ℤ → ℤ → List Fault
range_faults span msb lsb = if int_lt msb lsb then fault RangeForm span ∷ [] else sized span (part_width msb lsb)

abbrev pub call_faults : Option Function → Span → List Sense → List Fault
call_faults (Some Signed) span (a ∷ []) = a.faults
call_faults (Some Unsigned) span (a ∷ []) = a.faults
call_faults (Some Clog2) span (a ∷ []) = constant_faults a
call_faults (Some Random) span [] = []
call_faults (Some Time) span [] = []
call_faults function span arguments = fault SystemFunction span ∷ all_faults arguments

-- Why an expression has no shape. The width of a part is tested where its own parts have theirs.
abbrev pub faults_step : Names → Expr-F Sense → List Fault
faults_step names (e.Number n) = []
faults_step names (e.Name n) = name_faults n.span (names n.name)
faults_step names (e.BitSelect n s i) = name_faults n.span (names n.name) ++ i.faults
faults_step names (e.PartSelect n s msb lsb) = name_faults n.span (names n.name) ++ or_else (constant_faults msb ++ constant_faults lsb) (range_faults s (constant_integer msb) (constant_integer lsb))
faults_step names (e.IndexedPartSelect n s base width) = name_faults n.span (names n.name) ++ (base.faults ++ or_else (constant_faults width) (sized s (natural (constant_integer width))))
faults_step names (e.Parenthesized s i) = i.faults
faults_step names (e.Unary s op i) = i.faults
faults_step names (e.Binary s op i j) = i.faults ++ j.faults
faults_step names (e.Conditional s c i j) = c.faults ++ (i.faults ++ j.faults)
faults_step names (e.Concatenation s parts) = or_else (all_faults parts) (sized s (total_width parts))
faults_step names (e.MultipleConcatenation s count parts) = or_else (or_else (constant_faults count) (counted s (natural (constant_integer count))) ++ all_faults parts) (sized s (natural (constant_integer count) * total_width parts))
faults_step names (e.SystemFunctionCall n arguments) = call_faults (function_of n.name) n.span arguments

-- Features that are only supported in constants.

abbrev pub all_features : List Sense → List Fault
all_features [] = []
all_features (a ∷ more) = a.features ++ all_features more

abbrev pub index_features : Span → Option Decl → Sense → List Fault
index_features span decl i = if decl_low decl == 0 || is_empty i.signals then [] else fault IndexedBase span ∷ []

-- an operator that is only supported in constants
abbrev pub is_division : BinaryOperator → Bool
is_division Power = true
is_division Divide = true
is_division Modulus = true
is_division op = false

abbrev pub binary_features : Span → BinaryOperator → Sense → Sense → List Fault
binary_features span op i j = if is_division op && not (is_empty (i.signals ++ j.signals)) then fault DivideOrPower span ∷ [] else []

abbrev pub features_step : Names → Expr-F Sense → List Fault
features_step names (e.Number n) = []
features_step names (e.Name n) = []
features_step names (e.BitSelect n s i) = index_features s (names n.name) i ++ i.features
features_step names (e.PartSelect n s msb lsb) = []
features_step names (e.IndexedPartSelect n s base width) = index_features s (names n.name) base ++ base.features
features_step names (e.Parenthesized s i) = i.features
features_step names (e.Unary s op i) = i.features
features_step names (e.Binary s op i j) = binary_features s op i j ++ (i.features ++ j.features)
features_step names (e.Conditional s c i j) = c.features ++ (i.features ++ j.features)
features_step names (e.Concatenation s parts) = all_features parts
features_step names (e.MultipleConcatenation s count parts) = all_features parts
features_step names (e.SystemFunctionCall n arguments) = all_features arguments

-- Divisions by 0, at the width and sign of their evaluation.

abbrev pub all_zeros : List Sense → List Span
all_zeros [] = []
all_zeros (a ∷ more) = a.zeros a.shape ++ all_zeros more

abbrev pub own_zeros : Sense → List Span
own_zeros a = a.zeros a.shape

abbrev pub binary_zeros : Span → BinaryOperator → Sense → Sense → Shape → List Span
binary_zeros span op i j c =
    let s = left_context (sizing op) i.shape j.shape c in
    let t = right_context (sizing op) i.shape j.shape c in
    (if divides_by_zero op (i.value nothing s) t (j.value nothing t) then span ∷ [] else []) ++ (i.zeros s ++ j.zeros t)

abbrev pub call_zeros : Option Function → List Sense → List Span
call_zeros (Some Clog2) arguments = []
call_zeros function arguments = all_zeros arguments

abbrev pub zeros_step : Names → Expr-F Sense → Shape → List Span
zeros_step names (e.Number n) c = []
zeros_step names (e.Name n) c = []
zeros_step names (e.BitSelect n s i) c = own_zeros i
zeros_step names (e.PartSelect n s msb lsb) c = []
zeros_step names (e.IndexedPartSelect n s base width) c = own_zeros base
zeros_step names (e.Parenthesized s i) c = i.zeros c
zeros_step names (e.Unary s op i) c = i.zeros (operand_context op i.shape c)
zeros_step names (e.Binary s op i j) c = binary_zeros s op i j c
zeros_step names (e.Conditional s x i j) c = own_zeros x ++ (i.zeros c ++ j.zeros c)
zeros_step names (e.Concatenation s parts) c = all_zeros parts
zeros_step names (e.MultipleConcatenation s count parts) c = all_zeros parts
zeros_step names (e.SystemFunctionCall n arguments) c = call_zeros (function_of n.name) arguments

-- The whole.

abbrev pub step : Names → Expr-F Sense → Sense
step names x = record {
  shape = shape_step names x;
  value = λ store c. value_step names x store c;
  reads = reads_step names x;
  signals = signals_step names x;
  faults = faults_step names x;
  features = features_step names x;
  zeros = λ c. zeros_step names x c;
}

abbrev pub sense : Names → Expr → Sense
sense names = fold-Expr Sense (step names)

abbrev pub senses : Names → List Expr → List Sense
senses names = map (sense names)

-- An expression with a shape, each with one, and what it takes to evaluate one at a width and sign.

abbrev pub IsWhole : Names → Expr → Type 0
IsWhole names e = (sense names e).faults ≡ []

abbrev pub AreWhole : Names → List Expr → Type 0
AreWhole names es = all_faults (senses names es) ≡ []

-- the context has at least the width of the shape, and is signed only where the shape is
pub record IsContext (s c : Shape) : Type 0 where
  pub wide : s.width ≤ c.width
  pub narrow : c.width ≤ 128
  pub sign : c.is_signed ≡ true → s.is_signed ≡ true

-- For proofs alone.

-- nothing is wrong with the arguments of a call
abbrev pub IsWholeCall : Option Function → List Sense → Type 0
IsWholeCall (Some Signed) (a ∷ []) = a.faults ≡ []
IsWholeCall (Some Unsigned) (a ∷ []) = a.faults ≡ []
IsWholeCall (Some Clog2) (a ∷ []) = a.faults ≡ []
IsWholeCall function arguments = Unit {0}
