-- What a formula comes to with the values of signals, and with which signals it can be evaluated.
use Rattle.std.specs.Prelude.{◌≡◌, ◌<◌, ◌≤◌, ℕ, ◌+◌, ◌*◌, ◌/◌, ◌%◌, ◌^◌, pos, ◌-ℤ◌, true, ◌==◌, List, length, if◌then◌else◌}
use Rattle.vlog_syntax.specs.declared.expr.Expr.{Expr}
use Rattle.vlog_meaning.specs.declared.shapes.Shape.{Shape}
use Rattle.vlog_meaning.specs.Integers.{integer, extended, window}
use Rattle.vlog_meaning.specs.Operators.{IsSized, ArePaired, sizing, result_width, unary_shape, unary_value, binary_value}
use Rattle.vlog_meaning.specs.Scopes.{Names, Store}
use Rattle.vlog_meaning.specs.Senses.{sense, repeated}
use Rattle.tb_formulas.specs.declared.formula.Formula.{Formula}
use Rattle.tb_formulas.specs.declared.formula.Formula.TheOpen as o
use Rattle.tb_formulas.specs.declared.formula.Formula.TheOpen.{Formula-F}
use Rattle.tb_formulas.specs.declared.formula.Formula.TheFolds.{fold-Formula, rec-Formula}
use Rattle.tb_formulas.specs.Signals.{HasSignals, IsSignal}

abbrev pub signed : ℕ → Shape
signed width = record { width = width; is_signed = true }

abbrev pub value_step : Formula-F (Store → ℕ) → Store → ℕ
value_step (o.Number bits) store = bits
value_step (o.Signal number width) store = store number % 2 ^ width
value_step (o.SignedSignal number from to) store = extended (signed from) to (store number)
value_step (o.Slice number at width) store = store number / 2 ^ at % 2 ^ width
value_step (o.Select signal part index) store = window (integer part.index (index store) -ℤ pos part.low) part.width (store signal)
value_step (o.NumberSelect bits part index) store = window (integer part.index (index store) -ℤ pos part.low) part.width bits
value_step (o.Extended shape to inner) store = extended shape to (inner store)
value_step (o.Unary op shape inner) store = unary_value op shape (inner store)
value_step (o.Binary op left right f g) store = binary_value op left (f store) right (g store)
value_step (o.Conditional x f g) store = if x store == 0 then g store else f store
value_step (o.Joined f width g) store = f store * 2 ^ width + g store
value_step (o.Repeated count width inner) store = repeated count width (inner store)

-- the number that a formula is, from the values of the signals
abbrev pub formula_value : Formula → Store → ℕ
formula_value = fold-Formula (Store → ℕ) value_step

-- It can be evaluated with signals of these widths, and is then a number of so many bits: by what its parts are.
abbrev pub fits_step : List ℕ → (X : Type 0) → (X → Formula) → (X → ℕ → Type 0) → Formula-F X → ℕ → Type 0
fits_step widths X part fits (o.Number bits) n = bits < 2 ^ n
fits_step widths X part fits (o.Signal number width) n = IsSignal widths number width × (width ≤ n)
fits_step widths X part fits (o.SignedSignal number from to) n = IsSignal widths number from × (1 ≤ from) × (from ≤ to) × (to ≤ 128) × (to ≤ n)
fits_step widths X part fits (o.Slice number at width) n = (number < length widths) × (at < 128) × (width ≤ 128) × (width ≤ n)
fits_step widths X part fits (o.Select signal bits index) n = (signal < length widths) × (bits.width ≤ 128) × (bits.width ≤ n) × IsSized bits.index × fits index bits.index.width
fits_step widths X part fits (o.NumberSelect number bits index) n = (bits.width ≤ 128) × (bits.width ≤ n) × IsSized bits.index × fits index bits.index.width
fits_step widths X part fits (o.Extended shape to inner) n = IsSized shape × (shape.width ≤ to) × (to ≤ 128) × (to ≤ n) × fits inner shape.width
fits_step widths X part fits (o.Unary op shape inner) n = IsSized shape × ((unary_shape op shape).width ≤ n) × fits inner shape.width
fits_step widths X part fits (o.Binary op left right f g) n = IsSized left × IsSized right × ArePaired (sizing op) left right × (result_width (sizing op) left ≤ n) × fits f left.width × fits g right.width
fits_step widths X part fits (o.Conditional x f g) n = ((k : ℕ) × fits x k) × fits f n × fits g n
fits_step widths X part fits (o.Joined f width g) n = ((k : ℕ) × (k + width ≤ 128) × (k + width ≤ n) × fits f k) × fits g width
fits_step widths X part fits (o.Repeated count width inner) n = (count * width ≤ 128) × (count * width ≤ n) × fits inner width

abbrev pub FitsIn : List ℕ → Formula → ℕ → Type 0
FitsIn widths = rec-Formula (ℕ → Type 0) (fits_step widths)

-- It is what an expression is worth at a width and sign, whatever the signals are.
abbrev pub IsFormulaOf : Names → Expr → Shape → Formula → Type 0
IsFormulaOf names x c f = (store : Store) → formula_value f store ≡ (sense names x).value store c

-- It can be evaluated with the signals that are declared.
abbrev pub Serves : Names → Formula → ℕ → Type 0
Serves names f n = (widths : List ℕ) → HasSignals names widths → FitsIn widths f n
