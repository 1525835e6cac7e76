-- What it is that bits have a value in every run.
use Rattle.std.specs.Prelude.{◌≡◌, ℕ, Bool, true, false, List, [], ◌∷◌, map, length, Option, Some}
use Rattle.netlist_core.specs.declared.bit.Bit.{Bit}
use Rattle.netlist_core.specs.Numbers.{number}
use Rattle.netlist_core.specs.Runs.{Nets, values}
use Rattle.vlog_syntax.specs.declared.expr.Expr.{Expr}
use Rattle.vlog_meaning.specs.declared.function.Function.{Function}
use Rattle.vlog_meaning.specs.declared.function.Function.TheVariants.{Signed, Unsigned}
use Rattle.vlog_meaning.specs.declared.shapes.Shape.{Shape}
use Rattle.vlog_meaning.specs.Scopes.{Names, Store}
use Rattle.vlog_meaning.specs.Senses.{Sense, sense}
use Rattle.net_builder.specs.Building.{Building, RunsIn, Grows, AllBelow, store}
use Rattle.expr_plans.specs.Made.{Made, made_of, made}

-- Cells were added, and these bits, of this width, have a value in every run.
pub record Adds (old new : Building) (bits : List Bit) (width : ℕ) (value : Nets → ℕ) (added : List Made) : Type 0 where
  pub grows : Grows old new
  pub cells : map made_of grows.more ≡ added
  pub long : length bits ≡ width
  pub below : AllBelow new.nets bits
  pub value_is : (nets : Nets) → RunsIn new nets → number (values nets bits) ≡ value nets

-- the same, where the value is that of the signals
abbrev pub Builds : Building → Building → List Bit → ℕ → (Store → ℕ) → List Made → Type 0
Builds old new bits width value added = Adds old new bits width (λ nets. value (store old nets)) added

-- the same for an expression that is evaluated at a width and sign
abbrev pub Evaluates : Names → Expr → Shape → Building → Building → List Bit → Type 0
Evaluates names x c old new bits = Builds old new bits c.width (λ signals. (sense names x).value signals c) (made names x c)

-- whether a call gives the bits of its argument the sign of its context
abbrev pub takes_sign : Option Function → Bool
takes_sign (Some Signed) = true
takes_sign function = false

-- For proofs alone.

-- bits of a builder as it stands, with their value
pub record Holds (b : Building) (bits : List Bit) (width : ℕ) (value : Store → ℕ) : Type 0 where
  pub long : length bits ≡ width
  pub below : AllBelow b.nets bits
  pub value_is : (nets : Nets) → number (values nets bits) ≡ value (store b nets)

-- a call that takes the bits of its argument
abbrev pub TakesBits : Option Function → List Sense → Type 0
TakesBits (Some Signed) (a ∷ []) = Unit {0}
TakesBits (Some Unsigned) (a ∷ []) = Unit {0}
TakesBits function arguments = ⊥
