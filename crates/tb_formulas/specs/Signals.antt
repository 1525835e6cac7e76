-- Signals by their numbers, with their widths.
use Rattle.std.specs.Prelude.{◌≡◌, ◌<◌, ◌≤◌, ℕ, List, length, slice_index, Option, None, Some}
use Rattle.vlog_meaning.specs.declared.scope.Decl.{Decl}
use Rattle.vlog_meaning.specs.declared.scope.Decl.TheVariants.{Signal, Constant}
use Rattle.vlog_meaning.specs.Scopes.{Names}

-- signals of these widths are those that are declared
abbrev pub HasSignal : List ℕ → Option Decl → Type 0
HasSignal widths (Some (Signal width low is_signed number)) = (number < length widths) × (slice_index widths number ≡ width)
HasSignal widths (Some (Constant value low is_signed)) = Unit {0}
HasSignal widths None = Unit {0}

abbrev pub HasSignals : Names → List ℕ → Type 0
HasSignals names widths = (name : List ℕ) → HasSignal widths (names name)

-- there is a signal of this number, with so many bits at most
pub record IsSignal (widths : List ℕ) (number width : ℕ) : Type 0 where
  pub known : number < length widths
  pub narrow : slice_index widths number ≤ width
