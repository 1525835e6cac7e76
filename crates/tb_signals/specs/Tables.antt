-- The signals of a testbench by their numbers.
use Rattle.std.specs.Prelude.{ℕ, Bool, List, Option, Some}
use Rattle.vlog_meaning.specs.declared.scope.Decl.{Decl}
use Rattle.vlog_meaning.specs.declared.scope.Decl.TheVariants.{Signal}

-- What names are declared as, and the width of each signal and its value at the start, by its number.
pub record Table : Type 0 where
  pub scope : List (List ℕ × Decl)
  pub widths : List ℕ
  pub values : List ℕ

-- a hidden signal counts its bits from 0
abbrev pub hidden_decl : (width : ℕ) → Bool → (number : ℕ) → Option Decl
hidden_decl width is_signed number = Some (Signal width 0 is_signed number)
