-- The values with which signals start: the constant of its declaration, or else 0.
use Rattle.std.specs.Prelude.{ℕ, ◌%◌, ◌^◌, List, [], ◌∷◌, unwrap_or, slice_index, slice_set}
use Rattle.vlog_syntax.specs.declared.expr.Expr.{Expr}
use Rattle.vlog_meaning.specs.Scopes.{Names}
use Rattle.vlog_effects.specs.Expressions.{constant_of}
use Rattle.tb_items.specs.declared.item.BenchItem.{BenchItem}
use Rattle.tb_items.specs.declared.item.BenchItem.TheVariants as b

-- a constant as a value of so many bits
abbrev pub start_value : Names → (width : ℕ) → Expr → ℕ
start_value names width x = unwrap_or (constant_of names width x) 0 % 2 ^ width

abbrev pub item_start : Names → (widths values : List ℕ) → BenchItem → List ℕ
item_start names widths values (b.Starts k x) = slice_set values k (start_value names (slice_index widths k) x)
item_start names widths values other = values

-- the values after the items
abbrev pub started : Names → (widths values : List ℕ) → List BenchItem → List ℕ
started names widths values [] = values
started names widths values (item ∷ more) = started names widths (item_start names widths values item) more
