-- Why an expression makes no cells.
use Rattle.std.specs.Prelude.{◌<◌, ℕ}
use Rattle.mcy_base.specs.declared.kind.Kind.TheVariants.{Cells}
use Rattle.net_builder.specs.declared.error.ElabError.{ElabError}
use Rattle.net_builder.specs.declared.error.ElabError.TheVariants.{TooMany, Memory}

-- the most cells of a netlist
abbrev pub max_cells : ℕ
max_cells = 65535

-- Why cells are not added, where there would be so many: they are too many, or there is no memory.
abbrev pub IsShort : ℕ → ElabError → Type 0
IsShort cells (TooMany Cells) = max_cells < cells
IsShort cells Memory = Unit {0}
IsShort cells other = ⊥
