-- When two answers of items are one.
use Rattle.std.specs.Prelude.{◌≡◌}
use Rattle.elab_items.specs.declared.error.BuildError.{BuildError}
use Rattle.elab_items.specs.declared.error.BuildError.TheVariants.{Refused}

-- A limit is reached: that of the number of cells, or that of memory.
abbrev pub IsLimit : BuildError → Type 0
IsLimit (Refused reason) = ⊥
IsLimit other = Unit {0}

-- Of two answers one is a limit, or they have the same reason.
abbrev pub AreOneAnswer : BuildError → BuildError → Type 0
AreOneAnswer (Refused x) (Refused y) = x ≡ y
AreOneAnswer x y = Unit {0}
