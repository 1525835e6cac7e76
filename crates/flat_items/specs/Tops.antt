-- What a caller looks up: the top, and what a name stands for in a scope.
use Rattle.std.specs.Prelude.{◌≡◌, ℕ, List, Option, None, Some, slice_get}
use Rattle.vlog_syntax.specs.declared.module.Module.{Module}
use Rattle.flat_scopes.specs.declared.signal.What.{What}
use Rattle.flat_scopes.specs.Owns.{Own}
use Rattle.flat_items.specs.Flattened.{module_at}
use Rattle.flat_instances.specs.Places.{Place}

-- the first module of this name
abbrev pub IsTop : List Module → List ℕ → Module → Type 0
IsTop modules name m = (number : ℕ) × (module_at modules name ≡ Some number) × (slice_get modules number ≡ Some m)

-- the names that a scope declares itself, where there is the scope
abbrev pub own_in : Option Place → Own
own_in None = λ name. None
own_in (Some p) = p.own

abbrev pub own_at : List Place → (number : ℕ) → List ℕ → Option What
own_at places k name = own_in (slice_get places k) name
