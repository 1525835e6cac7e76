-- The scopes of a design after flattening (IEEE 1364-2005, 12.4 and 12.5).
use Rattle.std.specs.Prelude.{ℕ, List, Option}
use Rattle.vlog_meaning.specs.Scopes.{Names, names_of}
use Rattle.flat_scopes.specs.Owns.{Own, what_of}
use Rattle.flat_instances.specs.declared.place.Place.{Place as Kept}

-- What stands before the names of a scope, what names are declared as in it, which it declares itself, the number of the scope
-- around it where it is a generate block, and the numbers of the modules around, from the innermost on.
pub record Place : Type 0 where
  pub prefix : List ℕ
  pub names : Names
  pub own : Own
  pub around : Option ℕ
  pub within : List ℕ

-- a scope that is kept as this
abbrev pub place_of : Kept → Place
place_of p = record { prefix = p.prefix; names = names_of p.scope; own = what_of p.own; around = p.around; within = p.within.items }
