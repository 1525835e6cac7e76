-- What is wrong with names that are written: one has to be that of a signal, and in a process it is not that of the clock, which its
-- generator alone writes.
use Rattle.std.specs.Prelude.{ℕ, Bool, false, List, [], ◌∷◌, Option, None, Some, if◌then◌else◌}
use Rattle.std.specs.Str.{bytes_eq}
use Rattle.vlog_syntax.specs.declared.feature.Feature.TheVariants.{Helper}
use Rattle.vlog_syntax.specs.declared.identifier.Identifier.{Identifier}
use Rattle.vlog_meaning.specs.declared.fault.Cause.TheVariants.{Unknown}
use Rattle.vlog_meaning.specs.declared.scope.Decl.{Decl}
use Rattle.vlog_meaning.specs.declared.scope.Decl.TheVariants.{Signal}
use Rattle.vlog_meaning.specs.Scopes.{Names}
use Rattle.vlog_meaning.specs.Senses.{fault}
use Rattle.vlog_effects.specs.LeftSides.{Part}
use Rattle.tb_faults.specs.declared.fault.BenchFault.{BenchFault}
use Rattle.tb_faults.specs.declared.fault.BenchFault.TheVariants.{Wrong, Unsupported}

-- the name is that of the clock, where there is one
abbrev pub is_clock : Option (List ℕ) → List ℕ → Bool
is_clock None name = false
is_clock (Some clock) name = bytes_eq clock name

abbrev pub name_faults : (clock : Option (List ℕ)) → Identifier → Option Decl → List BenchFault
name_faults clock n (Some (Signal width low is_signed number)) = if is_clock clock n.name then Unsupported n.span Helper ∷ [] else []
name_faults clock n other = Wrong (fault Unknown n.span) ∷ []

abbrev pub part_faults : Names → (clock : Option (List ℕ)) → Part → List BenchFault
part_faults names clock p = name_faults clock p.name (names p.name.name)
