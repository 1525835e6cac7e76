-- What each flattened design has.
use Rattle.std.specs.Prelude.{ℕ, List}
use Rattle.vlog_syntax.specs.declared.module.Module.{Module}
use Rattle.flat_items.specs.Flattened.{Flat}
use Rattle.flat_items.specs.Replacing.{FlattensTop}
use Rattle.flat_scopes.specs.Wires.{ports_of}
use Rattle.flat_laws.specs.Ports.{AreAccepted, HasPorts}
use Rattle.flat_laws.specs.Sound.{IsSound}

-- A design that a list of modules is flattened to is sound.
abbrev pub FlattenedAreSound : Type 0
FlattenedAreSound = (modules : List Module) (top : List ℕ) (flat : Flat) → FlattensTop modules top flat → IsSound flat

-- Where nothing is refused, each name in the head of the top is one of its ports.
abbrev pub TopHasPorts : Type 0
TopHasPorts = (modules : List Module) (top : List ℕ) (flat : Flat) (h : FlattensTop modules top flat) → AreAccepted flat.items → HasPorts flat (ports_of h.design.m.ports)
