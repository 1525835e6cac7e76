-- A builder in which the signals of a flattened design are declared.
use Rattle.std.specs.Prelude.{ℕ, ◌+◌, ◌<◌, List, [], ◌∷◌}
use Rattle.mcy_base.specs.declared.kind.Kind.TheVariants.{NetBits}
use Rattle.flat_scopes.specs.declared.signal.Signal.{Signal}
use Rattle.net_builder.specs.Building.{Building, with_declared}
use Rattle.elab_items.specs.declared.error.BuildError.{BuildError}
use Rattle.elab_items.specs.declared.error.BuildError.TheVariants.{TooMany, Memory}

-- how many bits signals have together
abbrev pub bits_of : List Signal → ℕ
bits_of [] = 0
bits_of (s ∷ more) = s.bits.width + bits_of more

-- the most bits of the signals of a design
abbrev pub max_bits : ℕ
max_bits = 4194304

-- signals are declared, each with its name, its place and its width
abbrev pub declared : List Signal → Building → Building
declared [] b = b
declared (s ∷ more) b = declared more (with_declared b s.name s.span s.bits.width)

-- why signals are not declared that have so many bits
abbrev pub IsFull : ℕ → BuildError → Type 0
IsFull bits (TooMany NetBits) = max_bits < bits
IsFull bits Memory = Unit {0}
IsFull bits other = ⊥
