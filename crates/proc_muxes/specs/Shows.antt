-- What the bits that a builder has say of the effect of statements.
use Rattle.std.specs.Prelude.{◌≡◌, ◌<◌, ℕ, Bool, true, false, List, [], ◌∷◌, ◌++◌, length}
use Rattle.netlist_core.specs.declared.bit.Bit.{Bit}
use Rattle.netlist_core.specs.declared.cell.Cell.{Cell}
use Rattle.netlist_core.specs.Runs.{Nets, values}
use Rattle.vlog_effects.specs.Effects.{Values, State, settled, updated_all}
use Rattle.vlog_effects.specs.Latches.{Target}
use Rattle.net_builder.specs.Building.{Building, AreAdded, AllBelow, signal}
use Rattle.proc_muxes.specs.Builds.{Work, held, stands}

-- `kinds` tells which variables have blocking assignments. What the builder has are the values of a state: those that
-- later statements see, and for a variable with nonblocking assignments those that it will have at the end.
pub record Shows (nets : Nets) (kinds : ℕ → Bool) (a : Work) (s : State) : Type 0 where
  pub now : (n : ℕ) → values nets (signal a.building n) ≡ s.now n
  pub later : (n : ℕ) → kinds n ≡ false → values nets (a.pending n) ≡ settled s n
  pub quiet : (n : ℕ) → kinds n ≡ true → (store : Values) → updated_all s.scheduled store n ≡ store n

-- each variable has assignments of its kind alone
abbrev pub Conforms : (ℕ → Bool) → List Target → Type 0
Conforms kinds [] = Unit {0}
Conforms kinds (x ∷ more) = (x.is_blocking ≡ kinds x.number) × Conforms kinds more

-- targets are signals of the builder
abbrev pub Known : ℕ → List Target → Type 0
Known count [] = Unit {0}
Known count (x ∷ more) = (x.number < count) × Known count more

-- Cells were added one after the other, each of which reads nets that stand there before, and nothing else changed but the
-- bits that signals have.
pub record Adds (old new : Building) : Type 0 where
  pub more : List Cell
  pub cells : new.cells ≡ old.cells ++ more
  pub joints : new.joints ≡ old.joints
  pub registers : new.registers ≡ old.registers
  pub starts : new.starts ≡ old.starts
  pub declared : new.declared ≡ old.declared
  pub count : length new.signals ≡ length old.signals
  pub added : AreAdded old.nets more new.nets

-- what variables have are nets that stand there
pub record StandsBelow (a : Work) : Type 0 where
  pub seen : (n : ℕ) → AllBelow a.building.nets (signal a.building n)
  pub later : (n : ℕ) → AllBelow a.building.nets (a.pending n)

-- What building keeps: variables keep their widths, the bits that stand there stand there, and these targets alone get
-- other bits.
pub record Keeps (ts : List Target) (a b : Work) : Type 0 where
  pub adds : Adds a.building b.building
  pub seen_wide : (n : ℕ) → length (signal b.building n) ≡ length (signal a.building n)
  pub later_wide : (n : ℕ) → length (b.pending n) ≡ length (a.pending n)
  pub below : StandsBelow a → StandsBelow b
  pub known : Known (length a.building.signals) ts
  pub seen_kept : (n : ℕ) → stands true ts n ≡ false → signal b.building n ≡ signal a.building n
  pub later_kept : (n : ℕ) → stands false ts n ≡ false → b.pending n ≡ a.pending n

-- the bits that a variable has at the end
abbrev pub last_held : (ℕ → Bool) → Work → ℕ → List Bit
last_held kinds a n = held a (kinds n) n
