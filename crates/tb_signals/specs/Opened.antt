-- The module of a testbench by itself.
use Rattle.std.specs.Prelude.{ℕ, List, []}
use Rattle.vlog_syntax.specs.declared.module.Module.{Module}
use Rattle.flat_scopes.specs.Openings.{Opened, unopened}
use Rattle.flat_scopes.specs.Opens.{OpensModule}
use Rattle.flat_instances.specs.Instances.{no_names}
use Rattle.flat_items.specs.Replacing.{top_head}
use Rattle.flat_laws.specs.Sound.{AreSized, NamesSignal}

-- a module is opened by itself: no instance gives its parameters values
abbrev pub IsOpened : Module → Opened → Type 0
IsOpened m o = OpensModule (top_head m) no_names m (unopened no_names []) o

-- its signals have from 1 to 128 bits, and its names are those of signals with their bits
pub record Stands (o : Opened) : Type 0 where
  pub sized : AreSized o.signals
  pub names : (name : List ℕ) → NamesSignal o.signals (o.names name)

abbrev pub OpenedStand : Type 0
OpenedStand = (m : Module) (o : Opened) → IsOpened m o → Stands o
