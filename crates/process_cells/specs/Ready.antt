-- What a builder has before the statements of a process are built in it, besides the signals of the scope.
use Rattle.std.specs.Prelude.{◌≡◌, ℕ, Bool, false, List, [], ◌∷◌, length}
use Rattle.netlist_core.specs.declared.bit.Bit.{Bit}
use Rattle.vlog_effects.specs.Steps.{Steps}
use Rattle.vlog_effects.specs.Latches.{Target}
use Rattle.net_builder.specs.Building.{Building, AllBelow, signal}
use Rattle.elab_proc.specs.Refusals.{step_refusals}
use Rattle.proc_muxes.specs.Builds.{Work}
use Rattle.proc_muxes.specs.Working.{pending_of}

-- for each variable with nonblocking assignments the bits of its signal wait
abbrev pub AllWait : Work → List Target → Type 0
AllWait a [] = Unit {0}
AllWait a (x ∷ more) = (x.is_blocking ≡ false → a.pending x.number ≡ signal a.building x.number) × AllWait a more

-- Nothing is refused in the statements, where some signals have writers elsewhere.
abbrev pub IsAccepted : Bool → Steps → Type 0
IsAccepted is_combinational steps = (written : List Bool) × (step_refusals is_combinational written steps ≡ [])

-- Each signal has a place for bits that wait, which are constants or nets of the builder.
pub record HasPlaces (b : Building) (waiting : List (List Bit)) : Type 0 where
  pub count : length waiting ≡ length b.signals
  pub below : (n : ℕ) → AllBelow b.nets (pending_of waiting n)
