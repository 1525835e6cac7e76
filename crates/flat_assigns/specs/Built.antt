-- What the calls that build assignments and connections leave.
use Rattle.std.specs.Prelude.{◌≡◌, ◌<◌, ℕ, List, ◌++◌, map, Option}
use Rattle.mcy_base.specs.declared.kind.Kind.TheVariants.{Cells}
use Rattle.netlist_core.specs.declared.bit.Bit.{Bit}
use Rattle.netlist_core.specs.declared.cell.Cell.{Cell}
use Rattle.net_builder.specs.declared.builder.Joint.{Joint}
use Rattle.net_builder.specs.Building.{Building}
use Rattle.expr_plans.specs.Made.{Made, made_of}
use Rattle.net_builder.specs.Refusals.{max_cells}
use Rattle.flat_runs.specs.Meanings.{Place, Meaning}
use Rattle.flat_runs.specs.Adding.{HasOwnNets, AddsItem}
use Rattle.flat_runs.specs.Parts.{StandsBelow, AreJoints, with_joints}
use Rattle.flat_assigns.specs.declared.refusal.AssignError.{AssignError}
use Rattle.flat_assigns.specs.declared.refusal.AssignError.TheVariants.{TooMany, Memory}

-- What holds of a builder from item to item: signals have nets of their own, and all stands below the next net.
pub record IsReady (b : Building) : Type 0 where
  pub own : HasOwnNets b
  pub stands : StandsBelow b

-- The item is built, and just these cells are added at the end.
pub record IsBuilt (old new : Building) (m : Meaning) (added : List Made) : Type 0 where
  pub adds : AddsItem old new m
  pub ready : IsReady new
  pub more : List Cell
  pub cells : new.cells ≡ old.cells ++ more
  pub made : map made_of more ≡ added
  pub registers : new.registers ≡ old.registers
  pub declared : new.declared ≡ old.declared
  pub starts : new.starts ≡ old.starts

-- why there is no room: there would be so many cells, or there is no memory
abbrev pub IsLimit : ℕ → AssignError → Type 0
IsLimit cells (TooMany Cells) = max_cells < cells
IsLimit cells Memory = Unit {0}
IsLimit cells other = ⊥

-- For proofs alone.

-- The places were joined to bits, from the lowest on.
abbrev pub IsJoinedTo : (old new : Building) → List (Option Place) → List Bit → Type 0
IsJoinedTo old new left bits = (joints : List Joint) × AreJoints old left bits joints × (new ≡ with_joints old joints)
