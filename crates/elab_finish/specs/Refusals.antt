-- Why a builder in which all items are built has no netlist that can be run.
use Rattle.std.specs.Prelude.{◌≡◌, ◌⊎◌, ℕ, ◌<◌, ◌≤◌, List, Option, None, Some, slice_get}
use Rattle.mcy_base.specs.declared.kind.Kind.TheVariants.{NetBits, RegisterBits}
use Rattle.mcy_base.specs.declared.span.Span.{Span}
use Rattle.netlist_core.specs.declared.cell.Cell.{Cell}
use Rattle.netlist_core.specs.declared.raw.RawNetlist.{RawNetlist}
use Rattle.netlist_core.specs.Runs.{q_bits}
use Rattle.netlist_core.specs.Orders.{Reads, IsOnLoop}
use Rattle.netlist_core.specs.Checked.{IsFirst, all_bits, net_bits}
use Rattle.net_builder.specs.Building.{Building}
use Rattle.elab_finish.specs.declared.error.DesignError.{DesignError}
use Rattle.elab_finish.specs.declared.error.DesignError.TheVariants.{Loop, TooMany, Twice, Memory}
use Rattle.elab_finish.specs.declared.left.Left.{Left}
use Rattle.elab_finish.specs.Loops.{IsFirstLooped}
use Rattle.elab_finish.specs.Endings.{IsEnding}
use Rattle.elab_finish.specs.Names.{AreNamedApart, IsAgainAt}

-- the most bits of inputs, outputs, registers and cells' Y together, and of registers
abbrev pub max_net_bits : ℕ
max_net_bits = 1048576

abbrev pub max_register_bits : ℕ
max_register_bits = 4096

abbrev pub register_bits : RawNetlist → ℕ
register_bits netlist = all_bits (q_bits netlist.registers)

pub record IsWithin (netlist : RawNetlist) : Type 0 where
  pub nets : net_bits netlist ≤ max_net_bits
  pub registers : register_bits netlist ≤ max_register_bits

-- the place of a cell of the builder
abbrev pub IsAt : Option Cell → Span → Type 0
IsAt None span = ⊥
IsAt (Some cell) span = cell.span ≡ span

-- The least numbered cell that reads itself, directly or through others, stands at the place.
abbrev pub IsLoopAt : Building → RawNetlist → Span → Type 0
IsLoopAt b netlist span = (c : ℕ) × IsFirst (IsOnLoop (Reads netlist)) c × IsAt (slice_get b.cells c) span

-- The design has a netlist, which is refused for this.
abbrev pub IsOver : Building → RawNetlist → DesignError → Type 0
IsOver b netlist (Loop span) = IsWithin netlist × AreNamedApart netlist.registers × IsLoopAt b netlist span
IsOver b netlist (TooMany NetBits) = max_net_bits < net_bits netlist
IsOver b netlist (TooMany RegisterBits) = (net_bits netlist ≤ max_net_bits) × (max_register_bits < register_bits netlist)
IsOver b netlist (TooMany other) = ⊥
IsOver b netlist (Twice span) = IsWithin netlist × IsAgainAt netlist.registers span
IsOver b netlist Memory = Unit {0}

-- The first left side that writes a net on a loop stands at the place.
abbrev pub IsLeftAt : Building → List Left → Span → Type 0
IsLeftAt b lefts span = (left : Left) × IsFirstLooped b lefts left × (left.span ≡ span)

-- Why there is no netlist: nets lead back to themselves; or else the netlist, which there is then, is refused.
abbrev pub IsRefused : Building → List ℕ → Option (List ℕ) → List ℕ → List ℕ → List ℕ → List Left → DesignError → Type 0
IsRefused b top clock ins outs declared lefts (Loop span) = IsLeftAt b lefts span ⊎ ((netlist : RawNetlist) × IsEnding b top clock ins outs declared netlist × IsOver b netlist (Loop span))
IsRefused b top clock ins outs declared lefts Memory = Unit {0}
IsRefused b top clock ins outs declared lefts error = (netlist : RawNetlist) × IsEnding b top clock ins outs declared netlist × IsOver b netlist error
