-- The netlist of a design, where the registers stand in the order in which their signals are declared.
use Rattle.std.specs.Prelude.{◌≡◌, ◌↔◌, ℕ, ◌<◌, ◌≤◌, Bool, false, List, [], ◌∷◌, map, length, slice_get, Option, None, Some, if◌then◌else◌}
use Rattle.std.specs.List.{Contains}
use Rattle.netlist_core.specs.declared.bit.Bit.{Bit}
use Rattle.netlist_core.specs.declared.bit.Bit.TheVariants.{Fixed, Net}
use Rattle.netlist_core.specs.declared.port.Port.{Port}
use Rattle.netlist_core.specs.declared.port.Register.{Register}
use Rattle.netlist_core.specs.declared.raw.RawNetlist.{RawNetlist}
use Rattle.net_builder.specs.Building.{Building, signal, start_bits, declared_at}
use Rattle.net_builder.specs.Written.{is_stored}
use Rattle.net_builder.specs.Finished.{LeadsTo, step_of, all_led, led_cell, led_port}
use Rattle.flat_runs.specs.Meanings.{NoneTwice}
use Rattle.flat_runs.specs.Designs.{Design}
use Rattle.flat_runs.specs.Adding.{HasOwnNets}
use Rattle.flat_runs.specs.Parts.{StandsBelow}
use Rattle.flat_runs.specs.Writing.{HasOneWriter}
use Rattle.flat_runs.specs.Finishing.{IsFirstWith}
use Rattle.elab_finish.specs.declared.left.Left.{Left}
use Rattle.elab_finish.specs.Loops.{AreCovered}

-- Registers.

abbrev pub is_stored_bit : List Register → Option Bit → Bool
is_stored_bit registers None = false
is_stored_bit registers (Some (Fixed v)) = false
is_stored_bit registers (Some (Net n)) = is_stored registers n

-- the signal has a register, which its lowest bit tells
abbrev pub is_register : Building → ℕ → Bool
is_register b k = is_stored_bit b.registers (slice_get (signal b k) 0)

-- those of the signals that have one, in their order
abbrev pub registers_in : Building → List ℕ → List ℕ
registers_in b [] = []
registers_in b (k ∷ more) = if is_register b k then k ∷ registers_in b more else registers_in b more

-- What is asked of a builder in which all items are built, of the numbers of the ports and of all signals in the order in
-- which they are declared, and of the left sides.

abbrev pub AreKnown : Building → List ℕ → Type 0
AreKnown b [] = Unit {0}
AreKnown b (k ∷ more) = (k < length b.signals) × AreKnown b more

pub record CanFinish (b : Building) (ins outs declared : List ℕ) (lefts : List Left) : Type 0 where
  pub own : HasOwnNets b
  pub stands : StandsBelow b
  pub writers : HasOneWriter b ins
  pub started : length b.starts ≡ length b.signals
  pub some : (k : ℕ) → k < length b.signals → 1 ≤ length (signal b k)
  pub narrow : (k : ℕ) → length (signal b k) ≤ 128
  pub entered : AreKnown b ins
  pub entered_once : NoneTwice ins
  pub shown : AreKnown b outs
  pub declared_known : AreKnown b declared
  pub declared_once : NoneTwice declared
  pub registered : (r : Register) → Contains b.registers r → (k : ℕ) × Contains declared k × (r.q ≡ signal b k)
  pub covered : AreCovered b lefts

-- the design that the builder is one of: its ports, its registers in order, and its start values
pub record IsDesignOf (b : Building) (ins outs declared : List ℕ) (design : Design) : Type 0 where
  pub inputs : design.inputs ≡ ins
  pub outputs : design.outputs ≡ outs
  pub registers : design.registers ≡ registers_in b declared
  pub starts : (k : ℕ) → start_bits b k ≡ design.start k

-- The netlist.

-- the port of a signal
abbrev pub port_of : Building → ℕ → Port
port_of b k = record { name = (declared_at b k).name; bits = signal b k }

-- The register of a signal: it has the signal's name, place and start value, and takes what the builder's takes.
pub record IsRegisterOf (b : Building) (to : ℕ → Bit) (k : ℕ) (r : Register) : Type 0 where
  pub built : Register
  pub first : IsFirstWith (signal b k) b.registers built
  pub name : r.name ≡ (declared_at b k).name
  pub span : r.span ≡ (declared_at b k).span
  pub d : r.d ≡ all_led to built.d
  pub q : r.q ≡ signal b k
  pub start : r.start.bits ≡ start_bits b k
  pub width : r.start.width ≡ length (signal b k)

abbrev pub AreRegistersOf : Building → (ℕ → Bit) → List ℕ → List Register → Type 0
AreRegistersOf b to [] [] = Unit {0}
AreRegistersOf b to (k ∷ ks) (r ∷ rs) = IsRegisterOf b to k r × AreRegistersOf b to ks rs
AreRegistersOf b to ks rs = ⊥

-- Each net leads to one bit, `to`, which stands in its place where it is read. Cells are in the builder's order.
pub record IsEnding (b : Building) (name : List ℕ) (clocked : Option (List ℕ)) (ins outs declared : List ℕ) (netlist : RawNetlist) : Type 0 where
  pub top : netlist.top ≡ name
  pub clock : netlist.clock ≡ clocked
  pub to : ℕ → Bit
  pub leads : (n : ℕ) (end : Bit) → LeadsTo (step_of b (map (signal b) ins)) n end ↔ (to n ≡ end)
  pub cells : netlist.cells ≡ map (led_cell to) b.cells
  pub inputs : netlist.inputs ≡ map (port_of b) ins
  pub outputs : netlist.outputs ≡ map (led_port to) (map (port_of b) outs)
  pub registers : AreRegistersOf b to (registers_in b declared) netlist.registers
