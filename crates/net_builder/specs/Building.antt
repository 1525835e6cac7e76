-- A netlist that is being built, and its runs.
use Rattle.std.specs.Prelude.{◌≡◌, ℕ, zero, suc, ◌+◌, ◌<◌, Bool, List, [], ◌∷◌, ◌++◌, slice_get, slice_set, slice_index_or, Option, Some, None, length, map}
use Rattle.mcy_base.specs.declared.span.Span.{Span}
use Rattle.mcy_base.specs.declared.word.Word.{Word}
use Rattle.netlist_core.specs.declared.bit.Bit.{Bit}
use Rattle.netlist_core.specs.declared.bit.Bit.TheVariants.{Net}
use Rattle.netlist_core.specs.declared.cell.Cell.{Cell}
use Rattle.netlist_core.specs.declared.cell.CellKind.{CellKind}
use Rattle.netlist_core.specs.declared.port.Register.{Register}
use Rattle.netlist_core.specs.Numbers.{number}
pub use Rattle.netlist_core.specs.Numbers.{numbers_of}
use Rattle.netlist_core.specs.Runs.{Nets, bit_value, values, plain, input_ports, output_port, Computes}
use Rattle.netlist_core.specs.Shapes.{HasShape}
use Rattle.netlist_core.specs.Checked.{AllWide}
pub use Rattle.netlist_core.specs.Below.{AllBelow, PortsBelow}
use Rattle.net_builder.specs.declared.builder.Joint.{Joint}
use Rattle.net_builder.specs.declared.builder.Signal.{Signal as Declared}
use Rattle.vlog_meaning.specs.declared.scope.Decl.{Decl}
use Rattle.vlog_meaning.specs.declared.scope.Decl.TheVariants.{Signal, Constant}
use Rattle.vlog_meaning.specs.Scopes.{Names, Store}

-- The cells so far, the nets that have a bit's value, the registers, the signals as they were declared, the bits that
-- each signal has now, the number that each signal starts with, and a number above all nets.
pub record Building : Type 0 where
  pub cells : List Cell
  pub joints : List Joint
  pub registers : List Register
  pub declared : List Declared
  pub signals : List (List Bit)
  pub starts : List ℕ
  pub nets : ℕ

-- a builder with nothing in it
abbrev pub empty : Building
empty = record { cells = []; joints = []; registers = []; declared = []; signals = []; starts = []; nets = 0 }

-- new nets, from this number on
abbrev pub fresh_bits : ℕ → ℕ → List Bit
fresh_bits from zero = []
fresh_bits from (suc width) = Net from ∷ fresh_bits (from + 1) width

-- What each call adds.

-- the next cell, with new nets as its Y
abbrev pub with_cell : Building → CellKind → Bool → List (List Bit) → ℕ → Span → Building
with_cell b kind is_signed inputs width span = record b { cells = b.cells ++ record { kind = kind; is_signed = is_signed; ports = inputs ++ fresh_bits b.nets width ∷ []; span = span } ∷ []; nets = b.nets + width }

-- the next signal, with new nets as its bits, which starts with 0
abbrev pub with_declared : Building → List ℕ → Span → ℕ → Building
with_declared b name span width = record b { declared = b.declared ++ record { name = name; span = span; first = b.nets; width = width } ∷ []; signals = b.signals ++ fresh_bits b.nets width ∷ []; starts = b.starts ++ 0 ∷ []; nets = b.nets + width }

-- other bits of a signal
abbrev pub with_signal : ℕ → List Bit → Building → Building
with_signal k bits b = record b { signals = slice_set b.signals k bits }

-- another start value of a signal
abbrev pub with_start : ℕ → ℕ → Building → Building
with_start k start b = record b { starts = slice_set b.starts k start }

abbrev pub with_joint : ℕ → Bit → Building → Building
with_joint net bit b = record b { joints = b.joints ++ record { net = net; bit = bit } ∷ [] }

abbrev pub with_register : Register → Building → Building
with_register r b = record b { registers = b.registers ++ r ∷ [] }

-- the bits of signals together
abbrev pub own_bits : List Declared → ℕ
own_bits [] = 0
own_bits (s ∷ more) = s.width + own_bits more

-- the bits that a signal has now
abbrev pub signal : Building → ℕ → List Bit
signal b k = slice_index_or b.signals k []

-- the number that a signal starts with
abbrev pub start_bits : Building → ℕ → ℕ
start_bits b k = slice_index_or b.starts k 0

-- a signal as it was declared
abbrev pub declared_at : Building → ℕ → Declared
declared_at b k = slice_index_or b.declared k (record { name = []; span = record { file = 0; line = 0; col = 0 }; first = 0; width = 0 })

-- A run of a builder: each cell computes, and each joined net has its bit's value.
pub record RunsIn (b : Building) (nets : Nets) : Type 0 where
  pub computed : (c : ℕ) (cell : Cell) → slice_get b.cells c ≡ Some cell → Computes (plain nets) nets c cell
  pub joined : (k : ℕ) (joint : Joint) → slice_get b.joints k ≡ Some joint → nets joint.net ≡ bit_value nets joint.bit

-- Cells that are added one after the other: each has the ports of its kind, reads nets that stand there before, and
-- drives the next nets. So every run of what was there before goes on to exactly one with them.
abbrev pub AreAdded : ℕ → List Cell → ℕ → Type 0
AreAdded from [] to = from ≡ to
AreAdded from (cell ∷ more) to = HasShape cell × AllWide cell.ports × PortsBelow from (input_ports cell.ports) × (output_port cell.ports ≡ fresh_bits from (length (output_port cell.ports))) × AreAdded (from + length (output_port cell.ports)) more to

-- cells were added, and nothing else changed but the count of nets
pub record Grows (old new : Building) : Type 0 where
  pub more : List Cell
  pub is : new ≡ record old { cells = old.cells ++ more; nets = new.nets }
  pub added : AreAdded old.nets more new.nets

-- the value of each signal in a run
abbrev pub store : Building → Nets → Store
store b nets k = number (values nets (signal b k))

-- a declared signal is one that the builder has, with its width, and its bits stand there
abbrev pub IsSignal : Building → Option Decl → Type 0
IsSignal b (Some (Signal width low is_signed number)) = (number < length b.signals) × (length (signal b number) ≡ width) × AllBelow b.nets (signal b number)
IsSignal b (Some (Constant value low is_signed)) = Unit {0}
IsSignal b None = Unit {0}

abbrev pub HasSignals : Names → Building → Type 0
HasSignals names b = (name : List ℕ) → IsSignal b (names name)

-- For proofs alone.

abbrev pub word_widths : List Word → List ℕ
word_widths words = map (λ w. w.width) words
