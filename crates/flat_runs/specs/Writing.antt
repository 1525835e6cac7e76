-- Which bits of a builder have a writer, from item to item: each has one at most.
use Rattle.std.specs.Prelude.{◌≡◌, ◌⊎◌, ℕ, ◌<◌, ◌≤◌, List, length}
use Rattle.std.specs.List.{Contains}
use Rattle.netlist_core.specs.declared.bit.Bit.{Bit}
use Rattle.netlist_core.specs.declared.port.Register.{Register}
use Rattle.netlist_core.specs.Runs.{q_bits}
use Rattle.netlist_core.specs.Drivers.{times_at}
use Rattle.net_builder.specs.Building.{Building, signal}
use Rattle.net_builder.specs.Written.{IsJoined, IsStored}
use Rattle.flat_runs.specs.Meanings.{Meaning, Writes, WritesOnce}
use Rattle.flat_runs.specs.Adding.{IsBit, IsWritten}

-- Joints name bits of signals, each once; registers are those of signals, and no net is a bit of two; no net has a joint and
-- a register, and none of these is a bit of an input of the design.
pub record HasOneWriter (b : Building) (inputs : List ℕ) : Type 0 where
  pub joined : (n : ℕ) → IsJoined b n → (k : ℕ) × (i : ℕ) × IsBit b k i n
  pub once : (n : ℕ) (x y : Bit) → Contains b.joints (record { net = n; bit = x }) → Contains b.joints (record { net = n; bit = y }) → x ≡ y
  pub stored : (r : Register) → Contains b.registers r → (k : ℕ) × (r.q ≡ signal b k)
  pub apart : (n : ℕ) → times_at n (q_bits b.registers) ≤ 1
  pub single : (n : ℕ) → IsJoined b n → ¬ IsStored b n
  pub no_input : (n k i : ℕ) → IsJoined b n ⊎ IsStored b n → IsBit b k i n → ¬ Contains inputs k

-- None of the bits of an item is written before, none is one of an input, and it names each once.
pub record IsNew (b : Building) (inputs : List ℕ) (m : Meaning) : Type 0 where
  pub unwritten : (k i : ℕ) → i < length (signal b k) → Writes m k i → ¬ IsWritten b k i
  pub no_input : (k i : ℕ) → i < length (signal b k) → Writes m k i → ¬ Contains inputs k
  pub once : WritesOnce m
