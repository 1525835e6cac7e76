-- The netlist of what was built: joined nets are replaced by what they lead to.
use Rattle.std.specs.Prelude.{◌≡◌, ◌⊎◌, ◌↔◌, ℕ, ◌≤◌, Bool, List, [], ◌∷◌, map, length}
use Rattle.std.specs.List.{Contains}
use Rattle.std.specs.Int.{bit_at}
use Rattle.netlist_core.specs.declared.bit.Bit.{Bit}
use Rattle.netlist_core.specs.declared.bit.Bit.TheVariants.{Fixed, Net}
use Rattle.netlist_core.specs.declared.port.Port.{Port}
use Rattle.netlist_core.specs.declared.port.Register.{Register}
use Rattle.netlist_core.specs.declared.raw.RawNetlist.{RawNetlist}
use Rattle.netlist_core.specs.Numbers.{digit}
use Rattle.netlist_core.specs.Runs.{bits_at}
use Rattle.net_builder.specs.Building.{Building, signal, start_bits}
pub use Rattle.net_builder.specs.Finished.{led, all_led, led_cell}
use Rattle.flat_runs.specs.Designs.{Design}
use Rattle.net_builder.specs.Written.{IsJoined, IsStored}
use Rattle.flat_runs.specs.Adding.{IsBit, IsWritten, HasOwnNets}

-- A builder with the design's signals alone.
pub record Begins (b : Building) (design : Design) : Type 0 where
  pub cells : b.cells ≡ []
  pub joints : b.joints ≡ []
  pub registers : b.registers ≡ []
  pub own : HasOwnNets b
  pub widths : (k : ℕ) → length (signal b k) ≡ design.width k
  pub some : (k : ℕ) → Contains design.registers k → 1 ≤ design.width k

-- Where a net leads: to itself where it is no bit of a signal, or one of an input or a register; to the start value's bit
-- where nothing writes it; and else to where that leads which it is joined to.
pub data LeadsTo (b : Building) (design : Design) : ℕ → Bit → Type 0 where
  no_signal : (n : ℕ) → ((k i : ℕ) → ¬ IsBit b k i n) → LeadsTo b design n (Net n)
  of_input : (n k i : ℕ) → IsBit b k i n → Contains design.inputs k → LeadsTo b design n (Net n)
  of_register : (n : ℕ) → IsStored b n → LeadsTo b design n (Net n)
  unwritten : (n k i : ℕ) (v : Bool) → IsBit b k i n → ¬ Contains design.inputs k → ¬ IsWritten b k i → bit_at (design.start k) i ≡ digit v → LeadsTo b design n (Fixed v)
  to_constant : (n : ℕ) (v : Bool) → Contains b.joints (record { net = n; bit = Fixed v }) → LeadsTo b design n (Fixed v)
  to_net : (n m : ℕ) (end : Bit) → Contains b.joints (record { net = n; bit = Net m }) → LeadsTo b design m end → LeadsTo b design n end

-- the first of these registers with this Q
abbrev pub IsFirstWith : List Bit → List Register → Register → Type 0
IsFirstWith q [] r = ⊥
IsFirstWith q (s ∷ more) r = ((s.q ≡ q) × (s ≡ r)) ⊎ (¬ (s.q ≡ q) × IsFirstWith q more r)

-- A register of the netlist is the builder's of that signal, with its D led, and begins with the signal's start value.
pub record IsRegister (b : Building) (design : Design) (to : ℕ → Bit) (k : ℕ) (r : Register) : Type 0 where
  pub built : Register
  pub first : IsFirstWith (signal b k) b.registers built
  pub q : r.q ≡ signal b k
  pub d : r.d ≡ all_led to built.d
  pub start : r.start.bits ≡ design.start k

abbrev pub AreRegisters : Building → Design → (ℕ → Bit) → List ℕ → List Register → Type 0
AreRegisters b design to [] [] = Unit {0}
AreRegisters b design to (k ∷ ks) (r ∷ rs) = IsRegister b design to k r × AreRegisters b design to ks rs
AreRegisters b design to ks rs = ⊥

-- Each net leads to one bit, `to`, and the netlist has that bit in the place of the net.
pub record Finishes (b : Building) (design : Design) (netlist : RawNetlist) : Type 0 where
  pub to : ℕ → Bit
  pub leads : (n : ℕ) (end : Bit) → LeadsTo b design n end ↔ (to n ≡ end)
  pub cells : netlist.cells ≡ map (led_cell to) b.cells
  pub inputs : bits_at netlist.inputs ≡ map (signal b) design.inputs
  pub outputs : bits_at netlist.outputs ≡ map (λ k. all_led to (signal b k)) design.outputs
  pub registers : AreRegisters b design to design.registers netlist.registers

-- A builder that is ready to be finished.

-- A register is made of the first of these whose Q is the signal, and begins with the signal's start value.
pub record IsPut (b : Building) (design : Design) (registers : List Register) (k : ℕ) (r : Register) : Type 0 where
  pub made : Register
  pub first : IsFirstWith (signal b k) registers made
  pub q : r.q ≡ signal b k
  pub d : r.d ≡ made.d
  pub start : r.start.bits ≡ design.start k

-- registers are put in the order of these signals
abbrev pub ArePut : Building → Design → List Register → List ℕ → List Register → Type 0
ArePut b design registers [] [] = Unit {0}
ArePut b design registers (k ∷ ks) (r ∷ rs) = IsPut b design registers k r × ArePut b design registers ks rs
ArePut b design registers ks rs = ⊥

-- The ports and start values are the design's. Joints name bits of signals, each once, and none of an input or a
-- register, so each bit has one writer at most.
pub record IsWhole (b : Building) (design : Design) (ins outs : List Port) : Type 0 where
  pub own : HasOwnNets b
  pub started : length b.starts ≡ length b.signals
  pub inputs : bits_at ins ≡ map (signal b) design.inputs
  pub outputs : bits_at outs ≡ map (signal b) design.outputs
  pub starts : (k : ℕ) → start_bits b k ≡ design.start k
  pub joined : (n : ℕ) → IsJoined b n → (k : ℕ) × (i : ℕ) × IsBit b k i n
  pub once : (n : ℕ) (x y : Bit) → Contains b.joints (record { net = n; bit = x }) → Contains b.joints (record { net = n; bit = y }) → x ≡ y
  pub single : (n : ℕ) → IsJoined b n → ¬ IsStored b n
  pub apart : (n k i : ℕ) → IsJoined b n → IsBit b k i n → ¬ Contains design.inputs k
