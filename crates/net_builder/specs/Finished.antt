-- The netlist of what was built: each net is replaced by the bit that it leads to.
use Rattle.std.specs.Prelude.{◌≡◌, ◌↔◌, ℕ, ◌/◌, ◌%◌, Bool, true, false, ◌||◌, List, [], ◌∷◌, map, Option, None, Some, nat_eq, if◌then◌else◌}
use Rattle.netlist_core.specs.declared.bit.Bit.{Bit}
use Rattle.netlist_core.specs.declared.bit.Bit.TheVariants.{Fixed, Net}
use Rattle.netlist_core.specs.declared.cell.Cell.{Cell}
use Rattle.netlist_core.specs.declared.port.Port.{Port}
use Rattle.netlist_core.specs.declared.port.Register.{Register}
use Rattle.netlist_core.specs.declared.raw.RawNetlist.{RawNetlist}
use Rattle.netlist_core.specs.Checked.{IsFirst}
use Rattle.netlist_core.specs.Runs.{bits_at}
use Rattle.net_builder.specs.declared.finishing.FinishError.{FinishError}
use Rattle.net_builder.specs.declared.finishing.FinishError.TheVariants.{Loop, Memory}
use Rattle.net_builder.specs.declared.steps.Step.{Step}
use Rattle.net_builder.specs.declared.steps.Step.TheVariants.{Stays, Constant, On}
use Rattle.net_builder.specs.Building.{Building}
use Rattle.net_builder.specs.Written.{joint_of, has_net, is_stored}

-- One step.

abbrev pub some_has : List (List Bit) → ℕ → Bool
some_has [] n = false
some_has (bits ∷ more) n = has_net bits n || some_has more n

abbrev pub later : Option Bool → Option Bool → Option Bool
later (Some b) o = Some b
later None o = o

-- the start value's bit of a net that is one of these bits, bit 0 first
abbrev pub start_among : List Bit → ℕ → ℕ → Option Bool
start_among [] v n = None
start_among (Fixed b ∷ more) v n = start_among more (v / 2) n
start_among (Net m ∷ more) v n = later (start_among more (v / 2) n) (if nat_eq n m then Some (nat_eq (v % 2) 1) else None)

-- the same of a net that is a bit of a signal; where it is one of several, the last of them counts
abbrev pub start_of : List (List Bit) → List ℕ → ℕ → Option Bool
start_of [] starts n = None
start_of (bits ∷ more) [] n = None
start_of (bits ∷ more) (v ∷ vs) n = later (start_of more vs n) (start_among bits v n)

-- A joined net is its constant, or goes on at its net. One of an input or a register stays, any other that is a bit of a
-- signal is its start value's bit, and what is no signal's stays.
abbrev pub stepped : Option Bit → Bool → Option Bool → Step
stepped (Some (Fixed v)) kept start = Constant v
stepped (Some (Net m)) kept start = On m
stepped None true start = Stays
stepped None false (Some v) = Constant v
stepped None false None = Stays

abbrev pub step_of : Building → List (List Bit) → ℕ → Step
step_of b inputs n = stepped (joint_of b.joints n) (is_stored b.registers n || some_has inputs n) (start_of b.signals b.starts n)

-- Where the steps lead.

-- the net leads to the bit
pub data LeadsTo (next : ℕ → Step) : ℕ → Bit → Type 0 where
  stays : (n : ℕ) → next n ≡ Stays → LeadsTo next n (Net n)
  fixed : (n : ℕ) (v : Bool) → next n ≡ Constant v → LeadsTo next n (Fixed v)
  goes : (n m : ℕ) (end : Bit) → next n ≡ On m → LeadsTo next m end → LeadsTo next n end

-- the net leads to the other, by one step or more
pub data Follows (next : ℕ → Step) : ℕ → ℕ → Type 0 where
  direct : (n m : ℕ) → next n ≡ On m → Follows next n m
  further : (n m k : ℕ) → next n ≡ On m → Follows next m k → Follows next n k

-- the net leads back to itself
abbrev pub IsOnLoop : (ℕ → Step) → ℕ → Type 0
IsOnLoop next n = Follows next n n

-- The netlist.

-- a bit, the bits of a port, and the ports of a cell, where each net is replaced
abbrev pub led : (ℕ → Bit) → Bit → Bit
led to (Fixed b) = Fixed b
led to (Net n) = to n

abbrev pub all_led : (ℕ → Bit) → List Bit → List Bit
all_led to bits = map (led to) bits

abbrev pub led_cell : (ℕ → Bit) → Cell → Cell
led_cell to cell = record cell { ports = map (all_led to) cell.ports }

abbrev pub led_register : (ℕ → Bit) → Register → Register
led_register to r = record r { d = all_led to r.d }

abbrev pub led_port : (ℕ → Bit) → Port → Port
led_port to p = record p { bits = all_led to p.bits }

-- Each net leads to one bit, `to`, which stands in its place where it is read. What drives nets is as it was.
pub record Finished (b : Building) (ins outs : List Port) (netlist : RawNetlist) : Type 0 where
  pub to : ℕ → Bit
  pub leads : (n : ℕ) (end : Bit) → LeadsTo (step_of b (bits_at ins)) n end ↔ (to n ≡ end)
  pub cells : netlist.cells ≡ map (led_cell to) b.cells
  pub inputs : netlist.inputs ≡ ins
  pub outputs : netlist.outputs ≡ map (led_port to) outs
  pub registers : netlist.registers ≡ map (led_register to) b.registers

-- the least net that leads back to itself, or want of memory
abbrev pub IsStuck : (ℕ → Step) → FinishError → Type 0
IsStuck next (Loop n) = IsFirst (IsOnLoop next) n
IsStuck next Memory = Unit {0}
