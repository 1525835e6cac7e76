-- How what is asked of a builder follows from what its items leave.
use Rattle.std.specs.Prelude.{◌≡◌, ◌↔◌, ℕ, ◌≤◌, true, List, map, length}
use Rattle.std.specs.List.{Contains}
use Rattle.netlist_core.specs.declared.port.Register.{Register}
use Rattle.netlist_core.specs.Runs.{q_bits}
use Rattle.net_builder.specs.Building.{Building, signal}
use Rattle.net_builder.specs.Written.{IsJoined}
use Rattle.flat_runs.specs.Adding.{HasOwnNets}
use Rattle.elab_finish.specs.declared.left.Left.{Left}
use Rattle.elab_finish.specs.Endings.{is_register}
use Rattle.elab_finish.specs.Loops.{WritesNet, AreCovered}

-- where the registers are those of these signals, each is one of them
abbrev pub RegistersHaveSignals : Type 0
RegistersHaveSignals = (b : Building) (ks : List ℕ) → q_bits b.registers ≡ map (signal b) ks → (r : Register) → Contains b.registers r → (k : ℕ) × Contains ks k × (r.q ≡ signal b k)

-- and just these signals have one
abbrev pub SignalsHaveRegisters : Type 0
SignalsHaveRegisters = (b : Building) (ks : List ℕ) (k : ℕ) → HasOwnNets b → q_bits b.registers ≡ map (signal b) ks → 1 ≤ length (signal b k) → (is_register b k ≡ true) ↔ Contains ks k

-- where each joined net is written by a left side, loops have left sides
abbrev pub JoinedAreCovered : Type 0
JoinedAreCovered = (b : Building) (lefts : List Left) → ((n : ℕ) → IsJoined b n → (left : Left) × Contains lefts left × WritesNet b left n) → AreCovered b lefts
