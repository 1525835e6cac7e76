-- Why a pair of netlists has no clauses: the first cause that holds.
use Rattle.std.specs.Prelude.{◌≡◌, ℕ, ◌<◌, ◌≤◌, length}
use Rattle.netlist_core.specs.Checked.{Plan, free_bits}
use Rattle.cell_gates.specs.declared.error.GateError.{GateError}
use Rattle.cell_gates.specs.declared.error.GateError.TheVariants as gates
use Rattle.pair_gates.specs.declared.error.EncodeError.{EncodeError}
use Rattle.pair_gates.specs.declared.error.EncodeError.TheVariants as no
use Rattle.pair_gates.specs.Matching.{PortsDiffer, RegistersDiffer, HaveSamePorts, AreAlike}
use Rattle.pair_gates.specs.Copies.{copies}

abbrev pub max_free : ℕ
max_free = 2048

abbrev pub max_gates : ℕ
max_gates = 200000

-- the refusal that a cell's refusal is
abbrev pub of_gates : GateError → EncodeError
of_gates gates.TooMany = no.TooManyGates
of_gates gates.Memory = no.Memory

abbrev pub IsRefused : Plan → Plan → EncodeError → Type 0
IsRefused a b (no.PortsDiffer name) = PortsDiffer a.raw b.raw name
IsRefused a b (no.RegistersDiffer name) = HaveSamePorts a.raw b.raw × RegistersDiffer a.raw b.raw name
IsRefused a b (no.TooManyFree bits) = AreAlike a.raw b.raw × (bits ≡ free_bits a.raw) × (max_free < bits)
IsRefused a b no.TooManyGates = AreAlike a.raw b.raw × (free_bits a.raw ≤ max_free) × (max_gates < length (copies a b).gates.made)
IsRefused a b no.Memory = Unit {0}

-- no cause holds
pub record IsAccepted (a b : Plan) : Type 0 where
  pub alike : AreAlike a.raw b.raw
  pub few_free : free_bits a.raw ≤ max_free
  pub few_gates : length (copies a b).gates.made ≤ max_gates
