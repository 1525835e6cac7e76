-- Which ports and registers of two netlists go together: those that stand at the same place with one name and one width.
use Rattle.std.specs.Prelude.{◌≡◌, ◌≢◌, ◌⊎◌, ℕ, ◌<◌, List, [], ◌∷◌, length, map, slice_get, Some}
use Rattle.netlist_core.specs.declared.port.Port as port
use Rattle.netlist_core.specs.declared.port.Register.{Register}
use Rattle.netlist_core.specs.declared.raw.RawNetlist.{RawNetlist}
use Rattle.netlist_core.specs.Checked.{IsFirst}

-- a name, and how many bits it has
pub record Named : Type 0 where
  pub name : List ℕ
  pub width : ℕ

abbrev pub port_named : port.Port → Named
port_named p = record { name = p.name; width = length p.bits }

abbrev pub register_named : Register → Named
register_named r = record { name = r.name; width = length r.q }

abbrev pub ports_named : List port.Port → List Named
ports_named ports = map port_named ports

abbrev pub registers_named : List Register → List Named
registers_named registers = map register_named registers

-- what stands at this place doesn't stand at it in the other list
abbrev pub StandsAlone : List Named → List Named → ℕ → Type 0
StandsAlone xs ys i = (i < length xs) × (slice_get ys i ≢ slice_get xs i)

-- the name of the first that stands alone
pub record IsFirstAlone (xs ys : List Named) (name : List ℕ) : Type 0 where
  pub place : ℕ
  pub first : IsFirst (StandsAlone xs ys) place
  pub item : Named
  pub there : slice_get xs place ≡ Some item
  pub named : item.name ≡ name

-- each stands at its place in the other list
abbrev pub AllStand : List Named → List Named → Type 0
AllStand xs ys = (i : ℕ) → i < length xs → slice_get ys i ≡ slice_get xs i

-- two lists that are compared
pub record Compared : Type 0 where
  pub list : List Named
  pub other : List Named

-- the name of the first that stands alone in the first list of several, compared in order
abbrev pub IsFirstOf : List Compared → List ℕ → Type 0
IsFirstOf [] name = ⊥
IsFirstOf (pair ∷ more) name = IsFirstAlone pair.list pair.other name ⊎ (AllStand pair.list pair.other × IsFirstOf more name)

abbrev pub compared : List Named → List Named → Compared
compared xs ys = record { list = xs; other = ys }

-- The original's inputs and outputs, and then the mutant's.
abbrev pub PortsDiffer : RawNetlist → RawNetlist → List ℕ → Type 0
PortsDiffer a b name = IsFirstOf (compared (ports_named a.inputs) (ports_named b.inputs) ∷ compared (ports_named a.outputs) (ports_named b.outputs) ∷ compared (ports_named b.inputs) (ports_named a.inputs) ∷ compared (ports_named b.outputs) (ports_named a.outputs) ∷ []) name

-- The original's registers, and then the mutant's.
abbrev pub RegistersDiffer : RawNetlist → RawNetlist → List ℕ → Type 0
RegistersDiffer a b name = IsFirstOf (compared (registers_named a.registers) (registers_named b.registers) ∷ compared (registers_named b.registers) (registers_named a.registers) ∷ []) name

-- the same ports, and the same registers
pub record HaveSamePorts (a b : RawNetlist) : Type 0 where
  pub inputs : ports_named a.inputs ≡ ports_named b.inputs
  pub outputs : ports_named a.outputs ≡ ports_named b.outputs

abbrev pub HaveSameRegisters : RawNetlist → RawNetlist → Type 0
HaveSameRegisters a b = registers_named a.registers ≡ registers_named b.registers

abbrev pub AreAlike : RawNetlist → RawNetlist → Type 0
AreAlike a b = HaveSamePorts a b × HaveSameRegisters a b
