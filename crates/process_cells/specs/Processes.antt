-- What a process adds to a builder (IEEE 1364-2005, 9.9): the cells of its statements, and then joints of the variables of a
-- combinational process, or registers of those of a clocked one.
use Rattle.std.specs.Prelude.{◌≡◌, ℕ, ◌<◌, Bool, true, false, not, List, [], ◌∷◌, ◌++◌, map, length, None, slice_set, if◌then◌else◌}
use Rattle.netlist_core.specs.declared.bit.Bit.{Bit}
use Rattle.netlist_core.specs.declared.bit.Bit.TheVariants.{Fixed, Net}
use Rattle.netlist_core.specs.declared.port.Register.{Register}
use Rattle.vlog_meaning.specs.Scopes.{Store}
use Rattle.vlog_effects.specs.Effects.{IsBlocking, Values, numbers, left_by}
use Rattle.vlog_effects.specs.Expressions.{bits_of}
use Rattle.vlog_effects.specs.Latches.{targets, latch_of}
use Rattle.vlog_effects.specs.Steps.{Steps}
use Rattle.net_builder.specs.declared.builder.Joint.{Joint}
use Rattle.net_builder.specs.Building.{Building, signal, with_signal, with_register, start_bits, declared_at}
use Rattle.flat_runs.specs.Parts.{AllJoin, AreStored, with_joints, with_registers}
use Rattle.process_latches.specs.declared.marks.Write.{Write}
use Rattle.process_latches.specs.Sound.{sound}
use Rattle.process_latches.specs.Writes.{writes, target_of}
use Rattle.proc_muxes.specs.declared.choice.Choice.{Choice}
use Rattle.proc_muxes.specs.Builds.{Work, Builds, distinct, stands}
use Rattle.proc_muxes.specs.Shows.{Conforms, last_held}
use Rattle.process_cells.specs.declared.kept.Kept.{Kept}
use Rattle.process_cells.specs.Ready.{AllWait, IsAccepted}

-- the variables that steps assign, in order of first assignment
abbrev pub variables : Steps → List ℕ
variables steps = map (λ x. x.number) (distinct (targets steps))

-- the values of signals as bits, as many as they have in the builder
abbrev pub bits_by : Building → Store → Values
bits_by b store = λ n. bits_of (length (signal b n)) (store n)

-- what a process leaves that is run from these values
abbrev pub process_effect : Building → Steps → Store → Store
process_effect b steps store = numbers (left_by steps (bits_by b store))

-- the builder of a process with the bits that signals had before it
abbrev pub given_own : Building → Work → Building
given_own old b = record b.building { signals = old.signals }

-- Combinational processes.

abbrev pub zeros : List Bit → List Bit
zeros bits = map (λ x. Fixed false) bits

-- Variables begin with zeros: what a bit that is not assigned yet is in a mux or a `put`.
abbrev pub blank : List ℕ → Building → Building
blank [] b = b
blank (k ∷ ks) b = blank ks (with_signal k (zeros (signal b k)) b)

-- the bits that variables have at the end
abbrev pub last_seen : Work → List ℕ → List (List Bit)
last_seen b ks = map (signal b.building) ks

-- A combinational process was built, in which all assignments are blocking: its variables began with zeros, the cells of its
-- statements were added, and each bit of its variables is joined to what the variable had last.
pub record Combines (steps : Steps) (old new : Building) : Type 0 where
  pub begun : Work
  pub done : Work
  pub joints : List Joint
  pub blocking : IsBlocking steps
  pub blank_is : begun.building ≡ blank (variables steps) old
  pub built : Builds steps begun done
  pub joined : AllJoin old (variables steps) (last_seen done (variables steps)) joints
  pub is : new ≡ with_joints (given_own old done) joints

-- Clocked processes.

-- a variable has blocking assignments where it has no others
abbrev pub has_blocking : Steps → ℕ → Bool
has_blocking steps n = not (stands false (targets steps) n)

-- each variable has assignments of one kind
abbrev pub HasOneKind : Steps → Type 0
HasOneKind steps = Conforms (has_blocking steps) (targets steps)

-- the bits that variables have at the end: those that later statements would see, or those that have waited
abbrev pub last_bits : Steps → Work → List ℕ → List (List Bit)
last_bits steps b ks = map (last_held (has_blocking steps) b) ks

-- registers have the names, places and start values of their signals, which are as wide as these
abbrev pub AreNamed : Building → List ℕ → List Register → Type 0
AreNamed b [] [] = Unit {0}
AreNamed b (k ∷ ks) (r ∷ rs) = (r.name ≡ (declared_at b k).name) × (r.span ≡ (declared_at b k).span) × (r.start.bits ≡ start_bits b k) × (r.start.width ≡ length (signal b k)) × AreNamed b ks rs
AreNamed b ks rs = ⊥

-- A clocked process was built: the bits of variables with nonblocking assignments waited, the cells of its statements were added,
-- and each variable has a register, which takes what the variable had last.
pub record Clocks (steps : Steps) (old new : Building) : Type 0 where
  pub begun : Work
  pub done : Work
  pub registers : List Register
  pub begun_is : begun.building ≡ old
  pub waits : AllWait begun (targets steps)
  pub built : Builds steps begun done
  pub stored : AreStored old (variables steps) (last_bits steps done (variables steps)) registers
  pub named : AreNamed old (variables steps) registers
  pub is : new ≡ with_registers (given_own old done) registers

-- the numbers of the variables that sound assignments name
abbrev pub written_numbers : Steps → List ℕ
written_numbers steps = map (λ x. x.number) (distinct (map target_of (writes (sound steps))))

-- What is asked where the statements of a process are built, with the numbers of its variables, which those of its assignments
-- tell that are sound.
pub record CanBeBuilt (is_combinational : Bool) (steps : Steps) : Type 0 where
  pub accepted : IsAccepted is_combinational steps
  pub kinds : HasOneKind steps
  pub unlatched : is_combinational ≡ true → latch_of steps ≡ None
  pub numbers : written_numbers steps ≡ variables steps

-- the joints of own bits, which are nets, to others, the lowest first
abbrev pub joints_of : List Bit → List Bit → List Joint
joints_of [] lasts = []
joints_of (own ∷ owns) [] = []
joints_of (Fixed v ∷ owns) (x ∷ lasts) = joints_of owns lasts
joints_of (Net n ∷ owns) (x ∷ lasts) = record { net = n; bit = x } ∷ joints_of owns lasts

-- For proofs alone.

-- the numbers are those of signals
abbrev pub AllKnown : ℕ → List ℕ → Type 0
AllKnown count [] = Unit {0}
AllKnown count (k ∷ ks) = (k < count) × AllKnown count ks

-- a variable with the bits that it has
abbrev pub kept_of : Building → ℕ → Kept
kept_of b k = record { number = k; bits = signal b k }

abbrev pub all_kept : Building → List ℕ → List Kept
all_kept b ks = map (kept_of b) ks

-- a variable has its own bits again, which are joined to those that it had last
abbrev pub rejoined : Kept → List Bit → Building → Building
rejoined own last b = with_joints (with_signal own.number own.bits b) (joints_of own.bits last)

abbrev pub all_rejoined : List Kept → List Kept → Building → Building
all_rejoined [] lasts b = b
all_rejoined (own ∷ owns) [] b = b
all_rejoined (own ∷ owns) (last ∷ lasts) b = all_rejoined owns lasts (rejoined own last.bits b)

-- variables can have these bits again
abbrev pub AllReturn : Building → List Kept → Type 0
AllReturn b [] = Unit {0}
AllReturn b (own ∷ owns) = (own.number < length b.signals) × (length own.bits ≡ length (signal b own.number)) × AllReturn b owns

-- the own bits of variables wait
abbrev pub all_waiting : Building → List ℕ → List (List Bit) → List (List Bit)
all_waiting b [] waiting = waiting
all_waiting b (k ∷ ks) waiting = all_waiting b ks (slice_set waiting k (signal b k))

-- a variable can have a register that takes these bits
pub record CanStore (b : Building) (x : Choice) : Type 0 where
  pub known : x.number < length b.signals
  pub wide : length x.bits ≡ length (signal b x.number)

abbrev pub CanStoreAll : Building → List Choice → Type 0
CanStoreAll b [] = Unit {0}
CanStoreAll b (x ∷ more) = CanStore b x × CanStoreAll b more

-- the register of a variable is added
pub record StoresOne (old : Building) (x : Choice) (new : Building) : Type 0 where
  pub register : Register
  pub is : new ≡ with_register register old
  pub q : register.q ≡ signal old x.number
  pub d : register.d ≡ x.bits
  pub name : register.name ≡ (declared_at old x.number).name
  pub span : register.span ≡ (declared_at old x.number).span
  pub start : register.start.bits ≡ start_bits old x.number
  pub width : register.start.width ≡ length (signal old x.number)

-- the registers of variables are added
pub record Stores (old : Building) (xs : List Choice) (new : Building) : Type 0 where
  pub registers : List Register
  pub is : new ≡ with_registers old registers
  pub stored : AreStored old (map (λ x. x.number) xs) (map (λ x. x.bits) xs) registers
  pub named : AreNamed old (map (λ x. x.number) xs) registers

-- an assignment, where none of its variable and kind is there
abbrev pub with_write : List Write → Write → List Write
with_write found w = if stands w.is_blocking (map target_of found) w.number then found else found ++ w ∷ []
