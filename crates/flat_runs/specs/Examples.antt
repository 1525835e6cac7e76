-- Designs whose runs were worked out by hand.
use Rattle.std.specs.Prelude.{◌≡◌, ℕ, ◌+◌, ◌-◌, ◌%◌, true, false, List, [], ◌∷◌, None, nat_eq, if◌then◌else◌, slice_index_or}
use Rattle.mcy_base.specs.declared.span.Span.{Span}
use Rattle.mcy_base.specs.declared.word.Word.{Word}
use Rattle.netlist_core.specs.declared.bit.Bit.TheVariants.{Fixed, Net}
use Rattle.netlist_core.specs.declared.cell.CellKind.TheVariants.{Add}
use Rattle.netlist_core.specs.declared.raw.RawNetlist.{RawNetlist}
use Rattle.vlog_meaning.specs.Scopes.{Store}
use Rattle.flat_runs.specs.Meanings.{Meaning, Assign, Combinational, Clocked}
use Rattle.flat_runs.specs.Designs.{Design, IsSourceRun, source_outputs}
use Rattle.flat_runs.specs.Laws.{SameRuns}
use Rattle.flat_runs.specs.Parts.{places_from}

abbrev pub place : Span
place = record { file = 0; line = 1; col = 1 }

-- the number at a place in a list, and 0 past the end
abbrev pub at : List ℕ → ℕ → ℕ
at numbers k = slice_index_or numbers k 0

-- the same values, but for one signal
abbrev pub with_value : ℕ → ℕ → Store → Store
with_value k v s = λ n. if nat_eq n k then v else s n

-- `signal k = value`
abbrev pub assign : (k width : ℕ) → (Store → ℕ) → Meaning
assign k width value = Assign (places_from k 0 width) value

-- There is a run from this state with these inputs, and each one shows these outputs.
pub record Shows (design : Design) (state : List ℕ) (inputs outputs : List (List ℕ)) : Type 0 where
  pub run : (cycles : List Store) × IsSourceRun design state inputs cycles
  pub shows : (cycles : List Store) → IsSourceRun design state inputs cycles → source_outputs design cycles ≡ outputs

-- no run
abbrev pub HasNoRun : Design → List ℕ → List (List ℕ) → Type 0
HasNoRun design state inputs = (cycles : List Store) → ¬ IsSourceRun design state inputs cycles

-- `input [1:0] a; output [1:0] y; assign y = a + 1;`
abbrev pub successor : Design
successor = record { items = assign 1 2 (λ s. (s 0 + 1) % 4) ∷ []; width = at (2 ∷ 2 ∷ []); start = at []; inputs = 0 ∷ []; outputs = 1 ∷ []; registers = [] }

abbrev pub SuccessorsAreShown : Type 0
SuccessorsAreShown = Shows successor [] ((1 ∷ []) ∷ (3 ∷ []) ∷ []) ((2 ∷ []) ∷ (0 ∷ []) ∷ [])

-- `output reg [1:0] count; always @(posedge clock) count <= count + 1;`
abbrev pub counter : Design
counter = record { items = Clocked (0 ∷ []) (λ s. with_value 0 ((s 0 + 1) % 4) s) ∷ []; width = at (2 ∷ []); start = at []; inputs = []; outputs = 0 ∷ []; registers = 0 ∷ [] }

abbrev pub CounterCounts : Type 0
CounterCounts = Shows counter (2 ∷ []) ([] ∷ [] ∷ [] ∷ []) ((2 ∷ []) ∷ (3 ∷ []) ∷ (0 ∷ []) ∷ [])

-- `output [1:0] y; reg [1:0] y = 2;`, with nothing that writes it
abbrev pub constant : Design
constant = record { items = []; width = at (2 ∷ []); start = at (2 ∷ []); inputs = []; outputs = 0 ∷ []; registers = [] }

abbrev pub StartValueStays : Type 0
StartValueStays = Shows constant [] ([] ∷ []) ((2 ∷ []) ∷ [])

-- `output y; assign y = !y;`
abbrev pub contradiction : Design
contradiction = record { items = assign 0 1 (λ s. 1 - s 0) ∷ []; width = at (1 ∷ []); start = at []; inputs = []; outputs = 0 ∷ []; registers = [] }

abbrev pub ContradictionHasNoRun : Type 0
ContradictionHasNoRun = HasNoRun contradiction [] ([] ∷ [])

-- `input a; output reg y; always @* y = a;`, run from any value of y
abbrev pub follower : Design
follower = record { items = Combinational (1 ∷ []) (λ s. with_value 1 (s 0) s) ∷ []; width = at (1 ∷ 1 ∷ []); start = at []; inputs = 0 ∷ []; outputs = 1 ∷ []; registers = [] }

abbrev pub FollowerFollows : Type 0
FollowerFollows = Shows follower [] ((1 ∷ []) ∷ (0 ∷ []) ∷ []) ((1 ∷ []) ∷ (0 ∷ []) ∷ [])

-- `input a; output y; assign y = a;`, whose netlist has one net, the input's, at the output
abbrev pub wire : Design
wire = record { items = assign 1 1 (λ s. s 0) ∷ []; width = at (1 ∷ 1 ∷ []); start = at []; inputs = 0 ∷ []; outputs = 1 ∷ []; registers = [] }

abbrev pub wire_netlist : RawNetlist
wire_netlist = record { top = []; clock = None; inputs = record { name = 97 ∷ []; bits = Net 0 ∷ [] } ∷ []; outputs = record { name = 121 ∷ []; bits = Net 0 ∷ [] } ∷ []; registers = []; cells = [] }

abbrev pub WireIsOneNet : Type 0
WireIsOneNet = SameRuns wire wire_netlist

-- the netlist of the counter: a cell that adds 1, and a register
abbrev pub counter_netlist : Word → RawNetlist
counter_netlist start = record {
  top = [];
  clock = None;
  inputs = [];
  outputs = record { name = 99 ∷ []; bits = Net 0 ∷ Net 1 ∷ [] } ∷ [];
  registers = record { name = 99 ∷ []; span = place; d = Net 2 ∷ Net 3 ∷ []; q = Net 0 ∷ Net 1 ∷ []; start = start } ∷ [];
  cells = record { kind = Add; is_signed = false; ports = (Net 0 ∷ Net 1 ∷ []) ∷ (Fixed true ∷ Fixed false ∷ []) ∷ (Net 2 ∷ Net 3 ∷ []) ∷ []; span = place } ∷ [];
}

abbrev pub CounterIsOneCell : Type 0
CounterIsOneCell = (start : Word) → start.bits ≡ 0 → SameRuns counter (counter_netlist start)
