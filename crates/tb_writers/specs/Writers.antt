-- Second writers in a testbench: a bit that nets write, which are assigned for good, is written by nothing else. Processes may write one
-- bit several times.
use Rattle.std.specs.Prelude.{ℕ, Bool, true, false, ◌&&◌, nat_eq, nat_lt, List, [], ◌∷◌, ◌++◌, option_to_list, Option, None, Some}
use Rattle.mcy_base.specs.declared.span.Span.{Span}
use Rattle.vlog_syntax.specs.declared.feature.Feature.TheVariants.{Helper}
use Rattle.vlog_syntax.specs.declared.left_side.LeftSide.{LeftSide}
use Rattle.vlog_meaning.specs.Scopes.{Names}
use Rattle.vlog_meaning.specs.Senses.{Bits, no_bits, either}
use Rattle.vlog_effects.specs.LeftSides.{Part, part_vector, parts_of}
use Rattle.tb_faults.specs.declared.fault.BenchFault.{BenchFault}
use Rattle.tb_faults.specs.declared.fault.BenchFault.TheVariants.{Unsupported}
use Rattle.tb_items.specs.declared.item.BenchItem.{BenchItem}
use Rattle.tb_items.specs.declared.item.BenchItem.TheVariants as b
use Rattle.tb_writers.specs.declared.writers.Writer.{Writer}
use Rattle.tb_writers.specs.declared.writers.Writer.TheVariants.{Net, Process}
use Rattle.tb_writers.specs.Lefts.{lefts_in}
use Rattle.tb_writers.specs.Writes.{part_writes, meet_at}

-- the bits that nets write, and those that processes and the clock generator do
pub record Written : Type 0 where
  pub nets : Bits
  pub variables : Bits

abbrev pub nothing : Written
nothing = record { nets = no_bits; variables = no_bits }

-- what a writer may not write
abbrev pub taken : Writer → Written → Bits
taken Net w = either w.nets w.variables
taken Process w = w.nets

abbrev pub with_bits : Writer → Written → Bits → Written
with_bits Net w bits = record w { nets = either w.nets bits }
with_bits Process w bits = record w { variables = either w.variables bits }

-- The design writes all bits of the hidden signals of its outputs, of which each has at most 128.

abbrev pub whole_signal : ℕ → Bits
whole_signal k n i = nat_eq n k && nat_lt i 128

abbrev pub with_outputs : Written → List ℕ → Written
with_outputs w [] = w
with_outputs w (k ∷ more) = with_outputs (with_bits Net w (whole_signal k)) more

-- Parts of left sides, one after the other. A second writer is refused at its name.

abbrev pub with_part : Names → Writer → Written → Part → Written
with_part names kind w p = with_bits kind w (part_writes names kind p)

abbrev pub fault_where : Bool → Span → Option BenchFault
fault_where false at = None
fault_where true at = Some (Unsupported at Helper)

abbrev pub part_faults : Names → Writer → Written → Part → List BenchFault
part_faults names kind w p = option_to_list (fault_where (meet_at (part_writes names kind p) (taken kind w) (part_vector names p)) p.name.span)

abbrev pub with_parts : Names → Writer → Written → List Part → Written
with_parts names kind w [] = w
with_parts names kind w (p ∷ more) = with_parts names kind (with_part names kind w p) more

abbrev pub parts_faults : Names → Writer → Written → List Part → List BenchFault
parts_faults names kind w [] = []
parts_faults names kind w (p ∷ more) = part_faults names kind w p ++ parts_faults names kind (with_part names kind w p) more

-- Left sides.

abbrev pub with_lefts : Names → Writer → Written → List LeftSide → Written
with_lefts names kind w [] = w
with_lefts names kind w (x ∷ more) = with_lefts names kind (with_parts names kind w (parts_of x)) more

abbrev pub lefts_faults : Names → Writer → Written → List LeftSide → List BenchFault
lefts_faults names kind w [] = []
lefts_faults names kind w (x ∷ more) = parts_faults names kind w (parts_of x) ++ lefts_faults names kind (with_parts names kind w (parts_of x)) more

-- Items. Processes and the clock generator write variables.

abbrev pub writer_of : BenchItem → Writer
writer_of (b.Clocks at g) = Process
writer_of (b.Runs p) = Process
writer_of other = Net

-- what an item is refused for, where this is written by the items before it
abbrev pub writer_faults : Names → Written → BenchItem → List BenchFault
writer_faults names w item = lefts_faults names (writer_of item) w (lefts_in item)

abbrev pub with_item : Names → Written → BenchItem → Written
with_item names w item = with_lefts names (writer_of item) w (lefts_in item)

-- what items write
abbrev pub with_items : Names → Written → List BenchItem → Written
with_items names w [] = w
with_items names w (item ∷ more) = with_items names (with_item names w item) more
