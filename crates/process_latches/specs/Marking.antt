-- What statements assign and read, added to what was assigned and read before them.
use Rattle.std.specs.Prelude.{◌≡◌, ℕ, Bool, false, not, ◌&&◌, ◌||◌, List, [], ◌∷◌, ◌++◌}
use Rattle.vlog_syntax.specs.declared.expr.Expr.{Expr}
use Rattle.vlog_syntax.specs.declared.identifier.Identifier.{Identifier}
use Rattle.vlog_syntax.specs.declared.left_side.LeftSide.{LeftSide}
use Rattle.vlog_meaning.specs.declared.fault.Fault.{Fault}
use Rattle.vlog_meaning.specs.Scopes.{Names}
use Rattle.vlog_meaning.specs.Senses.{Bits, no_bits}
use Rattle.vlog_effects.specs.Expressions.{reads}
use Rattle.vlog_effects.specs.Latches.{covered, early, parts_cover}
use Rattle.vlog_effects.specs.LeftSides.{Whole, Part, vector_of, parts_of}
use Rattle.vlog_effects.specs.Steps.{Steps}
use Rattle.elab_proc.specs.Refusals.{same_form}
use Rattle.signal_masks.specs.Masks.{bits_in}
use Rattle.signal_masks.specs.Parts.{indices_read}
use Rattle.process_latches.specs.declared.marks.Marks.{Marks}
use Rattle.process_latches.specs.declared.marks.Write.{Write}
use Rattle.process_latches.specs.declared.left.Manner.{Manner}
use Rattle.process_latches.specs.Sound.{sound_by, sound_expr, part_form, has_stop}
use Rattle.process_latches.specs.Writes.{writes, part_writes, parts_writes}

-- nothing is marked
pub record AreBlank (m : Marks) : Type 0 where
  pub covered_is : m.covered ≡ []
  pub early_is : m.early ≡ []
  pub writes_are : m.writes.items ≡ []
  pub stopped_is : m.is_stopped ≡ false

-- Bits are assigned and read after what was marked before: a bit that was assigned before is not read early.
pub record Added (covers reads_early : Bits) (ws : List Write) (stops : Bool) (old new : Marks) : Type 0 where
  pub covered_is : (n i : ℕ) → bits_in new.covered n i ≡ (bits_in old.covered n i || covers n i)
  pub early_is : (n i : ℕ) → bits_in new.early n i ≡ (bits_in old.early n i || (reads_early n i && not (bits_in old.covered n i)))
  pub writes_are : new.writes.items ≡ old.writes.items ++ ws
  pub stopped_is : new.is_stopped ≡ (old.is_stopped || stops)

-- the marks after steps, from those before them
abbrev pub Marked : Steps → Marks → Marks → Type 0
Marked steps old new = Added (covered steps no_bits) (early steps no_bits) (writes steps) (has_stop steps) old new

-- what an expression reads in which this is wrong: nothing, where anything is
abbrev pub reads_by : Names → List Fault → Expr → Bits
reads_by names faults x = reads names (sound_by faults x)

-- what a selector or a label reads
abbrev pub sound_reads : Names → Expr → Bits
sound_reads names x = reads names (sound_expr names x)

abbrev pub all_sound_reads : Names → List Expr → Bits
all_sound_reads names [] n i = false
all_sound_reads names (x ∷ more) n i = sound_reads names x n i || all_sound_reads names more n i

-- what each of two marks has assigned, and what one of them has read
pub record Met (other old new : Marks) : Type 0 where
  pub covered_is : (n i : ℕ) → bits_in new.covered n i ≡ (bits_in old.covered n i && bits_in other.covered n i)
  pub early_is : (n i : ℕ) → bits_in new.early n i ≡ (bits_in old.early n i || bits_in other.early n i)
  pub writes_are : new.writes.items ≡ old.writes.items ++ other.writes.items
  pub stopped_is : new.is_stopped ≡ (old.is_stopped || other.is_stopped)

-- For proofs alone.

-- what parts of a left side assign, and what their indices read
pub record BitsAdded (names : Names) (ps : List Part) (old new : Marks) : Type 0 where
  pub covered_is : (n i : ℕ) → bits_in new.covered n i ≡ (bits_in old.covered n i || parts_cover names ps n i)
  pub early_is : (n i : ℕ) → bits_in new.early n i ≡ (bits_in old.early n i || indices_read names ps n i)
  pub writes_are : new.writes.items ≡ old.writes.items
  pub stopped_is : new.is_stopped ≡ old.is_stopped

-- the same, with the variables
pub record PartsAdded (names : Names) (manner : Manner) (ps : List Part) (old new : Marks) : Type 0 where
  pub covered_is : (n i : ℕ) → bits_in new.covered n i ≡ (bits_in old.covered n i || parts_cover names ps n i)
  pub early_is : (n i : ℕ) → bits_in new.early n i ≡ (bits_in old.early n i || indices_read names ps n i)
  pub writes_are : new.writes.items ≡ old.writes.items ++ parts_writes manner.is_blocking manner.first names ps
  pub stopped_is : new.is_stopped ≡ old.is_stopped

-- a variable, where the name is one
abbrev pub name_writes : Names → Manner → Identifier → List Write
name_writes names manner n = part_writes manner.is_blocking manner.first (record { name = n; select = Whole }) (vector_of (names n.name))

pub record WriteAdded (names : Names) (manner : Manner) (n : Identifier) (old new : Marks) : Type 0 where
  pub covered_is : new.covered ≡ old.covered
  pub early_is : new.early ≡ old.early
  pub writes_are : new.writes.items ≡ old.writes.items ++ name_writes names manner n
  pub stopped_is : new.is_stopped ≡ old.is_stopped

-- a left side is this part, of this name
pub record IsPart (left : LeftSide) (n : Identifier) (p : Part) : Type 0 where
  pub parts : parts_of left ≡ p ∷ []
  pub form : same_form left ≡ part_form p.name p.select
  pub name_is : p.name ≡ n
