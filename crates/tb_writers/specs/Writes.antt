-- Which bits of signals the parts of a left side write: the bits of a select whose place is a constant. Where it is none, or where what
-- stands there has no shape, a process writes all bits of the name, and a net writes none, since it is refused for that.
use Rattle.std.specs.Prelude.{ℕ, zero, suc, Bool, true, false, ◌&&◌, ◌||◌, Option, None, Some}
use Rattle.vlog_syntax.specs.declared.expr.Expr.{Expr}
use Rattle.vlog_meaning.specs.Scopes.{Names}
use Rattle.vlog_meaning.specs.Senses.{Bits, no_bits, sense, constant_faults, is_empty}
use Rattle.vlog_effects.specs.Latches.{part_covers}
use Rattle.vlog_effects.specs.LeftSides.{Select, Whole, Bit, Range, Indexed, Part, Vector, part_vector}
use Rattle.process_latches.specs.Sound.{part_form}
use Rattle.tb_writers.specs.declared.writers.Writer.{Writer}
use Rattle.tb_writers.specs.declared.writers.Writer.TheVariants.{Net, Process}

abbrev pub is_constant : Names → Expr → Bool
is_constant names x = is_empty (constant_faults (sense names x))

-- a select whose place is a constant, or that has none
abbrev pub is_placed : Names → Select → Bool
is_placed names Whole = true
is_placed names (Bit at i) = is_constant names i
is_placed names (Range at msb lsb) = true
is_placed names (Indexed at base count) = is_constant names base

-- the expression of the same form
abbrev pub form_of : Part → Expr
form_of p = part_form p.name p.select

-- its bits can be told
abbrev pub is_told : Names → Part → Bool
is_told names p = is_placed names p.select && is_empty (sense names (form_of p)).faults

abbrev pub whole_name : Part → Part
whole_name p = record { name = p.name; select = Whole }

-- what a part of a vector writes whose bits cannot be told
abbrev pub untold_bits : Names → Writer → Part → Option Vector → Bits
untold_bits names Net p v = no_bits
untold_bits names Process p v = part_covers names (whole_name p) v

abbrev pub bits_written : Names → Writer → Part → (told : Bool) → Option Vector → Bits
bits_written names kind p true v = part_covers names p v
bits_written names kind p false v = untold_bits names kind p v

abbrev pub part_writes : Names → Writer → Part → Bits
part_writes names kind p = bits_written names kind p (is_told names p) (part_vector names p)

-- one of the first numbers has the property
unfoldable pub some_below : ℕ → (ℕ → Bool) → Bool
some_below zero f = false
some_below (suc n) f = f n || some_below n f

-- a vector, which has at most 128 bits, has a bit that is among both
abbrev pub meet_at : Bits → Bits → Option Vector → Bool
meet_at these those None = false
meet_at these those (Some v) = some_below 128 (λ i. these v.number i && those v.number i)
