-- Ranges of declarations (IEEE 1364-2005, 4.3.1).
use Rattle.std.specs.Prelude.{◌+◌, ◌-◌, ◌^◌, pos, ℤ, ◌-ℤ◌, int_lt, ◌||◌, Option, None, Some, Result, Ok, Err, if◌then◌else◌}
use Rattle.mcy_base.specs.declared.span.Span.{Span}
use Rattle.vlog_syntax.specs.declared.item.Range.{Range}
use Rattle.vlog_meaning.specs.declared.fault.Fault.{Fault}
use Rattle.vlog_meaning.specs.Answers.{least, const_error}
use Rattle.vlog_meaning.specs.Integers.{natural}
use Rattle.vlog_meaning.specs.Scopes.{Names}
use Rattle.vlog_meaning.specs.Senses.{sense, constant_faults, constant_integer}
use Rattle.flat_scopes.specs.declared.range.VectorBits.{VectorBits}
use Rattle.flat_scopes.specs.declared.range.RangeError.{RangeError}
use Rattle.flat_scopes.specs.declared.range.RangeError.TheVariants.{Bound, TooWide, RangeForm}

-- the lowest bit has a number from 0 to 2^31 - 1, and there are from 1 to 128 bits
abbrev pub bits_between : Span → (msb lsb : ℤ) → Result VectorBits RangeError
bits_between at msb lsb =
    if int_lt (pos 127) (msb -ℤ lsb) then Err (TooWide at)
    else if int_lt msb lsb || int_lt lsb (pos 0) || int_lt (pos (2 ^ 31 - 1)) lsb then Err (RangeForm at)
    else Ok (record { width = natural (msb -ℤ lsb) + 1; low = natural lsb })

-- the first bound that is no constant counts
abbrev pub bits_of_bounds : Span → (msb_fault lsb_fault : Option Fault) → (msb lsb : ℤ) → Result VectorBits RangeError
bits_of_bounds at (Some f) lsb_fault msb lsb = Err (Bound (const_error f))
bits_of_bounds at None (Some f) msb lsb = Err (Bound (const_error f))
bits_of_bounds at None None msb lsb = bits_between at msb lsb

-- without a range there is one bit
abbrev pub bits_of_range : Names → Option Range → Result VectorBits RangeError
bits_of_range names None = Ok (record { width = 1; low = 0 })
bits_of_range names (Some r) = bits_of_bounds r.span (least (constant_faults (sense names r.msb))) (least (constant_faults (sense names r.lsb))) (constant_integer (sense names r.msb)) (constant_integer (sense names r.lsb))
