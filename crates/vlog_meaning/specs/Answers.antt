-- Which of several faults is answered: the first by place, and at one place by cause.
use Rattle.std.specs.Prelude.{ℕ, Bool, ◌==◌, nat_lt, List, [], ◌∷◌, map, Option, None, Some, Result, Ok, Err, if◌then◌else◌}
use Rattle.mcy_base.specs.declared.span.Span.{Span}
use Rattle.vlog_meaning.specs.declared.fault.Cause.{Cause}
use Rattle.vlog_meaning.specs.declared.fault.Cause.TheVariants as c
use Rattle.vlog_meaning.specs.declared.fault.ConstError.{ConstError}
use Rattle.vlog_meaning.specs.declared.fault.ConstError.TheVariants as k
use Rattle.vlog_meaning.specs.declared.fault.Fault.{Fault}
use Rattle.vlog_meaning.specs.Senses.{fault}

-- the order in which causes are tested at one place
abbrev pub rank : Cause → ℕ
rank c.Unknown = 0
rank c.NotConstant = 1
rank c.DivideByZero = 2
rank c.TooWide = 3
rank c.RangeForm = 4
rank c.SystemFunction = 5
rank c.DivideOrPower = 6
rank c.IndexedBase = 7
rank c.Drawn = 8

-- f comes before g: by file, line, column and cause
abbrev pub precedes : Fault → Fault → Bool
precedes f g =
    if f.span.file == g.span.file
    then (if f.span.line == g.span.line
    then (if f.span.col == g.span.col then nat_lt (rank f.cause) (rank g.cause) else nat_lt f.span.col g.span.col)
    else nat_lt f.span.line g.span.line)
    else nat_lt f.span.file g.span.file

-- the earlier of two
unfoldable pub earlier : Option Fault → Option Fault → Option Fault
earlier None g = g
earlier (Some f) None = Some f
earlier (Some f) (Some g) = Some (if precedes g f then g else f)

-- the first of a list
unfoldable pub least : List Fault → Option Fault
least [] = None
least (f ∷ more) = earlier (Some f) (least more)

-- the first fault of a cause among places
abbrev pub least_at : Cause → List Span → Option Fault
least_at cause spans = least (map (fault cause) spans)

abbrev pub const_error_of : Cause → Span → ConstError
const_error_of c.Unknown span = k.Unknown span
const_error_of c.SystemFunction span = k.SystemFunction span
const_error_of c.Drawn span = k.Drawn span
const_error_of c.DivideByZero span = k.DivideByZero span
const_error_of c.TooWide span = k.TooWide span
const_error_of c.RangeForm span = k.TooWide span
const_error_of cause span = k.NotConstant span

-- the same as `shape` and `constant` name it
abbrev pub const_error : Fault → ConstError
const_error f = const_error_of f.cause f.span

-- why a call was refused
abbrev pub refusal : {A E : Type 0} → Result A E → Option E
refusal (Ok a) = None
refusal (Err e) = Some e
