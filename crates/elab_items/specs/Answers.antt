-- Which answer each refusal is.
use Rattle.std.specs.Prelude.{ℕ, List, [], Option, None, Some, slice_get}
use Rattle.mcy_base.specs.declared.kind.Kind.TheVariants.{LoopTurns, Scopes}
use Rattle.mcy_base.specs.declared.span.Span.{Span}
use Rattle.vlog_syntax.specs.declared.feature.Feature.TheVariants as feature
use Rattle.vlog_meaning.specs.declared.fault.Cause.{Cause}
use Rattle.vlog_meaning.specs.declared.fault.Cause.TheVariants as cause
use Rattle.vlog_meaning.specs.declared.fault.ConstError.{ConstError}
use Rattle.vlog_meaning.specs.declared.fault.ConstError.TheVariants as constant
use Rattle.elab_proc.specs.declared.refusal.Refusal.{Refusal}
use Rattle.elab_proc.specs.declared.refusal.Refusal.TheVariants as found
use Rattle.flat_scopes.specs.declared.range.RangeError.{RangeError}
use Rattle.flat_scopes.specs.declared.range.RangeError.TheVariants as range
use Rattle.flat_scopes.specs.declared.refusal.Refusal.{Refusal as Declaration}
use Rattle.flat_scopes.specs.declared.refusal.Refusal.TheVariants as declaration
use Rattle.flat_scopes.specs.declared.signal.Signal.{Signal}
use Rattle.flat_instances.specs.declared.error.ItemError.{ItemError}
use Rattle.flat_instances.specs.declared.error.ItemError.TheVariants as item
use Rattle.flat_instances.specs.declared.error.ParameterError.{ParameterError}
use Rattle.flat_instances.specs.declared.error.ParameterError.TheVariants as parameter
use Rattle.elab_items.specs.declared.answer.ElabError.{ElabError}
use Rattle.elab_items.specs.declared.answer.ElabError.TheVariants.{DivideByZero, Latch, NotConstant, PortMismatch, Recursive, TooMany, TooWide, Twice, TwoWriters, Unknown, Unsupported}
use Rattle.elab_items.specs.declared.error.Reason.{Reason}
use Rattle.elab_items.specs.declared.error.Reason.TheVariants.{Listed, Found, Start}

-- why an expression is no constant
abbrev pub const_answer : ConstError → ElabError
const_answer (constant.Unknown span) = Unknown span
const_answer (constant.NotConstant span) = NotConstant span
const_answer (constant.DivideByZero span) = DivideByZero span
const_answer (constant.TooWide span) = TooWide span
const_answer (constant.SystemFunction span) = Unsupported span feature.SystemFunction
const_answer (constant.Drawn span) = Unsupported span feature.SystemFunction

-- what is wrong in an expression, or not supported in it
abbrev pub fault_answer : Span → Cause → ElabError
fault_answer span cause.Unknown = Unknown span
fault_answer span cause.NotConstant = NotConstant span
fault_answer span cause.DivideByZero = DivideByZero span
fault_answer span cause.TooWide = TooWide span
fault_answer span cause.RangeForm = Unsupported span feature.RangeForm
fault_answer span cause.SystemFunction = Unsupported span feature.SystemFunction
fault_answer span cause.DivideOrPower = Unsupported span feature.DivideOrPower
fault_answer span cause.IndexedBase = Unsupported span feature.IndexedBase
fault_answer span cause.Drawn = Unsupported span feature.SystemFunction

-- declarations
abbrev pub range_answer : RangeError → ElabError
range_answer (range.Bound error) = const_answer error
range_answer (range.TooWide span) = TooWide span
range_answer (range.RangeForm span) = Unsupported span feature.RangeForm

abbrev pub declaration_answer : Declaration → ElabError
declaration_answer (declaration.Twice span) = Twice span
declaration_answer (declaration.Unknown span) = Unknown span
declaration_answer (declaration.Value error) = const_answer error
declaration_answer (declaration.Range error) = range_answer error

-- Too many values of parameters are as too many connections.
abbrev pub parameter_answer : ParameterError → ElabError
parameter_answer (parameter.Unknown span) = Unknown span
parameter_answer (parameter.Twice span) = Twice span
parameter_answer (parameter.TooMany span) = PortMismatch span
parameter_answer (parameter.Value error) = const_answer error

-- listed items
abbrev pub item_answer : ItemError → ElabError
item_answer (item.Declaration refusal) = declaration_answer refusal
item_answer (item.Parameter error) = parameter_answer error
item_answer (item.Unknown span) = Unknown span
item_answer (item.Twice span) = Twice span
item_answer (item.Recursive span) = Recursive span
item_answer (item.PortMismatch span) = PortMismatch span
item_answer (item.NotConstant span) = NotConstant span
item_answer (item.Constant error) = const_answer error
item_answer (item.Delay span) = Unsupported span feature.Delay
item_answer item.LoopTurns = TooMany LoopTurns
item_answer item.Scopes = TooMany Scopes

-- the name of a signal after flattening
abbrev pub name_in : Option Signal → List ℕ
name_in None = []
name_in (Some s) = s.name

abbrev pub name_of : List Signal → ℕ → List ℕ
name_of signals number = name_in (slice_get signals number)

-- assignments, connections and processes
abbrev pub refusal_answer : List Signal → Refusal → ElabError
refusal_answer signals (found.Wrong fault) = fault_answer fault.span fault.cause
refusal_answer signals (found.Unsupported span x) = Unsupported span x
refusal_answer signals (found.TwoWriters span number) = TwoWriters span (name_of signals number)
refusal_answer signals (found.Latch span number) = Latch span (name_of signals number)
refusal_answer signals (found.LoopTurns span) = TooMany LoopTurns

abbrev pub reason_answer : List Signal → Reason → ElabError
reason_answer signals (Listed error) = item_answer error
reason_answer signals (Found refusal) = refusal_answer signals refusal
reason_answer signals (Start error) = const_answer error
