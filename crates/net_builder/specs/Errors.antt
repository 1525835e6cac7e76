-- As what a fault of an expression is refused.
use Rattle.mcy_base.specs.declared.span.Span.{Span}
use Rattle.vlog_syntax.specs.declared.feature.Feature.TheVariants as feature
use Rattle.vlog_meaning.specs.declared.fault.Cause.{Cause}
use Rattle.vlog_meaning.specs.declared.fault.Cause.TheVariants as cause
use Rattle.vlog_meaning.specs.declared.fault.Fault.{Fault}
use Rattle.net_builder.specs.declared.error.ElabError.{ElabError}
use Rattle.net_builder.specs.declared.error.ElabError.TheVariants.{Unknown, NotConstant, DivideByZero, TooWide, Unsupported, Drawn}

abbrev pub error_of : Cause → Span → ElabError
error_of cause.Unknown span = Unknown span
error_of cause.NotConstant span = NotConstant span
error_of cause.DivideByZero span = DivideByZero span
error_of cause.TooWide span = TooWide span
error_of cause.RangeForm span = Unsupported span feature.RangeForm
error_of cause.SystemFunction span = Unsupported span feature.SystemFunction
error_of cause.DivideOrPower span = Unsupported span feature.DivideOrPower
error_of cause.IndexedBase span = Unsupported span feature.IndexedBase
error_of cause.Drawn span = Drawn span

abbrev pub elab_error : Fault → ElabError
elab_error f = error_of f.cause f.span
