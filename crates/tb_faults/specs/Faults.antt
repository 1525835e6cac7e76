-- The answer for each reason why a testbench is refused.
use Rattle.mcy_base.specs.declared.span.Span.{Span}
use Rattle.vlog_syntax.specs.declared.feature.Feature.TheVariants as f
use Rattle.vlog_meaning.specs.declared.fault.Cause.{Cause}
use Rattle.vlog_meaning.specs.declared.fault.Cause.TheVariants as c
use Rattle.tb_faults.specs.declared.fault.BenchFault.{BenchFault}
use Rattle.tb_faults.specs.declared.fault.BenchFault.TheVariants as b
use Rattle.tb_faults.specs.declared.error.BenchError.{BenchError}
use Rattle.tb_faults.specs.declared.error.BenchError.TheVariants as e

abbrev pub of_cause : Cause → Span → BenchError
of_cause c.Unknown span = e.Unknown span
of_cause c.NotConstant span = e.NotConstant span
of_cause c.DivideByZero span = e.DivideByZero span
of_cause c.TooWide span = e.TooWide span
of_cause c.RangeForm span = e.Unsupported span f.RangeForm
of_cause c.SystemFunction span = e.Unsupported span f.SystemFunction
of_cause c.DivideOrPower span = e.Unsupported span f.DivideOrPower
of_cause c.IndexedBase span = e.Unsupported span f.IndexedBase
of_cause c.Drawn span = e.NotConstant span

abbrev pub error_of : BenchFault → BenchError
error_of (b.Wrong x) = of_cause x.cause x.span
error_of (b.Twice span) = e.Twice span
error_of (b.Unsupported span feature) = e.Unsupported span feature
error_of (b.PortMismatch span) = e.PortMismatch span
error_of (b.TwoClocks span) = e.TwoClocks span
