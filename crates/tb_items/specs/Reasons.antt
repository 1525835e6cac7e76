-- Why a testbench is refused where a declaration of its module is, or a value is no constant.
use Rattle.mcy_base.specs.declared.span.Span.{Span}
use Rattle.vlog_meaning.specs.declared.fault.Cause.{Cause}
use Rattle.vlog_meaning.specs.declared.fault.Cause.TheVariants as c
use Rattle.vlog_meaning.specs.declared.fault.ConstError.{ConstError}
use Rattle.vlog_meaning.specs.declared.fault.ConstError.TheVariants as k
use Rattle.vlog_meaning.specs.Senses.{fault}
use Rattle.flat_scopes.specs.declared.range.RangeError.{RangeError}
use Rattle.flat_scopes.specs.declared.range.RangeError.TheVariants.{Bound, TooWide, RangeForm}
use Rattle.flat_scopes.specs.declared.refusal.Refusal.{Refusal}
use Rattle.flat_scopes.specs.declared.refusal.Refusal.TheVariants as r
use Rattle.tb_faults.specs.declared.fault.BenchFault.{BenchFault}
use Rattle.tb_faults.specs.declared.fault.BenchFault.TheVariants.{Wrong, Twice}

abbrev pub wrong : Cause → Span → BenchFault
wrong cause span = Wrong (fault cause span)

abbrev pub of_const : ConstError → BenchFault
of_const (k.Unknown span) = wrong c.Unknown span
of_const (k.NotConstant span) = wrong c.NotConstant span
of_const (k.DivideByZero span) = wrong c.DivideByZero span
of_const (k.TooWide span) = wrong c.TooWide span
of_const (k.SystemFunction span) = wrong c.SystemFunction span
of_const (k.Drawn span) = wrong c.Drawn span

abbrev pub of_range : RangeError → BenchFault
of_range (Bound error) = of_const error
of_range (TooWide span) = wrong c.TooWide span
of_range (RangeForm span) = wrong c.RangeForm span

abbrev pub of_refusal : Refusal → BenchFault
of_refusal (r.Twice span) = Twice span
of_refusal (r.Unknown span) = wrong c.Unknown span
of_refusal (r.Value error) = of_const error
of_refusal (r.Range error) = of_range error
