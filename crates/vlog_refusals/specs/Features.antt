-- The order of features that are refused at one place: that in which the type lists them.
use Rattle.std.specs.Prelude.{ℕ}
use Rattle.vlog_syntax.specs.declared.feature.Feature.{Feature}
use Rattle.vlog_syntax.specs.declared.feature.Feature.TheVariants as f

abbrev pub feature_rank : Feature → ℕ
feature_rank f.MacroDepth = 0
feature_rank f.MacroForm = 1
feature_rank f.Include = 2
feature_rank f.DirectiveName = 3
feature_rank f.NetKind = 4
feature_rank f.Inout = 5
feature_rank f.Function = 6
feature_rank f.Task = 7
feature_rank f.Specify = 8
feature_rank f.Defparam = 9
feature_rank f.Primitive = 10
feature_rank f.RealOrTime = 11
feature_rank f.GenerateCase = 12
feature_rank f.Memory = 13
feature_rank f.SystemVerilog = 14
feature_rank f.RangeForm = 15
feature_rank f.DivideOrPower = 16
feature_rank f.ClockList = 17
feature_rank f.FallingClock = 18
feature_rank f.GatedClock = 19
feature_rank f.ClockAsData = 20
feature_rank f.MixedAssign = 21
feature_rank f.NonblockingInComb = 22
feature_rank f.IndexedBase = 23
feature_rank f.Delay = 24
feature_rank f.SystemTask = 25
feature_rank f.SystemFunction = 26
feature_rank f.InitialForm = 27
feature_rank f.ClockStart = 28
feature_rank f.Helper = 29
feature_rank f.FormatText = 30
