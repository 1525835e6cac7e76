-- The line that tells a fault of the sources (docs/FORMATS.md).
use Rattle.std.specs.Prelude.{ℕ, List, ◌++◌, codes, decimal}
use Rattle.mcy_base.specs.declared.kind.Kind.{Kind}
use Rattle.mcy_base.specs.declared.kind.Kind.TheVariants as k
use Rattle.mcy_base.specs.declared.span.Span.{Span}
use Rattle.vlog_syntax.specs.declared.feature.Feature.{Feature}
use Rattle.vlog_syntax.specs.declared.feature.Feature.TheVariants as f
use Rattle.vlog_token.specs.declared.token.TokenError.{TokenError}
use Rattle.vlog_token.specs.declared.token.TokenError.TheVariants as t
use Rattle.vlog_expand.specs.declared.error.ParseError.{ParseError}
use Rattle.vlog_expand.specs.declared.error.ParseError.TheVariants as p
use Rattle.elab_items.specs.declared.answer.ElabError.{ElabError}
use Rattle.elab_items.specs.declared.answer.ElabError.TheVariants as e
use Rattle.tb_faults.specs.declared.error.BenchError.{BenchError}
use Rattle.tb_faults.specs.declared.error.BenchError.TheVariants as b
use Rattle.source_faults.specs.declared.fault.SourceFault.{SourceFault}
use Rattle.source_faults.specs.declared.fault.SourceFault.TheVariants.{NotUtf8, Token, Parse, Elab, Bench, TooMany, NoSites}
use Rattle.source_faults.specs.declared.fault.SourceError.{SourceError}

-- the name of a feature
abbrev pub feature_name : Feature → List ℕ
feature_name f.MacroDepth = codes "MacroDepth"
feature_name f.MacroForm = codes "MacroForm"
feature_name f.Include = codes "Include"
feature_name f.DirectiveName = codes "DirectiveName"
feature_name f.NetKind = codes "NetKind"
feature_name f.Inout = codes "Inout"
feature_name f.Function = codes "Function"
feature_name f.Task = codes "Task"
feature_name f.Specify = codes "Specify"
feature_name f.Defparam = codes "Defparam"
feature_name f.Primitive = codes "Primitive"
feature_name f.RealOrTime = codes "RealOrTime"
feature_name f.GenerateCase = codes "GenerateCase"
feature_name f.Memory = codes "Memory"
feature_name f.SystemVerilog = codes "SystemVerilog"
feature_name f.RangeForm = codes "RangeForm"
feature_name f.DivideOrPower = codes "DivideOrPower"
feature_name f.ClockList = codes "ClockList"
feature_name f.FallingClock = codes "FallingClock"
feature_name f.GatedClock = codes "GatedClock"
feature_name f.ClockAsData = codes "ClockAsData"
feature_name f.MixedAssign = codes "MixedAssign"
feature_name f.NonblockingInComb = codes "NonblockingInComb"
feature_name f.IndexedBase = codes "IndexedBase"
feature_name f.Delay = codes "Delay"
feature_name f.SystemTask = codes "SystemTask"
feature_name f.SystemFunction = codes "SystemFunction"
feature_name f.InitialForm = codes "InitialForm"
feature_name f.ClockStart = codes "ClockStart"
feature_name f.Helper = codes "Helper"
feature_name f.FormatText = codes "FormatText"

-- the name of what has a limit
abbrev pub kind_name : Kind → List ℕ
kind_name k.Tokens = codes "Tokens"
kind_name k.LoopTurns = codes "LoopTurns"
kind_name k.Cells = codes "Cells"
kind_name k.NetBits = codes "NetBits"
kind_name k.RegisterBits = codes "RegisterBits"
kind_name k.Sites = codes "Sites"
kind_name k.Gates = codes "Gates"
kind_name k.FreeBits = codes "FreeBits"
kind_name k.Scopes = codes "Scopes"

-- a line of these words
abbrev pub told : List ℕ → List ℕ
told words = codes "mcy: " ++ (words ++ codes "\n")

-- a line on a place of a file, and the same with what it is about
abbrev pub line_at : List ℕ → Span → List ℕ → List ℕ
line_at file at word = codes "mcy: " ++ (file ++ (codes ":" ++ (decimal at.line ++ (codes ":" ++ (decimal at.col ++ (codes ": " ++ (word ++ codes "\n")))))))

abbrev pub line_on : List ℕ → Span → List ℕ → List ℕ → List ℕ
line_on file at word name = codes "mcy: " ++ (file ++ (codes ":" ++ (decimal at.line ++ (codes ":" ++ (decimal at.col ++ (codes ": " ++ (word ++ (codes " " ++ (name ++ codes "\n")))))))))

abbrev pub too_many_line : Kind → List ℕ
too_many_line kind = codes "mcy: TooMany " ++ (kind_name kind ++ codes "\n")

abbrev pub token_line : List ℕ → TokenError → List ℕ
token_line file (t.BadCharacter at) = line_at file at (codes "BadCharacter")
token_line file (t.OpenComment at) = line_at file at (codes "OpenComment")
token_line file (t.OpenString at) = line_at file at (codes "OpenString")
token_line file (t.BadNumber at) = line_at file at (codes "BadNumber")
token_line file t.Memory = told (codes "no memory")

abbrev pub parse_line : List ℕ → ParseError → List ℕ
parse_line file (p.Unexpected at) = line_at file at (codes "Unexpected")
parse_line file (p.Unsupported at feature) = line_on file at (codes "Unsupported") (feature_name feature)
parse_line file (p.UnknownMacro at) = line_at file at (codes "UnknownMacro")
parse_line file (p.OpenCondition at) = line_at file at (codes "OpenCondition")
parse_line file (p.TooDeep at) = line_at file at (codes "TooDeep")
parse_line file (p.TooMany kind) = too_many_line kind
parse_line file p.Memory = told (codes "no memory")

abbrev pub elab_line : List ℕ → ElabError → List ℕ
elab_line file e.NoTop = told (codes "NoTop")
elab_line file (e.Twice at) = line_at file at (codes "Twice")
elab_line file (e.Unknown at) = line_at file at (codes "Unknown")
elab_line file (e.Recursive at) = line_at file at (codes "Recursive")
elab_line file (e.PortMismatch at) = line_at file at (codes "PortMismatch")
elab_line file (e.NotConstant at) = line_at file at (codes "NotConstant")
elab_line file (e.DivideByZero at) = line_at file at (codes "DivideByZero")
elab_line file (e.TooWide at) = line_at file at (codes "TooWide")
elab_line file (e.Unsupported at feature) = line_on file at (codes "Unsupported") (feature_name feature)
elab_line file (e.TwoWriters at name) = line_on file at (codes "TwoWriters") name
elab_line file (e.Latch at name) = line_on file at (codes "Latch") name
elab_line file (e.TooMany kind) = too_many_line kind
elab_line file (e.Loop at) = line_at file at (codes "Loop")
elab_line file e.Memory = told (codes "no memory")

abbrev pub bench_line : List ℕ → BenchError → List ℕ
bench_line file (b.Unknown at) = line_at file at (codes "Unknown")
bench_line file (b.Twice at) = line_at file at (codes "Twice")
bench_line file (b.NotConstant at) = line_at file at (codes "NotConstant")
bench_line file (b.DivideByZero at) = line_at file at (codes "DivideByZero")
bench_line file (b.TooWide at) = line_at file at (codes "TooWide")
bench_line file (b.Unsupported at feature) = line_on file at (codes "Unsupported") (feature_name feature)
bench_line file b.NoDesign = told (codes "NoDesign")
bench_line file (b.PortMismatch at) = line_at file at (codes "PortMismatch")
bench_line file b.NoClock = told (codes "NoClock")
bench_line file (b.TwoClocks at) = line_at file at (codes "TwoClocks")
bench_line file b.Memory = told (codes "no memory")

abbrev pub fault_line : List ℕ → SourceFault → List ℕ
fault_line file (NotUtf8 len) = codes "mcy: " ++ (file ++ codes ": NotUtf8\n")
fault_line file (Token error) = token_line file error
fault_line file (Parse error) = parse_line file error
fault_line file (Elab error) = elab_line file error
fault_line file (Bench test error) = bench_line file error
fault_line file (TooMany kind) = too_many_line kind
fault_line file NoSites = told (codes "NoSites")

-- the line of a fault of the sources
abbrev pub source_line : SourceError → List ℕ
source_line error = fault_line error.file error.fault
