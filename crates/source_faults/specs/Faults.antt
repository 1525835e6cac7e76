-- The file that a fault of the sources is in: that of its place.
use Rattle.std.specs.Prelude.{ℕ, List, [], Option, None, Some, slice_get}
use Rattle.mcy_base.specs.declared.kind.Kind.{Kind}
use Rattle.mcy_base.specs.declared.span.Span.{Span}
use Rattle.mcy_base.specs.declared.file.SourceFile.{SourceFile}
use Rattle.vlog_token.specs.declared.token.TokenError.{TokenError}
use Rattle.vlog_token.specs.declared.token.TokenError.TheVariants as t
use Rattle.vlog_expand.specs.declared.error.ParseError.{ParseError}
use Rattle.vlog_expand.specs.declared.error.ParseError.TheVariants as p
use Rattle.elab_items.specs.declared.answer.ElabError.{ElabError}
use Rattle.elab_items.specs.declared.answer.ElabError.TheVariants as e
use Rattle.source_trees.specs.declared.error.ReadError.{ReadError}
use Rattle.source_trees.specs.declared.error.ReadError.TheVariants as r
use Rattle.tb_faults.specs.declared.error.BenchError.{BenchError}
use Rattle.tb_faults.specs.declared.error.BenchError.TheVariants as b
use Rattle.source_faults.specs.declared.fault.SourceFault.{SourceFault}
use Rattle.source_faults.specs.declared.fault.SourceFault.TheVariants.{NotUtf8, Token, Parse, Elab, Bench, TooMany, NoSites}
use Rattle.source_faults.specs.declared.fault.SourceError.{SourceError}

-- where a fault stands

abbrev pub token_place : TokenError → Option Span
token_place (t.BadCharacter at) = Some at
token_place (t.OpenComment at) = Some at
token_place (t.OpenString at) = Some at
token_place (t.BadNumber at) = Some at
token_place t.Memory = None

abbrev pub parse_place : ParseError → Option Span
parse_place (p.Unexpected at) = Some at
parse_place (p.Unsupported at feature) = Some at
parse_place (p.UnknownMacro at) = Some at
parse_place (p.OpenCondition at) = Some at
parse_place (p.TooDeep at) = Some at
parse_place (p.TooMany kind) = None
parse_place p.Memory = None

abbrev pub elab_place : ElabError → Option Span
elab_place e.NoTop = None
elab_place (e.Twice at) = Some at
elab_place (e.Unknown at) = Some at
elab_place (e.Recursive at) = Some at
elab_place (e.PortMismatch at) = Some at
elab_place (e.NotConstant at) = Some at
elab_place (e.DivideByZero at) = Some at
elab_place (e.TooWide at) = Some at
elab_place (e.Unsupported at feature) = Some at
elab_place (e.TwoWriters at name) = Some at
elab_place (e.Latch at name) = Some at
elab_place (e.TooMany kind) = None
elab_place (e.Loop at) = Some at
elab_place e.Memory = None

abbrev pub bench_place : BenchError → Option Span
bench_place (b.Unknown at) = Some at
bench_place (b.Twice at) = Some at
bench_place (b.NotConstant at) = Some at
bench_place (b.DivideByZero at) = Some at
bench_place (b.TooWide at) = Some at
bench_place (b.Unsupported at feature) = Some at
bench_place b.NoDesign = None
bench_place (b.PortMismatch at) = Some at
bench_place b.NoClock = None
bench_place (b.TwoClocks at) = Some at
bench_place b.Memory = None

-- the name of the file with this number

abbrev pub name_of : Option SourceFile → List ℕ
name_of None = []
name_of (Some file) = file.name

abbrev pub file_name : List SourceFile → ℕ → List ℕ
file_name files number = name_of (slice_get files number)

abbrev pub file_at : List SourceFile → Option Span → List ℕ
file_at files None = []
file_at files (Some at) = file_name files at.file

-- Faults with their files. A limit is told as itself, whoever found it. What is said of want of memory is never used.

abbrev pub too_many : Kind → SourceError
too_many kind = record { file = []; fault = TooMany kind }

abbrev pub no_sites : SourceError
no_sites = record { file = []; fault = NoSites }

abbrev pub error_at : List SourceFile → Option Span → SourceFault → SourceError
error_at files at fault = record { file = file_at files at; fault = fault }

abbrev pub parse_error : List SourceFile → ParseError → SourceError
parse_error files (p.TooMany kind) = too_many kind
parse_error files error = error_at files (parse_place error) (Parse error)

abbrev pub read_error : List SourceFile → ReadError → SourceError
read_error files (r.NotUtf8 number len) = record { file = file_name files number; fault = NotUtf8 len }
read_error files (r.Token error) = error_at files (token_place error) (Token error)
read_error files (r.Parse error) = parse_error files error
read_error files r.Memory = error_at files None (Token t.Memory)

abbrev pub elab_error : List SourceFile → ElabError → SourceError
elab_error files (e.TooMany kind) = too_many kind
elab_error files error = error_at files (elab_place error) (Elab error)

abbrev pub bench_error : List SourceFile → (test : ℕ) → BenchError → SourceError
bench_error files test error = error_at files (bench_place error) (Bench test error)
