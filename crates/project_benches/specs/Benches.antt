-- The bench of a test, read from the modules of all sources, and why it has none.
use Rattle.std.specs.Prelude.{◌≡◌, ◌≢◌, ℕ, List, [], ◌∷◌, Option, None, Some, slice_get, ⊤}
use Rattle.mcy_base.specs.declared.span.Span.{Span}
use Rattle.netlist_core.specs.declared.raw.RawNetlist.{RawNetlist}
use Rattle.vlog_syntax.specs.declared.module.Module.{Module}
use Rattle.tb_bench.specs.declared.parts.Parts.{Parts}
use Rattle.tb_bench.specs.Runnable.{FitsDesign, IsRunnable}
use Rattle.tb_faults.specs.declared.error.BenchError.{BenchError}
use Rattle.tb_faults.specs.declared.error.BenchError.TheVariants.{NoDesign, Twice, Memory as NotRead}
use Rattle.tb_reading.specs.Benches.{IsBenchOf, IsRefusal}
use Rattle.source_faults.specs.declared.fault.SourceError.{SourceError}
use Rattle.source_faults.specs.declared.fault.SourceFault.TheVariants.{Bench}
use Rattle.source_faults.specs.Faults.{bench_place}
use Rattle.project_sources.specs.declared.netlist.NetlistError.{NetlistError}
use Rattle.project_sources.specs.declared.netlist.NetlistError.TheVariants.{Source, Memory}
use Rattle.project_benches.specs.Choice.{benches_in}

-- why there is none: no module, more than one, or what is wrong with the one
abbrev pub IsNoneAmong : List Module → Module → RawNetlist → BenchError → Type 0
IsNoneAmong [] top netlist fault = fault ≡ NoDesign
IsNoneAmong (m ∷ []) top netlist fault = IsRefusal m top netlist fault
IsNoneAmong (m ∷ n ∷ more) top netlist fault = fault ≡ Twice n.span

-- the one module with this name in the files with these numbers is a bench, which can run and fits the design
pub record HasBench (modules : List Module) (numbers name : List ℕ) (top : Module) (netlist : RawNetlist) (parts : Parts) : Type 0 where
  pub bench : Module
  pub among : benches_in numbers name modules ≡ bench ∷ []
  pub is : IsBenchOf bench top netlist parts
  pub runs : IsRunnable parts
  pub fits : FitsDesign parts netlist

-- the name of the file that a place is in

abbrev pub or_empty : Option (List ℕ) → List ℕ
or_empty (Some name) = name
or_empty None = []

abbrev pub file_of : (names : List (List ℕ)) → Option Span → List ℕ
file_of names None = []
file_of names (Some at) = or_empty (slice_get names at.file)

-- a fault of the bench of the test with this number, where the files have these names
abbrev pub told : (names : List (List ℕ)) → (test : ℕ) → BenchError → SourceError
told names test fault = record { file = file_of names (bench_place fault); fault = Bench test fault }

pub record IsBenchFault (names : List (List ℕ)) (test : ℕ) (modules : List Module) (top : Module) (netlist : RawNetlist) (error : SourceError) : Type 0 where
  pub fault : BenchError
  pub found : fault ≢ NotRead
  pub refused : IsNoneAmong modules top netlist fault
  pub is : error ≡ told names test fault

-- why no bench is given
abbrev pub HasNoBench : (names : List (List ℕ)) → (test : ℕ) → List Module → (numbers name : List ℕ) → Module → RawNetlist → NetlistError → Type 0
HasNoBench names test modules numbers name top netlist (Source error) = IsBenchFault names test (benches_in numbers name modules) top netlist error
HasNoBench names test modules numbers name top netlist Memory = ⊤
