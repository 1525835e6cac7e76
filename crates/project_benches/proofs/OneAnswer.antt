-- A test has a bench, but for how its nodes are numbered, or one fault.
pub use Rattle.project_sources.proofs.OneAnswer.{netlist_cells, netlists_are_one}
pub use Rattle.project_sources.proofs.Skipping.{skips_once}
use Rattle.std.proofs.Common.{◌≡◌, ◌≢◌, ℕ, zero, suc, List, [], ◌∷◌, map, Option, None, Some, slice_get, refl, sym, ap, ◌∙◌, subst}
use Rattle.mcy_base.specs.declared.span.Span.{Span}
use Rattle.mcy_base.specs.declared.file.SourceFile.{SourceFile}
use Rattle.netlist_core.specs.declared.raw.RawNetlist.{RawNetlist}
use Rattle.vlog_syntax.specs.declared.module.Module.{Module}
use Rattle.flat_items.specs.Tops.{IsTop}
use Rattle.tb_bench.specs.declared.parts.Parts.{Parts}
use Rattle.tb_bench.specs.Runnable.{IsRunnable}
use Rattle.tb_faults.specs.declared.error.BenchError.{BenchError}
use Rattle.tb_faults.specs.declared.error.BenchError.TheVariants.{Memory as NotRead}
use Rattle.tb_reading.specs.Benches.{IsBenchOf}
use Rattle.tb_reading.specs.Laws.{AreAlike}
use Rattle.tb_reading.proofs.Alike.{benches_alike as alike}
use Rattle.tb_reading.proofs.Reasons.{none_refused, refused_once}
use Rattle.source_faults.specs.declared.fault.SourceError.{SourceError}
use Rattle.source_faults.specs.Faults.{bench_error, bench_place, file_at, name_of}
use Rattle.project_sources.specs.declared.netlist.NetlistError.TheVariants.{Source}
use Rattle.project_benches.specs.Choice.{benches_in}
use Rattle.project_benches.specs.Benches.{IsNoneAmong, HasBench, HasNoBench, file_of, or_empty, told}

-- the modules are this one
abbrev IsOne : List Module → Module → Type 0
IsOne modules m = modules ≡ m ∷ []

not_among : (modules : List Module) (m top : Module) (netlist : RawNetlist) (parts : Parts) (fault : BenchError) → fault ≢ NotRead → IsOne modules m → IsBenchOf m top netlist parts → IsRunnable parts → ¬ IsNoneAmong modules top netlist fault
not_among modules m top netlist parts fault some is has runs none = none_refused m top netlist parts fault some has runs (subst (λ (l : List Module). IsNoneAmong l top netlist fault) is none)

one_among : (modules : List Module) (top : Module) (netlist : RawNetlist) (x y : BenchError) → x ≢ NotRead → y ≢ NotRead → IsNoneAmong modules top netlist x → IsNoneAmong modules top netlist y → x ≡ y
one_among [] top netlist x y some other h k = h ∙ sym k
one_among (m ∷ []) top netlist x y some other h k = refused_once m top netlist x y some other h k
one_among (m ∷ n ∷ more) top netlist x y some other h k = h ∙ sym k

pub bench_without_fault : (names : List (List ℕ)) (test : ℕ) (modules : List Module) (numbers name : List ℕ) (top : Module) (netlist : RawNetlist) (parts : Parts) (e : SourceError) → HasBench modules numbers name top netlist parts → ¬ HasNoBench names test modules numbers name top netlist (Source e)
bench_without_fault names test modules numbers name top netlist parts e has none = not_among (benches_in numbers name modules) has.bench top netlist parts none.fault none.found has.among has.is has.runs none.refused

pub benches_alike : (modules : List Module) (numbers name : List ℕ) (top : Module) (netlist : RawNetlist) (a b : Parts) → HasBench modules numbers name top netlist a → HasBench modules numbers name top netlist b → AreAlike a b
benches_alike modules numbers name top netlist a b h k =
    let both : h.bench ∷ [] ≡ k.bench ∷ [] = sym h.among ∙ k.among in
    let same : h.bench ≡ k.bench = cc in
    alike h.bench top netlist a b h.is (subst (λ (m : Module). IsBenchOf m top netlist b) (sym same) k.is)

pub faults_are_one : (names : List (List ℕ)) (test : ℕ) (modules : List Module) (numbers name : List ℕ) (top : Module) (netlist : RawNetlist) (x y : SourceError) → HasNoBench names test modules numbers name top netlist (Source x) → HasNoBench names test modules numbers name top netlist (Source y) → x ≡ y
faults_are_one names test modules numbers name top netlist x y h k = h.is ∙ ap (told names test) (one_among (benches_in numbers name modules) top netlist h.fault k.fault h.found k.found h.refused k.refused) ∙ sym k.is

pub tops_are_one : (modules : List Module) (name : List ℕ) (a b : Module) → IsTop modules name a → IsTop modules name b → a ≡ b
tops_are_one modules name a b (p, found, at) (q, also, there) = cc

-- the names of files say what the files say

named : (files : List SourceFile) (number : ℕ) → name_of (slice_get files number) ≡ or_empty (slice_get (map (λ f. f.name) files) number)
named [] number = refl
named (file ∷ files) zero = refl
named (file ∷ files) (suc number) = named files number

placed : (files : List SourceFile) (at : Option Span) → file_at files at ≡ file_of (map (λ f. f.name) files) at
placed files None = refl
placed files (Some at) = named files at.file

pub bench_error_told : (files : List SourceFile) (test : ℕ) (fault : BenchError) → bench_error files test fault ≡ told (map (λ f. f.name) files) test fault
bench_error_told files test fault = ap (λ name. record (told [] test fault) { file = name }) (placed files (bench_place fault))
