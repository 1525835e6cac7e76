-- The bench of a test fits the design that it was read for.
use Rattle.std.proofs.Common.{ℕ, List}
use Rattle.netlist_core.specs.declared.raw.RawNetlist.{RawNetlist}
use Rattle.vlog_syntax.specs.declared.module.Module.{Module}
use Rattle.tb_bench.specs.declared.parts.Parts.{Parts}
use Rattle.tb_bench.specs.Runnable.{FitsDesign}
use Rattle.project_benches.specs.Benches.{HasBench}

pub bench_fits : (modules : List Module) (numbers name : List ℕ) (top : Module) (netlist : RawNetlist) (bench : Parts) → HasBench modules numbers name top netlist bench → FitsDesign bench netlist
bench_fits modules numbers name top netlist bench has = has.fits
