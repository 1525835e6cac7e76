-- A testbench's module is one bench, but for how its nodes are numbered, and it is refused for one reason.
use Rattle.std.specs.Prelude.{◌≡◌, ◌≢◌, List}
use Rattle.rand_pcg.specs.Lcg.{Lcg}
use Rattle.netlist_core.specs.declared.raw.RawNetlist.{RawNetlist}
use Rattle.vlog_syntax.specs.declared.module.Module.{Module}
use Rattle.vlog_syntax.specs.declared.stmt.Stmt.{Stmt}
use Rattle.tb_machine.specs.Nodes.{IsCode, tree_of}
use Rattle.tb_faults.specs.declared.error.BenchError.{BenchError}
use Rattle.tb_faults.specs.declared.error.BenchError.TheVariants.{Memory}
use Rattle.tb_bench.specs.declared.parts.Parts.{Parts}
use Rattle.tb_bench.specs.Settings.{setting_of, start_of}
use Rattle.tb_bench.specs.Runnable.{FitsDesign, IsRunnable}
use Rattle.tb_reading.specs.Benches.{IsBenchOf, IsRefusal}

-- By statements that their code stands for, their simulations have one setting and one start, and they fit the same designs.
pub record AreAlike (a b : Parts) : Type 0 where
  pub trees : List Stmt
  pub code : IsCode a.code trees
  pub others : List Stmt
  pub other_code : IsCode b.code others
  pub settings : (netlist : RawNetlist) → setting_of a (tree_of trees) netlist ≡ setting_of b (tree_of others) netlist
  pub starts : (netlist : RawNetlist) (words : Lcg) → start_of a (tree_of trees) netlist words ≡ start_of b (tree_of others) netlist words
  pub fits : (netlist : RawNetlist) → FitsDesign a netlist → FitsDesign b netlist

-- two benches of a module for a design are alike
abbrev pub BenchesAreAlike : Type 0
BenchesAreAlike = (m top : Module) (netlist : RawNetlist) (a b : Parts) → IsBenchOf m top netlist a → IsBenchOf m top netlist b → AreAlike a b

-- a bench that can run has no reason to be refused
abbrev pub NoneRefused : Type 0
NoneRefused = (m top : Module) (netlist : RawNetlist) (parts : Parts) (error : BenchError) → error ≢ Memory → IsBenchOf m top netlist parts → IsRunnable parts → ¬ IsRefusal m top netlist error

-- a module has one reason
abbrev pub OneRefusal : Type 0
OneRefusal = (m top : Module) (netlist : RawNetlist) (x y : BenchError) → x ≢ Memory → y ≢ Memory → IsRefusal m top netlist x → IsRefusal m top netlist y → x ≡ y
