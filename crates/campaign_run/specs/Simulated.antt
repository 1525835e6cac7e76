-- What a bench says of the mutant of a netlist at a site.
use Rattle.std.specs.Prelude.{◌≡◌, ℕ, List}
use Rattle.netlist_core.specs.declared.raw.RawNetlist.{RawNetlist}
use Rattle.netlist_core.specs.Checked.{Plan, IsSound}
use Rattle.mutation_sites.specs.declared.site.Site.{Site}
use Rattle.tb_bench.specs.declared.parts.Parts.{Parts}
use Rattle.tb_bench.specs.Runnable.{FitsDesign, IsRunnable}
use Rattle.tb_turns.specs.declared.verdict.SimVerdict.{SimVerdict}
use Rattle.tb_turns.specs.declared.verdict.SimVerdict.TheVariants as v
use Rattle.tb_runner.specs.Simulated.{Says}
use Rattle.result_book.specs.declared.script.TestWord.TheVariants.{Pass, Fail, Hang}
use Rattle.result_book.specs.Scripts.{word_code}
use Rattle.campaign_run.specs.GivenUp.{IsMutantAt}

-- the word of a verdict of a simulation
abbrev pub told_verdict : SimVerdict → ℕ
told_verdict v.Pass = word_code Pass
told_verdict v.Fail = word_code Fail
told_verdict v.Hang = word_code Hang

-- a bench, the seed of its `$random`, how many cycles it may take, and the texts that decide
pub record Run : Type 0 where
  pub bench : Parts
  pub seed : ℕ
  pub cycles : ℕ
  pub pass : List ℕ
  pub fail : List ℕ

-- the word that the bench, which can run, says with the mutant in the design's place
pub record IsSimulated (netlist : RawNetlist) (site : Site) (run : Run) (word : ℕ) : Type 0 where
  pub runnable : IsRunnable run.bench
  pub mutated : Plan
  pub sound : IsSound mutated
  pub broken : IsMutantAt netlist mutated.raw site
  pub fits : FitsDesign run.bench mutated.raw
  pub verdict : SimVerdict
  pub says : Says (record { bench = run.bench; netlist = mutated.raw; seed = run.seed }) run.cycles run.pass run.fail verdict
  pub word_is : word ≡ told_verdict verdict
