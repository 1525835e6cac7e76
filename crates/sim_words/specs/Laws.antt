-- Laws of the words of mutations.
use Rattle.std.specs.Prelude.{◌≡◌, ℕ, List}
use Rattle.netlist_core.specs.declared.raw.RawNetlist.{RawNetlist}
use Rattle.mutation_sites.specs.declared.site.Site.{Site}
use Rattle.tb_turns.specs.declared.verdict.SimVerdict.{SimVerdict}
use Rattle.sim_words.specs.SimWords.{IsMutant, SimBench, RunsDesigns, IsBenchWord, IsSimWord, HasOneOutcome, HasCyclesOf}

-- Any two netlists that run as the mutant at a site have the same cycles, and a bench tells the same of them.
pub record MutantsTellTheSame : Type 0 where
  pub cycles : (netlist a b : RawNetlist) (site : Site) → IsMutant netlist site a → IsMutant netlist site b → HasCyclesOf a b
  pub words : (bench : SimBench) → RunsDesigns bench → (limit : ℕ) (pass fail : List ℕ) (netlist a b : RawNetlist) (site : Site) (word : SimVerdict) → IsMutant netlist site a → IsMutant netlist site b → IsBenchWord bench limit pass fail a word → IsBenchWord bench limit pass fail b word

-- A mutation has one word, where with one of the netlists that run as its mutant the simulations of the bench come to one outcome.
abbrev pub OneSimWord : Type 0
OneSimWord = (bench : SimBench) → RunsDesigns bench → (limit : ℕ) (pass fail : List ℕ) (netlist mutated : RawNetlist) (site : Site) (x y : SimVerdict) → IsMutant netlist site mutated → HasOneOutcome bench limit mutated → IsSimWord bench limit pass fail netlist site x → IsSimWord bench limit pass fail netlist site y → x ≡ y
