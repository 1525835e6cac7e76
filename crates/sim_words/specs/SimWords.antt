-- The word of a mutation in a test by simulation: that of the bench with a netlist that runs as the mutant at the site.
use Rattle.std.specs.Prelude.{◌≡◌, ℕ, List, map, length}
use Rattle.netlist_core.specs.declared.raw.RawNetlist.{RawNetlist}
use Rattle.netlist_core.specs.Runs.{Nets, plain, Holds, shown, taken, bits_at}
use Rattle.cycle_sim.specs.Simulated.{starts_of}
use Rattle.mutation_sites.specs.declared.site.Site.{Site}
use Rattle.mutation_sites.specs.Mutants.{RunsAlike, HasEachRun}
use Rattle.tb_machine.specs.Phases.{Setting, State}
use Rattle.tb_machine.specs.Simulations.{Outcome, IsSimulation, phases_of}
use Rattle.tb_turns.specs.declared.verdict.SimVerdict.{SimVerdict}
use Rattle.tb_turns.specs.Verdicts.{IsVerdict}

-- the widths of the outputs
abbrev pub output_widths : RawNetlist → List ℕ
output_widths netlist = map length (bits_at netlist.outputs)

-- A netlist that runs as the mutant of a design at a site, with outputs of the same widths and registers that start with the same.
pub record IsMutant (netlist : RawNetlist) (site : Site) (mutated : RawNetlist) : Type 0 where
  pub alike : RunsAlike netlist mutated site
  pub each_run : HasEachRun netlist mutated site
  pub widths : output_widths mutated ≡ output_widths netlist
  pub starts : starts_of mutated ≡ starts_of netlist

-- A bench: the setting of its simulations with a netlist for its design, and where they start.
pub record SimBench : Type 0 where
  pub setting : RawNetlist → Setting
  pub start : RawNetlist → State

-- A bench runs the netlist, and sees nothing else of it but the widths of the outputs and the start values of the registers.
pub record RunsDesigns (bench : SimBench) : Type 0 where
  pub setting : (a b : RawNetlist) → output_widths a ≡ output_widths b → bench.setting b ≡ record (bench.setting a) { netlist = b }
  pub start : (a b : RawNetlist) → starts_of a ≡ starts_of b → bench.start a ≡ bench.start b

-- the word of the bench with this netlist, with a limit of cycles and the texts of its test
abbrev pub IsBenchWord : SimBench → ℕ → List ℕ → List ℕ → RawNetlist → SimVerdict → Type 0
IsBenchWord bench limit pass fail netlist word = IsVerdict (bench.setting netlist) (bench.start netlist) limit pass fail word

-- the simulations of the bench with this netlist come to one outcome
abbrev pub HasOneOutcome : SimBench → ℕ → RawNetlist → Type 0
HasOneOutcome bench limit netlist = (o p : Outcome) → IsSimulation (bench.setting netlist) (phases_of limit) (bench.start netlist) o → IsSimulation (bench.setting netlist) (phases_of limit) (bench.start netlist) p → o ≡ p

-- the word of the mutation at a site of a design
abbrev pub IsSimWord : SimBench → ℕ → List ℕ → List ℕ → RawNetlist → Site → SimVerdict → Type 0
IsSimWord bench limit pass fail netlist site word = (mutated : RawNetlist) × IsMutant netlist site mutated × IsBenchWord bench limit pass fail mutated word

-- Each cycle of the second netlist is one of the first, with the same inputs and registers: it shows the same, and the registers take
-- the same.
abbrev pub HasCyclesOf : RawNetlist → RawNetlist → Type 0
HasCyclesOf a b = (inputs state : List ℕ) (x : Nets) → Holds (plain x) x b inputs state → (y : Nets) × Holds (plain y) y a inputs state × (shown (plain y) a ≡ shown (plain x) b) × (taken (plain y) 0 a.registers ≡ taken (plain x) 0 b.registers)
