-- A bench says one word of a mutation, whichever netlist that runs as its mutant was simulated.
use Rattle.mcy_top.proofs.Common.{◌≡◌, ℕ, List, sym, ap, subst, ◌∙◌, Site, Parts, AreAlike, BaselinesAreOne, told_verdict, IsSimulated}
use Rattle.netlist_core.specs.declared.raw.RawNetlist.{RawNetlist}
use Rattle.vlog_syntax.specs.declared.stmt.Stmt.{Stmt}
use Rattle.tb_machine.specs.Nodes.{tree_of}
use Rattle.tb_machine.specs.Phases.{Setting, State}
use Rattle.tb_machine.specs.Simulations.{Outcome, phases_of}
use Rattle.tb_turns.specs.Verdicts.{IsVerdict, IsWord}
use Rattle.tb_bench.specs.Settings.{setting_of, start_of}
use Rattle.tb_process.specs.Running.{generator}
use Rattle.tb_once.specs.Laws.{BenchesHaveOneOutcome, SettingsByDesign, StartsByRegisters}
use Rattle.sim_words.specs.SimWords.{IsMutant, RunsDesigns, SimBench}
use Rattle.sim_words.specs.Laws.{MutantsTellTheSame}
use Rattle.campaign_run.specs.GivenUp.{IsMutantAt}
use Rattle.campaign_run.specs.Simulated.{Run}
use Rattle.tb_turns.proofs.Words.{one_word}

mutant_of : (netlist mutated : RawNetlist) (site : Site) → IsMutantAt netlist mutated site → IsMutant netlist site mutated
mutant_of netlist mutated site broken = record { alike = broken.runs; each_run = broken.each_run; widths = broken.names.widths; starts = broken.names.starts }

-- a run as a bench of simulations
abbrev bench_of : Run → List Stmt → SimBench
bench_of run trees = record { setting = setting_of run.bench (tree_of trees); start = λ netlist. start_of run.bench (tree_of trees) netlist (generator run.seed) }

runs_designs : SettingsByDesign → StartsByRegisters → (run : Run) (trees : List Stmt) → RunsDesigns (bench_of run trees)
runs_designs settings starts run trees = record {
  setting = λ a b same. settings run.bench (tree_of trees) a b same;
  start = λ a b same. starts run.bench (tree_of trees) a b (generator run.seed) same;
}

-- Benches that are alike say one word of a mutation.
abbrev pub AlikeSayOnce : Type 0
AlikeSayOnce = (netlist : RawNetlist) (site : Site) (a b : Parts) (seed cycles : ℕ) (pass fail : List ℕ) (word other : ℕ) → AreAlike a b
    → IsSimulated netlist site (record { bench = a; seed = seed; cycles = cycles; pass = pass; fail = fail }) word → IsSimulated netlist site (record { bench = b; seed = seed; cycles = cycles; pass = pass; fail = fail }) other → word ≡ other

alike_say_once : BenchesHaveOneOutcome → SettingsByDesign → StartsByRegisters → MutantsTellTheSame → AlikeSayOnce
alike_say_once outcomes settings starts same netlist site a b seed cycles pass fail word other alike h k =
    let first : Run = record { bench = a; seed = seed; cycles = cycles; pass = pass; fail = fail } in
    let here : Setting = setting_of a (tree_of alike.trees) k.mutated.raw in
    let there : Setting = setting_of b (tree_of alike.others) k.mutated.raw in
    let start : State = start_of a (tree_of alike.trees) k.mutated.raw (generator seed) in
    let beginning : State = start_of b (tree_of alike.others) k.mutated.raw (generator seed) in
    let by_a : IsVerdict here start cycles pass fail h.verdict =
    same.words (bench_of first alike.trees) (runs_designs settings starts first alike.trees) cycles pass fail netlist h.mutated.raw k.mutated.raw site h.verdict (mutant_of netlist h.mutated.raw site h.broken) (mutant_of netlist k.mutated.raw site k.broken) (h.says alike.trees alike.code) in
    let moved : IsVerdict there beginning cycles pass fail h.verdict =
    subst (λ (s : State). IsVerdict there s cycles pass fail h.verdict) (alike.starts k.mutated.raw (generator seed)) (subst (λ (s : Setting). IsVerdict s start cycles pass fail h.verdict) (alike.settings k.mutated.raw) by_a) in
    let said : IsVerdict there beginning cycles pass fail k.verdict = k.says alike.others alike.other_code in
    let outcome : moved.outcome ≡ said.outcome = outcomes b (tree_of alike.others) k.mutated (generator seed) (phases_of cycles) moved.outcome said.outcome k.runnable k.sound k.fits moved.simulated said.simulated in
    let verdict : h.verdict ≡ k.verdict = one_word said.outcome pass fail h.verdict k.verdict (subst (λ (o : Outcome). IsWord o pass fail h.verdict) outcome moved.word) said.word in
    h.word_is ∙ ap told_verdict verdict ∙ sym k.word_is

-- And so do the benches of a project, under its limit of cycles, which is one.
pub record BenchesSayOnce : Type 0 where
  pub say : AlikeSayOnce
  pub baselines : BaselinesAreOne

pub benches_say_once : BenchesHaveOneOutcome → SettingsByDesign → StartsByRegisters → MutantsTellTheSame → BaselinesAreOne → BenchesSayOnce
benches_say_once outcomes settings starts same one = record { say = alike_say_once outcomes settings starts same; baselines = one }
