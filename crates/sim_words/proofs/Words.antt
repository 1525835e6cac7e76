-- A mutation has one word.
use Rattle.std.proofs.Common.{◌≡◌, ℕ, List, refl, ap, sym, ◌∙◌, subst}
use Rattle.netlist_core.specs.declared.raw.RawNetlist.{RawNetlist}
use Rattle.mutation_sites.specs.declared.site.Site.{Site}
use Rattle.tb_machine.specs.Phases.{Setting, State}
use Rattle.tb_machine.specs.Simulations.{Outcome, IsSimulation, phases_of}
use Rattle.tb_turns.specs.declared.verdict.SimVerdict.{SimVerdict}
use Rattle.tb_turns.specs.Verdicts.{IsWord}
use Rattle.sim_words.specs.SimWords.{IsMutant, SimBench, RunsDesigns, IsBenchWord, HasCyclesOf}
use Rattle.sim_words.specs.Laws.{MutantsTellTheSame, OneSimWord}
use Rattle.sim_words.proofs.Cycles.{mutants_cycles}
use Rattle.sim_words.proofs.Moving.{simulation-moved}
use Rattle.tb_turns.proofs.Words.{one_word as word-once}

-- the bench tells the same of a netlist with the same cycles
word-moved : (bench : SimBench) → RunsDesigns bench → (limit : ℕ) (pass fail : List ℕ) (netlist a b : RawNetlist) (site : Site) (word : SimVerdict) → IsMutant netlist site a → IsMutant netlist site b → IsBenchWord bench limit pass fail a word → IsBenchWord bench limit pass fail b word
word-moved bench runs limit pass fail netlist a b site word of_a of_b told =
    let netlist_is : (bench.setting a).netlist ≡ a = ap (λ (g : Setting). g.netlist) (runs.setting a a refl) in
    let cycles : HasCyclesOf b (bench.setting a).netlist = (let P : RawNetlist → Type 0 = HasCyclesOf b in subst P (sym netlist_is) (mutants_cycles netlist b a site of_b of_a)) in
    let setting : bench.setting b ≡ record (bench.setting a) { netlist = b } = runs.setting a b (of_a.widths ∙ sym of_b.widths) in
    let start : bench.start a ≡ bench.start b = runs.start a b (of_a.starts ∙ sym of_b.starts) in
    let moved : IsSimulation (record (bench.setting a) { netlist = b }) (phases_of limit) (bench.start a) told.outcome = simulation-moved (bench.setting a) b cycles (phases_of limit) (bench.start a) told.outcome told.simulated in
    let Q : State → Type 0 = λ s. IsSimulation (record (bench.setting a) { netlist = b }) (phases_of limit) s told.outcome in
    let R : Setting → Type 0 = λ g. IsSimulation g (phases_of limit) (bench.start b) told.outcome in
    record { outcome = told.outcome; simulated = subst R (sym setting) (subst Q start moved); word = told.word }

pub tell_the_same : MutantsTellTheSame
tell_the_same = record { cycles = mutants_cycles; words = word-moved }

pub one_word : OneSimWord
one_word bench runs limit pass fail netlist mutated site x y is once of_x of_y =
    let here : IsBenchWord bench limit pass fail mutated x = word-moved bench runs limit pass fail netlist of_x.0 mutated site x of_x.1 is of_x.2 in
    let there : IsBenchWord bench limit pass fail mutated y = word-moved bench runs limit pass fail netlist of_y.0 mutated site y of_y.1 is of_y.2 in
    let same : here.outcome ≡ there.outcome = once here.outcome there.outcome here.simulated there.simulated in
    let P : Outcome → Type 0 = λ o. IsWord o pass fail x in
    word-once there.outcome pass fail x y (subst P same here.word) there.word
