-- Netlists that run as one mutant have the same cycles.
use Rattle.std.proofs.Common.{◌≡◌, [], ◌∷◌, sym, ◌∙◌}
use Rattle.netlist_core.specs.declared.raw.RawNetlist.{RawNetlist}
use Rattle.netlist_core.specs.Runs.{Nets, plain, shown}
use Rattle.mutation_sites.specs.declared.site.Site.{Site}
use Rattle.mutation_sites.specs.Mutants.{sight_at, with_mutated}
use Rattle.sim_words.specs.SimWords.{IsMutant, HasCyclesOf}

pub mutants_cycles : (netlist a b : RawNetlist) (site : Site) → IsMutant netlist site a → IsMutant netlist site b → HasCyclesOf a b
mutants_cycles netlist a b site of_a of_b inputs state x in_x =
    let z : Nets = with_mutated netlist site of_a.each_run.fresh x in
    let mutant = of_b.alike.runs state (inputs ∷ []) (x ∷ []) (in_x, tt) in
    let ran = of_a.each_run.runs state (inputs ∷ []) (x ∷ []) mutant in
    let all_z : shown (plain z) a ∷ [] ≡ shown (sight_at netlist site x) netlist ∷ [] = of_a.each_run.outputs (x ∷ []) in
    let first_z : shown (plain z) a ≡ shown (sight_at netlist site x) netlist = cc in
    let all_x : shown (plain x) b ∷ [] ≡ shown (sight_at netlist site x) netlist ∷ [] = of_b.alike.outputs state (inputs ∷ []) (x ∷ []) (in_x, tt) in
    let first_x : shown (plain x) b ≡ shown (sight_at netlist site x) netlist = cc in
    (z, ran.0, first_z ∙ sym first_x, of_a.each_run.next x ∙ sym (of_b.alike.next inputs state x in_x))
