-- The netlist of a mutant steps as its design does exactly where the mutant at the site does.
use Rattle.step_trials.proofs.Common.{◌≡◌, [], ◌∷◌, sym, ◌∙◌, RawNetlist, Nets, plain, shown, Site, sight_at, with_mutated, RunsAlike, HasEachRun, design, mutant, OneStepEqual, MutantsAreNetlists}

-- a step of the mutant at the site is one of its netlist
netlist-to-mutant : (netlist mutated : RawNetlist) (site : Site) → HasEachRun netlist mutated site → OneStepEqual (design netlist) (design mutated) → OneStepEqual (design netlist) (mutant netlist site)
netlist-to-mutant netlist mutated site each equal inputs state x y in_x in_y =
    let z : Nets = with_mutated netlist site each.fresh y in
    let ran = each.runs state (inputs ∷ []) (y ∷ []) (in_y, tt) in
    let both : shown (plain z) mutated ∷ [] ≡ shown (sight_at netlist site y) netlist ∷ [] = each.outputs (y ∷ []) in
    let first : shown (plain z) mutated ≡ shown (sight_at netlist site y) netlist = cc in
    let alike = equal inputs state x z in_x ran.0 in
    record { outputs = alike.outputs ∙ first; next = alike.next ∙ each.next y }

-- and a step of the netlist one of the mutant
mutant-to-netlist : (netlist mutated : RawNetlist) (site : Site) → RunsAlike netlist mutated site → OneStepEqual (design netlist) (mutant netlist site) → OneStepEqual (design netlist) (design mutated)
mutant-to-netlist netlist mutated site alike equal inputs state x y in_x in_y =
    let ran = alike.runs state (inputs ∷ []) (y ∷ []) (in_y, tt) in
    let both : shown (plain y) mutated ∷ [] ≡ shown (sight_at netlist site y) netlist ∷ [] = alike.outputs state (inputs ∷ []) (y ∷ []) (in_y, tt) in
    let first : shown (plain y) mutated ≡ shown (sight_at netlist site y) netlist = cc in
    let step = equal inputs state x y in_x ran.0 in
    record { outputs = step.outputs ∙ sym first; next = step.next ∙ sym (alike.next inputs state y in_y) }

pub mutants_netlists : MutantsAreNetlists
mutants_netlists netlist mutated site alike each = (netlist-to-mutant netlist mutated site each, mutant-to-netlist netlist mutated site alike)
