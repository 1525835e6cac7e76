use Rattle.campaign_choice.proofs.Common.{◌≡◌, ◌∙◌, Bool, List, ap, subst, sym, All, RawNetlist, Project, Site, campaign_of, all_sites, picked_sites}
use Rattle.mutation_sites.specs.Mutants.{IsSite}
use Rattle.campaign_choice.proofs.Chosen.{All-picked}
use Rattle.campaign_choice.proofs.choice.choose.Goals as goal

-- the sites that are picked are sites of the netlist, as all are
picked_placed : (project : Project) (omitted : List Bool) (netlist : RawNetlist) (all picked : List Site) → all ≡ all_sites project netlist → picked ≡ picked_sites project omitted netlist → All (IsSite netlist) all → All (IsSite netlist) picked
picked_placed project omitted netlist all picked are is placed =
    let here : All (IsSite netlist) (picked_sites project omitted netlist) = All-picked (IsSite netlist) project omitted netlist (subst (λ (list : List Site). All (IsSite netlist) list) are placed) in
    subst (λ (list : List Site). All (IsSite netlist) list) (sym is) here

pub new_campaign-requires : goal.new_campaign-requires
new_campaign-requires c =
    picked_placed c.args.taken.project c.args.omitted.now c.args.netlist.now.raw c.args.all.now c.deref.result.now c.requires.all (c.deref.ensures.value ∙ c.in_ok-sites.ensures) c.requires.placed

pub returns-clause-campaign : goal.returns-clause-campaign
returns-clause-campaign c =
    let taken = c.args.taken in
    c.in_ok-campaign.ensures
    ∙ ap (λ (sites : List Site). campaign_of c.args.config.now taken.project taken.script taken.report c.args.files.now c.args.netlist.now.raw sites) (c.deref.ensures.value ∙ sym c.from_vec.ensures)

pub returns-clause-placed : goal.returns-clause-placed
returns-clause-placed c =
    picked_placed c.args.taken.project c.args.omitted.now c.args.netlist.now.raw c.args.all.now c.from_vec.result c.requires.all (c.from_vec.ensures ∙ c.in_ok-sites.ensures) c.requires.placed
