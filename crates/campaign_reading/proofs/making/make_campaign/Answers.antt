use Rattle.campaign_reading.proofs.Common.{◌≡◌, ◌∙◌, arith, Bool, List, ap, length, refl, subst, sym, All, RawNetlist, Project, campaign_of}
use Rattle.mutation_sites.specs.declared.site.Site.{Site}
use Rattle.mutation_sites.specs.Mutants.{IsSite}
use Rattle.campaign_choice.specs.Mutations.{all_sites, picked_sites}
use Rattle.campaign_reading.proofs.making.make_campaign.Goals as goal

pub choose-requires-clause-placed : goal.choose-requires-clause-placed
choose-requires-clause-placed c = rw (c.netlist-2.ensures, c.as_slice-all.ensures.value) c.requires.placed

pub choose-requires-clause-all : goal.choose-requires-clause-all
choose-requires-clause-all c = c.as_slice-all.ensures.value ∙ c.requires.sites ∙ ap (all_sites c.args.taken.project) (sym c.netlist-2.ensures)

pub choose-requires-clause-few : goal.choose-requires-clause-few
choose-requires-clause-few c =
    let all : length c.as_slice-all.result.now ≡ length (all_sites c.args.taken.project c.args.judged.netlist) = ap length (c.as_slice-all.ensures.value ∙ c.requires.sites) in
    omega (arith, all, c.requires.few.few_sites)

pub returns : goal.returns
returns c =
    let project : Project = c.args.taken.project in
    let netlist : RawNetlist = c.args.judged.netlist in
    let sites : List Site = c.in_ok-choice.choice.sites in
    let omitted = c.args.judged.omitted.items in
    let same : campaign_of c.args.config.now project c.args.taken.script c.args.taken.report c.args.files.now c.netlist-2.result.now.raw sites ≡ campaign_of c.args.config.now project c.args.taken.script c.args.taken.report c.args.files.now netlist sites =
    ap (λ (n : RawNetlist). campaign_of c.args.config.now project c.args.taken.script c.args.taken.report c.args.files.now n sites) c.netlist-2.ensures in
    let flags : c.deref.result.now ≡ omitted = c.deref.ensures.value in
    record {
      project = project;
      says = c.requires.says;
      script = c.args.taken.script;
      report = c.args.taken.report;
      scripts = c.requires.scripts;
      names = c.requires.names;
      design = c.requires.design;
      few = c.requires.few;
      omitted = omitted;
      left_out = c.requires.left_out;
      some = c.requires.some;
      reading = c.requires.trials.0;
      is_reading = c.requires.trials.1;
      trials = c.requires.trials.2;
      cycles = λ fixed. refl;
      seed = refl;
      campaign = c.in_ok-choice.ensures.campaign ∙ same;
      count = ap length (c.as_slice-all.ensures.value ∙ c.requires.sites);
      places = c.in_ok-choice.ensures.sites ∙ ap (λ (flags : List Bool). picked_sites project flags c.netlist-2.result.now.raw) flags ∙ ap (λ (n : RawNetlist). picked_sites project omitted n) c.netlist-2.ensures;
      placed = subst (λ (n : RawNetlist). All (IsSite n) sites) c.netlist-2.ensures c.in_ok-choice.ensures.placed;
      sources = c.in_ok-choice.ensures.files;
      requirement = c.in_ok-requirement.ensures;
      baseline = refl;
      auto = refl;
    }
