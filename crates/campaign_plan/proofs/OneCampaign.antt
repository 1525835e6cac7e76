-- A project and its sources have one campaign.
use Rattle.campaign_plan.proofs.Common.{◌≡◌, ℕ, Bool, false, List, length, map, slice_get, sym, ap, subst, ◌∙◌, SourceFile, RawNetlist, Project, IsProject, all_files, netlists_are_one, skips_once}
use Rattle.campaign_plan.proofs.Common.{Prepared, design_part, AreTrials, IsReading, Reading, campaign_of, file_item, meta_of, names_of, IsPlan, LeavesOut, IsSame, SameTests}
use Rattle.project_benches.specs.Netlists.{HasNetlist}
use Rattle.campaign_choice.specs.Mutations.{all_sites, picked_sites}
use Rattle.campaign_choice.specs.Omitted.{omitted_sites}
use Rattle.campaign_plan.proofs.Plans.{plan_meta}
use Rattle.campaign_plan.proofs.Kept.{files_kept, project_once, report_once, script_once}
use Rattle.campaign_plan.proofs.TrialLaws.{readings_are_one, trials_alike}

-- the sites that are left out are told in one way
pub leaves_once : (project : Project) (files : List SourceFile) (netlist : RawNetlist) (omitted other : List Bool) → LeavesOut project files netlist omitted → LeavesOut project files netlist other → omitted ≡ other
leaves_once project files netlist omitted other h k =
    h.are ∙ ap (λ (skipped : List Bool). omitted_sites project skipped netlist) (skips_once (design_part project files) project.top project.skip h.skipped k.skipped h.skips k.skips) ∙ sym k.are

pub plan_once : (c d : Prepared) → IsPlan c → IsPlan d → c.campaign.meta ≡ d.campaign.meta → IsSame c d
plan_once c d one two same =
    let kept : meta_of one.config one.files ≡ meta_of two.config two.files = sym (plan_meta c one) ∙ same ∙ plan_meta d two in
    let config : one.config ≡ two.config = cc in
    let items : map file_item one.files ≡ map file_item two.files = cc in
    let project : one.made.project ≡ two.made.project = project_once two.config one.made.project two.made.project (subst (λ (b : List ℕ). IsProject b one.made.project) config one.made.says) two.made.says in
    let script : one.made.script ≡ two.made.script = script_once one.made.project two.made.project _ _ _ _ project one.made.scripts two.made.scripts in
    let report : one.made.report ≡ two.made.report = report_once one.made.project two.made.project _ _ _ _ project one.made.scripts two.made.scripts in
    let files : one.files ≡ two.files = files_kept one.files two.files (one.made.names ∙ ap all_files project ∙ sym two.made.names) items in
    let design : HasNetlist (design_part two.made.project two.files) two.made.project.top c.netlist = subst (λ (p : Project). HasNetlist (design_part p two.files) p.top c.netlist) project (subst (λ (fs : List SourceFile). HasNetlist (design_part one.made.project fs) one.made.project.top c.netlist) files one.made.design) in
    let netlist : c.netlist ≡ d.netlist = netlists_are_one (design_part two.made.project two.files) two.made.project.top c.netlist d.netlist design two.made.design in
    let read : IsReading two.files (names_of two.files) two.made.project.top d.netlist one.made.reading = subst (λ (n : RawNetlist). IsReading two.files (names_of two.files) two.made.project.top n one.made.reading) netlist (subst (λ (p : Project). IsReading two.files (names_of two.files) p.top c.netlist one.made.reading) project (subst (λ (fs : List SourceFile). IsReading fs (names_of fs) one.made.project.top c.netlist one.made.reading) files one.made.is_reading)) in
    let reading : one.made.reading ≡ two.made.reading = readings_are_one two.files (names_of two.files) two.made.project.top d.netlist one.made.reading two.made.reading read two.made.is_reading in
    let run : AreTrials two.made.reading two.made.project.tests c.trials = subst (λ (p : Project). AreTrials two.made.reading p.tests c.trials) project (subst (λ (r : Reading). AreTrials r one.made.project.tests c.trials) reading one.made.trials) in
    let trials : (t : ℕ) → SameTests (slice_get c.trials t) (slice_get d.trials t) = λ t. trials_alike two.made.reading two.made.project.tests c.trials d.trials t run two.made.trials in
    let auto : c.auto_cycles ≡ d.auto_cycles = one.made.auto ∙ ap (λ (p : Project). p.auto_cycles) project ∙ sym two.made.auto in
    let baseline : c.baseline ≡ d.baseline = one.made.baseline ∙ ap (λ (p : Project). p.baseline) project ∙ sym two.made.baseline in
    let cycles : (c.auto_cycles ≡ false → c.cycles ≡ d.cycles) = λ fixed. one.made.cycles fixed ∙ ap (λ (p : Project). p.cycles) project ∙ sym (two.made.cycles (sym auto ∙ fixed)) in
    let seed : c.word_seed ≡ d.word_seed = one.made.seed ∙ ap (λ (p : Project). p.word_seed) project ∙ sym two.made.seed in
    let left : LeavesOut two.made.project two.files d.netlist one.made.omitted = subst (λ (n : RawNetlist). LeavesOut two.made.project two.files n one.made.omitted) netlist (subst (λ (p : Project). LeavesOut p two.files c.netlist one.made.omitted) project (subst (λ (fs : List SourceFile). LeavesOut one.made.project fs c.netlist one.made.omitted) files one.made.left_out)) in
    let omitted : one.made.omitted ≡ two.made.omitted = leaves_once two.made.project two.files d.netlist one.made.omitted two.made.omitted left two.made.left_out in
    let picked : picked_sites one.made.project one.made.omitted c.netlist ≡ picked_sites two.made.project two.made.omitted d.netlist = λ i. picked_sites (project i) (omitted i) (netlist i) in
    let places : c.sites ≡ d.sites = one.made.places ∙ picked ∙ sym two.made.places in
    let counted : length (all_sites one.made.project c.netlist) ≡ length (all_sites two.made.project d.netlist) = λ i. length (all_sites (project i) (netlist i)) in
    let count : c.site_count ≡ d.site_count = one.made.count ∙ counted ∙ sym two.made.count in
    let derived : campaign_of one.config one.made.project one.made.script one.made.report one.files c.netlist c.sites ≡ campaign_of two.config two.made.project two.made.script two.made.report two.files d.netlist d.sites = λ i. campaign_of (config i) (project i) (script i) (report i) (files i) (netlist i) (places i) in
    let campaign : c.campaign ≡ d.campaign = one.made.campaign ∙ derived ∙ sym two.made.campaign in
    let parts : design_part one.made.project one.files ≡ design_part two.made.project two.files = λ i. design_part (project i) (files i) in
    let sources : c.files ≡ d.files = one.made.sources ∙ parts ∙ sym two.made.sources in
    let requirement : c.requirement ≡ d.requirement = one.made.requirement ∙ ap (λ (p : Project). p.requirement) project ∙ sym two.made.requirement in
    let same : c ≡ record d { trials = c.trials; cycles = c.cycles } = λ i. record { campaign = campaign i; site_count = count i; sites = places i; netlist = netlist i; trials = c.trials; cycles = c.cycles; word_seed = seed i; files = sources i; requirement = requirement i; baseline = baseline i; auto_cycles = auto i } in
    (same, trials, cycles)
