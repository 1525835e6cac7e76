-- A book can keep the campaign of a project and its scripts: these name only its tests and tags, and there are few of all.
use Rattle.campaign_choice.proofs.Common.{◌≡◌, ℕ, ◌≤◌, List, length, map, true, Ok, refl, sym, ◌∙◌, subst, arith, length-map, RawNetlist, Site, site_text, Project, TestPlan, IsProject, campaign_of}
use Rattle.campaign_choice.proofs.Common.{names_of, site_line, HasScripts, kind_of, test_kinds, test_names}
use Rattle.mcy_base.specs.declared.file.SourceFile.{SourceFile}
use Rattle.project_limits.proofs.Sizes.{conflicts_within, size_within}
use Rattle.project_limits.proofs.Tags.{tags_few}
use Rattle.project_limits.proofs.Tests.{tests_few}
use Rattle.script_lines.specs.Rows.{rows_of}
use Rattle.tag_script.specs.declared.script.Script.{Script}
use Rattle.tag_script.specs.Fits.{script_fits}
use Rattle.tag_script.specs.Reading.{first_too_many, script_of}
use Rattle.tag_script.proofs.Fitting.{reads_fit as script_reads_fit}
use Rattle.report_script.specs.declared.report.Report.{Report}
use Rattle.report_script.specs.Fits.{report_fits}
use Rattle.report_script.specs.Reading.{report_of}
use Rattle.report_script.proofs.Fitting.{reads_fit as report_reads_fit}
use Rattle.result_book.specs.Campaigns.{IsFit}

-- the scripts of a project name only its tests and tags
script_fit : (p : Project) (s : Script) (r : Report) → HasScripts p s r → script_fits (length (test_names p)) (length p.tags) s ≡ true
unfolding script_of
script_fit p s r has = script_reads_fit (record { tests = test_names p; tags = p.tags; limit = first_too_many p.logic }) (rows_of p.logic) (Ok s) has.logic

report_fit : (p : Project) (s : Script) (r : Report) → HasScripts p s r → report_fits (length p.tags) r ≡ true
unfolding report_of
report_fit p s r has = report_reads_fit (record { tags = p.tags; limit = first_too_many p.report }) (rows_of p.report) (Ok r) has.report

-- so a book can keep its campaign
pub campaign_fits : (config : List ℕ) (p : Project) (s : Script) (r : Report) (files : List SourceFile) (netlist : RawNetlist) (sites : List Site) → IsProject config p → HasScripts p s r → length sites ≤ p.size → IsFit (campaign_of config p s r files netlist sites)
campaign_fits config p s r files netlist sites says has picked =
    let within = conflicts_within config p says in
    let few : length sites ≤ 10000 = omega (arith, picked, size_within config p says) in
    let mutations : length (map (site_text netlist (names_of files)) sites) ≡ length sites = length-map sites (site_text netlist (names_of files)) in
    let lines : length (map (site_line netlist) sites) ≡ length sites = length-map sites (site_line netlist) in
    let names : length (test_names p) ≡ length p.tests = length-map p.tests (λ (t : TestPlan). t.name) in
    let kinds : length (test_kinds p) ≡ length p.tests = length-map p.tests (λ (t : TestPlan). kind_of t.kind) in
    let expects : length (map (λ (t : TestPlan). t.expect) p.tests) ≡ length p.tests = length-map p.tests (λ (t : TestPlan). t.expect) in
    record {
      few_mutations = omega (arith, mutations, few);
      lines = lines ∙ sym mutations;
      few_tests = omega (arith, kinds, tests_few config p says);
      names = names ∙ sym kinds;
      expects = expects ∙ sym kinds;
      few_tags = tags_few config p says;
      meta = λ is. cc;
      format = refl;
      some_conflicts = within.0;
      few_conflicts = within.1;
      script = subst (λ (n : ℕ). script_fits n (length p.tags) s ≡ true) (names ∙ sym kinds) (script_fit p s r has);
      report = report_fit p s r has;
    }
