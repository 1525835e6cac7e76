-- The campaign of a project and its sources, as a book keeps it and the texts tell it.
use Rattle.std.specs.Prelude.{ℕ, List, ◌∷◌, ◌++◌, map, codes}
use Rattle.mcy_base.specs.declared.file.SourceFile.{SourceFile}
use Rattle.project_file.specs.declared.project.Project.{Project}
use Rattle.netlist_core.specs.declared.raw.RawNetlist.{RawNetlist}
use Rattle.result_book.specs.declared.campaign.Campaign.{Campaign}
use Rattle.tag_script.specs.declared.script.Script.{Script}
use Rattle.report_script.specs.declared.report.Report.{Report}
use Rattle.campaign_choice.specs.Projects.{test_kinds, test_names}
use Rattle.mutation_sites.specs.declared.site.Site.{Site}
use Rattle.mutation_sites.specs.SiteTexts.{site_text}
use Rattle.campaign_choice.specs.Mutations.{site_line}

-- what a book keeps of a file: its name and its bytes
abbrev pub file_item : SourceFile → List ℕ
file_item file = file.name ++ (codes "\n" ++ file.bytes)

-- what a book keeps of the project and its sources: the number of the format in which books are begun, the project's bytes,
-- and each source (docs/FORMATS.md)
abbrev pub meta_of : List ℕ → List SourceFile → List (List ℕ)
meta_of config files = codes "2" ∷ config ∷ map file_item files

-- the files' names
abbrev pub names_of : List SourceFile → List (List ℕ)
names_of files = map (λ file. file.name) files

-- The campaign of a project and its sources, whose mutations are at these sites of the netlist.
abbrev pub campaign_of : List ℕ → Project → Script → Report → List SourceFile → RawNetlist → List Site → Campaign
campaign_of config project script report files netlist sites = record {
  meta = meta_of config files;
  mutations = map (site_text netlist (names_of files)) sites;
  lines = map (site_line netlist) sites;
  test_names = test_names project;
  kinds = test_kinds project;
  expect = map (λ test. test.expect) project.tests;
  tags = project.tags;
  script = script;
  report = report;
  conflicts = project.conflicts;
}
