-- Laws of what a project asks for: the sites that are picked, and what a book keeps of them.
use Rattle.std.specs.Prelude.{ℕ, ◌≤◌, Bool, List, length}
use Rattle.mcy_base.specs.declared.file.SourceFile.{SourceFile}
use Rattle.netlist_core.specs.declared.raw.RawNetlist.{RawNetlist}
use Rattle.mutation_sites.specs.declared.site.Site.{Site}
use Rattle.project_file.specs.declared.project.Project.{Project}
use Rattle.project_file.specs.Projects.{IsProject}
use Rattle.tag_script.specs.declared.script.Script.{Script}
use Rattle.report_script.specs.declared.report.Report.{Report}
use Rattle.result_book.specs.Campaigns.{IsFit}
use Rattle.campaign_choice.specs.Campaigns.{campaign_of}
use Rattle.campaign_choice.specs.Mutations.{picked_sites}
use Rattle.campaign_choice.specs.Projects.{HasScripts}

-- No more sites are picked than the project asks for.
abbrev pub PicksAreFew : Type 0
PicksAreFew = (project : Project) (omitted : List Bool) (netlist : RawNetlist) → length (picked_sites project omitted netlist) ≤ project.size

-- A book can keep the campaign of a project and its scripts at no more sites than it asks for.
abbrev pub CampaignsFit : Type 0
CampaignsFit = (config : List ℕ) (project : Project) (script : Script) (report : Report) (files : List SourceFile) (netlist : RawNetlist) (sites : List Site)
    → IsProject config project → HasScripts project script report → length sites ≤ project.size → IsFit (campaign_of config project script report files netlist sites)
