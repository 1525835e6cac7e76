-- The mutations of a project: of the sites that its modes have at a netlist, as many as it asks for, picked by its seed.
use Rattle.std.specs.Prelude.{ℕ, Bool, true, false, List, slice_get}
use Rattle.std.specs.List.{filter_map}
use Rattle.netlist_core.specs.declared.raw.RawNetlist.{RawNetlist}
use Rattle.project_file.specs.declared.project.ModeFlags.{ModeFlags}
use Rattle.project_file.specs.declared.project.Project.{Project}
use Rattle.mutation_sites.specs.declared.mode.ModeSet.{ModeSet}
use Rattle.mutation_sites.specs.declared.site.Site.{Site}
use Rattle.mutation_sites.specs.Sites.{sites}
use Rattle.mutation_sites.specs.Wiring.{span_at}
use Rattle.mutation_select.specs.declared.pick.Pick.{Pick}
use Rattle.mutation_select.specs.declared.pick.Pick.TheVariants.{Plain, Even}
use Rattle.mutation_select.specs.Draws.{drawn, generator}
use Rattle.mutation_select.specs.Selection.{kept, selected}

-- the modes that a project names
abbrev pub mode_set : ModeFlags → ModeSet
mode_set flags = record { inv = flags.inv; const0 = flags.const0; const1 = flags.const1; cnot0 = flags.cnot0; cnot1 = flags.cnot1 }

-- how it picks sites
abbrev pub pick_of : Bool → Pick
pick_of true = Even
pick_of false = Plain

-- the sites of its modes at a netlist
abbrev pub all_sites : Project → RawNetlist → List Site
all_sites project netlist = sites (mode_set project.modes) netlist

-- the sites of its mutations, in their order, where flags tell by their numbers which sites are left out
unfoldable pub picked_sites : Project → (omitted : List Bool) → RawNetlist → List Site
picked_sites project omitted netlist =
    filter_map (slice_get (all_sites project netlist)) (selected (pick_of project.even) project.size (kept omitted (drawn netlist (generator project.word_seed) 0 (all_sites project netlist))))

-- the file and the line of a site
abbrev pub site_line : RawNetlist → Site → ℕ × ℕ
site_line netlist site = ((span_at netlist site.place).file, (span_at netlist site.place).line)
