-- The sites that a project leaves out: those that are not on the lines that it names, and those within the instances that it skips.
use Rattle.std.specs.Prelude.{ℕ, Bool, true, false, not, ◌&&◌, ◌||◌, List, [], ◌∷◌, Option, None, Some, bytes_eq, map, nat_le, slice_get, slice_index_or}
use Rattle.std.specs.List.{list_all, list_any}
use Rattle.netlist_core.specs.declared.port.Register.{Register as Flop}
use Rattle.netlist_core.specs.declared.raw.RawNetlist.{RawNetlist}
use Rattle.project_file.specs.declared.project.LineRange.{LineRange}
use Rattle.project_file.specs.declared.project.Project.{Project}
use Rattle.project_file.specs.Projects.{design_files}
use Rattle.mutation_sites.specs.declared.site.Place.{Place}
use Rattle.mutation_sites.specs.declared.site.Place.TheVariants.{Cell, Register}
use Rattle.mutation_sites.specs.declared.site.Site.{Site}
use Rattle.mutation_sites.specs.Wiring.{span_at}
use Rattle.project_options.specs.Instances.{is_within_some}
use Rattle.campaign_choice.specs.Mutations.{all_sites}

-- a line of a file is among these lines
abbrev pub is_on : (file : List ℕ) → (line : ℕ) → LineRange → Bool
is_on file line range = bytes_eq range.file file && (nat_le range.from line && nat_le line range.to)

-- it is on lines that are asked for: on any where none are named
abbrev pub is_asked : List LineRange → (file : List ℕ) → (line : ℕ) → Bool
is_asked [] file line = true
is_asked (range ∷ more) file line = list_any (is_on file line) (range ∷ more)

-- the name of a file of the design, by its number
abbrev pub file_at : List (List ℕ) → ℕ → List ℕ
file_at files number = slice_index_or files number []

abbrev pub register_name : Option Flop → List ℕ
register_name None = []
register_name (Some register) = register.name

-- A place of the netlist is within an instance that is skipped: a cell where its flag is set, a register by the name of its signal.
abbrev pub is_within : (instances : List (List ℕ)) → (skipped : List Bool) → RawNetlist → Place → Bool
is_within instances skipped netlist (Cell c) = slice_index_or skipped c false
is_within instances skipped netlist (Register r) = is_within_some instances (register_name (slice_get netlist.registers r))

-- a site is left out, where flags tell of each cell whether it is within an instance that is skipped
abbrev pub is_omitted : Project → (skipped : List Bool) → RawNetlist → Site → Bool
is_omitted project skipped netlist site =
    not (is_asked project.only (file_at (design_files project) (span_at netlist site.place).file) (span_at netlist site.place).line) || is_within project.skip skipped netlist site.place

-- for each site of the project's modes, whether it is left out
abbrev pub omitted_sites : Project → (skipped : List Bool) → RawNetlist → List Bool
omitted_sites project skipped netlist = map (is_omitted project skipped netlist) (all_sites project netlist)

-- there are sites, and all are left out
abbrev pub lacks_sites : (omitted : List Bool) → Bool
lacks_sites [] = false
lacks_sites (is ∷ more) = list_all (λ (flag : Bool). flag) (is ∷ more)
