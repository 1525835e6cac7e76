-- The cells of a design's files that are within instances, and the laws of them.
use Rattle.std.specs.Prelude.{◌≡◌, ℕ, Bool, List, [], ◌∷◌, length}
use Rattle.mcy_base.specs.declared.file.SourceFile.{SourceFile}
use Rattle.netlist_core.specs.declared.raw.RawNetlist.{RawNetlist}
use Rattle.vlog_syntax.specs.declared.module.Module.{Module}
use Rattle.source_trees.specs.Files.{AreRead}
use Rattle.cell_scopes.specs.Scopes.{AreSkipped}
use Rattle.project_sources.specs.Netlists.{HasNetlist}

-- The files are modules, and for each cell of their design with the top of this name, whether it is within one of these instances.
pub record HasSkipped (files : List SourceFile) (top : List ℕ) (instances : List (List ℕ)) (flags : List Bool) : Type 0 where
  pub modules : List Module
  pub read : AreRead files modules
  pub skipped : AreSkipped modules top instances flags

-- the same, but nothing is told where no instance is named
abbrev pub SkipsCells : List SourceFile → (top : List ℕ) → (instances : List (List ℕ)) → (flags : List Bool) → Type 0
SkipsCells files top [] flags = flags ≡ []
SkipsCells files top (instance ∷ more) flags = HasSkipped files top (instance ∷ more) flags

-- The flags of the same files, top and instances are the same.
abbrev pub SkipsOnce : Type 0
SkipsOnce = (files : List SourceFile) (top : List ℕ) (instances : List (List ℕ)) (flags other : List Bool) → SkipsCells files top instances flags → SkipsCells files top instances other → flags ≡ other

-- There is a flag for each cell of the netlist.
abbrev pub CellsAreTold : Type 0
CellsAreTold = (files : List SourceFile) (top : List ℕ) (instances : List (List ℕ)) (flags : List Bool) (netlist : RawNetlist) → HasNetlist files top netlist → HasSkipped files top instances flags → length flags ≡ length netlist.cells
