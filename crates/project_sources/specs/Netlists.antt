-- The netlist of a design's files, and why they have none.
use Rattle.std.specs.Prelude.{◌≡◌, ◌≢◌, ◌⊎◌, ℕ, List, ⊤}
use Rattle.mcy_base.specs.declared.file.SourceFile.{SourceFile}
use Rattle.netlist_core.specs.declared.raw.RawNetlist.{RawNetlist}
use Rattle.vlog_syntax.specs.declared.module.Module.{Module}
use Rattle.source_trees.specs.declared.error.ReadError.{ReadError}
use Rattle.source_trees.specs.declared.error.ReadError.TheVariants.{Memory as NotRead}
use Rattle.source_trees.specs.Files.{AreRead}
use Rattle.source_trees.specs.Faults.{IsUnread}
use Rattle.hier_once.specs.ElabError.{ElabError}
use Rattle.hier_once.specs.ElabError.TheVariants.{Memory as NotElaborated}
use Rattle.hier_once.specs.Elaborations.{Elaborates}
use Rattle.hier_once.specs.Accepted.{IsElaborated}
use Rattle.hier_once.specs.Refusals.{IsElabRefusal}
use Rattle.source_faults.specs.declared.fault.SourceError.{SourceError}
use Rattle.source_faults.specs.Faults.{elab_error, read_error}
use Rattle.project_sources.specs.declared.netlist.NetlistError.{NetlistError}
use Rattle.project_sources.specs.declared.netlist.NetlistError.TheVariants.{Source, Memory}

-- The files are modules, and this is their netlist with the top of this name.
pub record IsNetlistOf (files : List SourceFile) (top : List ℕ) (netlist : RawNetlist) : Type 0 where
  pub modules : List Module
  pub read : AreRead files modules
  pub elaborates : Elaborates modules top netlist

-- So it is, and nothing in them is refused.
pub record HasNetlist (files : List SourceFile) (top : List ℕ) (netlist : RawNetlist) : Type 0 where
  pub modules : List Module
  pub read : AreRead files modules
  pub elaborated : IsElaborated modules top netlist

-- the files are no modules
pub record HasNoModules (files : List SourceFile) (error : SourceError) : Type 0 where
  pub fault : ReadError
  pub found : fault ≢ NotRead
  pub unread : IsUnread files fault
  pub is : error ≡ read_error files fault

-- why the modules are not given
abbrev pub AreUnread : List SourceFile → NetlistError → Type 0
AreUnread files (Source error) = HasNoModules files error
AreUnread files Memory = ⊤

-- their modules are no design with this top
pub record HasNoDesign (files : List SourceFile) (top : List ℕ) (error : SourceError) : Type 0 where
  pub modules : List Module
  pub read : AreRead files modules
  pub fault : ElabError
  pub found : fault ≢ NotElaborated
  pub refused : IsElabRefusal modules top fault
  pub is : error ≡ elab_error files fault

-- why the files have no netlist
abbrev pub HasNoNetlist : List SourceFile → List ℕ → SourceError → Type 0
HasNoNetlist files top error = HasNoModules files error ⊎ HasNoDesign files top error

-- why no netlist is given
abbrev pub IsUnmade : List SourceFile → List ℕ → NetlistError → Type 0
IsUnmade files top (Source error) = HasNoNetlist files top error
IsUnmade files top Memory = ⊤
