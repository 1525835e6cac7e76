-- What is at hand while items are built: copies of the scopes, bits that wait, and which signals have a writer.
use Rattle.std.specs.Prelude.{◌≡◌, ◌⊎◌, ◌↔◌, ℕ, ◌<◌, Bool, IsTrue, List, [], length, slice_index_or}
use Rattle.std.specs.List.{Contains}
use Rattle.vlog_meaning.specs.declared.scope.Decl.{Decl}
use Rattle.vlog_meaning.specs.Scopes.{names_of}
use Rattle.net_builder.specs.Building.{Building}
use Rattle.elab_proc.specs.Refusals.{is_written}
use Rattle.process_cells.specs.Ready.{HasPlaces}
use Rattle.flat_instances.specs.Places.{Place}
use Rattle.elab_items.specs.declared.desk.Desk.{Desk}
use Rattle.elab_items.specs.Starts.{names_at}
use Rattle.elab_items.specs.Writers.{HasWriter, TellsWriters}

-- each scope has the names of the one of its number
abbrev pub AreCopies : List Place → List (List (List ℕ × Decl)) → Type 0
AreCopies places scopes = (k : ℕ) → k < length scopes → names_of (slice_index_or scopes k []) ≡ names_at places k

pub record Holds (places : List Place) (b : Building) (desk : Desk) : Type 0 where
  pub scopes : AreCopies places desk.scopes.items
  pub waiting : HasPlaces b desk.waiting

-- there is a flag for each signal, which tells whether it has a writer
pub record HasFlags (b : Building) (inputs written : List Bool) : Type 0 where
  pub count : length written ≡ length b.signals
  pub tells : TellsWriters b inputs written

pub record Serves (inputs : List Bool) (places : List Place) (b : Building) (desk : Desk) : Type 0 where
  pub holds : Holds places b desk
  pub flags : HasFlags b inputs desk.written.items

-- For proofs alone.

-- each flag that is set tells of a signal that has a writer
abbrev pub AreSound : Building → List Bool → List Bool → Type 0
AreSound b inputs written = (k : ℕ) → k < length b.signals → IsTrue (is_written written k) → HasWriter b inputs k

-- the flags of these signals tell of them again, and no other flag has changed
pub record AreRenewed (b : Building) (inputs : List Bool) (ks : List ℕ) (old new : List Bool) : Type 0 where
  pub count : length new ≡ length old
  pub each : (k : ℕ) → k < length b.signals → (IsTrue (is_written new k) ↔ HasWriter b inputs k) ⊎ ((¬ Contains ks k) × (is_written new k ≡ is_written old k))
