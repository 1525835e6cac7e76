-- The cells that are skipped are told in one way, each cell of the netlist by a flag.
use Rattle.std.proofs.Common.{◌≡◌, ℕ, ◌≤◌, Bool, List, [], ◌∷◌, length, refl, sym, ap, ◌∙◌, subst, arith}
use Rattle.std.proofs.lemmas.List.{length-map}
use Rattle.mcy_base.specs.declared.file.SourceFile.{SourceFile}
use Rattle.netlist_core.specs.declared.raw.RawNetlist.{RawNetlist}
use Rattle.vlog_syntax.specs.declared.module.Module.{Module}
use Rattle.source_trees.proofs.OneAnswer.{modules_are_one}
use Rattle.hier_once.specs.Elaborations.{laid}
use Rattle.hier_once.specs.Accepted.{IsElaborated}
use Rattle.cell_scopes.specs.Scopes.{AreSkipped, HasScopes, cell_scopes}
use Rattle.cell_scopes.proofs.Scoped.{all_scoped, scopes_are_one, skipped_count, skipped_once}
use Rattle.project_sources.specs.Skipped.{CellsAreTold, HasSkipped, SkipsCells, SkipsOnce}

found_once : (files : List SourceFile) (top : List ℕ) (instances : List (List ℕ)) (flags other : List Bool) → HasSkipped files top instances flags → HasSkipped files top instances other → flags ≡ other
found_once files top instances flags other h k =
    let modules = modules_are_one files k.modules h.modules k.read h.read in
    skipped_once h.modules top instances flags other h.skipped (subst (λ (ms : List Module). AreSkipped ms top instances other) modules k.skipped)

pub skips_once : SkipsOnce
skips_once files top [] flags other h k = h ∙ sym k
skips_once files top (instance ∷ more) flags other h k = found_once files top (instance ∷ more) flags other h k

-- Nothing is told where no instance is named.

pub skips_none : (files : List SourceFile) (top : List ℕ) (instances : List (List ℕ)) (flags : List Bool) → length instances ≤ 0 → flags ≡ [] → SkipsCells files top instances flags
skips_none files top [] flags none is = is
skips_none files top (instance ∷ more) flags none is = absurd (omega (arith, none))

pub skips_found : (files : List SourceFile) (top : List ℕ) (instances : List (List ℕ)) (flags : List Bool) → 1 ≤ length instances → HasSkipped files top instances flags → SkipsCells files top instances flags
skips_found files top [] flags some has = absurd (omega (arith, some))
skips_found files top (instance ∷ more) flags some has = has

-- a netlist has a scope for each cell
scopes_count : (modules : List Module) (top : List ℕ) (scopes : List (List ℕ)) (netlist : RawNetlist) → IsElaborated modules top netlist → HasScopes modules top scopes → length scopes ≡ length netlist.cells
scopes_count modules top scopes netlist h s =
    let flat = h.source.flat in
    let built = h.has_netlist in
    let same : scopes ≡ cell_scopes flat = scopes_are_one modules top scopes (cell_scopes flat) s (record { flat = flat; flattens = h.is_source.flattens; are = refl }) in
    let last = laid h.source built.is.first in
    let count : length (cell_scopes flat) ≡ length last.cells = all_scoped flat h.source.flags built.is.first last built.is.begins built.builds.all in
    let kept : length netlist.cells ≡ length last.cells = ap length built.is.ends.cells ∙ length-map last.cells _ in
    ap length same ∙ count ∙ sym kept

pub cells_are_told : CellsAreTold
cells_are_told files top instances flags netlist h k =
    let modules = modules_are_one files k.modules h.modules k.read h.read in
    let skipped : AreSkipped h.modules top instances flags = subst (λ (ms : List Module). AreSkipped ms top instances flags) modules k.skipped in
    skipped_count h.modules top instances flags skipped ∙ scopes_count h.modules top skipped.scopes netlist h.elaborated skipped.has_scopes
