-- Files have one netlist or one fault.
use Rattle.std.proofs.Common.{◌≡◌, ℕ, List, inl, inr, sym, ap, subst, ◌∙◌}
use Rattle.mcy_base.specs.declared.file.SourceFile.{SourceFile}
use Rattle.netlist_core.specs.declared.raw.RawNetlist.{RawNetlist}
use Rattle.source_trees.proofs.OneAnswer.{faults_are_one as reading_once, modules_are_one, read_without_fault}
use Rattle.hier_once.proofs.OneAnswer.{elaborates, no_refusal, one_netlist, one_refusal}
pub use Rattle.hier_once.proofs.OneAnswer.{netlist_cells}
use Rattle.hier_once.specs.Elaborations.{Elaborates}
use Rattle.hier_once.specs.Refusals.{IsElabRefusal}
use Rattle.source_faults.specs.declared.fault.SourceError.{SourceError}
use Rattle.source_faults.specs.Faults.{elab_error, read_error}
use Rattle.project_sources.specs.declared.netlist.NetlistError.{NetlistError}
use Rattle.project_sources.specs.declared.netlist.NetlistError.TheVariants.{Source, Memory}
use Rattle.project_sources.specs.Netlists.{HasNetlist, HasNoNetlist, IsNetlistOf, AreUnread, IsUnmade}

pub netlist_is_one : (files : List SourceFile) (top : List ℕ) (n m : RawNetlist) → IsNetlistOf files top n → IsNetlistOf files top m → n ≡ m
netlist_is_one files top n m h k =
    let modules = modules_are_one files k.modules h.modules k.read h.read in
    one_netlist h.modules top n m h.elaborates (subst (λ ms. Elaborates ms top m) modules k.elaborates)

pub netlist_of : (files : List SourceFile) (top : List ℕ) (n : RawNetlist) → HasNetlist files top n → IsNetlistOf files top n
netlist_of files top n h = record { modules = h.modules; read = h.read; elaborates = elaborates h.modules top n h.elaborated }

pub netlists_are_one : (files : List SourceFile) (top : List ℕ) (n m : RawNetlist) → HasNetlist files top n → HasNetlist files top m → n ≡ m
netlists_are_one files top n m h k = netlist_is_one files top n m (netlist_of files top n h) (netlist_of files top m k)

pub netlist_without_fault : (files : List SourceFile) (top : List ℕ) (n : RawNetlist) (e : SourceError) → HasNetlist files top n → ¬ HasNoNetlist files top e
netlist_without_fault files top n e has (inl h) = h.found (read_without_fault files has.modules h.fault has.read h.unread)
netlist_without_fault files top n e has (inr h) =
    let modules = modules_are_one files h.modules has.modules h.read has.read in
    h.found (no_refusal has.modules top n h.fault has.elaborated (subst (λ ms. IsElabRefusal ms top h.fault) modules h.refused))

pub faults_are_one : (files : List SourceFile) (top : List ℕ) (x y : SourceError) → HasNoNetlist files top x → HasNoNetlist files top y → x ≡ y
faults_are_one files top x y (inl h) (inl k) = h.is ∙ ap (read_error files) (reading_once files h.fault k.fault h.unread k.unread h.found k.found) ∙ sym k.is
faults_are_one files top x y (inl h) (inr k) = absurd (h.found (read_without_fault files k.modules h.fault k.read h.unread))
faults_are_one files top x y (inr h) (inl k) = absurd (k.found (read_without_fault files h.modules k.fault h.read k.unread))
faults_are_one files top x y (inr h) (inr k) =
    let modules = modules_are_one files k.modules h.modules k.read h.read in
    let refused = subst (λ ms. IsElabRefusal ms top k.fault) modules k.refused in
    h.is ∙ ap (elab_error files) (one_refusal h.modules top h.fault k.fault h.found k.found h.refused refused) ∙ sym k.is

pub unread_unmade : (files : List SourceFile) (top : List ℕ) (e : NetlistError) → AreUnread files e → IsUnmade files top e
unread_unmade files top (Source error) h = inl h
unread_unmade files top Memory h = tt
