-- Refusals before the end, and the source of modules.
use Rattle.elab_hier.proofs.Common.{◌≡◌, inl, inr, ℕ, Bool, List, Option, Some, length, sym, ap, subst, IfErr, IfOk, slice_get, Result, IfErr-weaker, IfOk-weaker, RawNetlist, Identifier, ports_of}
use Rattle.elab_hier.proofs.Common.{Flat, module_at, IsTop, IsSound, ElabError, AreFlags, IsSource, all_inputs, Elaborates, IsElaborated, IsElabRefusal, RefusesSource, full, item, refused, short}
use Rattle.elab_hier.proofs.Common.{turns, IsNetlistOf, IsNotBuilt, IsRefusalOf, source_of}
use Rattle.netlist_core.specs.Checked.{Plan}
use Rattle.vlog_syntax.specs.declared.module.Module.{Module}
use Rattle.flat_items.specs.Replacing.{FlattensTop}
use Rattle.flat_laws.proofs.Flattened.{flattened_sound}

pub not_built : (flat : Flat) (ports : List Identifier) (flags : List Bool) (top : List ℕ) (error : ElabError) → AreFlags (length flat.signals) (all_inputs flat ports) flags → IsNotBuilt flat flags error → IsRefusalOf flat ports top error
not_built flat ports flags top error are (inl (inl h)) = inl (record { flags = flags; are_flags = are; refuses = subst (RefusesSource (source_of flat ports flags) top) (sym h.1) (full h.0) })
not_built flat ports flags top error are (inl (inr e)) = inr e
not_built flat ports flags top error are (inr (inl h)) = inl (record { flags = flags; are_flags = are; refuses = item error h })
not_built flat ports flags top error are (inr (inr h)) = inl (record { flags = flags; are_flags = are; refuses = turns error h })

-- the modules are flattened from the module that was found
same_some : {A : Type 0} (o : Option A) (x y : A) → o ≡ Some x → o ≡ Some y → x ≡ y
same_some {A = A} o x y a b = cc

ports_found : (modules : List Module) (top : List ℕ) (flat : Flat) (m : Module) (h : FlattensTop modules top flat) → IsTop modules top m → ports_of m.ports ≡ ports_of h.design.m.ports
ports_found modules top flat m h is =
    let number : is.0 ≡ h.number = same_some (module_at modules top) is.0 h.number is.1 h.named in
    let found : slice_get modules h.number ≡ Some m = subst (λ (n : ℕ). slice_get modules n ≡ Some m) number is.2 in
    ap (λ (x : Module). ports_of x.ports) (same_some (slice_get modules h.number) m h.design.m found h.design.numbered)

pub source_found : (modules : List Module) (top : List ℕ) (flat : Flat) (m : Module) (flags : List Bool) → FlattensTop modules top flat → IsTop modules top m
    → AreFlags (length flat.signals) (all_inputs flat (ports_of m.ports)) flags → IsSource modules top (source_of flat (ports_of m.ports) flags)
source_found modules top flat m flags h is are = record { flattens = h; ports = ports_found modules top flat m h is; flags = are }

pub elaborated : (modules : List Module) (top : List ℕ) (flat : Flat) (m : Module) (netlist : RawNetlist) → FlattensTop modules top flat → IsTop modules top m → IsNetlistOf flat (ports_of m.ports) top netlist → IsElaborated modules top netlist
elaborated modules top flat m netlist h is n = record {
  source = source_of flat (ports_of m.ports) n.flags;
  is_source = source_found modules top flat m n.flags h is n.are_flags;
  has_netlist = n.has_netlist;
}

-- what is elaborated is the netlist of the modules
pub elaborates : (modules : List Module) (top : List ℕ) (netlist : RawNetlist) → IsElaborated modules top netlist → Elaborates modules top netlist
elaborates modules top netlist h = record { source = h.source; is_source = h.is_source; has_netlist = h.has_netlist.is }

pub not_elaborated : (modules : List Module) (top : List ℕ) (flat : Flat) (m : Module) (error : ElabError) → FlattensTop modules top flat → IsTop modules top m → IsRefusalOf flat (ports_of m.ports) top error → IsElabRefusal modules top error
not_elaborated modules top flat m error h is (inl r) = refused (source_of flat (ports_of m.ports) r.flags) error (source_found modules top flat m r.flags h is r.are_flags) r.refuses
not_elaborated modules top flat m error h is (inr e) = subst (IsElabRefusal modules top) (sym e) short

-- The call's result.

pub flat_sound : (modules : List Module) (top : List ℕ) (flat : Flat) → FlattensTop modules top flat → IsSound flat
flat_sound = flattened_sound

pub all_elaborated : (modules : List Module) (top : List ℕ) (flat : Flat) (m : Module) (r : Result Plan ElabError) → FlattensTop modules top flat → IsTop modules top m → IfOk r (λ n. IsNetlistOf flat (ports_of m.ports) top n.raw) → IfOk r (λ n. IsElaborated modules top n.raw)
all_elaborated modules top flat m r h is given = IfOk-weaker r _ _ (λ n of_flat. elaborated modules top flat m n.raw h is of_flat) given

pub all_have : (modules : List Module) (top : List ℕ) (r : Result Plan ElabError) → IfOk r (λ n. IsElaborated modules top n.raw) → IfOk r (λ n. Elaborates modules top n.raw)
all_have modules top r given = IfOk-weaker r _ _ (λ n h. elaborates modules top n.raw h) given

pub none_elaborated : (modules : List Module) (top : List ℕ) (flat : Flat) (m : Module) (r : Result Plan ElabError) → FlattensTop modules top flat → IsTop modules top m → IfErr r (IsRefusalOf flat (ports_of m.ports) top) → IfErr r (IsElabRefusal modules top)
none_elaborated modules top flat m r h is given = IfErr-weaker r _ _ (λ e of_flat. not_elaborated modules top flat m e h is of_flat) given
