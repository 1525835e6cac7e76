-- The source of modules is one: its flags are those of its inputs, and its ports those of its top.
use Rattle.hier_once.proofs.Common.{◌≡◌, ℕ, Bool, true, false, IsTrue, List, length, refl, sym, ap, ◌∙◌, subst, slice_index_or, ext_get_or, Flat, Source, AreFlags, IsSource, all_inputs}
use Rattle.vlog_syntax.specs.declared.identifier.Identifier.{Identifier}
use Rattle.vlog_syntax.specs.declared.module.Module.{Module}
use Rattle.flat_scopes.specs.Wires.{ports_of}
use Rattle.flat_once.proofs.Flattened.{flattens_once, has_one_top}

flag_once : (x y : Bool) → (IsTrue x → IsTrue y) → (IsTrue y → IsTrue x) → x ≡ y
flag_once true true f g = refl
flag_once true false f g = sym (f refl)
flag_once false true f g = g refl
flag_once false false f g = refl

flags_once : (count : ℕ) (numbers : List ℕ) (xs ys : List Bool) → AreFlags count numbers xs → AreFlags count numbers ys → xs ≡ ys
flags_once count numbers xs ys h g = ext_get_or false xs ys (h.count ∙ sym g.count) (λ k within. flag_once (slice_index_or xs k false) (slice_index_or ys k false) (λ t. (g.set k).1 ((h.set k).0 t)) (λ t. (h.set k).1 ((g.set k).0 t)))

pub source_once : (modules : List Module) (top : List ℕ) (s t : Source) → IsSource modules top s → IsSource modules top t → s ≡ t
source_once modules top s t x y =
    let flat : s.flat ≡ t.flat = flattens_once modules top s.flat t.flat x.flattens y.flattens in
    let head : x.flattens.design.m ≡ y.flattens.design.m = has_one_top modules top s.flat t.flat x.flattens y.flattens in
    let ports : s.ports ≡ t.ports = x.ports ∙ ap (λ (m : Module). ports_of m.ports) head ∙ sym y.ports in
    let by_flat : AreFlags (length s.flat.signals) (all_inputs s.flat t.ports) t.flags = subst (λ (f : Flat). AreFlags (length f.signals) (all_inputs f t.ports) t.flags) (sym flat) y.flags in
    let there : AreFlags (length s.flat.signals) (all_inputs s.flat s.ports) t.flags = subst (λ (p : List Identifier). AreFlags (length s.flat.signals) (all_inputs s.flat p) t.flags) (sym ports) by_flat in
    let flags : s.flags ≡ t.flags = flags_once (length s.flat.signals) (all_inputs s.flat s.ports) s.flags t.flags x.flags there in
    λ i. record { flat = flat i; ports = ports i; flags = flags i }
