-- The values of signals stay within their widths where nets settle.
use Rattle.tb_once.proofs.Common.{◌≡◌, ℕ, zero, suc, ◌<◌, ◌≤◌, ◌^◌, false, List, [], ◌∷◌, map, length, slice_get, Option, Some, None, ap, sym, subst, ◌∙◌, refl, arith, slice_index, All, bit_at_above}
use Rattle.tb_once.proofs.Common.{Bit, RawNetlist, bits_at, plain, shown, Assignment, Names, IsWithin, Update, some_gives, Fits, Settles, Tree, all_fit, HasSignal, HasSignals, updates_fit, still}
use Rattle.tb_once.proofs.Common.{assign_updates, assigns_of, whole_updates, IsStore, power_le, Parts, names, widths, setting_of, IsRunnable, FitsDesign, AreValues}
use Rattle.vlog_meaning.specs.declared.scope.Decl.{Decl}
use Rattle.vlog_meaning.specs.declared.scope.Decl.TheVariants.{Signal, Constant}
use Rattle.tb_nets.specs.declared.node.NetNode.{NetNode}
use Rattle.tb_nets.specs.declared.node.NetNode.TheVariants as n
use Rattle.tb_once.proofs.Values.{not_given, none_given, none_past, below_from_bits}
use Rattle.std.proofs.lemmas.Option.{none-some}
use Rattle.tb_settling.proofs.Scenes.{some_widths, most_widths}

abbrev Updating : Type 0
Updating = ℕ → List ℕ → List Update

-- the updates among those of assigns are an assign's
is_assign : (seen : Names) (nodes : List NetNode) (j : ℕ) (f : Updating) → slice_get (assigns_of seen nodes) j ≡ Some f → (a : Assignment) × (Some (assign_updates seen a) ≡ Some f)
is_assign seen [] j f e = absurd (none-some f e)
is_assign seen (n.Assign a ∷ more) zero f e = (a, e)
is_assign seen (n.Assign a ∷ more) (suc j) f e = is_assign seen more j f e
is_assign seen (n.Design ∷ more) j f e = is_assign seen more j f e

some_same : (f g : Updating) → Some f ≡ Some g → f ≡ g
some_same f g e = cc

abbrev tail_of : List ℕ → List ℕ
tail_of [] = []
tail_of (x ∷ xs) = xs

assigns_past : (seen : Names) (sizes : List ℕ) → HasSignals seen sizes → (nodes : List NetNode) (phase : ℕ) (store : List ℕ) (k i j : ℕ) (f : Updating) → slice_get (assigns_of seen nodes) j ≡ Some f → slice_index sizes k ≤ i → some_gives (f phase store) k i ≡ false
assigns_past seen sizes has nodes phase store k i j f at past =
    let found = is_assign seen nodes j f at in
    let a : Assignment = found.0 in
    let us : List Update = assign_updates seen a phase store in
    let fits : All (Fits sizes) us = updates_fit seen sizes us has (all_fit seen phase a (λ m. slice_index store m) still) in
    ap (λ (g : Updating). some_gives (g phase store) k i) (sym (some_same (assign_updates seen a) f found.1)) ∙ none_past sizes us k i fits past

outputs_past : (sizes : List ℕ) (ks : List ℕ) (ports : List (List Bit)) (vs : List ℕ) (k i : ℕ) → map (slice_index sizes) ks ≡ map length ports → slice_index sizes k ≤ i → some_gives (whole_updates ks ports vs) k i ≡ false
outputs_past sizes [] ports vs k i same past = refl
outputs_past sizes (x ∷ ks) [] vs k i same past = refl
outputs_past sizes (x ∷ ks) (bits ∷ ports) [] k i same past = refl
outputs_past sizes (x ∷ ks) (bits ∷ ports) (v ∷ vs) k i same past =
    let u : Update = record { signal = x; low = 0; width = length bits; value = v } in
    let wide : slice_index sizes x ≡ length bits = ap (λ (l : List ℕ). slice_index l 0) same in
    let rest : map (slice_index sizes) ks ≡ map length ports = ap tail_of same in
    none_given u (whole_updates ks ports vs) k i (not_given u k i (λ here. let at : slice_index sizes k ≡ slice_index sizes x = ap (slice_index sizes) here in omega (arith, at, wide, past))) (outputs_past sizes ks ports vs k i rest past)

pub settled_values : (b : Parts) (tree : Tree) (netlist : RawNetlist) → IsRunnable b → FitsDesign b netlist → (phase : ℕ) (registers before after next : List ℕ) → AreValues (widths b) before → Settles (setting_of b tree netlist) phase registers before after next → AreValues (widths b) after
settled_values b tree netlist runs fits phase registers before after next values settles = record {
  long = settles.long ∙ values.long;
  within = λ k. below_from_bits (slice_index after k) (slice_index (widths b) k) (λ i past.
      settles.kept k i (λ j f at. assigns_past (names b) (widths b) runs.signals b.nets.nodes phase after k i j f at past) (outputs_past (widths b) b.outputs (bits_at netlist.outputs) (shown (plain settles.nets) netlist) k i fits.outputs past)
      ∙ bit_at_above (slice_index before k) (slice_index (widths b) k) i (values.within k) past);
}

-- such values are those of declared signals
decl_within : (sizes store : List ℕ) (d : Option Decl) → AreValues sizes store → HasSignal sizes d → IsWithin (λ m. slice_index store m) d
decl_within sizes store (Some (Signal width low is_signed number)) values has = subst (λ (m : ℕ). slice_index store number < 2 ^ m) has.1 (values.within number)
decl_within sizes store (Some (Constant value low is_signed)) values has = tt
decl_within sizes store None values has = tt

pub is_store : (b : Parts) → IsRunnable b → (store : List ℕ) → AreValues (widths b) store → IsStore (names b) (widths b) store
is_store b runs store values = record {
  long = values.long;
  some = some_widths b.starts;
  most = most_widths b.starts;
  within = λ name. decl_within (widths b) store (names b name) values (runs.signals name);
  narrow = λ k.
      let most : 2 ^ slice_index (widths b) k ≤ 2 ^ 128 = power_le (slice_index (widths b) k) 128 (most_widths b.starts k) in
      omega (arith, values.within k, most);
}
