-- The connections of an instance, one part behind the other.
use Rattle.tb_items.proofs.Common.{◌≡◌, ℕ, List, ◌++◌, ap, ◌∙◌, append_assoc, flat_map, Option, Identifier, clock_missing, connections, taken, wire_items}
use Rattle.vlog_syntax.specs.declared.item.Instance.{Instance}
use Rattle.flat_scopes.specs.declared.opening.Placing.{Placing}
use Rattle.flat_scopes.specs.declared.wire.Wire.{Wire}
use Rattle.flat_scopes.specs.Wires.{wires_of}
use Rattle.tb_items.specs.declared.design.Design.{Design}
use Rattle.tb_items.specs.declared.item.BenchItem.{BenchItem}

pub connected : (d : Design) (clock : Option (List ℕ)) (x : Placing) (i : Instance) (m : Identifier) (ws us vs : List Wire) (old first second new : List BenchItem) → i ≡ x.instance → m ≡ x.module_name → ws ≡ wires_of d.ports i → us ≡ ws → vs ≡ ws
    → first ≡ old ++ clock_missing d.clock m.span us → second ≡ first ++ taken x → new ≡ second ++ flat_map (wire_items d clock i.name) vs → new ≡ old ++ connections d clock x
connected d clock x i m ws us vs old first second new p q w u v e f g =
    let all = wires_of d.ports x.instance in
    let wires : ws ≡ all = w ∙ ap (wires_of d.ports) p in
    let missing = clock_missing d.clock x.module_name.span all in
    let rest = flat_map (wire_items d clock x.instance.name) all in
    let one : first ≡ old ++ missing = e ∙ ap (λ (l : List Wire). old ++ clock_missing d.clock m.span l) (u ∙ wires) ∙ ap (λ (n : Identifier). old ++ clock_missing d.clock n.span all) q in
    let last : new ≡ second ++ rest = g ∙ ap (λ (l : List Wire). second ++ flat_map (wire_items d clock i.name) l) (v ∙ wires) ∙ ap (λ (n : Instance). second ++ flat_map (wire_items d clock n.name) all) p in
    last ∙ ap (λ (l : List BenchItem). l ++ rest) (f ∙ ap (λ (l : List BenchItem). l ++ taken x) one) ∙ append_assoc (old ++ missing) (taken x) rest ∙ append_assoc old missing (taken x ++ rest)
