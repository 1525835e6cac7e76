-- A turn of the pass: one node more has settled.
use Rattle.tb_settling.proofs.Common.{◌≡◌, zero, suc, ℕ, ◌+◌, ◌<◌, List, [], ◌∷◌, map, length, take, get_or, slice_get, Option, Some, None, sym, ap, ◌∙◌, subst, arith, slice_index, Plan, bits_at}
use Rattle.tb_settling.proofs.Common.{Simulated, settled_nets, Assignment, Names, World, assigned, all_applied, HasSignals, Transfer, NetNode, Assign, Design, Nets, CanSettle, Situation, situation}
use Rattle.tb_settling.proofs.Common.{PortsFit, IsSide, IsOfNode, node_updates, IsCycleOf, IsStore, HaveSettled}
use Rattle.tb_plans.specs.Plans.{AreNetPlans}
use Rattle.tb_settling.proofs.Passing.{side_of, next_settled}

item_at : {A : Type 0} (items : List A) (k : ℕ) (item : A) → item ≡ get_or items k item → k < length items → slice_get items k ≡ Some item
item_at [] k item is h = absurd (omega arith)
item_at (x ∷ xs) zero item is h = ap Some (sym is)
item_at (x ∷ xs) (suc k) item is h = item_at xs k item is (omega arith)

of_node : (names : Names) (nodes : List NetNode) (plans : List (Option Transfer)) → AreNetPlans names nodes plans → (k : ℕ) (node : NetNode) (plan : Option Transfer) → slice_get nodes k ≡ Some node → slice_get plans k ≡ Some plan → IsOfNode names node plan
of_node names nodes plans are k (Assign a) (Some t) at planned = are.each k a t at planned
of_node names nodes plans are k (Assign a) None at planned = tt
of_node names nodes plans are k Design plan at planned = tt

same_situation : (names : Names) (inputs outputs : List ℕ) (phase : ℕ) (a b : Simulated) → a.plan ≡ b.plan → a.registers ≡ b.registers → situation names inputs outputs phase a ≡ situation names inputs outputs phase b
same_situation names inputs outputs phase a b plan registers =
    let by_plan : Plan → Situation = λ p. record { names = names; inputs = inputs; outputs = outputs; phase = phase; netlist = p.raw; registers = a.registers } in
    let by_registers : List ℕ → Situation = λ r. record { names = names; inputs = inputs; outputs = outputs; phase = phase; netlist = b.plan.raw; registers = r } in
    ap by_plan plan ∙ ap by_registers registers

-- What the pass keeps.
pub record Passed (names : Names) (inputs outputs : List ℕ) (phase : ℕ) (first : Simulated) (scene : World) (nets : Nets) (k : ℕ) (sim : Simulated) (now : World) : Type 0 where
  pub is : IsStore names now.widths now.store
  pub settled : HaveSettled (situation names inputs outputs phase first) nets.nodes (take k nets.order) (settled_nets sim) scene.store now.store
  pub scene_is : now ≡ record scene { store = now.store }
  pub plan : sim.plan ≡ first.plan
  pub registers : sim.registers ≡ first.registers

module _ (names : Names) (inputs outputs : List ℕ) (phase : ℕ) (first : Simulated) (scene : World) (nets : Nets) (can : CanSettle names scene.widths inputs outputs nets) (signals : HasSignals names scene.widths) (entered : map (slice_index scene.widths) inputs ≡ map length (bits_at first.plan.raw.inputs)) (shows : map (slice_index scene.widths) outputs ≡ map length (bits_at first.plan.raw.outputs)) where
  pub first_ports : PortsFit scene.widths inputs (bits_at first.plan.raw.inputs)
  first_ports = record { widths_are = entered; known = can.entered }

  pub first_shows : PortsFit scene.widths outputs (bits_at first.plan.raw.outputs)
  first_shows = record { widths_are = shows; known = can.shown }

  module _ (k : ℕ) (sim : Simulated) (now : World) (p : Passed names inputs outputs phase first scene nets k sim now) where
    pub widths_same : now.widths ≡ scene.widths
    widths_same = ap (λ (w : World). w.widths) p.scene_is

    pub still_signals : HasSignals names now.widths
    still_signals = subst (HasSignals names) (sym widths_same) signals

    pub still_entered : PortsFit now.widths inputs (bits_at sim.plan.raw.inputs)
    still_entered = subst (λ (l : List ℕ). PortsFit l inputs (bits_at sim.plan.raw.inputs)) (sym widths_same) (subst (λ (q : Plan). PortsFit scene.widths inputs (bits_at q.raw.inputs)) (sym p.plan) first_ports)

    pub still_shown : PortsFit now.widths outputs (bits_at sim.plan.raw.outputs)
    still_shown = subst (λ (l : List ℕ). PortsFit l outputs (bits_at sim.plan.raw.outputs)) (sym widths_same) (subst (λ (q : Plan). PortsFit scene.widths outputs (bits_at q.raw.outputs)) (sym p.plan) first_shows)

    module _ (nodes : List NetNode) (order : List ℕ) (nodes_are : nodes ≡ nets.nodes) (order_is : order ≡ nets.order) (inside : k < length order) where
      pub place_inside : slice_index order k < length nodes
      place_inside =
          let below : slice_index nets.order k < length nets.nodes = (can.settled.order.places k (subst (λ (l : List ℕ). k < length l) order_is inside)).ready.node in
          subst (λ (l : List NetNode). slice_index order k < length l) (sym nodes_are) (subst (λ (l : List ℕ). slice_index l k < length nets.nodes) (sym order_is) below)

      module _ (plans : List (Option Transfer)) (planned : AreNetPlans names nets.nodes plans) where
        pub plan_inside : slice_index order k < length plans
        plan_inside = subst (λ (n : ℕ). slice_index order k < n) (ap (λ (l : List NetNode). length l) nodes_are ∙ sym planned.long) place_inside

      module _ (node : NetNode) (is_node : node ≡ get_or nodes (slice_index order k) node) where
        at_place : slice_get nets.nodes (slice_index nets.order k) ≡ Some node
        at_place = subst (λ (l : List ℕ). slice_get nets.nodes (slice_index l k) ≡ Some node) order_is (subst (λ (l : List NetNode). slice_get l (slice_index order k) ≡ Some node) nodes_are (item_at nodes (slice_index order k) node is_node place_inside))

        pub has_side : IsSide names node
        has_side = side_of names scene.widths inputs outputs nets can (slice_index nets.order k) node at_place

        pub has_plan : (plans : List (Option Transfer)) → AreNetPlans names nets.nodes plans → (plan : Option Transfer) → plan ≡ get_or plans (slice_index order k) plan → IsOfNode names node plan
        has_plan plans planned plan is_plan =
            let there : slice_get plans (slice_index nets.order k) ≡ Some plan = subst (λ (l : List ℕ). slice_get plans (slice_index l k) ≡ Some plan) order_is (item_at plans (slice_index order k) plan is_plan (plan_inside plans planned)) in
            of_node names nets.nodes plans planned (slice_index nets.order k) node plan at_place there

        pub turned : (after : Simulated) (next : World) → IsCycleOf (situation names inputs outputs phase sim) (settled_nets after) now.store node → next ≡ assigned now (node_updates (situation names inputs outputs phase sim) (settled_nets after) now.store node) → ((a : Assignment) → node ≡ Assign a → settled_nets after ≡ settled_nets sim) → after.plan ≡ sim.plan → after.registers ≡ sim.registers → IsStore names next.widths next.store → Passed names inputs outputs phase first scene nets (k + 1) after next
        turned after next cycle goes other plan registers is_next =
            let s : Situation = situation names inputs outputs phase first in
            let same : situation names inputs outputs phase sim ≡ s = same_situation names inputs outputs phase sim first p.plan p.registers in
            let cycle_too : IsCycleOf s (settled_nets after) now.store node = subst (λ (t : Situation). IsCycleOf t (settled_nets after) now.store node) same cycle in
            let goes_too : next ≡ assigned now (node_updates s (settled_nets after) now.store node) = subst (λ (t : Situation). next ≡ assigned now (node_updates t (settled_nets after) now.store node)) same goes in
            let store_is : next.store ≡ all_applied now.store (node_updates s (settled_nets after) now.store node) = ap (λ (w : World). w.store) goes_too in
            let widths_next : next.widths ≡ scene.widths = ap (λ (w : World). w.widths) goes_too ∙ widths_same in
            let is_now : IsStore names scene.widths now.store = subst (λ (l : List ℕ). IsStore names l now.store) widths_same p.is in
            let is_after : IsStore names scene.widths next.store = subst (λ (l : List ℕ). IsStore names l next.store) widths_next is_next in
            let within : k < length nets.order = subst (λ (l : List ℕ). k < length l) order_is inside in
            let rest : World → World = λ w. record w { store = next.store } in
            record {
              is = is_next;
              settled = next_settled s nets scene.widths can signals first_ports first_shows k within node at_place (settled_nets sim) (settled_nets after) now.store next.store is_now is_after store_is other cycle_too scene.store p.settled;
              scene_is = ap rest goes_too ∙ ap rest p.scene_is;
              plan = plan ∙ p.plan;
              registers = registers ∙ p.registers;
            }
