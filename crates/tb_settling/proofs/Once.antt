-- What nets settle to is determined.
use Rattle.tb_settling.proofs.Common.{◌≡◌, zero, suc, ℕ, ◌+◌, ◌<◌, ◌≤◌, true, false, List, [], ◌∷◌, length, take, slice_get, Some, refl, sym, ap, ◌∙◌, subst, ◌⊎◌, inl, inr, arith, slice_index}
use Rattle.tb_settling.proofs.Common.{Contains, take_all, bits_at, plain, shown, taken, Values, IsCycle, plain-causal, IsReady, Update, some_gives, Setting, Settles, HasSignals, NetNode, Assign}
use Rattle.tb_settling.proofs.Common.{Design, Nets, NetsSettleOnce, assign_updates, values_at, whole_updates, CanSettle, IsNetsOf, Situation, PortsFit, node_updates, HasSettled, IsStore, cases_Bool}
use Rattle.netlist_core.specs.Solutions.{OneAnswerBySight}
use Rattle.tb_nets.specs.Nets.{Wiring, wiring, node_reads, node_writes, ReadsNode}
use Rattle.tb_settling.proofs.Stores.{store_bit, all_left, hold_bit, same_store}
use Rattle.tb_settling.proofs.Passing.{node_fits, gives_writes, updates_same, inputs_same, take_cases, reads_at, writes_at}
use Rattle.tb_settling.proofs.Ending.{IsAssignOf, assign_of, assign_among, inside_of}

-- a node that writes a bit, if there is one
first_none : (w : Wiring) (x : NetNode) (xs : List NetNode) (n i : ℕ) → node_writes w x n i ≡ false → ((d : ℕ) (node : NetNode) → slice_get xs d ≡ Some node → node_writes w node n i ≡ false) → (d : ℕ) (node : NetNode) → slice_get (x ∷ xs) d ≡ Some node → node_writes w node n i ≡ false
first_none w x xs n i free none zero node at = subst (λ (m : NetNode). node_writes w m n i ≡ false) (let e : x ≡ node = cc in e) free
first_none w x xs n i free none (suc d) node at = none d node at

find_writer : (w : Wiring) (nodes : List NetNode) (n i : ℕ) → ((d : ℕ) × ((node : NetNode) × ((slice_get nodes d ≡ Some node) × (node_writes w node n i ≡ true)))) ⊎ ((d : ℕ) (node : NetNode) → slice_get nodes d ≡ Some node → node_writes w node n i ≡ false)
find_writer w [] n i = inr (λ d node at. absurd cc)
find_writer w (x ∷ xs) n i = elim (cases_Bool (node_writes w x n i)) [
  | inl writes ↦ inl (0, (x, (refl, writes)))
  | inr free ↦ elim (find_writer w xs n i) [
    | inl found ↦ inl (suc found.0, found.1)
    | inr none ↦ inr (first_none w x xs n i free none)
  ]
]

-- All nodes have settled, and what none of them gives a value is as it was before.
record AllSettled (s : Situation) (nodes : List NetNode) (x : Values) (start store : List ℕ) : Type 0 where
  each : (c : ℕ) (node : NetNode) → slice_get nodes c ≡ Some node → HasSettled s x store node
  kept : (n i : ℕ) → ((c : ℕ) (node : NetNode) → slice_get nodes c ≡ Some node → some_gives (node_updates s x store node) n i ≡ false) → store_bit store n i ≡ store_bit start n i

module _ (g : Setting) (s : Situation) (nodes : List NetNode) (start store next : List ℕ) (of : IsNetsOf g s.names s.inputs s.outputs nodes s.netlist) (design : (k : ℕ) × (slice_get nodes k ≡ Some Design)) (h : Settles g s.phase s.registers start store next) where
  node_settled : (c : ℕ) (node : NetNode) → slice_get nodes c ≡ Some node → HasSettled s h.nets store node
  node_settled c (Assign a) at =
      let among = assign_among s.names nodes c a at in
      record { cycle = tt; holds = h.assigns_hold among.0 (assign_updates s.names a) (ap (λ (l : List (ℕ → List ℕ → List Update)). slice_get l among.0) of.assigns_are ∙ among.1) }
  node_settled c Design at = record { cycle = rw (of.netlist_is, of.inputs_are) at h.design; holds = rw (of.netlist_is, of.outputs_are) at h.shown_holds }

  free_assign : (n i : ℕ) → ((c : ℕ) (node : NetNode) → slice_get nodes c ≡ Some node → some_gives (node_updates s h.nets store node) n i ≡ false) → (j : ℕ) (f : ℕ → List ℕ → List Update) → slice_get g.assigns j ≡ Some f → some_gives (f s.phase store) n i ≡ false
  free_assign n i free j f e =
      let found : IsAssignOf s.names nodes f = assign_of s.names nodes j f (sym (ap (λ (l : List (ℕ → List ℕ → List Update)). slice_get l j) of.assigns_are) ∙ e) in
      subst (λ (u : ℕ → List ℕ → List Update). some_gives (u s.phase store) n i ≡ false) (sym found.is) (free found.place (Assign found.assign) found.at)

  free_outputs : (n i : ℕ) → ((c : ℕ) (node : NetNode) → slice_get nodes c ≡ Some node → some_gives (node_updates s h.nets store node) n i ≡ false) → some_gives (g.outputs (shown (plain h.nets) g.netlist)) n i ≡ false
  free_outputs n i free = rw (of.netlist_is, of.outputs_are) (free design.0 Design design.1)

  all_settled : AllSettled s nodes h.nets start store
  all_settled = record { each = node_settled; kept = λ n i free. h.kept n i (free_assign n i free) (free_outputs n i free) }

-- any two cycles with the same inputs show the same, and leave the same
abbrev IsOne : Situation → Type 0
IsOne s = (ins : List ℕ) (x y : Values) → IsCycle (plain x) x s.netlist ins s.registers → IsCycle (plain y) y s.netlist ins s.registers → (shown (plain x) s.netlist ≡ shown (plain y) s.netlist) × (taken (plain x) 0 s.netlist.registers ≡ taken (plain y) 0 s.netlist.registers)

module _ (s : Situation) (nets : Nets) (widths : List ℕ) (can : CanSettle s.names widths s.inputs s.outputs nets) (signals : HasSignals s.names widths) (entered : PortsFit widths s.inputs (bits_at s.netlist.inputs)) (shows : PortsFit widths s.outputs (bits_at s.netlist.outputs)) where
  -- a bit that a node does not write, it does not give a value
  not_given : (x : Values) (store : List ℕ) → IsStore s.names widths store → (node : NetNode) (n i : ℕ) → node_writes (wiring s.names s.inputs s.outputs) node n i ≡ false → some_gives (node_updates s x store node) n i ≡ false
  not_given x store is node n i free = elim (cases_Bool (some_gives (node_updates s x store node) n i)) [
    | inl given ↦ absurd (let writes = gives_writes s widths signals entered shows x store node n i is given in cc)
    | inr none ↦ none
  ]

  -- a bit that its one writer does not give a value, none does
  no_other : (x : Values) (store : List ℕ) → IsStore s.names widths store → (c : ℕ) (node : NetNode) → slice_get nets.nodes c ≡ Some node → (n i : ℕ) → node_writes (wiring s.names s.inputs s.outputs) node n i ≡ true → some_gives (node_updates s x store node) n i ≡ false → (d : ℕ) (other : NetNode) → slice_get nets.nodes d ≡ Some other → some_gives (node_updates s x store other) n i ≡ false
  no_other x store is c node at n i writes free d other there = elim (cases_Bool (some_gives (node_updates s x store other) n i)) [
    | inr none ↦ none
    | inl given ↦
        let w : Wiring = wiring s.names s.inputs s.outputs in
        let too = gives_writes s widths signals entered shows x store other n i is given in
        let place : d ≡ c = can.apart d c n i (writes_at w nets.nodes d other n i there too) (writes_at w nets.nodes c node n i at writes) in
        let whole : Some other ≡ Some node = sym there ∙ ap (slice_get nets.nodes) place ∙ at in
        let same : other ≡ node = cc in
        subst (λ (m : NetNode). some_gives (node_updates s x store m) n i ≡ false) (sym same) free
  ]

  module _ (one : IsOne s) (x y : Values) (start a b : List ℕ) (is_a : IsStore s.names widths a) (is_b : IsStore s.names widths b) (ha : AllSettled s nets.nodes x start a) (hb : AllSettled s nets.nodes y start b) where
    free_bit : (n i : ℕ) → ((d : ℕ) (node : NetNode) → slice_get nets.nodes d ≡ Some node → node_writes (wiring s.names s.inputs s.outputs) node n i ≡ false) → store_bit a n i ≡ store_bit b n i
    free_bit n i none = ha.kept n i (λ c node at. not_given x a is_a node n i (none c node at)) ∙ sym (hb.kept n i (λ c node at. not_given y b is_b node n i (none c node at)))

    updates_agree : (c : ℕ) (node : NetNode) → slice_get nets.nodes c ≡ Some node → ((n i : ℕ) → node_reads (wiring s.names s.inputs s.outputs) node n i ≡ true → store_bit a n i ≡ store_bit b n i) → node_updates s x a node ≡ node_updates s y b node
    updates_agree c (Assign q) at reads = updates_same s widths signals entered shows x a b (Assign q) (can.sides c q at) is_a is_b reads
    updates_agree c Design at reads =
        let ins : values_at s.inputs a ≡ values_at s.inputs b = inputs_same s.inputs a b is_a.narrow is_b.narrow reads in
        let cycle : IsCycle (plain x) x s.netlist (values_at s.inputs b) s.registers = subst (λ (l : List ℕ). IsCycle (plain x) x s.netlist l s.registers) ins (ha.each c Design at).cycle in
        ap (whole_updates s.outputs (bits_at s.netlist.outputs)) (one (values_at s.inputs b) x y cycle (hb.each c Design at).cycle).0

    bits_agree : (c : ℕ) (node : NetNode) → slice_get nets.nodes c ≡ Some node → ((n i : ℕ) → node_reads (wiring s.names s.inputs s.outputs) node n i ≡ true → store_bit a n i ≡ store_bit b n i) → (n i : ℕ) → node_writes (wiring s.names s.inputs s.outputs) node n i ≡ true → store_bit a n i ≡ store_bit b n i
    bits_agree c node at reads n i writes =
        let us : List Update = node_updates s x a node in
        let vs : List Update = node_updates s y b node in
        let same : us ≡ vs = updates_agree c node at reads in
        elim (cases_Bool (some_gives us n i)) [
          | inl given ↦
              let here : store_bit a n i ≡ all_left us n i 0 = hold_bit widths us (node_fits s widths signals entered shows x a node is_a) a n i 0 (sym is_a.long) (ha.each c node at).holds given in
              let there : store_bit b n i ≡ all_left vs n i 0 = hold_bit widths vs (node_fits s widths signals entered shows y b node is_b) b n i 0 (sym is_b.long) (hb.each c node at).holds (ap (λ (l : List Update). some_gives l n i) (sym same) ∙ given) in
              here ∙ ap (λ (l : List Update). all_left l n i 0) same ∙ sym there
          | inr free ↦
              let free_too : some_gives vs n i ≡ false = ap (λ (l : List Update). some_gives l n i) (sym same) ∙ free in
              ha.kept n i (no_other x a is_a c node at n i writes free) ∙ sym (hb.kept n i (no_other y b is_b c node at n i writes free_too))
        ]

    -- the stores agree on what the first nodes write
    abbrev AgreeTo : ℕ → Type 0
    AgreeTo k = (c : ℕ) (node : NetNode) → Contains (take k nets.order) c → slice_get nets.nodes c ≡ Some node → (n i : ℕ) → node_writes (wiring s.names s.inputs s.outputs) node n i ≡ true → store_bit a n i ≡ store_bit b n i

    reads_agree : (k : ℕ) → k < length nets.order → AgreeTo k → (node : NetNode) → slice_get nets.nodes (slice_index nets.order k) ≡ Some node → (n i : ℕ) → node_reads (wiring s.names s.inputs s.outputs) node n i ≡ true → store_bit a n i ≡ store_bit b n i
    reads_agree k inside agree node at n i reads =
        let w : Wiring = wiring s.names s.inputs s.outputs in
        let ready : IsReady (length nets.nodes) (ReadsNode w nets.nodes) (take k nets.order) (slice_index nets.order k) = (can.settled.order.places k inside).ready in
        elim (find_writer w nets.nodes n i) [
          | inr none ↦ free_bit n i none
          | inl found ↦
              let d : ℕ = found.0 in
              let other : NetNode = found.1.0 in
              let there = found.1.1.0 in
              let writes = found.1.1.1 in
              agree d other (ready.reads d (n, i, reads_at w nets.nodes (slice_index nets.order k) node n i at reads, writes_at w nets.nodes d other n i there writes)) there n i writes
        ]

    next_agrees : (k : ℕ) → k < length nets.order → AgreeTo k → AgreeTo (k + 1)
    next_agrees k inside agree c node has at n i writes = elim (take_cases nets.order k c inside has) [
      | inl earlier ↦ agree c node earlier at n i writes
      | inr last ↦
          let here : slice_get nets.nodes (slice_index nets.order k) ≡ Some node = ap (slice_get nets.nodes) (sym last) ∙ at in
          bits_agree (slice_index nets.order k) node here (reads_agree k inside agree node here) n i writes
    ]

    agree_to : (k : ℕ) → k ≤ length nets.order → AgreeTo k
    agree_to zero inside = λ c node has at n i writes. absurd (omega (arith, has.1))
    agree_to (suc k) inside =
        let e : k + 1 ≡ suc k = omega arith in
        subst AgreeTo e (next_agrees k (omega arith) (agree_to k (omega arith)))

    all_agree : (n i : ℕ) → store_bit a n i ≡ store_bit b n i
    all_agree n i = elim (find_writer (wiring s.names s.inputs s.outputs) nets.nodes n i) [
      | inr none ↦ free_bit n i none
      | inl found ↦
          let d : ℕ = found.0 in
          let there = found.1.1.0 in
          let listed : Contains nets.order d = can.settled.order.each d (inside_of nets.nodes d found.1.0 there) in
          let has : Contains (take (length nets.order) nets.order) d = subst (λ (l : List ℕ). Contains l d) (sym (take_all (length nets.order) nets.order (omega arith))) listed in
          agree_to (length nets.order) (omega arith) d found.1.0 has there n i found.1.1.1
    ]

    stores_are : a ≡ b
    stores_are = same_store a b (is_a.long ∙ sym is_b.long) all_agree

    next_is : taken (plain x) 0 s.netlist.registers ≡ taken (plain y) 0 s.netlist.registers
    next_is =
        let k : ℕ = can.design.0 in
        let at = can.design.1 in
        let cycle : IsCycle (plain x) x s.netlist (values_at s.inputs b) s.registers = subst (λ (l : List ℕ). IsCycle (plain x) x s.netlist l s.registers) (ap (values_at s.inputs) stores_are) (ha.each k Design at).cycle in
        (one (values_at s.inputs b) x y cycle (hb.each k Design at).cycle).1

pub settle_once : OneAnswerBySight → NetsSettleOnce
settle_once answer g phase names inputs outputs nets plan sound can signals entered shows of registers store a b c d is_a is_c ha hc =
    let s : Situation = record { names = names; inputs = inputs; outputs = outputs; phase = phase; netlist = plan.raw; registers = registers } in
    let design : (k : ℕ) × (slice_get nets.nodes k ≡ Some Design) = (can.design.0, can.design.1) in
    let one : IsOne s = λ ins x y first second. answer plan plain sound (plain-causal plan.raw) ins registers x y first second in
    let first : AllSettled s nets.nodes ha.nets store a = all_settled g s nets.nodes store a b of design ha in
    let second : AllSettled s nets.nodes hc.nets store c = all_settled g s nets.nodes store c d of design hc in
    let next : taken (plain ha.nets) 0 plan.raw.registers ≡ taken (plain hc.nets) 0 plan.raw.registers = next_is s nets g.widths can signals entered shows one ha.nets hc.nets store a c is_a is_c first second in
    let left : b ≡ taken (plain ha.nets) 0 plan.raw.registers = rw of.netlist_is at ha.taken_is in
    let right : d ≡ taken (plain hc.nets) 0 plan.raw.registers = rw of.netlist_is at hc.taken_is in
    (stores_are s nets g.widths can signals entered shows one ha.nets hc.nets store a c is_a is_c first second, left ∙ next ∙ sym right)
