-- A node settles after others, which stay settled.
use Rattle.tb_settling.proofs.Common.{◌≡◌, suc, ℕ, ◌+◌, ◌^◌, ◌<◌, ◌≤◌, true, false, ◌&&◌, nat_eq, nat_le, nat_lt, List, [], ◌∷◌, map, length, take, get_or, slice_get, Option, Some, refl, sym, ap, ◌∙◌}
use Rattle.tb_settling.proofs.Common.{subst, ◌⊎◌, inl, inr, arith, slice_index, All, Contains, cases_lt, or_cases, or_left, or_right, and_from, cases_Bool, nat_tests, eqb_tells, get_or-take}
use Rattle.tb_settling.proofs.Common.{length-take-le, get_or_default, All-nil, All-cons, same_from_bits_below, Bit, number, bits_at, plain, shown, values, Values, IsCycle, number-fits, length-values}
use Rattle.tb_settling.proofs.Common.{Assignment, Names, IsReady, IsLeastReady, IsInOrder, Update, all_applied, gives, some_gives, Fits, Hold, all_fit, HasSignals, updates_fit, NetNode, Assign}
use Rattle.tb_settling.proofs.Common.{Design, Nets, still, assign_updates, values_at, whole_updates, CanSettle, Situation, PortsFit, IsSide, node_updates, IsCycleOf, HasSettled, IsStore, HaveSettled}
use Rattle.tb_settling.proofs.Common.{below_is, same_node, and-left, and-right}
use Rattle.tb_nets.specs.Nets.{Wiring, wiring, signal_bits, node_reads, node_writes, reads_of, writes_of, ReadsNode}
use Rattle.tb_settling.proofs.Stores.{store_bit, other_bit, holds_after, hold_moves}
use Rattle.tb_settling.proofs.Windows.{updates_rest, stay_inside}

-- The outputs of the design.

heads : (a b : ℕ) (xs ys : List ℕ) → a ∷ xs ≡ b ∷ ys → a ≡ b
heads a b xs ys e = cc

tails : (a b : ℕ) (xs ys : List ℕ) → a ∷ xs ≡ b ∷ ys → xs ≡ ys
tails a b xs ys e = cc

lt_is : (a b : ℕ) → nat_lt a b ≡ true → a < b
lt_is a b h = grind (arith, nat_tests)

is_number : (n : ℕ) → nat_eq n n ≡ true
is_number n = elim (eqb_tells n n) [ inl same ↦ same.0 | inr other ↦ absurd (other.1 refl) ]

-- each bit that they give is one of the signals
whole_gives : (widths ks : List ℕ) (ports : List (List Bit)) (vs : List ℕ) (n i : ℕ) → map (slice_index widths) ks ≡ map length ports → ((k : ℕ) → slice_index widths k ≤ 128) → some_gives (whole_updates ks ports vs) n i ≡ true → signal_bits ks n i ≡ true
whole_gives widths [] ports vs n i e narrow h = absurd cc
whole_gives widths (k ∷ ks) [] vs n i e narrow h = absurd cc
whole_gives widths (k ∷ ks) (bits ∷ ports) [] n i e narrow h = absurd cc
whole_gives widths (k ∷ ks) (bits ∷ ports) (v ∷ vs) n i e narrow h =
    let u : Update = record { signal = k; low = 0; width = length bits; value = v } in
    elim (or_cases (gives u n i) (some_gives (whole_updates ks ports vs) n i) h) [
      | inl here ↦
          let width : slice_index widths k ≡ length bits = heads (slice_index widths k) (length bits) (map (slice_index widths) ks) (map length ports) e in
          let most = narrow k in
          let below : i < 0 + length bits = lt_is i (0 + length bits) (and-right (nat_le 0 i) (nat_lt i (0 + length bits)) (and-right (nat_eq n k) (nat_le 0 i && nat_lt i (0 + length bits)) here)) in
          or_left (nat_eq n k && nat_lt i 128) (signal_bits ks n i) (and_from (nat_eq n k) (nat_lt i 128) (and-left (nat_eq n k) (nat_le 0 i && nat_lt i (0 + length bits)) here) (below_is i 128 (omega (arith, below, width, most))))
      | inr later ↦ or_right (nat_eq n k && nat_lt i 128) (signal_bits ks n i) (whole_gives widths ks ports vs n i (tails (slice_index widths k) (length bits) (map (slice_index widths) ks) (map length ports) e) narrow later)
    ]

-- they fit
whole_fits : (widths ks : List ℕ) (ports : List (List Bit)) (x : Values) → map (slice_index widths) ks ≡ map length ports → All (λ k. k < length widths) ks → ((k : ℕ) → k < length widths → 1 ≤ slice_index widths k) → All (Fits widths) (whole_updates ks ports (map (λ bits. number (values x bits)) ports))
whole_fits widths [] ports x e known some = All-nil (Fits widths)
whole_fits widths (k ∷ ks) [] x e known some = All-nil (Fits widths)
whole_fits widths (k ∷ ks) (bits ∷ ports) x e known some =
    let width : slice_index widths k ≡ length bits = heads (slice_index widths k) (length bits) (map (slice_index widths) ks) (map length ports) e in
    let here : k < length widths = known 0 0 (omega arith) in
    let least = some k here in
    let long : length (values x bits) ≡ length bits = length-values x bits in
    let fits : number (values x bits) < 2 ^ length (values x bits) = number-fits (values x bits) in
    let value : number (values x bits) < 2 ^ length bits = subst (λ (n : ℕ). number (values x bits) < 2 ^ n) long fits in
    All-cons (Fits widths) (record { signal = k; low = 0; width = length bits; value = number (values x bits) }) (whole_updates ks ports (map (λ bits. number (values x bits)) ports))
    (record { known = here; some = omega (arith, width, least); inside = omega (arith, width); value = value })
    (whole_fits widths ks ports x (tails (slice_index widths k) (length bits) (map (slice_index widths) ks) (map length ports) e) (λ j d below. known (suc j) d (omega (arith, below))) some)

-- the same values at inputs
pub inputs_same : (ks s t : List ℕ) → ((n : ℕ) → slice_index s n < 2 ^ 128) → ((n : ℕ) → slice_index t n < 2 ^ 128) → ((n i : ℕ) → signal_bits ks n i ≡ true → store_bit s n i ≡ store_bit t n i) → values_at ks s ≡ values_at ks t
inputs_same [] s t a b same = refl
inputs_same (k ∷ ks) s t a b same =
    let first : slice_index s k ≡ slice_index t k = same_from_bits_below 128 (slice_index s k) (slice_index t k) (a k) (b k) (λ i h. same k i (or_left (nat_eq k k && nat_lt i 128) (signal_bits ks k i) (and_from (nat_eq k k) (nat_lt i 128) (is_number k) (below_is i 128 h)))) in
    let rest : values_at ks s ≡ values_at ks t = inputs_same ks s t a b (λ n i h. same n i (or_right (nat_eq n k && nat_lt i 128) (signal_bits ks n i) h)) in
    ap (λ (n : ℕ). n ∷ values_at ks s) first ∙ ap (λ (l : List ℕ). slice_index t k ∷ l) rest

-- Nodes.

module _ (s : Situation) (widths : List ℕ) (signals : HasSignals s.names widths) (entered : PortsFit widths s.inputs (bits_at s.netlist.inputs)) (shows : PortsFit widths s.outputs (bits_at s.netlist.outputs)) where
  pub node_fits : (x : Values) (store : List ℕ) (node : NetNode) → IsStore s.names widths store → All (Fits widths) (node_updates s x store node)
  node_fits x store (Assign a) is = updates_fit s.names widths (assign_updates s.names a s.phase store) signals (all_fit s.names s.phase a (λ n. slice_index store n) still)
  node_fits x store Design is = whole_fits widths s.outputs (bits_at s.netlist.outputs) x shows.widths_are shows.known is.some

  pub gives_writes : (x : Values) (store : List ℕ) (node : NetNode) (n i : ℕ) → IsStore s.names widths store → some_gives (node_updates s x store node) n i ≡ true → node_writes (wiring s.names s.inputs s.outputs) node n i ≡ true
  gives_writes x store (Assign a) n i is h = stay_inside s.names s.phase a still (λ k. slice_index store k) n i h
  gives_writes x store Design n i is h = whole_gives widths s.outputs (bits_at s.netlist.outputs) (shown (plain x) s.netlist) n i shows.widths_are is.most h

  -- where the bits that are read are the same
  pub updates_same : (x : Values) (u t : List ℕ) (node : NetNode) → IsSide s.names node → IsStore s.names widths u → IsStore s.names widths t → ((n i : ℕ) → node_reads (wiring s.names s.inputs s.outputs) node n i ≡ true → store_bit u n i ≡ store_bit t n i) → node_updates s x u node ≡ node_updates s x t node
  updates_same x u t (Assign a) side is is_too same = ap (λ r. r.0) (updates_rest s.names s.phase a still side (λ n. slice_index u n) (λ n. slice_index t n) is.within is_too.within same)
  updates_same x u t Design side is is_too same = refl

  cycle_same : (x : Values) (u t : List ℕ) (node : NetNode) → IsStore s.names widths u → IsStore s.names widths t → ((n i : ℕ) → node_reads (wiring s.names s.inputs s.outputs) node n i ≡ true → store_bit u n i ≡ store_bit t n i) → IsCycleOf s x u node → IsCycleOf s x t node
  cycle_same x u t (Assign a) is is_too same c = tt
  cycle_same x u t Design is is_too same c = subst (λ (l : List ℕ). IsCycle (plain x) x s.netlist l s.registers) (inputs_same s.inputs u t is.narrow is_too.narrow same) c

  -- a node that has settled stays so
  stays : (x : Values) (u t : List ℕ) (node : NetNode) → IsSide s.names node → IsStore s.names widths u → IsStore s.names widths t → ((n i : ℕ) → node_reads (wiring s.names s.inputs s.outputs) node n i ≡ true → store_bit u n i ≡ store_bit t n i) → ((n i : ℕ) → node_writes (wiring s.names s.inputs s.outputs) node n i ≡ true → store_bit u n i ≡ store_bit t n i) → HasSettled s x u node → HasSettled s x t node
  stays x u t node side is is_too reads writes h =
      let us : List Update = node_updates s x u node in
      let moved : Hold t us = hold_moves widths us (node_fits x u node is) u t (sym is.long) (sym is_too.long) h.holds (λ n i g. sym (writes n i (gives_writes x u node n i is g))) in
      record {
        cycle = cycle_same x u t node is is_too reads h.cycle;
        holds = subst (λ (l : List Update). Hold t l) (updates_same x u t node side is is_too reads) moved;
      }

  -- Values of the design's nets play a part for the design alone.

  updates_other : (x y : Values) (store : List ℕ) (a : Assignment) → node_updates s x store (Assign a) ≡ node_updates s y store (Assign a)
  updates_other x y store a = refl

-- Places of an order.

pub take_cases : (xs : List ℕ) (k c : ℕ) → k < length xs → Contains (take (k + 1) xs) c → Contains (take k xs) c ⊎ (c ≡ get_or xs k 0)
take_cases xs k c inside has =
    let long : length (take (k + 1) xs) ≡ k + 1 = length-take-le (k + 1) xs (omega arith) in
    let j : ℕ = has.0 in
    let below : j < k + 1 = omega (arith, has.1, long) in
    let at : get_or xs j c ≡ c = sym (get_or-take (k + 1) xs j c below) ∙ has.2 in
    elim (cases_lt j k) [
      | inl before ↦ inl (j, omega (arith, before, length-take-le k xs (omega arith)), get_or-take k xs j c before ∙ at)
      | inr past ↦
          let last : j ≡ k = omega arith in
          inr (sym at ∙ sym (get_or_default xs j 0 c (omega (arith, last))) ∙ ap (λ (m : ℕ). get_or xs m 0) last)
    ]

pub take_last : (xs : List ℕ) (k : ℕ) → k < length xs → Contains (take (k + 1) xs) (get_or xs k 0)
take_last xs k inside =
    let long : length (take (k + 1) xs) ≡ k + 1 = length-take-le (k + 1) xs (omega arith) in
    (k, omega (arith, long), get_or-take (k + 1) xs k (get_or xs k 0) (omega arith) ∙ sym (get_or_default xs k 0 (get_or xs k 0) inside))

take_keeps : (xs : List ℕ) (j k c : ℕ) → j ≤ k → k ≤ length xs → Contains (take j xs) c → Contains (take k xs) c
take_keeps xs j k c le inside has =
    let below : has.0 < j = omega (arith, has.1, length-take-le j xs (omega arith)) in
    (has.0, omega (arith, below, length-take-le k xs inside), get_or-take k xs has.0 c (omega (arith, below)) ∙ sym (get_or-take j xs has.0 c below) ∙ has.2)

-- what a node of the first ones reads is one of them
pub before : (count : ℕ) (R : ℕ → ℕ → Type 0) (order : List ℕ) → IsInOrder count R order → (k : ℕ) → k ≤ length order → (c d : ℕ) → Contains (take k order) c → R c d → Contains (take k order) d
before count R order places k inside c d has r =
    let j : ℕ = has.0 in
    let below : j < k = omega (arith, has.1, length-take-le k order inside) in
    let at : get_or order j c ≡ c = sym (get_or-take k order j c below) ∙ has.2 in
    let is : get_or order j 0 ≡ c = get_or_default order j 0 c (omega (arith, below)) ∙ at in
    let here : IsLeastReady count R (take j order) c = subst (λ (m : ℕ). IsLeastReady count R (take j order) m) is (places j (omega (arith, below))) in
    take_keeps order j k d (omega (arith, below)) inside (here.ready.reads d r)

-- A step.

pub reads_at : (w : Wiring) (nodes : List NetNode) (c : ℕ) (node : NetNode) (n i : ℕ) → slice_get nodes c ≡ Some node → node_reads w node n i ≡ true → reads_of w (slice_get nodes c) n i ≡ true
reads_at w nodes c node n i at h = ap (λ (o : Option NetNode). reads_of w o n i) at ∙ h

pub writes_at : (w : Wiring) (nodes : List NetNode) (c : ℕ) (node : NetNode) (n i : ℕ) → slice_get nodes c ≡ Some node → node_writes w node n i ≡ true → writes_of w (slice_get nodes c) n i ≡ true
writes_at w nodes c node n i at h = ap (λ (o : Option NetNode). writes_of w o n i) at ∙ h

pub side_of : (names : Names) (widths inputs outputs : List ℕ) (nets : Nets) → CanSettle names widths inputs outputs nets → (k : ℕ) (node : NetNode) → slice_get nets.nodes k ≡ Some node → IsSide names node
side_of names widths inputs outputs nets can k (Assign a) at = can.sides k a at
side_of names widths inputs outputs nets can k Design at = tt

module _ (s : Situation) (nets : Nets) (widths : List ℕ) (can : CanSettle s.names widths s.inputs s.outputs nets) (signals : HasSignals s.names widths) (entered : PortsFit widths s.inputs (bits_at s.netlist.inputs)) (shows : PortsFit widths s.outputs (bits_at s.netlist.outputs)) where
  -- nothing has settled yet
  pub none_settled : (x : Values) (store : List ℕ) → HaveSettled s nets.nodes [] x store store
  none_settled x store = record {
    each = λ c node has at. absurd (omega (arith, has.1));
    kept = λ n i h. refl;
  }

  module _ (k : ℕ) (inside : k < length nets.order) (node : NetNode) (at : slice_get nets.nodes (slice_index nets.order k) ≡ Some node) where
    -- the place of the node, which is not among those of the nodes before
    place : ℕ
    place = slice_index nets.order k

    is_ready : IsReady (length nets.nodes) (ReadsNode (wiring s.names s.inputs s.outputs) nets.nodes) (take k nets.order) (slice_index nets.order k)
    is_ready = (can.settled.order.places k inside).ready

    -- it gives no bit a value that it or a node before reads, or that a node before writes
    read_before : (c : ℕ) (other : NetNode) → Contains (take k nets.order) c → slice_get nets.nodes c ≡ Some other → (n i : ℕ) → node_reads (wiring s.names s.inputs s.outputs) other n i ≡ true → node_writes (wiring s.names s.inputs s.outputs) node n i ≡ true → ⊥
    read_before c other has there n i reads writes =
        let w : Wiring = wiring s.names s.inputs s.outputs in
        is_ready.unlisted (before (length nets.nodes) (ReadsNode w nets.nodes) nets.order can.settled.order.places k (omega (arith, inside)) c (slice_index nets.order k) has (n, i, reads_at w nets.nodes c other n i there reads, writes_at w nets.nodes (slice_index nets.order k) node n i at writes))

    read_here : (n i : ℕ) → node_reads (wiring s.names s.inputs s.outputs) node n i ≡ true → node_writes (wiring s.names s.inputs s.outputs) node n i ≡ true → ⊥
    read_here n i reads writes =
        let w : Wiring = wiring s.names s.inputs s.outputs in
        is_ready.unlisted (is_ready.reads (slice_index nets.order k) (n, i, reads_at w nets.nodes (slice_index nets.order k) node n i at reads, writes_at w nets.nodes (slice_index nets.order k) node n i at writes))

    written_before : (c : ℕ) (other : NetNode) → Contains (take k nets.order) c → slice_get nets.nodes c ≡ Some other → (n i : ℕ) → node_writes (wiring s.names s.inputs s.outputs) other n i ≡ true → node_writes (wiring s.names s.inputs s.outputs) node n i ≡ true → ⊥
    written_before c other has there n i writes too =
        let w : Wiring = wiring s.names s.inputs s.outputs in
        let same : c ≡ slice_index nets.order k = can.apart c (slice_index nets.order k) n i (writes_at w nets.nodes c other n i there writes) (writes_at w nets.nodes (slice_index nets.order k) node n i at too) in
        is_ready.unlisted (subst (λ (m : ℕ). Contains (take k nets.order) m) same has)

    module _ (old new : Values) (store t : List ℕ) (is : IsStore s.names widths store) (is_too : IsStore s.names widths t) (goes : t ≡ all_applied store (node_updates s new store node)) where
      -- a bit that it does not write stays
      bit_stays : (n i : ℕ) → (node_writes (wiring s.names s.inputs s.outputs) node n i ≡ true → ⊥) → store_bit store n i ≡ store_bit t n i
      bit_stays n i other =
          let us : List Update = node_updates s new store node in
          elim (cases_Bool (some_gives us n i)) [
            | inl gives_it ↦ absurd (other (gives_writes s widths signals entered shows new store node n i is gives_it))
            | inr free ↦ sym (ap (λ (l : List ℕ). store_bit l n i) goes ∙ other_bit widths us (node_fits s widths signals entered shows new store node is) store n i (sym is.long) free)
          ]

      side : IsSide s.names node
      side = side_of s.names widths s.inputs s.outputs nets can (slice_index nets.order k) node at

      own_updates : node_updates s new store node ≡ node_updates s new t node
      own_updates = updates_same s widths signals entered shows new store t node side is is_too (λ n i reads. bit_stays n i (read_here n i reads))

      own : IsCycleOf s new store node → HasSettled s new t node
      own cycle =
          let us : List Update = node_updates s new store node in
          let holds : Hold (all_applied store us) us = holds_after widths us (node_fits s widths signals entered shows new store node is) store (sym is.long) in
          record {
            cycle = cycle_same s widths signals entered shows new store t node is is_too (λ n i reads. bit_stays n i (read_here n i reads)) cycle;
            holds = subst (λ (l : List Update). Hold t l) own_updates (subst (λ (l : List ℕ). Hold l us) (sym goes) holds);
          }

      -- a node before, with the new values of the design's nets
      new_updates : (c : ℕ) (other : NetNode) → Contains (take k nets.order) c → slice_get nets.nodes c ≡ Some other → ((a : Assignment) → node ≡ Assign a → new ≡ old) → (node_updates s old store other ≡ node_updates s new store other) × (HasSettled s old store other → HasSettled s new store other)
      new_updates c (Assign b) has there same = (refl, λ h. record { cycle = tt; holds = h.holds })
      new_updates c Design has there same = go node at same
        where
          go : (m : NetNode) → slice_get nets.nodes (slice_index nets.order k) ≡ Some m → ((a : Assignment) → m ≡ Assign a → new ≡ old) → (node_updates s old store Design ≡ node_updates s new store Design) × (HasSettled s old store Design → HasSettled s new store Design)
          go (Assign a) where_ same =
              let e : new ≡ old = same a refl in
              (ap (λ (x : Values). node_updates s x store Design) (sym e), λ h. subst (λ (x : Values). HasSettled s x store Design) (sym e) h)
          go Design where_ same =
              let one : c ≡ can.design.0 = can.design.2 c there in
              let other : slice_index nets.order k ≡ can.design.0 = can.design.2 (slice_index nets.order k) where_ in
              absurd (is_ready.unlisted (subst (λ (m : ℕ). Contains (take k nets.order) m) (one ∙ sym other) has))

      before_updates : (c : ℕ) (other : NetNode) → Contains (take k nets.order) c → slice_get nets.nodes c ≡ Some other → ((a : Assignment) → node ≡ Assign a → new ≡ old) → node_updates s old store other ≡ node_updates s new t other
      before_updates c other has there same =
          (new_updates c other has there same).0 ∙ updates_same s widths signals entered shows new store t other (side_of s.names widths s.inputs s.outputs nets can c other there) is is_too (λ n i reads. bit_stays n i (read_before c other has there n i reads))

      before_settled : (c : ℕ) (other : NetNode) → Contains (take k nets.order) c → slice_get nets.nodes c ≡ Some other → ((a : Assignment) → node ≡ Assign a → new ≡ old) → HasSettled s old store other → HasSettled s new t other
      before_settled c other has there same h =
          stays s widths signals entered shows new store t other (side_of s.names widths s.inputs s.outputs nets can c other there) is is_too (λ n i reads. bit_stays n i (read_before c other has there n i reads)) (λ n i writes. bit_stays n i (written_before c other has there n i writes)) ((new_updates c other has there same).1 h)

      each_after : ((a : Assignment) → node ≡ Assign a → new ≡ old) → IsCycleOf s new store node → (start : List ℕ) → HaveSettled s nets.nodes (take k nets.order) old start store → (c : ℕ) (other : NetNode) → Contains (take (k + 1) nets.order) c → slice_get nets.nodes c ≡ Some other → HasSettled s new t other
      each_after same cycle start h c other has there = elim (take_cases nets.order k c inside has) [
        | inl earlier ↦ before_settled c other earlier there same (h.each c other earlier there)
        | inr last ↦
            let is_node : node ≡ other = same_node node other (sym at ∙ ap (slice_get nets.nodes) (sym last) ∙ there) in
            subst (λ (m : NetNode). HasSettled s new t m) is_node (own cycle)
      ]

      kept_after : ((a : Assignment) → node ≡ Assign a → new ≡ old) → (start : List ℕ) → HaveSettled s nets.nodes (take k nets.order) old start store → (n i : ℕ) → ((c : ℕ) (other : NetNode) → Contains (take (k + 1) nets.order) c → slice_get nets.nodes c ≡ Some other → some_gives (node_updates s new t other) n i ≡ false) → store_bit t n i ≡ store_bit start n i
      kept_after same start h n i free =
          let us : List Update = node_updates s new store node in
          let mine : some_gives us n i ≡ false = ap (λ (l : List Update). some_gives l n i) own_updates ∙ free (slice_index nets.order k) node (take_last nets.order k inside) at in
          let here : store_bit t n i ≡ store_bit store n i = ap (λ (l : List ℕ). store_bit l n i) goes ∙ other_bit widths us (node_fits s widths signals entered shows new store node is) store n i (sym is.long) mine in
          here ∙ h.kept n i (λ c other has there. ap (λ (l : List Update). some_gives l n i) (before_updates c other has there same) ∙ free c other (take_keeps nets.order k (k + 1) c (omega arith) (omega (arith, inside)) has) there)

      pub next_settled : ((a : Assignment) → node ≡ Assign a → new ≡ old) → IsCycleOf s new store node → (start : List ℕ) → HaveSettled s nets.nodes (take k nets.order) old start store → HaveSettled s nets.nodes (take (k + 1) nets.order) new start t
      next_settled same cycle start h = record { each = each_after same cycle start h; kept = kept_after same start h }
