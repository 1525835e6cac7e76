-- Where all nodes have settled, the setting has.
use Rattle.tb_settling.proofs.Common.{◌≡◌, zero, suc, ℕ, ◌<◌, ◌≤◌, false, List, [], ◌∷◌, length, take, slice_get, Option, Some, None, refl, sym, ap, ◌∙◌, subst, arith, Contains, take_all, bits_at}
use Rattle.tb_settling.proofs.Common.{plain, shown, taken, Values, Assignment, Names, Update, some_gives, Setting, Hold, Settles, NetNode, Assign, Design, Nets, assign_updates, assigns_of}
use Rattle.tb_settling.proofs.Common.{whole_updates, CanSettle, IsNetsOf, Situation, node_updates, HasSettled, HaveSettled}

-- the assign of each of the updates, and the updates of each assign

pub record IsAssignOf (names : Names) (nodes : List NetNode) (f : ℕ → List ℕ → List Update) : Type 0 where
  pub place : ℕ
  pub assign : Assignment
  pub at : slice_get nodes place ≡ Some (Assign assign)
  pub is : f ≡ assign_updates names assign

abbrev unwrap : (ℕ → List ℕ → List Update) → Option (ℕ → List ℕ → List Update) → ℕ → List ℕ → List Update
unwrap d (Some x) = x
unwrap d None = d

some_is : (f g : ℕ → List ℕ → List Update) → Some f ≡ Some g → f ≡ g
some_is f g e = ap (unwrap f) e

not_none : (f : ℕ → List ℕ → List Update) → None ≡ Some f → ⊥
not_none f e = absurd cc

pub assign_of : (names : Names) (nodes : List NetNode) (k : ℕ) (f : ℕ → List ℕ → List Update) → slice_get (assigns_of names nodes) k ≡ Some f → IsAssignOf names nodes f
assign_of names [] k f e = absurd (not_none f e)
assign_of names (Assign a ∷ more) zero f e = record { place = 0; assign = a; at = refl; is = sym (some_is (assign_updates names a) f e) }
assign_of names (Assign a ∷ more) (suc k) f e = let rest = assign_of names more k f e in record { place = suc rest.place; assign = rest.assign; at = rest.at; is = rest.is }
assign_of names (Design ∷ more) k f e = let rest = assign_of names more k f e in record { place = suc rest.place; assign = rest.assign; at = rest.at; is = rest.is }

pub assign_among : (names : Names) (nodes : List NetNode) (c : ℕ) (a : Assignment) → slice_get nodes c ≡ Some (Assign a) → (k : ℕ) × (slice_get (assigns_of names nodes) k ≡ Some (assign_updates names a))
assign_among names [] c a e = absurd cc
assign_among names (Assign b ∷ more) zero a e = (0, ap (λ x. Some (assign_updates names x)) (let same : b ≡ a = cc in same))
assign_among names (Design ∷ more) zero a e = absurd cc
assign_among names (Assign b ∷ more) (suc c) a e = let rest = assign_among names more c a e in (suc rest.0, rest.1)
assign_among names (Design ∷ more) (suc c) a e = assign_among names more c a e

pub inside_of : (nodes : List NetNode) (c : ℕ) (node : NetNode) → slice_get nodes c ≡ Some node → c < length nodes
inside_of [] c node e = absurd cc
inside_of (x ∷ xs) zero node e = omega arith
inside_of (x ∷ xs) (suc c) node e = let rest = inside_of xs c node e in omega (arith, rest)

module _ (s : Situation) (nets : Nets) (widths : List ℕ) (can : CanSettle s.names widths s.inputs s.outputs nets) (x : Values) (start store : List ℕ) (long : length store ≡ length start) (k : ℕ) (past : length nets.order ≤ k) (h : HaveSettled s nets.nodes (take k nets.order) x start store) where
  listed : (c : ℕ) (node : NetNode) → slice_get nets.nodes c ≡ Some node → Contains (take k nets.order) c
  listed c node at = subst (λ (l : List ℕ). Contains l c) (sym (take_all k nets.order past)) (can.settled.order.each c (inside_of nets.nodes c node at))

  settled_at : (c : ℕ) (node : NetNode) → slice_get nets.nodes c ≡ Some node → HasSettled s x store node
  settled_at c node at = h.each c node (listed c node at) at

  design_settled : HasSettled s x store Design
  design_settled = settled_at can.design.0 Design can.design.1

  assign_holds : (j : ℕ) (f : ℕ → List ℕ → List Update) → slice_get (assigns_of s.names nets.nodes) j ≡ Some f → Hold store (f s.phase store)
  assign_holds j f e =
      let of = assign_of s.names nets.nodes j f e in
      subst (λ (g : ℕ → List ℕ → List Update). Hold store (g s.phase store)) (sym of.is) (settled_at of.place (Assign of.assign) of.at).holds

  pub free_node : (n i : ℕ) → ((j : ℕ) (f : ℕ → List ℕ → List Update) → slice_get (assigns_of s.names nets.nodes) j ≡ Some f → some_gives (f s.phase store) n i ≡ false) → some_gives (whole_updates s.outputs (bits_at s.netlist.outputs) (shown (plain x) s.netlist)) n i ≡ false → (c : ℕ) (node : NetNode) → slice_get nets.nodes c ≡ Some node → some_gives (node_updates s x store node) n i ≡ false
  free_node n i assigns outputs c (Assign a) at = let among = assign_among s.names nets.nodes c a at in assigns among.0 (assign_updates s.names a) among.1
  free_node n i assigns outputs c Design at = outputs

  pub settles : (g : Setting) → IsNetsOf g s.names s.inputs s.outputs nets.nodes s.netlist → Settles g s.phase s.registers start store (taken (plain x) 0 s.netlist.registers)
  settles g of = record {
    nets = x;
    design = rw (of.netlist_is, of.inputs_are) design_settled.cycle;
    taken_is = rw of.netlist_is refl;
    shown_holds = rw (of.netlist_is, of.outputs_are) design_settled.holds;
    assigns_hold = λ j f e. assign_holds j f (sym (ap (λ (l : List (ℕ → List ℕ → List Update)). slice_get l j) of.assigns_are) ∙ e);
    long = long;
    kept = λ n i assigns outputs. h.kept n i (λ c node has at. free_node n i (λ j f e. assigns j f (ap (λ (l : List (ℕ → List ℕ → List Update)). slice_get l j) of.assigns_are ∙ e)) (rw (of.netlist_is, of.outputs_are) at outputs) c node at);
  }
