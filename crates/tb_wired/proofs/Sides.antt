-- Assignments in which nothing is wrong can be carried out.
use Rattle.tb_wired.proofs.Common.{◌≡◌, zero, suc, ℕ, true, ◌&&◌, List, [], ◌∷◌, ◌++◌, map, arith, ap, subst, None, Some, slice_get, All, flat_map, Assignment, Names, same_form, divisions, BenchFault}
use Rattle.tb_wired.proofs.Common.{Wrong, NetNode, Assign, Design, IsSided}
use Rattle.std.proofs.lemmas.List.Elements.{All-weaker}
use Rattle.vlog_syntax.specs.declared.expr.Expr.{Expr}
use Rattle.vlog_meaning.specs.declared.fault.Fault.{Fault}
use Rattle.vlog_meaning.specs.Senses.{sense, assigned, is_empty}
use Rattle.vlog_meaning.proofs.Blanks.{left_nil, right_nil}
use Rattle.vlog_effects.specs.Expressions.{width_of}
use Rattle.vlog_effects.specs.LeftSides.{parts_of}
use Rattle.tb_assigns.specs.Checks.{has_shape, all_signals, can_assign}
use Rattle.tb_checks.specs.Lefts.{part_faults}
use Rattle.tb_checks.specs.Nets.{net_wrong, indices_faults, net_faults, assign_faults}
use Rattle.tb_known.proofs.Nothing.{none_before, and_true}
use Rattle.tb_known.proofs.Expressions.{signals_pass}
use Rattle.tb_settling.proofs.Sides.{sides_fit}
use Rattle.tb_apart.specs.Laws.{IsClean}
use Rattle.tb_known.proofs.Assigns.{net_passes}

clean_can : (names : Names) (a : Assignment) → assign_faults names a.left a.value ≡ [] → can_assign names a ≡ true
clean_can names a e =
    let left : Expr = same_form a.left in
    let faults : List Fault = (sense names left).faults ++ indices_faults names a.left in
    let sides : List BenchFault = map Wrong (net_faults names left a.left a.value) in
    let written : List BenchFault = flat_map (part_faults names None) (parts_of a.left) in
    let both : faults ++ net_wrong names a.value ≡ [] = none_before (faults ++ net_wrong names a.value) (divisions ((sense names a.value).zeros (assigned (sense names a.value) (width_of names left)))) (left_nil sides written e) in
    let shaped : has_shape names left ≡ true = ap (λ (fs : List Fault). is_empty fs) (left_nil (sense names left).faults (indices_faults names a.left) (left_nil faults (net_wrong names a.value) both)) in
    and_true (has_shape names left) (all_signals names (parts_of a.left) && has_shape names a.value) shaped
    (and_true (all_signals names (parts_of a.left)) (has_shape names a.value) (signals_pass names None (parts_of a.left) (right_nil sides written e)) (net_passes names a.value (right_nil faults (net_wrong names a.value) both)))

clean_sided : (names : Names) (node : NetNode) → IsClean names node → IsSided names node
clean_sided names (Assign a) e = sides_fit names a (clean_can names a e)
clean_sided names Design e = tt

pub all_sided : (names : Names) (nodes : List NetNode) → All (IsClean names) nodes → All (IsSided names) nodes
all_sided names nodes clean = All-weaker (IsClean names) (IsSided names) (clean_sided names) nodes clean

at_place : (names : Names) (nodes : List NetNode) (k : ℕ) (node : NetNode) → All (IsClean names) nodes → slice_get nodes k ≡ Some node → IsClean names node
at_place names [] k node clean e = absurd cc
at_place names (x ∷ xs) zero node clean e = subst (IsClean names) (same e) (clean 0 x (omega arith))
  where
    same : Some x ≡ Some node → x ≡ node
    same h = cc
at_place names (x ∷ xs) (suc k) node clean e = at_place names xs k node (λ j d h. clean (suc j) d (omega arith)) e

abbrev pub CanAll : Names → List NetNode → Type 0
CanAll names nodes = (k : ℕ) (a : Assignment) → slice_get nodes k ≡ Some (Assign a) → can_assign names a ≡ true

pub all_can : (names : Names) (nodes : List NetNode) → All (IsClean names) nodes → CanAll names nodes
all_can names nodes clean k a at = clean_can names a (at_place names nodes k (Assign a) clean at)
