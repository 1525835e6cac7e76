-- Nodes that pass are known.
use Rattle.tb_known.proofs.Common.{◌≡◌, ℕ, Bool, true, false, not, ◌&&◌, ◌||◌, List, [], ◌∷◌, map, All, refl, sym, Expr, Argument, Assignment, Names, sense, IsWhole, Tests, all_of, labels_pass}
use Rattle.tb_known.proofs.Common.{all_labels_pass, NodePasses, both, has_shape, can_assign, AreWhole, argument_passes, bench_tests, PassingIsKnown}
use Rattle.std.proofs.lemmas.List.Elements.{All-nil, All-cons, All-weaker}
use Rattle.vlog_syntax.specs.declared.stmt.Argument.TheVariants as a
use Rattle.tb_machine.specs.declared.node.Choice.{Choice}
use Rattle.tb_machine.specs.declared.node.Node.{Node}
use Rattle.tb_machine.specs.declared.node.Node.TheVariants as n
use Rattle.tb_machine.specs.Known.{IsKnown, AreKnown}
use Rattle.tb_machine.specs.Nodes.{choice_labels}
use Rattle.tb_code.proofs.Adding.{whole_nil}
use Rattle.tb_assigns.specs.Updates.{CanAssign}
use Rattle.tb_assigns.proofs.Checking.{check_can, empty_is}
use Rattle.tb_evaluator.specs.Meanings.{CanPerform}
use Rattle.tb_checks.specs.Statements.{is_print}

module _ (names : Names) where
  abbrev tests : Tests
  tests = bench_tests names

  shape_known : (x : Expr) → has_shape names x ≡ true → IsWhole names x
  shape_known x e = empty_is (sense names x).faults e

  assign_known : (x : Assignment) → can_assign names x ≡ true → CanAssign names x
  assign_known x e = check_can names x true (sym e) refl

  arguments_known : (xs : List Argument) → all_of (map (argument_passes names) xs) ≡ true → AreWhole names xs
  arguments_known [] e = tt
  arguments_known (a.String text at ∷ more) e = (tt, arguments_known more e)
  arguments_known (a.Expr x ∷ more) e =
      let two : (has_shape names x ≡ true) × (all_of (map (argument_passes names) more) ≡ true) = both (has_shape names x) (all_of (map (argument_passes names) more)) e in
      (shape_known x two.0, arguments_known more two.1)

  printed : (b c : Bool) → not b || c ≡ true → b ≡ true → c ≡ true
  printed true c e is = e
  printed false c e is = absurd cc

  task_known : (name : List ℕ) (xs : List Argument) → not (is_print name) || all_of (map (argument_passes names) xs) ≡ true → CanPerform names name xs
  task_known name xs e is = arguments_known xs (printed (is_print name) (all_of (map (argument_passes names) xs)) e is)

  labels_known : (xs : List Expr) → labels_pass tests xs ≡ true → All (IsWhole names) xs
  labels_known [] e = All-nil (IsWhole names)
  labels_known (x ∷ more) e =
      let two : (has_shape names x ≡ true) × (labels_pass tests more ≡ true) = both (has_shape names x) (labels_pass tests more) e in
      All-cons (IsWhole names) x more (shape_known x two.0) (labels_known more two.1)

  items_known : (items : List Choice) → all_labels_pass tests (map choice_labels items) ≡ true → AreKnown (IsWhole names) items
  items_known [] e = All-nil (λ (i : Choice). All (IsWhole names) i.labels)
  items_known (i ∷ more) e =
      let two : (labels_pass tests i.labels ≡ true) × (all_labels_pass tests (map choice_labels more) ≡ true) = both (labels_pass tests i.labels) (all_labels_pass tests (map choice_labels more)) e in
      All-cons (λ (i : Choice). All (IsWhole names) i.labels) i more (labels_known i.labels two.0) (items_known more two.1)

  node_known : (x : Node) → NodePasses tests x → IsKnown (IsWhole names) (CanAssign names) (CanPerform names) x
  node_known n.Null e = tt
  node_known (n.SeqBlock body) e = tt
  node_known (n.Conditional x i j) e = shape_known x e
  node_known (n.Case kind x items) e =
      let two : (has_shape names x ≡ true) × (all_labels_pass tests (map choice_labels items) ≡ true) = both (has_shape names x) (all_labels_pass tests (map choice_labels items)) e in
      (shape_known x two.0, items_known items two.1)
  node_known (n.For start x step body) e =
      let two : (can_assign names start ≡ true) × (has_shape names x && can_assign names step ≡ true) = both (can_assign names start) (has_shape names x && can_assign names step) e in
      let rest : (has_shape names x ≡ true) × (can_assign names step ≡ true) = both (has_shape names x) (can_assign names step) two.1 in
      (assign_known start two.0, shape_known x rest.0, assign_known step rest.1)
  node_known (n.While x body) e = shape_known x e
  node_known (n.Repeat x body) e = shape_known x e
  node_known (n.Forever body) e = tt
  node_known (n.EventControl event body) e = tt
  node_known n.Finish e = tt
  node_known (n.SystemTaskEnable name arguments) e = task_known name.name arguments e
  node_known (n.Blocking x) e = assign_known x e
  node_known (n.Nonblocking x) e = assign_known x e

pub known : PassingIsKnown
known names nodes numbers parts adds pass =
    let held = adds [] whole_nil in
    let q : Tests = bench_tests names in
    All-weaker (NodePasses q) (IsKnown (IsWhole names) (CanAssign names) (CanPerform names)) (node_known names) nodes (held.whole.passing q (held.passing q pass))
