-- Plans of statements and nets, by their numbers.
use Rattle.tb_plans.proofs.Common.{◌≡◌, ℕ, zero, suc, List, [], ◌∷◌, refl, ap, sym, subst, Option, Some, slice_get, AllZip, Names, Node, Request, IsAnswered, Transfer, IsNodePlan, IsNetPlan}
use Rattle.tb_machine.specs.declared.node.Node.TheVariants as n
use Rattle.tb_nets.specs.declared.node.NetNode.{NetNode}
use Rattle.tb_nets.specs.declared.node.NetNode.TheVariants as net
use Rattle.tb_plans.specs.declared.plan.Plan.{Plan}
use Rattle.tb_plans.specs.Plans.{IsPlanned, or_nothing, plan_at, ArePlans, AreNetPlans}
use Rattle.tb_plans.proofs.Zips.{zip_long, zip_at}

-- the element that belongs to one at a place
there : {A B : Type 0} (R : A → B → Type 0) (xs : List A) (ys : List B) (k : ℕ) (x : A) → AllZip R xs ys → slice_get xs k ≡ Some x → (y : B) × (slice_get ys k ≡ Some y)
there R [] ys k x all here = absurd cc
there R (a ∷ xs) [] k x all here = absurd all
there R (a ∷ xs) (b ∷ ys) zero x all here = (b, refl)
there R (a ∷ xs) (b ∷ ys) (suc k) x all here = there R xs ys k x all.1 here

-- what one node asks for is answered by the answers at its number
answered_at : (answers : ℕ → Request → Type 0) (k : ℕ) (node : Node) → IsAnswered (λ j request. answers k request) 0 node → IsAnswered answers k node
answered_at answers k n.Null all = all
answered_at answers k (n.SeqBlock body) all = all
answered_at answers k (n.Conditional x a b) all = all
answered_at answers k (n.Case kind x items) all = all
answered_at answers k (n.For start x step body) all = all
answered_at answers k (n.While x body) all = all
answered_at answers k (n.Repeat x body) all = all
answered_at answers k (n.Forever body) all = all
answered_at answers k (n.EventControl event body) all = all
answered_at answers k n.Finish all = all
answered_at answers k (n.SystemTaskEnable name arguments) all = all
answered_at answers k (n.Blocking a) all = all
answered_at answers k (n.Nonblocking a) all = all

pub plans_are : (names : Names) (nodes : List Node) (plans : List Plan) → AllZip (IsNodePlan names) nodes plans → ArePlans names nodes plans
plans_are names nodes plans all = record {
  long = zip_long (IsNodePlan names) nodes plans all;
  answered = λ k node is.
      let p = there (IsNodePlan names) nodes plans k node all is in
      let one : IsNodePlan names node p.0 = zip_at (IsNodePlan names) nodes plans k node p.0 all is p.1 in
      let same : p.0 ≡ plan_at plans k = ap or_nothing (sym p.1) in
      answered_at (λ j request. IsPlanned names (plan_at plans j) request) k node (subst (IsNodePlan names node) same one);
}

pub net_plans_are : (names : Names) (nodes : List NetNode) (plans : List (Option Transfer)) → AllZip (IsNetPlan names) nodes plans → AreNetPlans names nodes plans
net_plans_are names nodes plans all = record {
  long = zip_long (IsNetPlan names) nodes plans all;
  each = λ k a t is plan. zip_at (IsNetPlan names) nodes plans k (net.Assign a) (Some t) all is plan;
}
