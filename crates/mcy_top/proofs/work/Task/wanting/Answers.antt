use Rattle.mcy_top.proofs.Common.{◌≡◌, ◌∙◌, ◌≤◌, ℕ, length, ap, sym, arith, plan_fit, wanting_from}
use Rattle.mcy_top.proofs.Counting.{count_none, count_some, counted_few}
use Rattle.mcy_top.proofs.work.Task.wanting.Goals as goal
use Rattle.mcy_top.proofs.work.Task.wanting.Goals.{then-is_some, else-is_some}

pub overflow_cast-mutations : goal.overflow_cast-mutations
overflow_cast-mutations c = omega (arith, ap length c.as_slice.ensures, (plan_fit c.args.self.now.prepared.now c.requires.plan).few_mutations)

pub want-requires-clause-fit : goal.want-requires-clause-fit
want-requires-clause-fit c = plan_fit c.args.self.now.prepared.now c.requires.plan

pub want-requires-clause-mutation : goal.want-requires-clause-mutation
want-requires-clause-mutation c = omega (arith, ap length c.as_slice.ensures)

-- no more are counted than there are
pub overflow_add-count : goal.overflow_add-count
overflow_add-count c =
    let few : wanting_from c.args.self.now.prepared.now c.args.goal.now c.args.state.now.rows 0 c.loop-mutation.mutation ≤ c.loop-mutation.mutation = counted_few c.args.self.now.prepared.now c.args.goal.now c.args.state.now.rows 0 c.loop-mutation.mutation in
    omega (arith, few, c.loop-mutation.invariant, ap length c.as_slice.ensures, (plan_fit c.args.self.now.prepared.now c.requires.plan).few_mutations)

-- it wants a test, or none
pub loop-mutation-preserved : goal.loop-mutation-preserved
loop-mutation-preserved c = elim c.if-is_some.branch [
  | then-is_some v ↦ v.count-is ∙ count_some c.args.self.now.prepared.now c.args.goal.now c.args.state.now.rows c.loop-mutation.mutation c.loop-mutation.count c.want.result c.loop-mutation.invariant (sym c.want.ensures) (sym c.is_some.ensures ∙ v.if-is_some.true)
  | else-is_some v ↦ v.count-is ∙ count_none c.args.self.now.prepared.now c.args.goal.now c.args.state.now.rows c.loop-mutation.mutation c.loop-mutation.count c.want.result c.loop-mutation.invariant (sym c.want.ensures) (sym c.is_some.ensures ∙ v.if-is_some.false)
]

pub returns : goal.returns
returns c =
    let all : c.loop-mutation.mutation ≡ length c.args.self.now.prepared.now.campaign.mutations = omega (arith, ap length c.as_slice.ensures) in
    c.loop-mutation.invariant ∙ ap (λ (n : ℕ). wanting_from c.args.self.now.prepared.now c.args.goal.now c.args.state.now.rows 0 n) all
