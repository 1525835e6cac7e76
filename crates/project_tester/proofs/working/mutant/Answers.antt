use Rattle.project_tester.proofs.Common.{◌≡◌, ℕ, ◌<◌, ◌≤◌, List, length, get_or, Result, Ok, Err, IfOk, ap, arith, RawNetlist, net_bits, Plan, Site, HasEachRun, HasOneMore, HasSameNames}
use Rattle.project_tester.proofs.Common.{HasSameShapes, RunsAlike, Prepared, IsBrokenAt, plan_count, plan_nets, plan_site}
use Rattle.project_tester.proofs.Verdicts.{broken_at}
use Rattle.project_tester.proofs.working.mutant.Goals as goal

pub bounds-as_slice-mutation : goal.bounds-as_slice-mutation
bounds-as_slice-mutation c = omega (arith, plan_count c.args.prepared.now c.requires.plan, c.requires.mutation, ap length c.as_slice.ensures)

pub mutate-requires-clause-site : goal.mutate-requires-clause-site
mutate-requires-clause-site c =
    let below : c.args.mutation < length c.args.prepared.now.sites = omega (arith, plan_count c.args.prepared.now c.requires.plan, c.requires.mutation) in
    rw (c.netlist.ensures, c.as_slice.ensures) (plan_site c.args.prepared.now c.args.mutation _ c.requires.plan below)

pub mutate-requires-clause-cells : goal.mutate-requires-clause-cells
mutate-requires-clause-cells c =
    let nets = plan_nets c.args.prepared.now c.requires.plan in
    let cells : length c.args.prepared.now.netlist.cells ≤ 65535 = omega (arith, nets.0) in
    rw c.netlist.ensures cells

pub mutate-requires-clause-bits : goal.mutate-requires-clause-bits
mutate-requires-clause-bits c =
    let nets = plan_nets c.args.prepared.now c.requires.plan in
    let bits : net_bits c.args.prepared.now.netlist ≤ 1048576 = omega (arith, nets.1) in
    rw c.netlist.ensures bits

-- what `mutate` gives is the mutant, if it gives something
broken_result : {E : Type 0} (c : Prepared) (list : List Site) (m : ℕ) (d : Site) (original : RawNetlist) (r : Result Plan E) → list ≡ c.sites → m < length c.sites → original ≡ c.netlist → IfOk r (λ mutated. RunsAlike original mutated.raw (get_or list m d)) → IfOk r (λ mutated. HasEachRun original mutated.raw (get_or list m d))
    → IfOk r (λ mutated. HasOneMore original mutated.raw) → IfOk r (λ mutated. HasSameNames original mutated.raw) → IfOk r (λ mutated. HasSameShapes original mutated.raw (get_or list m d).mode) → IfOk r (λ mutated. IsBrokenAt c m mutated.raw)
broken_result c list m d original (Ok mutated) are below is runs each more names shapes = broken_at c list m d original mutated.raw are below is runs each more names shapes
broken_result c list m d original (Err error) are below is runs each more names shapes = tt

pub returns-clause-broken : goal.returns-clause-broken
returns-clause-broken c =
    let prepared : Prepared = c.args.prepared.now in
    let below : c.args.mutation < length prepared.sites = omega (arith, plan_count prepared c.requires.plan, c.requires.mutation) in
    let mutated = c.mutate.ensures in
    broken_result prepared c.as_slice.result.now c.args.mutation _ c.netlist.result.now.raw c.mutate.result c.as_slice.ensures below c.netlist.ensures mutated.alike mutated.each_run mutated.one_more mutated.names mutated.shapes
