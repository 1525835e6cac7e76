use Rattle.tb_reading.proofs.Common.{[], refl, sym, subst, Names, names_of, Parts, HasParts, processes}
use Rattle.vlog_syntax.specs.declared.item.ProcessKind.TheVariants as k
use Rattle.tb_reading.proofs.Assembling.{Coded, Assembled, known_so, sides_so, plans_so, net_plans_so, can_run, has_parts, listed}
use Rattle.tb_reading.proofs.bench.assemble.Goals as goal

pub plan_all-requires : goal.plan_all-requires
plan_all-requires c =
    let r = c.args.reading in
    let coded : Coded r c.list_processes-2.new.code c.in_ok-always.always.items c.in_ok-initial.initial.items = record {
      mid = c.list_processes.new.code;
      first = listed c.new-code.result [] c.list_processes.new.code c.in_ok-always.always.items c.in_ok-always.always.items (processes k.Always r.items.items) c.new-code.ensures refl (rw c.as_slice.ensures.value at c.in_ok-always.ensures);
      second = rw c.as_slice-2.ensures.value at c.in_ok-initial.ensures;
      faultless = c.requires.faultless;
    } in
    known_so r c.list_processes-2.new.code c.in_ok-always.always.items c.in_ok-initial.initial.items coded c.into_parts-scope.result.0 c.nodes.result.now c.into_parts-scope.ensures.scope c.nodes.ensures

pub plan_nets-requires : goal.plan_nets-requires
plan_nets-requires c = sides_so c.into_parts-scope.result.0 c.args.reading.signals.scope c.args.reading.signals.widths c.args.reading.inputs.items c.args.reading.outputs.items c.args.nets c.as_slice-3.result.now c.into_parts-scope.ensures.scope c.as_slice-3.ensures c.requires.settle

pub of-requires : goal.of-requires
of-requires c =
    let r = c.args.reading in
    let ns : Names = names_of c.into_parts-scope.result.0 in
    let p : Parts = record { scope = c.into_parts-scope.result.0; starts = c.into_parts-scope.result.1; code = c.list_processes-2.new.code; plans = c.from_vec.result; always = c.from_vec-2.result; initial = c.from_vec-3.result; clock = c.args.clock; inputs = c.from_vec-4.result; outputs = c.from_vec-5.result; nets = c.args.nets; net_plans = c.from_vec-6.result } in
    let coded : Coded r c.list_processes-2.new.code c.from_vec-2.result c.from_vec-3.result = record {
      mid = c.list_processes.new.code;
      first = listed c.new-code.result [] c.list_processes.new.code c.in_ok-always.always.items c.from_vec-2.result (processes k.Always r.items.items) c.new-code.ensures c.from_vec-2.ensures (rw c.as_slice.ensures.value at c.in_ok-always.ensures);
      second = listed c.list_processes.new.code c.list_processes.new.code c.list_processes-2.new.code c.in_ok-initial.initial.items c.from_vec-3.result (processes k.Initial r.items.items) refl c.from_vec-3.ensures (rw c.as_slice-2.ensures.value at c.in_ok-initial.ensures);
      faultless = c.requires.faultless;
    } in
    let made : Assembled r p = record {
      coded = coded;
      plans = plans_so ns c.nodes.result.now c.list_processes-2.new.code c.in_ok-plans.plans.items c.from_vec.result c.nodes.ensures c.from_vec.ensures c.in_ok-plans.ensures;
      net_plans = net_plans_so ns c.as_slice-3.result.now c.args.nets.nodes c.in_ok-net_plans.net_plans.items c.from_vec-6.result c.as_slice-3.ensures c.from_vec-6.ensures c.in_ok-net_plans.ensures;
      scope = c.into_parts-scope.ensures.scope;
      widths_are = c.into_parts-scope.ensures.widths;
      values = c.into_parts-scope.ensures.values;
      inputs = c.from_vec-4.ensures;
      outputs = c.from_vec-5.ensures;
      nodes = c.requires.nodes;
      clock = c.requires.clock;
      signals = c.into_parts-scope.ensures.signals;
      settle = c.requires.settle;
    } in
    can_run r p made

pub returns : goal.returns
returns c =
    let r = c.args.reading in
    let ns : Names = names_of c.into_parts-scope.result.0 in
    let p : Parts = record { scope = c.into_parts-scope.result.0; starts = c.into_parts-scope.result.1; code = c.list_processes-2.new.code; plans = c.from_vec.result; always = c.from_vec-2.result; initial = c.from_vec-3.result; clock = c.args.clock; inputs = c.from_vec-4.result; outputs = c.from_vec-5.result; nets = c.args.nets; net_plans = c.from_vec-6.result } in
    let coded : Coded r c.list_processes-2.new.code c.from_vec-2.result c.from_vec-3.result = record {
      mid = c.list_processes.new.code;
      first = listed c.new-code.result [] c.list_processes.new.code c.in_ok-always.always.items c.from_vec-2.result (processes k.Always r.items.items) c.new-code.ensures c.from_vec-2.ensures (rw c.as_slice.ensures.value at c.in_ok-always.ensures);
      second = listed c.list_processes.new.code c.list_processes.new.code c.list_processes-2.new.code c.in_ok-initial.initial.items c.from_vec-3.result (processes k.Initial r.items.items) refl c.from_vec-3.ensures (rw c.as_slice-2.ensures.value at c.in_ok-initial.ensures);
      faultless = c.requires.faultless;
    } in
    let made : Assembled r p = record {
      coded = coded;
      plans = plans_so ns c.nodes.result.now c.list_processes-2.new.code c.in_ok-plans.plans.items c.from_vec.result c.nodes.ensures c.from_vec.ensures c.in_ok-plans.ensures;
      net_plans = net_plans_so ns c.as_slice-3.result.now c.args.nets.nodes c.in_ok-net_plans.net_plans.items c.from_vec-6.result c.as_slice-3.ensures c.from_vec-6.ensures c.in_ok-net_plans.ensures;
      scope = c.into_parts-scope.ensures.scope;
      widths_are = c.into_parts-scope.ensures.widths;
      values = c.into_parts-scope.ensures.values;
      inputs = c.from_vec-4.ensures;
      outputs = c.from_vec-5.ensures;
      nodes = c.requires.nodes;
      clock = c.requires.clock;
      signals = c.into_parts-scope.ensures.signals;
      settle = c.requires.settle;
    } in
    let P : Parts → Type 0 = λ x. HasParts r x in
    subst P (sym c.of.ensures) (has_parts r p made)
