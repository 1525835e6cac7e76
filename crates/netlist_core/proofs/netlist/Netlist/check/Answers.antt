use Rattle.netlist_core.proofs.Common.{◌≡◌, length, ap, ◌∙◌, Known, driver_at, all_known, plain}
use Rattle.netlist_core.proofs.Checks.{driven-below, driven-last}
use Rattle.netlist_core.proofs.Settles.{plain-causal}
use Rattle.netlist_core.proofs.Solved.{has-one-run}
use Rattle.netlist_core.proofs.netlist.Netlist.check.Goals as goal

pub invariant_of-result : goal.invariant_of-result
invariant_of-result c =
    let same : driver_at c.table-nets.result.now ≡ (all_known c.args.raw).driver = c.table-nets.ensures.drivers ∙ ap (λ (k : Known). k.driver) c.in_ok-drivers.ensures in
    record {
      formed = c.requires;
      connected = c.in_ok-test_reads.ensures;
      loops = c.in_ok-order.ensures.1;
      order = c.in_ok-order.ensures.0;
      below = driven-below c.args.raw c.table-nets.result.now same;
      last = driven-last c.args.raw (length c.table-nets.result.now) (c.table-nets.ensures.nets ∙ ap (λ (k : Known). k.nets) c.in_ok-drivers.ensures);
    }

pub returns-clause-accepted : goal.returns-clause-accepted
returns-clause-accepted c =
    let same : driver_at c.table-nets.result.now ≡ (all_known c.args.raw).driver = c.table-nets.ensures.drivers ∙ ap (λ (k : Known). k.driver) c.in_ok-drivers.ensures in
    record {
      formed = c.requires;
      connected = c.in_ok-test_reads.ensures;
      loops = c.in_ok-order.ensures.1;
      order = c.in_ok-order.ensures.0;
      below = driven-below c.args.raw c.table-nets.result.now same;
      last = driven-last c.args.raw (length c.table-nets.result.now) (c.table-nets.ensures.nets ∙ ap (λ (k : Known). k.nets) c.in_ok-drivers.ensures);
    }

pub returns-clause-one_run : goal.returns-clause-one_run
returns-clause-one_run c = λ state inputs fit all. has-one-run c.args.raw c.requires c.in_ok-test_reads.ensures c.in_ok-order.order.items c.in_ok-order.ensures.0 plain (plain-causal c.args.raw) state inputs fit all
