use Rattle.tb_refusals.proofs.Common.{Bool, not, ◌&&◌, sym, subst, BenchFault, TwoClocks, IsFirst, BenchItem, second, generator_faults, own_item_faults, some_item, is_generator, may_start, context_of}
use Rattle.std.specs.Prelude.{Option}
use Rattle.std.proofs.lemmas.Result.{IfOk-weaker}
use Rattle.vlog_syntax.specs.declared.item.Process.{Process}
use Rattle.tb_checks.specs.Processes.{process_faults}
use Rattle.tb_refusals.proofs.check.own_fault.Goals as goal

pub returns-in-Clocks : goal.returns-in-Clocks
returns-in-Clocks c = λ before has.
    let k = context_of c.args.context in
    let again = subst (λ (b : Bool). IsFirst (second b (TwoClocks c.in-Clocks.at)) c.second-again.result) has.generator c.second-again.ensures in
    let both = c.earlier.ensures.joined (second (some_item is_generator before) (TwoClocks c.in-Clocks.at)) (generator_faults k c.in-Clocks.generator) again c.generator_fault.ensures in
    subst (λ (x : BenchItem). IsFirst (own_item_faults k before x) c.earlier.result) (sym c.in-Clocks.is) both

pub returns-in-Runs : goal.returns-in-Runs
returns-in-Runs c = λ before has.
    let k = context_of c.args.context in
    let told : (f : Option BenchFault) → IsFirst (process_faults k.names k.clock (k.is_free && not c.args.seen.now.has_start) c.get-in-Runs.result.now) f → IsFirst (own_item_faults k before c.args.item.now) f =
    λ f e.
    let behind = subst (λ (b : Bool). IsFirst (process_faults k.names k.clock (k.is_free && not b) c.get-in-Runs.result.now) f) has.start e in
    let here = subst (λ (p : Process). IsFirst (process_faults k.names k.clock (may_start k before) p) f) c.get-in-Runs.ensures behind in
    subst (λ (x : BenchItem). IsFirst (own_item_faults k before x) f) (sym c.in-Runs.is) here in
    IfOk-weaker c.run_fault.result _ _ told c.run_fault.ensures
