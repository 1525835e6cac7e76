use Rattle.elab_finish.proofs.Common.{map, take, register_name}
use Rattle.elab_finish.proofs.Naming.{again_there, all_apart, met_on, none_again}
use Rattle.elab_finish.proofs.names.named_again.Goals as goal

pub returns-then-branch : goal.returns-then-branch
returns-then-branch c =
    let rs = c.args.registers.now in
    let k = c.loop-register.register-index in
    again_there rs k c.register-item.result c.as_str.result.now c.is_met.new.met c.in_ok-is_met.field-0 c.register-item.is c.loop-register-test.true c.as_str.ensures c.loop-register.invariant.none
    (c.in_ok-is_met.ensures (map register_name (take k rs)) c.loop-register.invariant.met) c.if-branch.true

pub loop-register-preserved : goal.loop-register-preserved
loop-register-preserved c =
    let rs = c.args.registers.now in
    let k = c.loop-register.register-index in
    let told = c.in_ok-is_met.ensures (map register_name (take k rs)) c.loop-register.invariant.met in
    record {
      met = met_on rs k c.register-item.result c.as_str.result.now c.is_met.new.met c.in_ok-is_met.field-0 c.register-item.is c.loop-register-test.true c.as_str.ensures told c.if-branch.false;
      none = none_again rs k c.register-item.result c.as_str.result.now c.is_met.new.met c.in_ok-is_met.field-0 c.register-item.is c.loop-register-test.true c.as_str.ensures c.loop-register.invariant.none told c.if-branch.false;
    }

pub returns : goal.returns
returns c = all_apart c.args.registers.now c.loop-register.register-index c.loop-register-test.false c.loop-register.invariant.none
