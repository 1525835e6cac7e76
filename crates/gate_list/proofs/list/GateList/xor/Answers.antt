use Rattle.gate_list.proofs.Common.{◌≡◌, subst, sym, not, if◌then◌else◌, IfOk-weaker, lit_value, Adds, xor_of}
use Rattle.gate_list.proofs.Adding.{adds-xor}
use Rattle.gate_list.proofs.list.GateList.xor.Goals as goal

pub returns-clause-adds : goal.returns-clause-adds
returns-clause-adds c =
    IfOk-weaker c.told_apart.result
    (λ lit. record { gates = c.told_apart.new.self; lit = lit } ≡ xor_of c.args.self.now c.args.a c.args.b)
    (λ lit. Adds c.args.self.now c.told_apart.new.self lit (λ values. if lit_value values c.args.a then not (lit_value values c.args.b) else lit_value values c.args.b))
    (λ lit made. subst (λ m. Adds c.args.self.now m.gates m.lit (λ values. if lit_value values c.args.a then not (lit_value values c.args.b) else lit_value values c.args.b)) (sym made) (adds-xor c.args.self.now c.args.a c.args.b c.requires.a c.requires.b))
    c.told_apart.ensures.made
