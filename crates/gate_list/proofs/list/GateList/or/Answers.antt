use Rattle.gate_list.proofs.Common.{◌≡◌, subst, sym, true, if◌then◌else◌, IfOk-weaker, lit_value, Adds, or_of}
use Rattle.gate_list.proofs.Adding.{adds-or}
use Rattle.gate_list.proofs.list.GateList.or.Goals as goal

pub returns-clause-adds : goal.returns-clause-adds
returns-clause-adds c =
    IfOk-weaker c.disjoined.result
    (λ lit. record { gates = c.disjoined.new.self; lit = lit } ≡ or_of c.args.self.now c.args.a c.args.b)
    (λ lit. Adds c.args.self.now c.disjoined.new.self lit (λ values. if lit_value values c.args.a then true else lit_value values c.args.b))
    (λ lit made. subst (λ m. Adds c.args.self.now m.gates m.lit (λ values. if lit_value values c.args.a then true else lit_value values c.args.b)) (sym made) (adds-or c.args.self.now c.args.a c.args.b c.requires.a c.requires.b))
    c.disjoined.ensures.made
