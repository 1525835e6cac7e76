use Rattle.gate_list.proofs.Common.{◌≡◌, subst, sym, false, if◌then◌else◌, IfOk-weaker, lit_value, Adds, and_of}
use Rattle.gate_list.proofs.Adding.{adds-and}
use Rattle.gate_list.proofs.list.GateList.and.Goals as goal

pub returns-clause-adds : goal.returns-clause-adds
returns-clause-adds c =
    IfOk-weaker c.conjoined.result
    (λ lit. record { gates = c.conjoined.new.self; lit = lit } ≡ and_of c.args.self.now c.args.a c.args.b)
    (λ lit. Adds c.args.self.now c.conjoined.new.self lit (λ values. if lit_value values c.args.a then lit_value values c.args.b else false))
    (λ lit made. subst (λ m. Adds c.args.self.now m.gates m.lit (λ values. if lit_value values c.args.a then lit_value values c.args.b else false)) (sym made) (adds-and c.args.self.now c.args.a c.args.b c.requires.a c.requires.b))
    c.conjoined.ensures.made
