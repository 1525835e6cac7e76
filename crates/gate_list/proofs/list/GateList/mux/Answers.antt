use Rattle.gate_list.proofs.Common.{◌≡◌, subst, sym, if◌then◌else◌, IfOk-weaker, lit_value, Adds, mux_of}
use Rattle.gate_list.proofs.Adding.{adds-mux}
use Rattle.gate_list.proofs.list.GateList.mux.Goals as goal

pub returns-clause-adds : goal.returns-clause-adds
returns-clause-adds c =
    IfOk-weaker c.chosen.result
    (λ lit. record { gates = c.chosen.new.self; lit = lit } ≡ mux_of c.args.self.now c.args.s c.args.a c.args.b)
    (λ lit. Adds c.args.self.now c.chosen.new.self lit (λ values. if lit_value values c.args.s then lit_value values c.args.b else lit_value values c.args.a))
    (λ lit made. subst (λ m. Adds c.args.self.now m.gates m.lit (λ values. if lit_value values c.args.s then lit_value values c.args.b else lit_value values c.args.a)) (sym made) (adds-mux c.args.self.now c.args.s c.args.a c.args.b c.requires.s c.requires.a c.requires.b))
    c.chosen.ensures.made
