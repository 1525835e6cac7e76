use Rattle.gate_words.proofs.SumLemmas.{full-made}
use Rattle.gate_words.proofs.sums.full_sum.Goals as goal

pub returns : goal.returns
returns c =
    full-made c.args.gates.now c.args.a c.args.b c.args.carry
    (record { gates = c.xor.new.self; lit = c.in_ok-apart.apart })
    (record { gates = c.xor-2.new.self; lit = c.in_ok-bit.bit })
    (record { gates = c.and.new.self; lit = c.in_ok-both.both })
    (record { gates = c.and-2.new.self; lit = c.in_ok-passed.passed })
    (record { gates = c.or.new.self; lit = c.in_ok-next.next })
    c.in_ok-apart.ensures.made c.in_ok-bit.ensures.made c.in_ok-both.ensures.made c.in_ok-passed.ensures.made c.in_ok-next.ensures.made
