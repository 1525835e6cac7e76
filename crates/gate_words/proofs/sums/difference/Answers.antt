use Rattle.gate_words.proofs.Common.{◌≡◌, ◌+◌, ◌-◌, ◌*◌, ◌^◌, List, length, true, subst, sym, ap, ◌∙◌, number, GateLit, Fixed, count, IsLit, All, AddsBits, lit_values, sum_of, difference_of}
use Rattle.std.proofs.lemmas.Result.{IfOk-weaker}
use Rattle.gate_words.proofs.Growing.{row-told}
use Rattle.gate_words.proofs.Adders.{NumberIs, lits-negated, difference-number}
use Rattle.gate_words.proofs.sums.difference.Goals as goal

pub sum-requires-clause-b : goal.sum-requires-clause-b
sum-requires-clause-b c = subst (λ (l : List GateLit). All (IsLit (count c.args.gates.now)) l) (sym (c.deref.ensures.value ∙ c.in_ok-flipped.ensures)) (lits-negated (count c.args.gates.now) c.args.b.now c.requires.b)

pub returns-clause-adds : goal.returns-clause-adds
returns-clause-adds c =
    IfOk-weaker c.sum.result
    (λ bits. record { gates = c.sum.new.gates; bits = bits.items } ≡ sum_of c.args.gates.now c.args.a.now c.deref.result.now (Fixed true))
    (λ bits. AddsBits c.args.gates.now c.sum.new.gates bits.items (length c.args.a.now) (5 * length c.args.a.now) (NumberIs (length c.args.a.now) (λ values. 2 ^ length c.args.a.now + number (lit_values values c.args.a.now) - number (lit_values values c.args.b.now))))
    (λ bits made. row-told (difference_of c.args.gates.now c.args.a.now c.args.b.now) (made ∙ ap (λ (l : List GateLit). sum_of c.args.gates.now c.args.a.now l (Fixed true)) (c.deref.ensures.value ∙ c.in_ok-flipped.ensures)) (difference-number c.args.gates.now c.args.a.now c.args.b.now c.requires.a c.requires.b c.requires.same))
    c.sum.ensures.made
