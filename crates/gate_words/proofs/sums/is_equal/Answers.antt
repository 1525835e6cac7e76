use Rattle.gate_words.proofs.Common.{◌≡◌, ◌*◌, List, length, map, true, subst, sym, ap, ◌∙◌, number, GateLit, Fixed, count, IsLit, negated, All, And, MadeRow, chain_of, AddsLit, lit_values, equal_of}
use Rattle.std.proofs.Common.{nat_eq}
use Rattle.std.proofs.lemmas.Result.{IfOk-weaker}
use Rattle.gate_words.proofs.Growing.{lit-told}
use Rattle.gate_words.proofs.Adders.{lits-negated, equal-adds}
use Rattle.gate_words.proofs.sums.is_equal.Goals as goal

pub chain-requires-clause-bits : goal.chain-requires-clause-bits
chain-requires-clause-bits c = subst (λ (l : List GateLit). All (IsLit (count c.row.new.gates)) l) (sym (c.deref-2.ensures.value ∙ c.in_ok-alike.ensures ∙ ap (λ (l : List GateLit). map negated l) c.deref.ensures.value)) (lits-negated (count c.row.new.gates) c.in_ok-apart.apart.items c.in_ok-apart.ensures.adds.within)

pub returns-clause-adds : goal.returns-clause-adds
returns-clause-adds c =
    let alike = c.deref-2.ensures.value ∙ c.in_ok-alike.ensures ∙ ap (λ (l : List GateLit). map negated l) c.deref.ensures.value in
    IfOk-weaker c.chain.result
    (λ lit. record { gates = c.chain.new.gates; lit = lit } ≡ chain_of And c.row.new.gates (Fixed true) c.deref-2.result.now)
    (λ lit. AddsLit c.args.gates.now c.chain.new.gates lit (2 * length c.args.a.now) (λ values. nat_eq (number (lit_values values c.args.a.now)) (number (lit_values values c.args.b.now))))
    (λ lit made. lit-told (equal_of c.args.gates.now c.args.a.now c.args.b.now) (made ∙ ap (λ (l : List GateLit). chain_of And c.row.new.gates (Fixed true) l) alike ∙ ap (λ (r : MadeRow). chain_of And r.gates (Fixed true) (map negated r.bits)) c.in_ok-apart.ensures.made) (equal-adds c.args.gates.now c.args.a.now c.args.b.now c.requires.a c.requires.b c.requires.same))
    c.chain.ensures.made
