use Rattle.gate_clauses.proofs.Common.{rules, ◌∙◌, ap, neg_ℤ, w32, FitsSigned, to_z-of_z}
use Rattle.gate_clauses.proofs.Pushing.{xor-pushed}
use Rattle.gate_clauses.proofs.encode.push_xor.Goals as goal

pub returns : goal.returns
returns c =
    let y-fits : FitsSigned w32 c.args.y = search rules in
    let y-is = to_z-of_z w32 c.args.y y-fits in
    let a-fits : FitsSigned w32 c.args.a = search rules in
    let a-is = to_z-of_z w32 c.args.a a-fits in
    let b-fits : FitsSigned w32 c.args.b = search rules in
    let b-is = to_z-of_z w32 c.args.b b-fits in
    let y-small : FitsSigned w32 c.negation-not_y.result = search rules in
    let y-not = to_z-of_z w32 c.negation-not_y.result y-small ∙ (c.negation-not_y.ensures ∙ ap neg_ℤ y-is) in
    let a-small : FitsSigned w32 c.negation-not_a.result = search rules in
    let a-not = to_z-of_z w32 c.negation-not_a.result a-small ∙ (c.negation-not_a.ensures ∙ ap neg_ℤ a-is) in
    let b-small : FitsSigned w32 c.negation-not_b.result = search rules in
    let b-not = to_z-of_z w32 c.negation-not_b.result b-small ∙ (c.negation-not_b.ensures ∙ ap neg_ℤ b-is) in
    xor-pushed c.args.y c.args.a c.args.b _ _ _ _ _ _ c.args.store.now c.push_three.new.store c.push_three-2.new.store c.push_three-3.new.store c.push_three-4.new.store y-is a-is b-is y-not a-not b-not c.in_ok-push_three.ensures.ok c.in_ok-push_three-2.ensures.ok c.in_ok-push_three-3.ensures.ok c.in_ok-push_three-4.ensures.ok
