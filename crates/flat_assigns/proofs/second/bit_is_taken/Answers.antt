use Rattle.flat_assigns.proofs.Common.{ℕ, [], ◌∷◌, Option, sym, ◌∙◌, subst, IsPassed}
use Rattle.flat_assigns.proofs.Firsts.{passed_one}
use Rattle.flat_assigns.proofs.second.bit_is_taken.Goals as goal

pub returns-in_ok-is_taken-in-Some : goal.returns-in_ok-is_taken-in-Some
returns-in_ok-is_taken-in-Some c = λ before seen.
    let s = c.args.slice.now in
    let one = passed_one c.args.builder.now c.args.inputs.now before s.span s.signal c.in-Some.bit c.is_taken.new.seen c.in_ok-is_taken-in-Some.field-0 (c.in_ok-is_taken-in-Some.ensures before seen) in
    subst (λ (o : Option ℕ). IsPassed c.args.builder.now c.args.inputs.now before s.span s.signal (o ∷ []) c.is_taken.new.seen c.in_ok-is_taken-in-Some.field-0) (sym c.in-Some.is ∙ c.bit.ensures) one
