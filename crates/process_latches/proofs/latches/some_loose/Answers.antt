use Rattle.process_latches.proofs.Common.{◌≡◌, ◌∙◌, Bool, not, ◌||◌, ℕ, ap, subst, add-one, arith, some_bit, has_bit}
use Rattle.process_latches.proofs.latches.some_loose.Goals as goal

pub loop-place-preserved : goal.loop-place-preserved
loop-place-preserved c = rw add-one (c.either-found.ensures ∙ ap (λ (b : Bool). b || c.loop-place.found) c.is_loose.ensures ∙ ap (λ (b : Bool). (not (has_bit c.args.covered c.loop-place.place) || has_bit c.args.early c.loop-place.place) || b) c.loop-place.invariant)

pub returns : goal.returns
returns c =
    let same : c.loop-place.place ≡ c.args.width = omega arith in
    subst (λ (k : ℕ). c.loop-place.found ≡ some_bit k (λ i. not (has_bit c.args.covered i) || has_bit c.args.early i)) same c.loop-place.invariant
