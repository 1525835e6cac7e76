use Rattle.lrat_checker.proofs.Common.{◌≡◌, Bool, [], length, Option, arith, ap, ◌∙◌, AreListed}
use Rattle.lrat_checker.proofs.Listing.{listed-none}
use Rattle.lrat_checker.proofs.trail.Trail.clear.Goals as goal

pub returns : goal.returns
returns c =
    let empty : c.loop-v.self-inside.assigned.items ≡ [] = grind (arith, c.in_default.ensures.variant) in
    let listed : AreListed c.loop-v.self-inside.values.items [] = rw empty at c.loop-v.invariant.0 in
    let same : length c.loop-v.self-inside.values.items ≡ length c.args.self.now = c.loop-v.invariant.1 ∙ ap (length {A = Option Bool}) c.self.view_is in
    rw (← same) (listed-none c.loop-v.self-inside.values.items listed)
