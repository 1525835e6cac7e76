use Rattle.lrat_checker.proofs.Common.{◌<◌, length, rules}
use Rattle.lrat_checker.proofs.Listing.{listed-push}
use Rattle.lrat_checker.proofs.trail.Trail.set.Goals as goal

pub invariant_of-self-2 : goal.invariant_of-self-2
invariant_of-self-2 c =
    let within : c.args.v < length c.self.inside.values.items = search rules in
    rw c.in_ok-push.ensures.items (listed-push c.self.inside.values.items c.self.inside.assigned.items c.args.v _ c.self.invariant within)
