-- What the code's lists stand for.
use Rattle.flat_instances.specs.declared.giving.Giving.{Giving}
use Rattle.flat_instances.specs.Gifts.{Gift}

abbrev pub gift_in : Giving → Gift
gift_in g = record { given = g.given.items; refused = g.refused.items }
