use Rattle.flat_items.proofs.Common.{◌≡◌, None, Some, sym, ◌∙◌, rules, here, outside, nowhere, place_of}
use Rattle.flat_items.proofs.flat.Flat.sees.Goals as goal

pub returns-in-Some-get : goal.returns-in-Some-get
returns-in-Some-get c = c.outward.invariant (Some c.in-Some-get.what) (here c.outward.at (place_of c.in-Some.place.now) c.in-Some-get.what c.in-Some.ensures (sym c.get.ensures ∙ c.in-Some-get.is))

pub returns-in-None : goal.returns-in-None
returns-in-None c = let none : c.get.result ≡ None = search rules in c.outward.invariant None (nowhere c.outward.at (place_of c.in-Some.place.now) c.in-Some.ensures (sym c.get.ensures ∙ none) c.in-None.is)

pub outward-preserved : goal.outward-preserved
outward-preserved c = λ what h. let none : c.get.result ≡ None = search rules in c.outward.invariant what (outside c.outward.at c.in-Some-around.around (place_of c.in-Some.place.now) what c.in-Some.ensures (sym c.get.ensures ∙ none) c.in-Some-around.is h)
