-- What is built of items is what they lay, so it is one.
use Rattle.elab_once.proofs.Common.{[], ◌∷◌, sym, ap, ◌∙◌, BuiltOnce, ItemsAreLaid}
use Rattle.elab_items.specs.Laid.{lay_items}

pub items_laid : ItemsAreLaid
items_laid inputs flat clocks [] b last h = h
items_laid inputs flat clocks (item ∷ more) b last (mid, d, rest) = items_laid inputs flat clocks more mid last rest ∙ ap (lay_items flat.places more) d.builds.laid

pub built_once : BuiltOnce
built_once inputs flat clocks items b last end h g = items_laid inputs flat clocks items b last h ∙ sym (items_laid inputs flat clocks items b end g)
