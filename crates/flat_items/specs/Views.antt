-- What the code's lists stand for.
use Rattle.std.specs.Prelude.{map}
use Rattle.flat_items.specs.declared.flat.Flat.{Flat as Kept}
use Rattle.flat_items.specs.Flattened.{Flat}
use Rattle.flat_instances.specs.Places.{place_of}

abbrev pub flat_of : Kept → Flat
flat_of f = record { signals = f.signals.items; places = map place_of f.places.items; items = f.items.items }
