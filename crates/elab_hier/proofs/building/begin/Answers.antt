use Rattle.elab_hier.proofs.Common.{◌≤◌, ◌∙◌, List, ap, subst, Store, Signal, FlatItem, flat_of, empty, widths_in, StartsWith, bits_of, declared, max_bits, AllStart, starts_from}
use Rattle.elab_hier.proofs.Begun.{begun, declared_ready}
use Rattle.elab_hier.proofs.building.begin.Goals as goal

pub set_starts-requires : goal.set_starts-requires
set_starts-requires c =
    declared_ready (flat_of c.args.flat.now) c.in-Ok.builder c.requires (c.in-Ok.ensures.declared ∙ ap (λ (ss : List Signal). declared ss empty) c.signals.ensures)

pub returns-in-Ok-set_starts-clause-begun : goal.returns-in-Ok-set_starts-clause-begun
returns-in-Ok-set_starts-clause-begun c =
    let flat = flat_of c.args.flat.now in
    let old = c.in-Ok.builder in
    let new = c.set_starts.new.builder in
    let is = c.in-Ok.ensures.declared ∙ ap (λ (ss : List Signal). declared ss empty) c.signals.ensures in
    let fits = subst (λ (ss : List Signal). bits_of ss ≤ max_bits) c.signals.ensures c.in-Ok.ensures.fits in
    let starts = subst (λ (items : List FlatItem). (store : Store) → AllStart (widths_in old) flat.places items → StartsWith old store → StartsWith new (starts_from (widths_in old) flat.places items store)) c.items.ensures c.in-Ok-set_starts.ensures.starts in
    begun flat old new c.requires is fits c.in-Ok-set_starts.ensures.others starts
