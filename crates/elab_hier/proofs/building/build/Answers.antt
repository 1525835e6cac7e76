use Rattle.elab_hier.proofs.Common.{ℕ, List, Option, None, Some, subst, FlatItem, flat_of, IsPast, max_turns, first_stands}
use Rattle.elab_hier.proofs.building.build.Goals as goal

pub first_past-requires-clause-stands : goal.first_past-requires-clause-stands
first_past-requires-clause-stands c = first_stands (flat_of c.args.flat.now) c.in_ok-builder.builder c.requires.sound c.in_ok-builder.ensures.begun.begins.declared

pub first_past-requires-clause-copies : goal.first_past-requires-clause-copies
first_past-requires-clause-copies c = (c.in_ok-desk.ensures (flat_of c.args.flat.now).places).holds.scopes

pub build_all-requires-clause-serves : goal.build_all-requires-clause-serves
build_all-requires-clause-serves c = c.in_ok-first_past.ensures.serves c.args.inputs.now (c.in_ok-desk.ensures (flat_of c.args.flat.now).places)

pub build_all-requires-clause-few : goal.build_all-requires-clause-few
build_all-requires-clause-few c =
    let places = (flat_of c.args.flat.now).places in
    let few = subst (λ (o : Option ℕ). IsPast places max_turns c.items.result.now o) c.in-None.is c.in_ok-first_past.ensures.past in
    subst (λ (items : List FlatItem). IsPast places max_turns items None) c.items.ensures few

pub refuse-requires-clause-serves : goal.refuse-requires-clause-serves
refuse-requires-clause-serves c = c.in_ok-first_past.ensures.serves c.args.inputs.now (c.in_ok-desk.ensures (flat_of c.args.flat.now).places)

pub refuse-requires-clause-many : goal.refuse-requires-clause-many
refuse-requires-clause-many c =
    let places = (flat_of c.args.flat.now).places in
    let many = subst (λ (o : Option ℕ). IsPast places max_turns c.items.result.now o) c.in-Some.is c.in_ok-first_past.ensures.past in
    subst (λ (items : List FlatItem). IsPast places max_turns items (Some c.in-Some.count)) c.items.ensures many
