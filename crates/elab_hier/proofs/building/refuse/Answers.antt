use Rattle.elab_hier.proofs.Common.{◌≡◌, ◌≤◌, ◌⊎◌, List, take, length, ap, subst, arith, Signal, FlatItem, flat_of, clocks_in, Memory, build_answer, first_stands}
use Rattle.std.proofs.lemmas.List.{length-take-le}
use Rattle.elab_hier.proofs.Counted.{some_refused, turns_refused}
use Rattle.elab_hier.proofs.building.refuse.Goals as goal

pub slice_bounds-before-end : goal.slice_bounds-before-end
slice_bounds-before-end c =
    let same = ap (λ (items : List FlatItem). length items) c.items.ensures in
    let inside = c.requires.many.0 in
    let there : c.args.count ≤ length c.items.result.now = omega (arith, same, inside) in
    let long = length-take-le c.args.count c.items.result.now there in
    omega (arith, there, long)

pub build_items-requires-clause-stands : goal.build_items-requires-clause-stands
build_items-requires-clause-stands c = first_stands (flat_of c.args.flat.now) c.args.builder c.requires.sound c.requires.begun.begins.declared

pub returns-in-Ok : goal.returns-in-Ok
returns-in-Ok c =
    let flat = flat_of c.args.flat.now in
    let count = c.args.count in
    turns_refused flat c.args.inputs.now (clocks_in c.args.clocks.now) c.requires.timed c.args.builder c.requires.begun count (take count c.items.result.now) c.build_items.new.builder c.requires.many (ap (take count) c.items.ensures) c.in-Ok.ensures.built

pub returns : goal.returns
returns c =
    let flat = flat_of c.args.flat.now in
    let count = c.args.count in
    let error = c.in-Err.error in
    let answer = c.build_answer.result in
    let answers = subst (λ (signals : List Signal). (answer ≡ build_answer signals error) ⊎ (answer ≡ Memory)) c.signals.ensures c.build_answer.ensures in
    some_refused flat c.args.inputs.now (clocks_in c.args.clocks.now) c.requires.timed c.args.builder c.requires.begun count (take count c.items.result.now) error answer c.requires.many (ap (take count) c.items.ensures) c.in-Err.ensures.fails answers
