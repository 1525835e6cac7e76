use Rattle.flat_items.proofs.Common.{◌≡◌, ◌∷◌, [], ap, length, refl, sym, rules, names_of, opened_of, flat_of}
use Rattle.std.proofs.lemmas.Bool.{ltb-true}
use Rattle.std.proofs.lemmas.Option.{slice_get_read}
use Rattle.flat_items.proofs.Tops.{top_entered}
use Rattle.flat_items.proofs.walk.flattened.Goals as goal

pub returns : goal.returns
returns c =
    let lookup = c.in-Some.ensures.lookup in
    let inside = ltb-true c.args.number (length c.args.modules.now) (sym lookup.0) in
    let got = slice_get_read c.args.modules.now (length c.args.modules.now) c.args.number c.in-Some.declaration.now refl inside lookup.1 in
    let alone : c.in_ok-within.within.items ≡ c.args.number ∷ [] = search rules in
    top_entered c.args.modules.now c.args.number c.in-Some.declaration.now c.in_ok-head.head (names_of c.new-3.result) (names_of c.new.result) c.new-2.result.items (opened_of c.new-child.result) (opened_of c.open_module-2.new.self)
    c.in_ok-tasks.tasks.items (flat_of c.new-flat.result) (flat_of c.list_repeated.new.self) (flat_of c.enter.new.self) (flat_of c.run.new.self) c.in_ok-within.within.items
    got c.in_ok-head.ensures (ap names_of c.new-3.ensures) (ap names_of c.new.ensures) c.new-2.ensures.items c.new-child.ensures c.in_ok-open_module.ensures c.new-flat.ensures c.in_ok-list_repeated.ensures alone
    c.in_ok-tasks.ensures.tasks c.in_ok-tasks.ensures.entered c.in_ok-run.ensures
