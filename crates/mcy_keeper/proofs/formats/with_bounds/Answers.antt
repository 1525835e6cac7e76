use Rattle.std.proofs.Common.{◌≡◌, ◌∙◌, get_or, arith}
use Rattle.mcy_keeper.proofs.Bounds.{bounds_step}
use Rattle.mcy_keeper.specs.declared.book.Entry.{Entry}
use Rattle.mcy_keeper.proofs.formats.with_bounds.Goals as goal
use Rattle.mcy_keeper.proofs.formats.with_bounds.Goals.{in-Some, in-None}

pub loop-place-preserved : goal.loop-place-preserved
loop-place-preserved c =
    let none : Entry = record { seq = 0; mutation = 0; test = 0; word = 0; mark = 0; tags = 0; bound = 0 } in
    let at = c.loop-place.place in
    let own = (get_or c.args.entries.now at none).bound in
    let looked = c.get.ensures.lookup.4 (omega arith) own in
    let is : c.match-get.bound ≡ get_or c.args.bounds.now at own = elim c.match-get.branch [ in-Some w ↦ w.bound-is ∙ (rw w.in-Some.is at looked) | in-None w ↦ w.bound-is ∙ (rw w.in-None.is at looked) ] in
    bounds_step c.args.bounds.now c.args.entries.now c.loop-place.rows.items c.push.new.self.items at c.match-get.bound none c.loop-place-test.true c.loop-place.invariant is c.in_ok-push.ensures.items
