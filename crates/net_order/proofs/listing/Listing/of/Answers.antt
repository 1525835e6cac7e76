use Rattle.net_order.proofs.Common.{◌≡◌, true, map, set, ap, arith, Stage, stage_of, none_left, unfound}
use Rattle.net_order.proofs.Staged.{inside, woken, woken-inside, marked-stage, next-fewer, stage-sized, above-first}
use Rattle.net_order.proofs.listing.Listing.of.Goals as goal

pub list-requires-clause-sized : goal.list-requires-clause-sized
list-requires-clause-sized c =
    let sized = stage-sized (map (λ v. v.items) c.args.reads.items) (stage_of c.loop-c.listing) none_left c.loop-c.invariant in
    record { rows = sized.rows; wide = sized.wide; inside = sized.inside }

pub list-requires-clause-node : goal.list-requires-clause-node
list-requires-clause-node c = inside (map (λ v. v.items) c.args.reads.items) (stage_of c.loop-c.listing) c.loop-c.invariant c.in-Some.c c.pop_first.new.self.keys c.in-Some.ensures.removal (above-first c.in-Some.c c.pop_first.new.self.keys c.in-Some.ensures.all_above)

pub list-requires-clause-nodes : goal.list-requires-clause-nodes
list-requires-clause-nodes c = woken-inside (map (λ v. v.items) c.args.reads.items) (stage_of c.loop-c.listing) c.loop-c.invariant c.in-Some.c c.pop_first.new.self.keys c.in-Some.ensures.removal (above-first c.in-Some.c c.pop_first.new.self.keys c.in-Some.ensures.all_above)

pub loop-c-smaller : goal.loop-c-smaller
loop-c-smaller c =
    let less = next-fewer (map (λ v. v.items) c.args.reads.items) (stage_of c.loop-c.listing) c.loop-c.invariant c.in-Some.c c.pop_first.new.self.keys c.in-Some.ensures.removal (above-first c.in-Some.c c.pop_first.new.self.keys c.in-Some.ensures.all_above) in
    let count : unfound c.list.new.self.listed.items ≡ unfound (set c.loop-c.listing.listed.items c.in-Some.c true) = ap unfound c.in_ok-list.ensures.listed in
    omega (arith, count, less)

pub loop-c-preserved : goal.loop-c-preserved
loop-c-preserved c =
    let s : Stage = stage_of c.loop-c.listing in
    let above = above-first c.in-Some.c c.pop_first.new.self.keys c.in-Some.ensures.all_above in
    c.in_ok-list.ensures.stage (map (λ v. v.items) c.args.reads.items) (marked-stage (map (λ v. v.items) c.args.reads.items) s c.loop-c.invariant c.in-Some.c c.pop_first.new.self.keys c.in-Some.ensures.removal above) (woken (map (λ v. v.items) c.args.reads.items) s c.loop-c.invariant c.in-Some.c c.pop_first.new.self.keys c.in-Some.ensures.removal above)
