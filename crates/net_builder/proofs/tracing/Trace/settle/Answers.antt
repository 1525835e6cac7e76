use Rattle.net_builder.proofs.Common.{◌<◌, length, arith, Known, known_of, Fits}
use Rattle.net_builder.proofs.Marking.{marked, keeps_same, keeps_both, keeps_marked, fits_known, popped_here, popped_way, traced_pop}
use Rattle.net_builder.proofs.tracing.Trace.settle.Goals as goal

pub loop-net-init : goal.loop-net-init
loop-net-init c = (c.requires.traced, keeps_same (known_of c.args.self.now))

pub loop-net-preserved : goal.loop-net-preserved
loop-net-preserved c =
    let t : Known = known_of c.loop-net.self in
    let rest = c.pop.new.self.items in
    let here = popped_here t (Fits t c.args.mark) c.in-Some.net rest c.in-Some.ensures.items c.loop-net.invariant.0 in
    let fits = popped_way t (Fits t c.args.mark) c.in-Some.net rest c.in-Some.ensures.items c.loop-net.invariant.0 in
    (traced_pop t c.args.mark c.in-Some.net rest c.in-Some.ensures.items c.loop-net.invariant.0, keeps_both (known_of c.args.self.now) t (marked t c.in-Some.net c.args.mark rest) c.loop-net.invariant.1 (keeps_marked t c.in-Some.net c.args.mark rest here (fits_known t c.args.mark c.in-Some.net fits)))

pub index_mut-requires : goal.index_mut-requires
index_mut-requires c =
    let t : Known = known_of c.loop-net.self in
    let here : c.in-Some.net < length t.marks = popped_here t (Fits t c.args.mark) c.in-Some.net c.pop.new.self.items c.in-Some.ensures.items c.loop-net.invariant.0 in
    omega (arith, here, c.loop-net.self.marks.ok.0)
