use Rattle.vlog_meaning.proofs.Common.{◌+◌, ◌*◌, ◌∙◌, sym, arith}
use Rattle.vlog_meaning.proofs.Powers.{power_le}
use Rattle.vlog_meaning.proofs.Joins.{joined_fits, shifted_whole, times_more, times_le, repeated_more}
use Rattle.vlog_meaning.proofs.integer.repeated.Goals as goal

pub overflow_add-found : goal.overflow_add-found
overflow_add-found c =
    let room = times_le c.loop.counter c.args.count c.args.width (omega arith) c.requires.narrow in
    let whole = shifted_whole c.loop.found (c.loop.counter * c.args.width) c.args.width c.loop.invariant.fits room in
    let fits = joined_fits c.loop.found (c.loop.counter * c.args.width) c.args.width c.args.value c.loop.invariant.fits c.requires.fits in
    let le = power_le (c.loop.counter * c.args.width + c.args.width) 128 room in
    let is = rw c.from.ensures at c.shift_left.ensures in
    omega (arith, is, whole, fits, le)

pub loop-preserved : goal.loop-preserved
loop-preserved c =
    let room = times_le c.loop.counter c.args.count c.args.width (omega arith) c.requires.narrow in
    let whole = shifted_whole c.loop.found (c.loop.counter * c.args.width) c.args.width c.loop.invariant.fits room in
    let fits = joined_fits c.loop.found (c.loop.counter * c.args.width) c.args.width c.args.value c.loop.invariant.fits c.requires.fits in
    let is = rw c.from.ensures at c.shift_left.ensures in
    let value = is ∙ whole in
    record {
      same = rw (value, c.loop.invariant.same) (sym (repeated_more c.loop.counter c.args.width c.args.value));
      fits = rw (value, times_more c.loop.counter c.args.width) fits;
    }
