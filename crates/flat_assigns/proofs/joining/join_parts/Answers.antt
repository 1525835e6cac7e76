use Rattle.flat_assigns.proofs.Common.{rules, ◌≡◌, ◌+◌, ◌-◌, ◌<◌, ◌≤◌, ℕ, get_or, length, drop, subst, arith, IsJoinedTo, slices_of, all_places}
use Rattle.flat_assigns.proofs.Joins.{signals_joined}
use Rattle.flat_assigns.proofs.Scans.{inside_at, join_step, no_part, room_step, size_step, part_same}
use Rattle.flat_assigns.proofs.joining.join_parts.Goals as goal

pub join_part-requires-clause-inside : goal.join_part-requires-clause-inside
join_part-requires-clause-inside c =
    let less : c.loop-k.k - 1 < length c.args.slices.now = omega (arith, c.loop-k.invariant.within, c.loop-k-test.true) in
    part_same c.args.builder.now c.loop-k.builder (get_or c.args.slices.now (c.loop-k.k - 1) no_part) (signals_joined c.args.builder.now c.loop-k.builder (all_places (slices_of (drop c.loop-k.k c.args.slices.now))) c.args.bits.now c.loop-k.invariant.joined) (inside_at c.args.builder.now c.args.slices.now (c.loop-k.k - 1) no_part c.requires.inside less)

pub join_part-requires-clause-enough : goal.join_part-requires-clause-enough
join_part-requires-clause-enough c =
    let less : c.loop-k.k - 1 < length c.args.slices.now = omega (arith, c.loop-k.invariant.within, c.loop-k-test.true) in
    let next : c.loop-k.k ≡ (c.loop-k.k - 1) + 1 = omega (arith, c.loop-k-test.true) in
    let at = subst (λ (n : ℕ). c.loop-k.at ≡ length (all_places (slices_of (drop n c.args.slices.now)))) next c.loop-k.invariant.at in
    let room = room_step c.args.slices.now (c.loop-k.k - 1) c.loop-k.at no_part less at in
    omega (arith, room, c.requires.enough)

pub overflow_add-at : goal.overflow_add-at
overflow_add-at c =
    let less : c.loop-k.k - 1 < length c.args.slices.now = omega (arith, c.loop-k.invariant.within, c.loop-k-test.true) in
    let next : c.loop-k.k ≡ (c.loop-k.k - 1) + 1 = omega (arith, c.loop-k-test.true) in
    let at = subst (λ (n : ℕ). c.loop-k.at ≡ length (all_places (slices_of (drop n c.args.slices.now)))) next c.loop-k.invariant.at in
    let room = room_step c.args.slices.now (c.loop-k.k - 1) c.loop-k.at no_part less at in
    let size = c.from-at.ensures in
    let fits : c.loop-k.at + c.from-at.result ≤ length c.args.bits.now = omega (arith, room, size, c.requires.enough) in
    search rules

pub loop-k-preserved : goal.loop-k-preserved
loop-k-preserved c =
    let less : c.loop-k.k - 1 < length c.args.slices.now = omega (arith, c.loop-k.invariant.within, c.loop-k-test.true) in
    let next : c.loop-k.k ≡ (c.loop-k.k - 1) + 1 = omega (arith, c.loop-k-test.true) in
    let at = subst (λ (n : ℕ). c.loop-k.at ≡ length (all_places (slices_of (drop n c.args.slices.now)))) next c.loop-k.invariant.at in
    let size = size_step c.args.slices.now (c.loop-k.k - 1) c.loop-k.at no_part less at in
    let told = c.from-at.ensures in
    record {
      within = omega (arith, less);
      joined = join_step c.args.builder.now c.loop-k.builder c.join_part.new.builder c.args.slices.now (c.loop-k.k - 1) c.loop-k.at no_part c.args.bits.now less at (subst (λ (n : ℕ). IsJoinedTo c.args.builder.now c.loop-k.builder (all_places (slices_of (drop n c.args.slices.now))) c.args.bits.now) next c.loop-k.invariant.joined) c.in_ok-join_part.ensures;
      at = omega (arith, size, told);
    }
