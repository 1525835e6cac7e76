use Rattle.flat_assigns.proofs.Common.{take, slices_of, places_of, targets}
use Rattle.flat_assigns.proofs.Firsts.{writer_hit, writer_on}
use Rattle.flat_assigns.proofs.Scans.{inside_at, no_part}
use Rattle.flat_assigns.proofs.second.second_writer.Goals as goal

pub part_is_taken-requires-clause-inside : goal.part_is_taken-requires-clause-inside
part_is_taken-requires-clause-inside c = inside_at c.args.builder.now c.args.slices.now c.loop-slice.slice-index no_part c.requires.inside c.loop-slice-test.true

pub returns-then-branch : goal.returns-then-branch
returns-then-branch c =
    let before = places_of (targets (slices_of (take c.loop-slice.slice-index c.args.slices.now))) in
    writer_hit c.args.builder.now c.args.inputs.now c.args.slices.now c.loop-slice.slice-index no_part c.part_is_taken.new.seen c.in_ok-part_is_taken.field-0 c.loop-slice-test.true c.loop-slice.invariant.0 (c.in_ok-part_is_taken.ensures before c.loop-slice.invariant.1) c.if-branch.true

pub loop-slice-preserved : goal.loop-slice-preserved
loop-slice-preserved c =
    let before = places_of (targets (slices_of (take c.loop-slice.slice-index c.args.slices.now))) in
    writer_on c.args.builder.now c.args.inputs.now c.args.slices.now c.loop-slice.slice-index no_part c.part_is_taken.new.seen c.in_ok-part_is_taken.field-0 c.loop-slice-test.true c.loop-slice.invariant.0 (c.in_ok-part_is_taken.ensures before c.loop-slice.invariant.1) c.if-branch.false
