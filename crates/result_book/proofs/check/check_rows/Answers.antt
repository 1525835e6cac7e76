use Rattle.result_book.proofs.Common.{ap, Progress}
use Rattle.result_book.proofs.Seconds.{checked_more, checked_state, first_fault, next_there, refused_row}
use Rattle.result_book.proofs.check.check_rows.Goals as goal

pub returns-in-Some-clause-refused : goal.returns-in-Some-clause-refused
returns-in-Some-clause-refused c =
    let rows = c.as_slice-row-items.result.now in
    let first = c.is_first-first.result in (
      c.requires.meta,
      c.requires.mutations,
      refused_row first c.args.campaign.now c.args.book.now _ c.in-Some.fault c.is_first-first.ensures
          (first_fault first c.args.campaign.now rows c.args.book.now.journal c.loop-row.state c.loop-row.row-index _ c.in-Some.fault c.as_slice-row-items.ensures c.loop-row-test.true c.loop-row.invariant.0 c.loop-row.invariant.1 c.in-Some.ensures),
    )

pub add-requires-clause-row : goal.add-requires-clause-row
add-requires-clause-row c =
    next_there c.is_first-first.result c.args.campaign.now _ c.reserve.new.self.rows c.loop-row.state _ c.second_row.result c.loop-row.invariant.1 c.in_default.ensures (ap (λ (s : Progress). s.rows) c.in_ok-reserve.ensures.ok) c.second_row.ensures

pub loop-row-preserved : goal.loop-row-preserved
loop-row-preserved c =
    checked_more c.is_first-first.result c.args.campaign.now c.as_slice-row-items.result.now c.reserve.new.self.rows c.loop-row.state c.add.new.self c.loop-row.row-index _ c.second_row.result c.loop-row-test.true c.loop-row.invariant.0 c.loop-row.invariant.1
    c.in_default.ensures (ap (λ (s : Progress). s.rows) c.in_ok-reserve.ensures.ok) c.second_row.ensures c.add.ensures.state

pub returns-clause-state : goal.returns-clause-state
returns-clause-state c =
    checked_state c.is_first-first.result c.args.campaign.now c.args.book.now c.as_slice-row-items.result.now c.loop-row.state c.loop-row.row-index c.is_first-first.ensures c.as_slice-row-items.ensures c.loop-row-test.false c.loop-row.invariant.1
