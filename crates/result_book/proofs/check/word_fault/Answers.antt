use Rattle.result_book.proofs.Common.{refl, IsAnswered}
use Rattle.result_book.proofs.FaultLemmas.{is_marked, mark_fault, stands_after, tags_fault}
use Rattle.result_book.proofs.check.word_fault.Goals as goal

pub returns-then-row-mark : goal.returns-then-row-mark
returns-then-row-mark c =
    let campaign = c.args.campaign.now in
    let rows = c.args.state.now.rows in
    let e = c.args.row.now in
    let answered : IsAnswered c.args.first campaign rows e = record { asked = c.requires.asked; word = c.if-not-has_word.ensures.0 refl } in
    let stands = stands_after campaign rows e c.ask_with-ask.result c.requires.fit c.requires.asked.placed c.ask_with-ask.ensures in
    mark_fault c.args.first campaign rows e c.ask_with-ask.result c.mark.result c.mark-then-row-mark.result answered stands c.mark.ensures c.mark-then-row-mark.ensures c.if-row-mark.true

pub returns-then-row-tags : goal.returns-then-row-tags
returns-then-row-tags c =
    let campaign = c.args.campaign.now in
    let rows = c.args.state.now.rows in
    let e = c.args.row.now in
    let answered : IsAnswered c.args.first campaign rows e = record { asked = c.requires.asked; word = c.if-not-has_word.ensures.0 refl } in
    let stands = stands_after campaign rows e c.ask_with-ask.result c.requires.fit c.requires.asked.placed c.ask_with-ask.ensures in
    tags_fault c.args.first campaign rows e c.ask_with-ask.result c.mark.result c.tags.result c.tags-then-row-tags.result answered stands c.mark.ensures c.if-row-mark.false c.tags.ensures c.tags-then-row-tags.ensures c.if-row-tags.true

pub returns : goal.returns
returns c =
    let campaign = c.args.campaign.now in
    let rows = c.args.state.now.rows in
    let e = c.args.row.now in
    let answered : IsAnswered c.args.first campaign rows e = record { asked = c.requires.asked; word = c.if-not-has_word.ensures.0 refl } in
    let stands = stands_after campaign rows e c.ask_with-ask.result c.requires.fit c.requires.asked.placed c.ask_with-ask.ensures in
    is_marked c.args.first campaign rows e c.ask_with-ask.result c.mark.result c.tags.result answered stands c.mark.ensures c.if-row-mark.false c.tags.ensures c.if-row-tags.false
