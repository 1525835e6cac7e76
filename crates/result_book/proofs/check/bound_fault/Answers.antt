use Rattle.result_book.proofs.Common.{◌≡◌, ◌<◌, false, inl, inr, refl, sym, ◌∙◌, arith, ◌⊎◌, is_round}
use Rattle.result_book.proofs.FaultLemmas.{new_unless, old_where}
use Rattle.result_book.proofs.Standing.{first_stands, later_stands}
use Rattle.result_book.proofs.StateLemmas.{length-results}
use Rattle.result_book.proofs.check.bound_fault.Goals as goal
use Rattle.result_book.proofs.check.bound_fault.Goals.{else-is_round-via-then-is_round+else-row-le-MAX_LIMIT, else-is_round-via-else-is_round}

pub results-requires : goal.results-requires
results-requires c = omega (arith, length-results c.args.campaign.now c.args.state.now.rows c.args.state.now c.requires.state, c.requires.marked.answered.asked.placed.mutation)

pub returns-then-row-le-MAX_LIMIT : goal.returns-then-row-le-MAX_LIMIT
returns-then-row-le-MAX_LIMIT c =
    let s = c.args.state.now in
    let one = old_where c.args.campaign.now s.rows s c.args.row.now c.results.result c.word.result c.requires.fit c.requires.state c.requires.marked.answered.asked.placed c.results.ensures c.word.ensures c.if-is_some.ensures in
    later_stands c.args.first c.args.campaign.now s.rows c.args.row.now c.requires.fit c.requires.marked one (sym c.if-is_round.ensures) c.if-row-le-MAX_LIMIT.true

pub returns-then-is_some : goal.returns-then-is_some
returns-then-is_some c =
    let s = c.args.state.now in
    let one = old_where c.args.campaign.now s.rows s c.args.row.now c.results.result c.word.result c.requires.fit c.requires.state c.requires.marked.answered.asked.placed c.results.ensures c.word.ensures c.if-is_some.ensures in
    let why : (is_round c.args.row.now.bound ≡ false) ⊎ (100000 < c.args.row.now.bound) = elim c.else-is_round.branch [
      | else-is_round-via-then-is_round+else-row-le-MAX_LIMIT w ↦ inr w.if-row-le-MAX_LIMIT.false
      | else-is_round-via-else-is_round w ↦ inl (sym c.is_round.ensures ∙ w.if-is_round.false)
    ] in
    (c.requires.marked, inr (one, refl, why))

pub returns-then-row-derived : goal.returns-then-row-derived
returns-then-row-derived c =
    let s = c.args.state.now in
    let none = new_unless c.args.campaign.now s.rows s c.args.row.now c.results.result c.word.result c.requires.fit c.requires.state c.requires.marked.answered.asked.placed c.results.ensures c.word.ensures c.if-is_some.ensures in
    first_stands c.args.first c.args.campaign.now s.rows c.args.row.now c.requires.fit c.requires.marked none (c.if-row-derived.true ∙ c.derived_bound-derived.ensures)

pub returns-else-row-derived : goal.returns-else-row-derived
returns-else-row-derived c =
    let s = c.args.state.now in
    let none = new_unless c.args.campaign.now s.rows s c.args.row.now c.results.result c.word.result c.requires.fit c.requires.state c.requires.marked.answered.asked.placed c.results.ensures c.word.ensures c.if-is_some.ensures in
    (c.requires.marked, inl (none, c.derived_bound-derived.ensures, c.if-row-derived.false))
