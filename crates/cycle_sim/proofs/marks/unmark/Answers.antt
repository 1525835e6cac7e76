use Rattle.cycle_sim.proofs.Common.{ℕ, ◌/◌, ◌%◌, ◌<◌, ◌∙◌, ap, arith, w64, bit_at, get_or_read, bit_at_clear_same, bit_at_clear_other}
use Rattle.cycle_sim.proofs.Marking.{mark-here, mark-other, cleared_bit}
use Rattle.cycle_sim.proofs.marks.unmark.Goals as goal

pub returns-clause-here : goal.returns-clause-here
returns-clause-here c =
    let low : c.args.place % 64 < 64 = omega arith in
    mark-here c.args.marks.now.items c.args.place (cleared_bit c.index_mut.result.now (c.args.place % 64)) c.requires ∙ bit_at_clear_same w64 c.index_mut.result.now (c.args.place % 64) low

pub returns-clause-others : goal.returns-clause-others
returns-clause-others c = λ k other.
    let low : c.args.place % 64 < 64 = omega arith in
    let word = get_or_read c.args.marks.now.items (c.args.place / 64) c.index_mut.result.now (omega (arith, c.requires)) c.index_mut.ensures.value 0 in
    mark-other c.args.marks.now.items c.args.place (cleared_bit c.index_mut.result.now (c.args.place % 64)) k c.requires (λ i less apart. bit_at_clear_other w64 c.index_mut.result.now (c.args.place % 64) low i less apart ∙ ap (λ (x : ℕ). bit_at x i) word) other
