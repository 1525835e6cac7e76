use Rattle.cell_scopes.proofs.Common.{◌≡◌, ℕ, ◌-◌, ◌∙◌, ◌++◌, Bool, length, take, replicate, ap, arith, widths_in, flat_of, cell_count}
use Rattle.cell_scopes.proofs.Counted.{filled_up}
use Rattle.cell_scopes.proofs.cells.add_next.Goals as goal

pub returns-clause-flags : goal.returns-clause-flags
returns-clause-flags c =
    let old = c.args.flags.now.items in
    let more = cell_count (widths_in c.args.builder.now) (flat_of c.args.flat.now).places c.args.item.now in
    let n = length c.cells.result.now in
    let count : n ≡ length c.build_next.new.builder.cells = ap length c.cells.ensures.cells in
    let filled = c.in_ok-resize.ensures.items ∙ ap (λ (k : ℕ). take n old ++ replicate (n - k) c.in_ok-is_skipped.is_skipped) c.args.flags.now.ok.0 in
    filled_up old c.resize.new.self.items more n c.in_ok-is_skipped.is_skipped (omega (arith, count, c.in_ok-build_next.ensures.cells, c.requires.each)) filled
    ∙ ap (λ (b : Bool). old ++ replicate more b) c.in_ok-is_skipped.ensures
