use Rattle.source_report.proofs.Common.{◌+◌, ◌∷◌, List, ℕ, map, Bor, ap, sym, ◌∙◌, arith, get_or-map, length-map, lines_from}
use Rattle.source_report.proofs.FileLines.{line-inside}
use Rattle.source_report.proofs.file_lines.line_at.Goals as goal

pub returns-then-row-parts-clause-line : goal.returns-then-row-parts-clause-line
returns-then-row-parts-clause-line c =
    let text : Bor (List ℕ) → List ℕ = λ part. part.now in
    let long = length-map c.args.parts.now text in
    line-inside (map text c.args.parts.now) c.args.row (c.args.row + 1) _ (omega arith) (omega (arith, long, c.if-row-parts.true)) (sym (get_or-map text c.args.parts.now c.args.row _ _ c.requires))
    ∙ ap (λ line. line ∷ lines_from c.args.parts.now (c.args.row + 1)) (sym c.without_return.ensures)
