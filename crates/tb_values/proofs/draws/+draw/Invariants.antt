use Rattle.tb_values.proofs.Common.{◌≡◌, map, drop, Names, senses, drawn, all_drawn}
use Rattle.tb_values.proofs.Drawing.{ahead}
use Rattle.tb_values.proofs.draws.+draw.Given as goal

abbrev pub invariant-draw_all-loop-expr : goal.invariant-draw_all-loop-expr
invariant-draw_all-loop-expr l = (names : Names) → ahead names l.phase (senses names l.copies) (drop l.expr-index l.exprs) l.words ≡ all_drawn (map (drawn names l.phase) l.exprs) l.initial.words
