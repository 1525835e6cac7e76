use Rattle.tb_formulas.proofs.Common.{◌≡◌, ◌+◌, drop, names_of, senses, total_width}
use Rattle.tb_formulas.proofs.building.total_width.Given as goal

abbrev pub invariant-loop-part : goal.invariant-loop-part
invariant-loop-part l = l.total + total_width (senses (names_of l.scope) (drop l.part-index l.parts)) ≡ total_width (senses (names_of l.scope) l.parts)
