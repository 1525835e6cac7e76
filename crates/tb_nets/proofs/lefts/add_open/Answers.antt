use Rattle.tb_nets.proofs.Common.{sym, ◌∙◌}
use Rattle.tb_nets.proofs.Opens.{opened, closed}
use Rattle.tb_nets.proofs.lefts.add_open.Goals as goal

pub returns-then-is_constant : goal.returns-then-is_constant
returns-then-is_constant c = λ n i. closed _ _ _ (sym c.is_constant.ensures ∙ c.if-is_constant.true)

pub returns : goal.returns
returns c = λ n i. opened _ _ _ _ (sym c.is_constant.ensures ∙ c.if-is_constant.false) (c.in_ok-add_name.ensures n i)
