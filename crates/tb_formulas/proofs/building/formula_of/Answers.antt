use Rattle.std.proofs.lemmas.Result.{IfOk-weaker}
use Rattle.tb_formulas.proofs.building.formula_of.Goals as goal

pub returns-clause-means : goal.returns-clause-means
returns-clause-means c = IfOk-weaker c.formula_at.result _ _ (λ f h. h.means) c.formula_at.ensures

pub returns-clause-fits : goal.returns-clause-fits
returns-clause-fits c = IfOk-weaker c.formula_at.result _ _ (λ f h. h.fits) c.formula_at.ensures
