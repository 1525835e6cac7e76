use Rattle.tb_writers.proofs.Common.{ap, ◌∙◌, IfOk-weaker, Bits, Net, written_of, with_bits}
use Rattle.tb_writers.proofs.Tables.{whole_mask}
use Rattle.tb_writers.proofs.writers.Writers.add_signal.Goals as goal

pub returns : goal.returns
returns c = IfOk-weaker c.add.result _ _ (λ done e. e ∙ ap (λ (b : Bits). with_bits Net (written_of c.args.self.now) b) (whole_mask c.args.number)) c.add.ensures
