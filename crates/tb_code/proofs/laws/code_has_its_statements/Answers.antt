use Rattle.tb_code.proofs.Adding.{code_of}
use Rattle.tb_code.proofs.laws.code_has_its_statements.Goals as goal

pub returns : goal.returns
returns c = code_of
