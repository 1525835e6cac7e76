use Rattle.flat_assigns.proofs.Forms.{form_is}
use Rattle.flat_assigns.proofs.laws.forms_have_parts.Goals as goal

pub returns : goal.returns
returns c = form_is
