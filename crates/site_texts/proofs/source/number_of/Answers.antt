use Rattle.site_texts.proofs.Sources.{a_line, not_a_line}
use Rattle.site_texts.proofs.source.number_of.Goals as goal

pub returns-in-Ok : goal.returns-in-Ok
returns-in-Ok c = a_line c.args.text.now c.in-Ok.line c.requires.least c.in-Ok.ensures.value.0

pub returns-in-Err : goal.returns-in-Err
returns-in-Err c = not_a_line c.args.text.now c.in-Err.ensures.value.0
