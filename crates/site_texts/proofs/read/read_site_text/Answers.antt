use Rattle.site_texts.proofs.Common.{arith}
use Rattle.site_texts.proofs.Reading.{bad_at, is_site_text}
use Rattle.site_texts.proofs.read.read_site_text.Goals as goal

pub overflow_cast-result : goal.overflow_cast-result
overflow_cast-result c = omega (arith, c.in-Err.ensures.within)

pub returns-in-Ok-copied-clause-site : goal.returns-in-Ok-copied-clause-site
returns-in-Ok-copied-clause-site c = is_site_text c.in-Ok.parts c.in-Ok-copied.site c.args.text.now c.in-Ok.ensures c.in-Ok-copied.ensures

pub returns-in-Err-clause-bad : goal.returns-in-Err-clause-bad
returns-in-Err-clause-bad c = bad_at c.args.text.now c.in-Err.at c.in-Err.ensures
