use Rattle.site_texts.proofs.Common.{arith, subst, get_or_past, IsNoLine}
use Rattle.site_texts.proofs.Sources.{no_line}
use Rattle.site_texts.proofs.source.line_of.Goals as goal

pub returns-then-bytes-eq0 : goal.returns-then-bytes-eq0
returns-then-bytes-eq0 c = subst IsNoLine c.as_bytes-bytes.ensures.value (no_line c.as_bytes-bytes.result.now (λ least most. absurd (omega (arith, get_or_past c.as_bytes-bytes.result.now 0 0 (omega arith)))))

pub returns-then-bytes-lt49 : goal.returns-then-bytes-lt49
returns-then-bytes-lt49 c = subst IsNoLine c.as_bytes-bytes.ensures.value (no_line c.as_bytes-bytes.result.now (λ least most. absurd (omega arith)))

pub returns-then-bytes-gt57 : goal.returns-then-bytes-gt57
returns-then-bytes-gt57 c = subst IsNoLine c.as_bytes-bytes.ensures.value (no_line c.as_bytes-bytes.result.now (λ least most. absurd (omega arith)))
