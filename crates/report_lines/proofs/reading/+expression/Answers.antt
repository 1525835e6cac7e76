use Rattle.std.proofs.Common.{◌∙◌, refl, sym}
use Rattle.report_lines.specs.Grammar.{part, term_in}
use Rattle.report_lines.proofs.ShareList.{whole_end, whole_more, whole_none}
use Rattle.report_lines.proofs.reading.+expression.Goals as goal

pub terms-returns-in_default-2 : goal.terms-returns-in_default-2
terms-returns-in_default-2 t c = sym (whole_none (term_in (part c.args.tags.now c.args.room c.args.level)) c.args.level c.signs.terms c.args.tokens.now c.signs.rest.now _ c.before-front.result.now _ c.sign-item.result c.front_len-len.result c.in-len1-up.len_at_least c.sign-item.is refl c.front_len-len.ensures.value c.before-front.ensures refl c.signs.invariant (sym c.in_ok-term.ensures ∙ c.in_default-2.is))

pub terms-signs-preserved : goal.terms-signs-preserved
terms-signs-preserved t c = whole_more (term_in (part c.args.tags.now c.args.room c.args.level)) c.args.level c.signs.terms c.args.tokens.now c.signs.rest.now _ c.before-front.result.now c.behind-rest.result.now c.sign-item.result c.front_len-len.result c.in-len1-up.len_at_least c.sign-item.is refl c.front_len-len.ensures.value c.before-front.ensures c.behind-rest.ensures.value c.signs.invariant c.in-Some.term c.push.new.self (sym c.in_ok-term.ensures ∙ c.in-Some.is) c.in_ok-push.ensures.ok

pub terms-returns : goal.terms-returns
terms-returns t c = sym (whole_end (term_in (part c.args.tags.now c.args.room c.args.level)) c.args.level c.signs.terms c.signs.rest.now c.args.tokens.now c.in_default.len_below c.signs.invariant)
