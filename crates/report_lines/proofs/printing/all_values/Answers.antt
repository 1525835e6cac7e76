use Rattle.std.proofs.Common.{◌∙◌, get_or, refl, sym}
use Rattle.script_lines.specs.declared.token.Token.TheVariants as token
use Rattle.report_lines.specs.declared.parting.Level.TheVariants as level
use Rattle.report_lines.specs.Grammar.{inner}
use Rattle.report_lines.specs.Lines.{value_in}
use Rattle.report_lines.proofs.ShareList.{first_same, whole_end, whole_more, whole_none}
use Rattle.report_lines.proofs.printing.all_values.Goals as goal

pub returns-in_default-2 : goal.returns-in_default-2
returns-in_default-2 c = sym (whole_none (value_in (inner c.args.tags.now c.args.room)) level.Comma c.signs.values c.args.tokens.now c.signs.rest.now _ c.before-front.result.now _ (get_or c.signs.rest.now 0 token.Equal) c.front_len-len.result c.in-len1-up.len_at_least (first_same c.signs.rest.now token.Equal c.in-len1-up.len_at_least) refl c.front_len-len.ensures.value c.before-front.ensures refl c.signs.invariant (sym c.in_ok-value.ensures ∙ c.in_default-2.is))

pub signs-preserved : goal.signs-preserved
signs-preserved c = whole_more (value_in (inner c.args.tags.now c.args.room)) level.Comma c.signs.values c.args.tokens.now c.signs.rest.now _ c.before-front.result.now c.behind-rest.result.now (get_or c.signs.rest.now 0 token.Equal) c.front_len-len.result c.in-len1-up.len_at_least (first_same c.signs.rest.now token.Equal c.in-len1-up.len_at_least) refl c.front_len-len.ensures.value c.before-front.ensures c.behind-rest.ensures.value c.signs.invariant c.in-Some.value c.push.new.self (sym c.in_ok-value.ensures ∙ c.in-Some.is) c.in_ok-push.ensures.ok

pub returns : goal.returns
returns c = sym (whole_end (value_in (inner c.args.tags.now c.args.room)) level.Comma c.signs.values c.signs.rest.now c.args.tokens.now c.in_default.len_below c.signs.invariant)
