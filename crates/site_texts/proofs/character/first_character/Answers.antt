use Rattle.site_texts.proofs.Common.{inl, inr, arith}
use Rattle.site_texts.proofs.Characters.{ascii_whole, blank_cut, no_lead_cut}
use Rattle.site_texts.proofs.character.first_character.Goals as goal

pub returns-then-is_blank : goal.returns-then-is_blank
returns-then-is_blank c = blank_cut c.args.text.now c.requires (cc)

pub returns-else-is_blank : goal.returns-else-is_blank
returns-else-is_blank c = ascii_whole c.args.text.now c.requires (omega arith) (cc)

pub returns-then-first-lt194 : goal.returns-then-first-lt194
returns-then-first-lt194 c = no_lead_cut c.args.text.now c.requires (omega arith) (inl (omega arith))

pub returns-else-first-lt245 : goal.returns-else-first-lt245
returns-else-first-lt245 c = no_lead_cut c.args.text.now c.requires (omega arith) (inr (omega arith))
