use Rattle.vlog_token.proofs.Common.{sym, ◌∙◌, subst, HasValue, IsFaultOf, LacksValue}
use Rattle.vlog_token.proofs.TokenLemmas.{fault_there, lacking, token_part}
use Rattle.vlog_token.proofs.part.token_at.Goals as goal

pub returns-in_default-token_len : goal.returns-in_default-token_len
returns-in_default-token_len c =
    subst (IsFaultOf c.args.bytes.now) (sym c.fault_without.ensures)
    (fault_there c.in-Some.kind c.args.bytes.now c.requires.some c.requires.no_gap (sym c.kind_from.ensures ∙ c.in-Some.is) c.in_default-token_len.ensures)

pub returns-then-has_value : goal.returns-then-has_value
returns-then-has_value c =
    token_part c.in-Some.kind c.args.bytes.now c.in-Some-token_len.len c.requires.no_gap (sym c.kind_from.ensures ∙ c.in-Some.is) c.in-Some-token_len.ensures
    (subst (HasValue c.in-Some.kind) c.split_at.ensures.front c.if-has_value.ensures)

pub returns-else-has_value : goal.returns-else-has_value
returns-else-has_value c =
    lacking c.in-Some.kind c.args.bytes.now c.in-Some-token_len.len (sym c.kind_from.ensures ∙ c.in-Some.is) c.in-Some-token_len.ensures
    (subst (LacksValue c.in-Some.kind) c.split_at.ensures.front c.if-has_value.ensures)
