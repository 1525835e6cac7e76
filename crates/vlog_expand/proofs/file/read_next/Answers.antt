use Rattle.vlog_expand.proofs.Common.{◌≡◌, ◌∷◌, true, false, rules, err_from_is_err_and, is_shown, word_of, definitions_of}
use Rattle.vlog_expand.proofs.Coming.{leads-shown, leads-carried, shown-refused, carried-refused}
use Rattle.vlog_expand.proofs.file.read_next.Goals as goal

pub returns-then-is_shown-clause-ok : goal.returns-then-is_shown-clause-ok
returns-then-is_shown-clause-ok c =
    let split : c.args.rest.tokens.now ≡ c.in-Some.token.now ∷ c.in-Some.behind.now = search rules in
    let shown : is_shown (word_of c.in-Some.token.now) ≡ true = cc in
    leads-shown _ c.args.end (definitions_of c.args.reading.now.macros) c.args.reading.now.conditions.items _ c.in-Some.token.now _ _ _ _ split shown c.in_ok-add-in-Some.ensures.ok

pub returns-in_err-add-in-Some-clause-err : goal.returns-in_err-add-in-Some-clause-err
returns-in_err-add-in-Some-clause-err c =
    let split : c.args.rest.tokens.now ≡ c.in-Some.token.now ∷ c.in-Some.behind.now = search rules in
    let shown : is_shown (word_of c.in-Some.token.now) ≡ true = cc in
    let p = err_from_is_err_and c.from_residual.result c.from_residual.ensures.1 in
    rw (p.1, p.2) (shown-refused c.args.end (definitions_of c.args.reading.now.macros) c.args.reading.now.conditions.items _ c.in-Some.token.now _ _ _ split shown c.in_err-add-in-Some.ensures.err)

pub returns-in_ok-tokens-in-Some-clause-ok : goal.returns-in_ok-tokens-in-Some-clause-ok
returns-in_ok-tokens-in-Some-clause-ok c =
    let split : c.args.rest.tokens.now ≡ c.in-Some.token.now ∷ c.in-Some.behind.now = search rules in
    let directive : is_shown (word_of c.in-Some.token.now) ≡ false = cc in
    leads-carried _ c.args.end (definitions_of c.args.reading.now.macros) c.args.reading.now.conditions.items _ c.in-Some.token.now _ _ _ split directive c.in_ok-tokens-in-Some.ensures.ok

pub returns-in_err-tokens-in-Some-clause-err : goal.returns-in_err-tokens-in-Some-clause-err
returns-in_err-tokens-in-Some-clause-err c =
    let split : c.args.rest.tokens.now ≡ c.in-Some.token.now ∷ c.in-Some.behind.now = search rules in
    let directive : is_shown (word_of c.in-Some.token.now) ≡ false = cc in
    let p = err_from_is_err_and c.from_residual-in_err-tokens-in-Some.result c.from_residual-in_err-tokens-in-Some.ensures.1 in
    rw (p.1, p.2) (carried-refused c.args.end (definitions_of c.args.reading.now.macros) c.args.reading.now.conditions.items _ c.in-Some.token.now _ _ _ split directive c.in_err-tokens-in-Some.ensures.err)
