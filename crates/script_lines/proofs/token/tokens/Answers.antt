use Rattle.std.proofs.Common.{◌≡◌, ◌++◌, ◌∷◌, [], false, true, None, rules, tests, sym, ◌∙◌, subst}
use Rattle.project_lines.specs.Lines.{from_word}
use Rattle.script_lines.specs.Tokens.{front_token, is_end}
use Rattle.script_lines.proofs.Tokenizing.{Whole, behind_is, less_left, whole_bad, whole_end, whole_first, whole_more}
use Rattle.script_lines.proofs.token.tokens.Goals as goal

pub loop-rest-init : goal.loop-rest-init
loop-rest-init c = subst (λ ts. Whole ts c.from_word-rest.result.now c.args.line.now) (sym (c.from_vec-tokens.ensures ∙ c.new.ensures.items)) (whole_first _ _ c.from_word-rest.ensures.value)

pub returns-in_default : goal.returns-in_default
returns-in_default c =
    let e : is_end c.loop-rest.rest.now ≡ false = search (rules, tests) in
    let f : front_token c.loop-rest.rest.now ≡ None = search (rules, tests) in
    sym (whole_bad c.loop-rest.tokens c.loop-rest.rest.now c.args.line.now e f c.loop-rest.invariant)

pub loop-rest-smaller : goal.loop-rest-smaller
loop-rest-smaller c =
    let rest = c.loop-rest.rest.now in
    let e : is_end rest ≡ false = search (rules, tests) in
    less_left rest _ c.in-Some.cut e (sym c.in_ok-cut.ensures.value ∙ c.in-Some.is) (behind_is rest _ c.in-Some.cut.len c.from_word-rest-in-loop-rest.ensures.value)

pub loop-rest-preserved : goal.loop-rest-preserved
loop-rest-preserved c =
    let rest = c.loop-rest.rest.now in
    let cut = c.in-Some.cut in
    let e : is_end rest ≡ false = search (rules, tests) in
    let new : c.from_word-rest-in-loop-rest.result.now ≡ from_word _ = behind_is rest _ cut.len c.from_word-rest-in-loop-rest.ensures.value in
    subst (λ ts. Whole ts c.from_word-rest-in-loop-rest.result.now c.args.line.now) (sym c.in_ok-push.ensures.ok)
    (subst (λ r. Whole (c.loop-rest.tokens ++ cut.token ∷ []) r c.args.line.now) (sym new)
    (whole_more c.loop-rest.tokens rest c.args.line.now cut e (sym c.in_ok-cut.ensures.value ∙ c.in-Some.is) c.loop-rest.invariant))

pub returns : goal.returns
returns c =
    let e : is_end c.loop-rest.rest.now ≡ true = search (rules, tests) in
    sym (whole_end c.loop-rest.tokens c.loop-rest.rest.now c.args.line.now e c.loop-rest.invariant)
