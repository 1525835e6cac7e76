use Rattle.site_texts.proofs.Common.{◌≡◌, ◌∙◌, ◌+◌, ◌∷◌, ◌++◌, ℕ, List, ap, ap₂, arith, get_or, rules, subst, sym, take, take_rest, IsUtf8, IsName}
use Rattle.site_texts.proofs.Fronts.{a_name, no_name}
use Rattle.site_texts.proofs.name.read_name.Goals as goal

pub returns-then-len-eq0 : goal.returns-then-len-eq0
returns-then-len-eq0 c = no_name c.args.text.now c.front_of-front.result c.front_of-front.ensures (λ some same less. absurd (omega arith))

pub returns-then-len-front : goal.returns-then-len-front
returns-then-len-front c = no_name c.args.text.now c.front_of-front.result c.front_of-front.ensures (λ some same less. absurd (omega arith))

pub returns-then-len-text : goal.returns-then-len-text
returns-then-len-text c = no_name c.args.text.now c.front_of-front.result c.front_of-front.ensures (λ some same less. absurd (omega arith))

pub returns-then-text-len-ne32 : goal.returns-then-text-len-ne32
returns-then-text-len-ne32 c = no_name c.args.text.now c.front_of-front.result c.front_of-front.ensures (λ some same less e. let there : get_or c.args.text.now c.front_of-front.result.whole 0 ≡ 32 = ap (λ n. get_or c.args.text.now n 0) same ∙ e in absurd (omega arith))

pub unwrap-name-requires : goal.unwrap-name-requires
unwrap-name-requires c = let text : IsUtf8 (take c.front_of-front.result.whole c.args.text.now) = c.front_of-front.ensures.whole.utf8 in search rules

pub returns : goal.returns
returns c =
    let is = (rw c.unwrap-name.ensures at c.from_utf8.ensures.cases).0 in
    let n = a_name c.args.text.now c.front_of-front.result c.front_of-front.ensures (omega arith) (omega (arith, c.front_of-front.ensures.order, c.front_of-front.ensures.cut.within)) c.if-text-len-ne32.false in
    (subst IsName (sym is) n.0, n.1 ∙ ap₂ (λ (a b : List ℕ). a ++ 32 ∷ b) (sym is) (sym (take_rest c.args.text.now (c.front_of-front.result.whole + 1))))
