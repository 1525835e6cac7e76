use Rattle.site_texts.proofs.Common.{ℕ, List, arith, length, rules, subst, sym, IsUtf8, IsAny, IsNoSource, IsSource, IsStuck, source_text}
use Rattle.site_texts.proofs.Sources.{all_solid, front_stuck, no_source_stuck, source_part}
use Rattle.site_texts.proofs.source.read_source.Goals as goal

pub returns-then-front-text : goal.returns-then-front-text
returns-then-front-text c = front_stuck c.args.text.now c.front_of-front.result c.front_of-front.ensures (omega arith)

pub unwrap-text-requires : goal.unwrap-text-requires
unwrap-text-requires c = let text : IsUtf8 c.args.text.now = (all_solid c.args.text.now c.front_of-front.result c.front_of-front.ensures (omega arith)).utf8 in search rules

pub returns-in-Some : goal.returns-in-Some
returns-in-Some c =
    let solid = all_solid c.args.text.now c.front_of-front.result c.front_of-front.ensures (omega arith) in
    let is = (rw c.unwrap-text.ensures at c.from_utf8.ensures.cases).0 in
    source_part c.args.text.now c.in-Some.source solid (subst (λ (t : List ℕ). IsSource t c.in-Some.source) is c.in-Some.ensures)

pub returns-in-None : goal.returns-in-None
returns-in-None c =
    let solid = all_solid c.args.text.now c.front_of-front.result c.front_of-front.ensures (omega arith) in
    let is = (rw c.unwrap-text.ensures at c.from_utf8.ensures.cases).0 in
    subst (λ (t : List ℕ). IsStuck IsAny source_text c.args.text.now (length t)) (sym is) (no_source_stuck c.args.text.now solid (subst IsNoSource is c.in-None.ensures))
