use Rattle.project_lines.proofs.Common.{◌≡◌, List, ℕ, ◌<◌, [], ◌∷◌, ◌++◌, Bor, rules, arith, ap, ap₂, ◌∙◌, sym, subst, length, map, append-nil, prefix_len, nat_tests, map-append, is_blank, words}
use Rattle.project_lines.proofs.Common.{behind_word, from_word}
use Rattle.project_lines.proofs.Texts.{words-from_word, blanks-from_word, words-more, words-none, word-filled}
use Rattle.project_lines.proofs.lines.words.Goals as goal

texts : List (Bor (List ℕ)) → List (List ℕ)
texts ws = map (λ word. word.now) ws

pub loop-rest-init : goal.loop-rest-init
unfolding texts
loop-rest-init c =
    let text = c.args.text.now in
    let e : c.from_word-rest.result.now ≡ from_word text = c.from_word-rest.ensures.value in (
      subst (λ vs. texts vs ++ words c.from_word-rest.result.now ≡ words text) (sym c.new-words.ensures.items) (ap words e ∙ words-from_word text),
      ap (prefix_len is_blank) e ∙ blanks-from_word text,
      c.from_word-rest.utf8,
    )

pub is_empty-requires-text-self : goal.is_empty-requires-text-self
is_empty-requires-text-self c κs = c.loop-rest.invariant.2

pub loop-rest-smaller : goal.loop-rest-smaller
loop-rest-smaller c =
    let t = c.loop-rest.rest.now in
    let some : 0 < length t = grind (arith, nat_tests) in
    let filled : 0 < length c.split_word.result.0.now = subst (λ w. 0 < length w) (sym c.split_word.ensures.word) (word-filled t some c.loop-rest.invariant.1) in
    omega arith

pub loop-rest-preserved : goal.loop-rest-preserved
unfolding texts
loop-rest-preserved c =
    let t = c.loop-rest.rest.now in
    let ws = c.loop-rest.words.items in
    let w = c.split_word.result.0 in
    let some : 0 < length t = grind (arith, nat_tests) in
    let pushed : c.push.new.self.items ≡ ws ++ w ∷ [] = search rules in
    let e : c.from_word-rest-in-loop-rest.result.now ≡ from_word (behind_word t) = c.from_word-rest-in-loop-rest.ensures.value ∙ ap from_word c.split_word.ensures.behind in (
      ap₂ (λ vs r. texts vs ++ words r) pushed e
          ∙ (ap (λ vs. vs ++ words (from_word (behind_word t))) (map-append (λ (word : Bor (List ℕ)). word.now) ws (w ∷ []) ∙ ap (λ x. texts ws ++ x ∷ []) c.split_word.ensures.word)
          ∙ words-more t (texts ws) c.args.text.now some c.loop-rest.invariant.1 c.loop-rest.invariant.0),
      ap (prefix_len is_blank) e ∙ blanks-from_word (behind_word t),
      c.from_word-rest-in-loop-rest.utf8,
    )

pub returns : goal.returns
unfolding texts
returns c =
    let t = c.loop-rest.rest.now in
    let none : length t ≡ 0 = grind (arith, nat_tests) in
    sym (append-nil (texts c.loop-rest.words.items)) ∙ (ap (λ r. texts c.loop-rest.words.items ++ r) (sym (words-none t none)) ∙ c.loop-rest.invariant.0)
