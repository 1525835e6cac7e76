-- The parts between the commas are the words that are read.
use Rattle.command_words.proofs.Common.{ap, lit<, map, ℕ, Bor, List, ◌≡◌, ◌∙◌, ◌==◌, slice_split, IfOk-weaker, all_said, mutation_number}
use Rattle.std.proofs.lemmas.Iterator.Consumers.{map_from_collect}
use Rattle.std.proofs.lemmas.Iterator.Splits.{YieldsList-from_str_split}
use Rattle.command_words.proofs.numbers.mutation_numbers.Goals as goal

pub returns : goal.returns
returns c =
    let all = map_from_collect _ c.collect.ensures.ran (YieldsList-from_str_split 44 c.args.word.now (lit< tt) c.split.ensures.text c.split.ensures.has_more c.split.ensures.pattern) in
    let parts : map (λ (word : Bor (List ℕ)). word.now) c.in_ok-parts.parts.items ≡ slice_split (λ byte. byte == 44) c.args.word.now = rw c.in_ok-parts.was at all in
    let words = ap (map (λ (word : Bor (List ℕ)). word.now)) c.deref.ensures.value ∙ parts in
    IfOk-weaker c.all_numbers.result _ _ (λ r e. e ∙ ap (λ ws. all_said (map mutation_number ws)) words) c.all_numbers.ensures
