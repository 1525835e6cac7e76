use Rattle.command_words.proofs.Common.{◌≡◌, drop, map, all_said, mutation_number}
use Rattle.command_words.proofs.AllSaid.{behind}
use Rattle.command_words.proofs.numbers.all_numbers.Given as goal

-- the numbers so far, and what the other words say
abbrev pub invariant-loop-word : goal.invariant-loop-word
invariant-loop-word l = behind l.numbers (all_said (map mutation_number (map (λ word. word.now) (drop l.word-index l.words)))) ≡ all_said (map mutation_number (map (λ word. word.now) l.words))
