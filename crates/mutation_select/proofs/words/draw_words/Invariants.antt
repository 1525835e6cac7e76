use Rattle.mutation_select.proofs.Common.{◌≡◌, ◌++◌, drop, drawn, generator}
use Rattle.mutation_select.proofs.words.draw_words.Given as goal

abbrev pub invariant-loop-number : goal.invariant-loop-number
invariant-loop-number l = l.list.items ++ drawn l.netlist.raw l.words l.number (drop l.number l.sites) ≡ drawn l.netlist.raw (generator l.word_seed) 0 l.sites
