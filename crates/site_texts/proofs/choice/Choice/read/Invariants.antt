use Rattle.site_texts.proofs.Choosing.{IsSearched}
use Rattle.site_texts.proofs.choice.Choice.read.Given as goal

abbrev pub invariant-loop-number : goal.invariant-loop-number
invariant-loop-number l = IsSearched l.self l.text l.number l.longest
