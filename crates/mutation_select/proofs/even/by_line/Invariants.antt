use Rattle.mutation_select.proofs.Common.{◌≡◌, ◌≤◌, ◌++◌, drop, None, ranked_from}
use Rattle.mutation_select.proofs.even.by_line.Given as goal

abbrev pub invariant-loop-site : goal.invariant-loop-site
invariant-loop-site l = (l.list.items ++ ranked_from l.last l.next (drop l.site-index l.sites) ≡ ranked_from None 0 l.sites) × (l.next ≤ l.site-index)
