use Rattle.mutation_select.proofs.Common.{◌≡◌, take, kept}
use Rattle.mutation_select.proofs.kept.keep.Given as goal

abbrev pub invariant-loop-site : goal.invariant-loop-site
invariant-loop-site l = l.list.items ≡ kept l.omitted (take l.site-index l.sites)
