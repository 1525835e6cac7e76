use Rattle.elab_finish.proofs.Common.{◌≡◌, ◌≢◌, ◌⊎◌, Unknown, next_of, mark_in, tally, one_unknown, IsWalked}
use Rattle.elab_finish.proofs.search.Search.walk.Given as goal

abbrev pub invariant-loop-next : goal.invariant-loop-next
invariant-loop-next l = record { walked : IsWalked (next_of l.builder) l.self.marks.items l.start l.net; start : (l.start ≡ l.net) ⊎ (mark_in l.self.marks.items l.start ≢ Unknown) }

abbrev pub decreases-loop-next : goal.decreases-loop-next
decreases-loop-next l = tally one_unknown l.self.marks.items
