use Rattle.elab_finish.proofs.Common.{◌≡◌, ◌≢◌, ◌⊎◌, ◌<◌, ℕ, length, On, Unknown, Looped, next_of, IsLooped, mark_in, tally, one_open, IsWalked, IsRounded}
use Rattle.elab_finish.proofs.search.Search.go_round.Given as goal

abbrev pub invariant-loop-self : goal.invariant-loop-self
invariant-loop-self l = record {
  looped : IsLooped l.builder l.net;
  room : (n m : ℕ) → next_of l.builder n ≡ On m → n < length l.self.marks.items;
  stays : (n : ℕ) → mark_in l.initial.self.marks.items n ≢ Unknown → mark_in l.self.marks.items n ≢ Unknown;
  met : (l.met ≡ l.net) ⊎ (mark_in l.self.marks.items l.met ≡ Looped);
  walked : (start : ℕ) → IsWalked (next_of l.builder) l.initial.self.marks.items start l.met → IsRounded (next_of l.builder) l.self.marks.items start l.met l.net;
}

abbrev pub decreases-loop-self : goal.decreases-loop-self
decreases-loop-self l = tally one_open l.self.marks.items
