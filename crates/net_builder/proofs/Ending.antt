-- Where all nets lead, once each is known.
use Rattle.net_builder.proofs.Common.{◌≡◌, ◌≢◌, ℕ, ◌≤◌, ◌↔◌, [], ◌⊎◌, inl, inr, refl, subst, arith, Contains, IsFirst, Bit, Mark, Unknown, Open, Ends, Loops, LeadsTo, Follows, IsOnLoop, Known}
use Rattle.net_builder.proofs.Common.{next_of, mark_of, LeadsInto, IsDone, end_by, end_in}
use Rattle.net_builder.proofs.Marking.{none_there}
use Rattle.net_builder.proofs.Following.{leads_once, leads_no_loop, loop_back}

module _ (k : Known) (done : IsDone k) (known : (n : ℕ) → mark_of k n ≢ Unknown) where
  by_mark : (n : ℕ) (m : Mark) → mark_of k n ≡ m → LeadsTo (next_of k) n (end_by m n) ⊎ LeadsInto (next_of k) k.loops n
  by_mark n Unknown e = absurd (known n e)
  by_mark n Open e = absurd (none_there k.path n done.empty (done.traced.opened n e))
  by_mark n (Ends bit) e = inl (done.traced.ended n bit e)
  by_mark n Loops e = inr (done.traced.looped n e)

  ends_or_loops : (n : ℕ) → LeadsTo (next_of k) n (end_in k n) ⊎ LeadsInto (next_of k) k.loops n
  ends_or_loops n = by_mark n (mark_of k n) refl

  -- where no loop was found each net leads to its end alone
  pub all_end : k.loops ≡ [] → (n : ℕ) (end : Bit) → LeadsTo (next_of k) n end ↔ (end_in k n ≡ end)
  all_end none n end =
      let leads : LeadsTo (next_of k) n (end_in k n) = elim (ends_or_loops n) [ inl l ↦ l | inr into ↦ absurd (none_there k.loops into.0 none into.1) ] in
      (λ l. leads_once (next_of k) n (end_in k n) end leads l, λ e. subst (λ (b : Bit). LeadsTo (next_of k) n b) e leads)

  -- the least net of the loops that were found is the least of all
  pub first_loop : (least : ℕ) → IsOnLoop (next_of k) least → ((c n : ℕ) → Contains k.loops c → (n ≡ c) ⊎ Follows (next_of k) c n → IsOnLoop (next_of k) n → least ≤ n) → IsFirst (IsOnLoop (next_of k)) least
  first_loop least loop below = record {
    here = loop;
    before = λ m less on. elim (ends_or_loops m) [
      | inl l ↦ leads_no_loop (next_of k) m (end_in k m) l on
      | inr into ↦ absurd (let le : least ≤ m = below into.0 m into.1 (around m on into.0 into.3) on in omega (arith, less))
    ];
  } where
    around : (m : ℕ) → IsOnLoop (next_of k) m → (c : ℕ) → (m ≡ c) ⊎ Follows (next_of k) m c → (m ≡ c) ⊎ Follows (next_of k) c m
    around m on c (inl same) = inl same
    around m on c (inr f) = inr (loop_back (next_of k) m c on f)
