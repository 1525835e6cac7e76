use Rattle.process_cells.proofs.Common.{◌≡◌, ℕ, zero, suc, List, [], length, replicate, refl, sym, ap, ◌∙◌, subst, length-replicate, Bit, Building, AllBelow, pending_of, HasPlaces}
use Rattle.process_cells.proofs.waiting.nothing_waits.Goals as goal

none_at : (m n : ℕ) → pending_of (replicate m []) n ≡ []
none_at zero n = refl
none_at (suc m) zero = refl
none_at (suc m) (suc n) = none_at m n

empty_have : (b : Building) (places : List (List Bit)) → places ≡ replicate (length b.signals) [] → HasPlaces b places
empty_have b places is = record {
  count = ap length is ∙ length-replicate (length b.signals) [];
  below = λ n. subst (AllBelow b.nets) (sym (ap (λ (l : List (List Bit)). pending_of l n) is ∙ none_at (length b.signals) n)) tt;
}

pub returns : goal.returns
returns c = empty_have c.args.builder.now c.new.result (c.new.ensures ∙ c.in_ok-places.ensures ∙ ap (λ (n : ℕ). replicate n []) c.signal_count.ensures.signals)
