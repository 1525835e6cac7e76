-- Clauses that are still to be looked at.
use Rattle.sat_solver.proofs.Common.{◌≡◌, ◌≢◌, ℕ, ◌+◌, ◌<◌, List, length, get_or, ℤ, Some, ap, sym, ◌∙◌, inl, inr, ◌⊎◌, arith, swap_remove, eqb_tells, AreOver, Known, known_of, Propagator, Pair}
use Rattle.sat_solver.proofs.Common.{Watches, list_of, IsKept, pair_of, IsGuard, StandsFrom, IsNext, propagated}
use Rattle.sat_solver.proofs.Settled.{IsBelow}
use Rattle.sat_solver.proofs.Guards.{guard-more}
use Rattle.sat_solver.proofs.Watched.{stands-in, stands-removed}
use Rattle.sat_solver.proofs.Looking.{guard-or}

-- each pair is a guard, or the clause's number stands in the list at this place or behind it
abbrev pub AreDue : Known → Known → Watches → ℕ → List ℕ → Type 0
AreDue before now w place list = (n : ℕ) (pair : Pair) → pair_of w n ≡ Some pair → IsGuard before now pair ⊎ StandsFrom place list n

pub due-begin : (count : ℕ) (clauses : List (List ℤ)) (p : Propagator) (l : ℤ) → AreOver count clauses → IsKept clauses p → IsNext l p → AreDue (propagated p) (known_of p.trail.values.items) p.watches 0 (list_of p.watches.lists l)
due-begin count clauses p l over kept next n pair e = elim (guard-or count clauses p l n pair over kept next e) [ inl guard ↦ inl guard | inr has ↦ inr (stands-in (list_of p.watches.lists l) n has) ]

-- what is left after a look at the number at this place
module _ (before now later : Known) (old new : Watches) (place number : ℕ) (list : List ℕ) (inside : place < length list) (at : get_or list place 0 ≡ number) (below : IsBelow now later) (others : (n : ℕ) → n ≢ number → pair_of new n ≡ pair_of old n) (here : (pair : Pair) → pair_of new number ≡ Some pair → IsGuard before later pair) (due : AreDue before now old place list) where
  elsewhere : (n : ℕ) (pair : Pair) → pair_of new n ≡ Some pair → IsGuard before later pair ⊎ ((n ≢ number) × StandsFrom place list n)
  elsewhere n pair e = elim (eqb_tells n number) [
    | inl same ↦ inl (here pair (ap (pair_of new) (sym same.1) ∙ e))
    | inr other ↦ elim (due n pair (sym (others n other.1) ∙ e)) [ inl guard ↦ inl (guard-more before now later pair below guard) | inr stands ↦ inr (other.1, stands) ]
  ]

  pub due-stays : AreDue before later new (place + 1) list
  due-stays n pair e = elim (elsewhere n pair e) [
    | inl guard ↦ inl guard
    | inr due_ ↦ inr (behind n due_.0 due_.1)
  ] where
    behind : (n : ℕ) → n ≢ number → StandsFrom place list n → StandsFrom (place + 1) list n
    behind n other (k, low, h, w) = (k, (let apart : k ≢ place = λ same. other (sym w ∙ ap (λ (i : ℕ). get_or list i 0) same ∙ at) in omega (arith, low, apart)), h, w)

  pub due-leaves : AreDue before later new place (swap_remove list place 0)
  due-leaves n pair e = elim (elsewhere n pair e) [
    | inl guard ↦ inl guard
    | inr due_ ↦ inr (stands-removed list place place n inside (omega arith) (λ same. due_.0 (same ∙ at)) due_.1)
  ]
