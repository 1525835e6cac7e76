-- The own bits of variables wait.
use Rattle.process_cells.proofs.Common.{◌≡◌, ℕ, ◌<◌, Bool, true, ◌&&◌, List, [], ◌∷◌, length, nat_eq, refl, sym, ap, ◌∙◌, subst, inl, inr, slice_set, Contains, or_left, or_right, eqb_tells}
use Rattle.process_cells.proofs.Common.{length-set, Bit, bit_same, Target, Building, AllBelow, signal, stands, pending_of, work, signal-with, AllKnown, all_waiting, AllWait, bit-self, has_none}
use Rattle.process_cells.proofs.Common.{has_cases, nat_eq_same}
use Rattle.process_cells.proofs.Rejoining.{set_same, set_still}

pub length_waiting : (b : Building) (ks : List ℕ) (w : List (List Bit)) → length (all_waiting b ks w) ≡ length w
length_waiting b [] w = refl
length_waiting b (k ∷ ks) w = length_waiting b ks (slice_set w k (signal b k)) ∙ length-set w k (signal b k)

-- a builder whose signals have the bits that wait
abbrev with_bits : Building → List (List Bit) → Building
with_bits b w = record b { signals = w }

known_later : (b : Building) (ks : List ℕ) (k : ℕ) (w : List (List Bit)) → AllKnown (length w) ks → AllKnown (length (slice_set w k (signal b k))) ks
known_later b ks k w h = subst (λ (n : ℕ). AllKnown n ks) (sym (length-set w k (signal b k))) h

still_waiting : (b : Building) (ks : List ℕ) (w : List (List Bit)) (n : ℕ) → AllKnown (length w) ks → pending_of w n ≡ signal b n → pending_of (all_waiting b ks w) n ≡ signal b n
still_waiting b [] w n known e = e
still_waiting b (k ∷ ks) w n known e =
    still_waiting b ks (slice_set w k (signal b k)) n (known_later b ks k w known.1) (set_still (with_bits b w) k n (signal b k) (signal b n) known.0 (λ same. ap (signal b) same) e)

pub own_waiting : (b : Building) (ks : List ℕ) (w : List (List Bit)) (n : ℕ) → AllKnown (length w) ks → Contains ks n → pending_of (all_waiting b ks w) n ≡ signal b n
own_waiting b [] w n known has = absurd (has_none n has)
own_waiting b (k ∷ ks) w n known has = elim (has_cases ks k n has) [
  | inl same ↦ still_waiting b ks (slice_set w k (signal b k)) n (known_later b ks k w known.1) (set_same (with_bits b w) k n (signal b k) known.0 same ∙ ap (signal b) same)
  | inr later ↦ own_waiting b ks (slice_set w k (signal b k)) n (known_later b ks k w known.1) later
]

set_below : (b : Building) (w : List (List Bit)) (k n limit : ℕ) → k < length w → AllBelow limit (signal b k) → AllBelow limit (pending_of w n) → AllBelow limit (pending_of (slice_set w k (signal b k)) n)
set_below b w k n limit known own h =
    subst (AllBelow limit) (sym (signal-with (with_bits b w) k n (signal b k) known)) (elim (eqb_tells n k) [ inl e ↦ rw e.0 own | inr e ↦ rw e.0 h ])

pub waiting_below : (b : Building) (ks : List ℕ) (w : List (List Bit)) (limit : ℕ) → AllKnown (length w) ks → ((n : ℕ) → AllBelow limit (signal b n)) → ((n : ℕ) → AllBelow limit (pending_of w n)) → (n : ℕ) → AllBelow limit (pending_of (all_waiting b ks w) n)
waiting_below b [] w limit known own h n = h n
waiting_below b (k ∷ ks) w limit known own h n =
    waiting_below b ks (slice_set w k (signal b k)) limit (known_later b ks k w known.1) own (λ m. set_below b w k m limit known.0 (own k) (h m)) n

pub all_wait : (b : Building) (ks : List ℕ) (w : List (List Bit)) (ts : List Target) → AllKnown (length w) ks → ((kind : Bool) (n : ℕ) → stands kind ts n ≡ true → Contains ks n) → AllWait (work b (all_waiting b ks w)) ts
all_wait b ks w [] known h = tt
all_wait b ks w (x ∷ more) known h = (
  (λ e. own_waiting b ks w x.number known (h x.is_blocking x.number (or_left (nat_eq x.number x.number && bit_same x.is_blocking x.is_blocking) (stands x.is_blocking more x.number) (rw (nat_eq_same x.number, bit-self x.is_blocking) refl)))),
  all_wait b ks w more known (λ kind n e. h kind n (or_right (nat_eq x.number n && bit_same kind x.is_blocking) (stands kind more n) e)),
)
