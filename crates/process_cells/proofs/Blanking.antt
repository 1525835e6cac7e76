-- Variables that have zeros.
use Rattle.process_cells.proofs.Common.{◌≡◌, ℕ, ◌<◌, false, List, [], ◌∷◌, map, length, nat_eq, refl, sym, ap, ◌∙◌, subst, inl, inr, if◌then◌else◌, Contains, length-map, length-set, eqb_tells, Bit}
use Rattle.process_cells.proofs.Common.{Fixed, Building, signal, with_signal, Target, Known, signal-with, AllKnown, zeros, blank, has_first, has_more}

pub known_numbers : (count : ℕ) (ts : List Target) → Known count ts → AllKnown count (map (λ x. x.number) ts)
known_numbers count [] h = tt
known_numbers count (x ∷ more) h = (h.0, known_numbers count more h.1)

abbrev step : ℕ → Building → Building
step k b = with_signal k (zeros (signal b k)) b

step_count : (k : ℕ) (b : Building) → length (step k b).signals ≡ length b.signals
step_count k b = length-set b.signals k (zeros (signal b k))

pub blank_count : (ks : List ℕ) (b : Building) → length (blank ks b).signals ≡ length b.signals
blank_count [] b = refl
blank_count (k ∷ ks) b = blank_count ks (step k b) ∙ step_count k b

-- nothing else is changed
pub blank_is : (ks : List ℕ) (b : Building) → blank ks b ≡ record b { signals = (blank ks b).signals }
blank_is [] b = refl
blank_is (k ∷ ks) b = blank_is ks (step k b)

known_step : (ks : List ℕ) (k : ℕ) (b : Building) → AllKnown (length b.signals) ks → AllKnown (length (step k b).signals) ks
known_step ks k b h = subst (λ (n : ℕ). AllKnown n ks) (sym (step_count k b)) h

step_wide : (k : ℕ) (b : Building) (n : ℕ) → k < length b.signals → length (signal (step k b) n) ≡ length (signal b n)
step_wide k b n known = ap length (signal-with b k n (zeros (signal b k)) known) ∙ at
  where
    at : length (if nat_eq n k then zeros (signal b k) else signal b n) ≡ length (signal b n)
    at = elim (eqb_tells n k) [
      | inl h ↦ rw (h.0, h.1) (length-map (signal b k) (λ (x : Bit). Fixed false))
      | inr h ↦ rw h.0 refl
    ]

pub blank_wide : (ks : List ℕ) (b : Building) (n : ℕ) → AllKnown (length b.signals) ks → length (signal (blank ks b) n) ≡ length (signal b n)
blank_wide [] b n h = refl
blank_wide (k ∷ ks) b n h = blank_wide ks (step k b) n (known_step ks k b h.1) ∙ step_wide k b n h.0

step_other : (k : ℕ) (b : Building) (n : ℕ) → k < length b.signals → (k ≡ n → ⊥) → signal (step k b) n ≡ signal b n
step_other k b n known other = signal-with b k n (zeros (signal b k)) known ∙ at
  where
    at : (if nat_eq n k then zeros (signal b k) else signal b n) ≡ signal b n
    at = elim (eqb_tells n k) [ inl h ↦ absurd (other (sym h.1)) | inr h ↦ rw h.0 refl ]

pub blank_other : (ks : List ℕ) (b : Building) (n : ℕ) → AllKnown (length b.signals) ks → (Contains ks n → ⊥) → signal (blank ks b) n ≡ signal b n
blank_other [] b n h other = refl
blank_other (k ∷ ks) b n h other =
    blank_other ks (step k b) n (known_step ks k b h.1) (λ has. other (has_more ks k n has))
    ∙ step_other k b n h.0 (λ same. other (subst (λ (m : ℕ). Contains (k ∷ ks) m) same (has_first ks k)))
