-- An input of an instance that has no writer before has one after it is given its value.
use Rattle.elab_writers.proofs.Common.{◌≡◌, inl, inr, ℕ, zero, suc, ◌≤◌, Bool, List, Some, sym, ap, subst, arith, Contains, Store, Building, signal, Assign, IsWritten, places_from, IsNew, HasWriter}
use Rattle.elab_writers.proofs.Common.{SomeBitWritten, AreFlagged, has_cases, has_none}
use Rattle.flat_runs.specs.Meanings.{Place}
use Rattle.elab_items.proofs.Noting.{at_some}
use Rattle.flat_runs.proofs.Combining.{places_apart}

-- a bit that is written is one of its signal
pub written_some : (b : Building) (k i : ℕ) → IsWritten b k i → SomeBitWritten b (signal b k)
written_some b k i w = at_some b (signal b k) i w.0 w.1 w.2

-- a signal without a writer: none of its bits is written, and it is no input
pub free_bits : (b : Building) (flags : List Bool) (k i : ℕ) → ¬ HasWriter b flags k → ¬ IsWritten b k i
free_bits b flags k i free written = free (inr (written_some b k i written))

pub free_input : (b : Building) (flags : List Bool) (ins : List ℕ) (k : ℕ) → AreFlagged flags ins → ¬ HasWriter b flags k → ¬ Contains ins k
free_input b flags ins k flagged free c = free (inl (flagged k c))

place_from : (k i n : ℕ) (p : Place) → Contains (places_from k i n) (Some p) → (p.signal ≡ k) × (i ≤ p.bit)
place_from k i zero p c = absurd (has_none (Some p) c)
place_from k i (suc n) p c =
    let here : Place = record { signal = k; bit = i } in
    elim (has_cases (places_from k (suc i) n) (Some here) (Some p) c) [
      | inl e ↦ (let same : here ≡ p = cc in (sym (ap (λ (q : Place). q.signal) same), let bit : i ≡ p.bit = ap (λ (q : Place). q.bit) same in omega (arith, bit)))
      | inr m ↦ (let rest = place_from k (suc i) n p m in (rest.0, let more = rest.1 in omega (arith, more)))
    ]

pub port_new : (b : Building) (flags : List Bool) (ins : List ℕ) (port width : ℕ) (value : Store → ℕ) → AreFlagged flags ins → ¬ HasWriter b flags port → IsNew b ins (Assign (places_from port 0 width) value)
port_new b flags ins port width value flagged free = record {
  unwritten = λ k i less w written. free_bits b flags port i free (subst (λ (n : ℕ). IsWritten b n i) (place_from port 0 width (record { signal = k; bit = i }) w).0 written);
  no_input = λ k i less w c. free_input b flags ins port flagged free (subst (Contains ins) (place_from port 0 width (record { signal = k; bit = i }) w).0 c);
  once = places_apart port 0 width;
}
