-- Each bit that an item joins is one of its left sides.
use Rattle.elab_lefts.proofs.Common.{◌≡◌, inl, inr, ℕ, ◌+◌, ◌<◌, ◌≤◌, List, [], ◌∷◌, map, Option, Some, None, refl, sym, ap, ◌∙◌, subst, arith, slice_get, Contains, Signal, Slice, all_places, Target}
use Rattle.elab_lefts.proofs.Common.{targets, Left, widths_of, width_in, bit_left, port_left, port_lefts, whole_left, write_left, has_cases, has_first, has_more, has_none}
use Rattle.mcy_base.specs.declared.span.Span.{Span}
use Rattle.process_latches.specs.declared.marks.Write.{Write}
use Rattle.flat_runs.specs.Meanings.{Place}
use Rattle.flat_runs.specs.Parts.{places_from}
use Rattle.elab_items.proofs.Assigning.{contains_map, places_met, port_is}

-- bit i of signal k is one of those of a left side
pub record HasBit (left : Left) (k i : ℕ) : Type 0 where
  pub signal : left.signal ≡ k
  pub low : left.first ≤ i
  pub high : i < left.first + left.count

-- it is one of those of some of the left sides
abbrev pub Found : List Left → ℕ → ℕ → Type 0
Found lefts k i = (left : Left) × Contains lefts left × HasBit left k i

target_bit : (t : Target) (k i : ℕ) → t.place.signal ≡ k → t.place.bit ≡ i → HasBit (bit_left t) k i
target_bit t k i e f = record { signal = e; low = omega (arith, f); high = omega (arith, f) }

pub places_found : (ss : List Slice) (k i : ℕ) → Contains (all_places ss) (Some (record { signal = k; bit = i })) → Found (map bit_left (targets ss)) k i
places_found ss k i c =
    let t = places_met ss (record { signal = k; bit = i }) c in
    (bit_left t.0, contains_map bit_left (targets ss) t.0 t.1, target_bit t.0 k i (ap (λ (p : Place). p.signal) t.2) (ap (λ (p : Place). p.bit) t.2))

whole_bit : (signals : List Signal) (span : Span) (n k i : ℕ) → n ≡ k → i < widths_of signals k → HasBit (whole_left signals span n) k i
whole_bit signals span n k i e less = record { signal = e; low = omega arith; high = subst (λ (m : ℕ). i < 0 + widths_of signals m) (sym e) (whole_high less) } where
  whole_high : i < widths_of signals k → i < 0 + widths_of signals k
  whole_high h = omega (arith, h)

port_in : (signals : List Signal) (n k i : ℕ) (o : Option Signal) → slice_get signals n ≡ o → n ≡ k → i < widths_of signals k → Found (port_left signals n o) k i
port_in signals n k i None is e less =
    let none : widths_of signals k ≡ 0 = ap (widths_of signals) (sym e) ∙ ap width_in is in
    absurd (omega (arith, less, none))
port_in signals n k i (Some s) is e less = (whole_left signals s.span n, has_first [] (whole_left signals s.span n), whole_bit signals s.span n k i e less)

pub port_found : (signals : List Signal) (n w k i : ℕ) → Contains (places_from n 0 w) (Some (record { signal = k; bit = i })) → i < widths_of signals k → Found (port_lefts signals n) k i
port_found signals n w k i c less = port_in signals n k i (slice_get signals n) refl (port_is n 0 w k i c) less

pub writes_found : (signals : List Signal) (ws : List Write) (k i : ℕ) → Contains (map (λ (w : Write). w.number) ws) k → i < widths_of signals k → Found (map (write_left signals) ws) k i
writes_found signals [] k i c less = absurd (has_none k c)
writes_found signals (w ∷ more) k i c less = elim (has_cases (map (λ (x : Write). x.number) more) w.number k c) [
  | inl e ↦ (write_left signals w, has_first (map (write_left signals) more) (write_left signals w), whole_bit signals w.place w.number k i e less)
  | inr m ↦ let h = writes_found signals more k i m less in (h.0, has_more (map (write_left signals) more) (write_left signals w) h.0 h.1, h.2)
]
