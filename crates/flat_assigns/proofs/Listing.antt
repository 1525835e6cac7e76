-- Bits that are listed, one after the other.
use Rattle.flat_assigns.proofs.Common.{◌≡◌, ℕ, ◌+◌, ◌<◌, List, [], ◌∷◌, ◌++◌, take, get_or, length, Option, Some, None, sym, ap, ◌∙◌, append_assoc, append-nil, map-append, Kept, target_of, targets_of}
use Rattle.flat_assigns.proofs.Common.{bit_in, first_bits, slices_of, Target, bit_targets, targets}
use Rattle.flat_assigns.specs.declared.written.WrittenBit.{WrittenBit}
use Rattle.flat_assigns.proofs.Bits.{first_more, targets_append}
use Rattle.flat_assigns.proofs.Scans.{targets_more}

pub bit_listed : (bits new : List WrittenBit) (s : Kept) (k i : ℕ) (o : Option ℕ) → o ≡ Some i → o ≡ bit_in s k → new ≡ bits ++ record { span = s.span; signal = s.signal; bit = i } ∷ [] → targets_of new ≡ targets_of bits ++ bit_targets s.span s.signal (bit_in s k ∷ [])
bit_listed bits new s k i o is there grown =
    let w : WrittenBit = record { span = s.span; signal = s.signal; bit = i } in
    let same : Some i ≡ bit_in s k = sym is ∙ there in
    ap targets_of grown ∙ map-append target_of bits (w ∷ []) ∙ ap (λ (x : Option ℕ). targets_of bits ++ bit_targets s.span s.signal (x ∷ [])) same

pub bit_outside : (bits : List WrittenBit) (s : Kept) (k : ℕ) (o : Option ℕ) → o ≡ None → o ≡ bit_in s k → targets_of bits ≡ targets_of bits ++ bit_targets s.span s.signal (bit_in s k ∷ [])
bit_outside bits s k o is there =
    let same : None ≡ bit_in s k = sym is ∙ there in
    sym (append-nil (targets_of bits)) ∙ ap (λ (x : Option ℕ). targets_of bits ++ bit_targets s.span s.signal (x ∷ [])) same

pub part_begun : (bits : List WrittenBit) (s : Kept) → targets_of bits ≡ targets_of bits ++ bit_targets s.span s.signal (first_bits s 0)
part_begun bits s = sym (append-nil (targets_of bits))

pub part_more : (first bits new : List WrittenBit) (s : Kept) (k : ℕ) → targets_of bits ≡ targets_of first ++ bit_targets s.span s.signal (first_bits s k) → targets_of new ≡ targets_of bits ++ bit_targets s.span s.signal (bit_in s k ∷ []) → targets_of new ≡ targets_of first ++ bit_targets s.span s.signal (first_bits s (k + 1))
part_more first bits new s k h next =
    let old : List Target = bit_targets s.span s.signal (first_bits s k) in
    let one : List Target = bit_targets s.span s.signal (bit_in s k ∷ []) in
    next ∙ ap (λ (l : List Target). l ++ one) h ∙ append_assoc (targets_of first) old one
    ∙ ap (λ (l : List Target). targets_of first ++ l) (sym (targets_append s.span s.signal (first_bits s k) (bit_in s k ∷ [])) ∙ ap (bit_targets s.span s.signal) (sym (first_more s k)))

pub parts_more : (bits new : List WrittenBit) (xs : List Kept) (k : ℕ) (d s : Kept) → k < length xs → s ≡ get_or xs k d → targets_of bits ≡ targets (slices_of (take k xs)) → targets_of new ≡ targets_of bits ++ bit_targets s.span s.signal (first_bits s s.size) → targets_of new ≡ targets (slices_of (take (k + 1) xs))
parts_more bits new xs k d s less at h next =
    let part : Kept → List Target = λ x. bit_targets x.span x.signal (first_bits x x.size) in
    next ∙ ap (λ (l : List Target). l ++ part s) h ∙ ap (λ (x : Kept). targets (slices_of (take k xs)) ++ part x) at ∙ sym (targets_more xs k d less)
