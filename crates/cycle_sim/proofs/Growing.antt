-- Wires that grow by a bit.
use Rattle.cycle_sim.proofs.Common.{◌≡◌, ℕ, zero, suc, ◌+◌, ◌<◌, ◌≤◌, List, [], ◌∷◌, ◌++◌, length, take, drop, get_or, slice_get, Some, sym, ◌∙◌, ap, subst, arith, append-nil, append_assoc}
use Rattle.cycle_sim.proofs.Common.{length-take, length-drop, take_more, drop_more, drop-drop, length_push, Bit, Place, Source, Driver, Part, source_bits, part_bits, all_bits, AllWhole}

-- the one bit at a place
pub one-bit : (bits : List Bit) (k : ℕ) (b : Bit) → slice_get bits k ≡ Some b → take 1 (drop k bits) ≡ b ∷ []
one-bit [] k b is = absurd (cc)
one-bit (x ∷ more) zero b is = (let same : x ≡ b = cc in ap (λ (y : Bit). y ∷ []) same)
one-bit (x ∷ more) (suc k) b is = one-bit more k b is

next-bit : (bits : List Bit) (w : ℕ) (b : Bit) → take 1 (drop w bits) ≡ b ∷ [] → take (w + 1) bits ≡ take w bits ++ b ∷ []
next-bit bits w b is =
    let long : length (take 1 (drop w bits)) ≡ 1 = ap length is in
    let t = length-take 1 (drop w bits) in
    let d = length-drop w bits in
    let inside : w < length bits = omega (arith, long, t, d) in
    let cut : take 1 (drop w bits) ≡ get_or bits w b ∷ [] = ap (take 1) (drop_more bits w b inside) in
    let same : get_or bits w b ≡ b = (let both : get_or bits w b ∷ [] ≡ b ∷ [] = sym cut ∙ is in cc) in
    take_more bits w b inside ∙ ap (λ (x : Bit). take w bits ++ x ∷ []) same

pub goes-driver : (drivers : List (List Bit)) (first next : Source) (a b : Place) (w : ℕ) (bit : Bit) → first ≡ Driver a → next ≡ Driver b → a.driver ≡ b.driver → a.bit + w ≡ b.bit → source_bits drivers next 1 ≡ bit ∷ [] → source_bits drivers first (w + 1) ≡ source_bits drivers first w ++ bit ∷ []
goes-driver drivers first next a b w bit is_a is_b same place one =
    let at_b : take 1 (drop b.bit (get_or drivers b.driver [])) ≡ bit ∷ [] = subst (λ (s : Source). source_bits drivers s 1 ≡ bit ∷ []) is_b one in
    let at_a : take 1 (drop b.bit (get_or drivers a.driver [])) ≡ bit ∷ [] = subst (λ (d : ℕ). take 1 (drop b.bit (get_or drivers d [])) ≡ bit ∷ []) (sym same) at_b in
    let above : take 1 (drop w (drop a.bit (get_or drivers a.driver []))) ≡ bit ∷ [] = ap (take 1) (drop-drop w a.bit (get_or drivers a.driver []) ∙ ap (λ (k : ℕ). drop k (get_or drivers a.driver [])) place) ∙ at_a in
    subst (λ (s : Source). source_bits drivers s (w + 1) ≡ source_bits drivers s w ++ bit ∷ []) (sym is_a) (next-bit (drop a.bit (get_or drivers a.driver [])) w bit above)

-- Parts with one more.

whole-push : (drivers : List (List Bit)) (parts : List Part) (p : Part) → AllWhole drivers parts → 1 ≤ p.width → length (part_bits drivers p) ≡ p.width → AllWhole drivers (parts ++ p ∷ [])
whole-push drivers [] p whole some is = (some, is, tt)
whole-push drivers (x ∷ more) p whole some is = (whole.0, whole.1, whole-push drivers more p whole.2 some is)

whole-front : (drivers : List (List Bit)) (parts : List Part) (p : Part) → AllWhole drivers (parts ++ p ∷ []) → AllWhole drivers parts
whole-front drivers [] p whole = tt
whole-front drivers (x ∷ more) p whole = (whole.0, whole.1, whole-front drivers more p whole.2)

pub whole-last : (drivers : List (List Bit)) (parts : List Part) (p : Part) → AllWhole drivers (parts ++ p ∷ []) → length (part_bits drivers p) ≡ p.width
whole-last drivers [] p whole = whole.1
whole-last drivers (x ∷ more) p whole = whole-last drivers more p whole.2

bits-push : (drivers : List (List Bit)) (parts : List Part) (p : Part) → all_bits drivers (parts ++ p ∷ []) ≡ all_bits drivers parts ++ part_bits drivers p
bits-push drivers [] p = append-nil (part_bits drivers p)
bits-push drivers (x ∷ more) p = ap (λ (l : List Bit). part_bits drivers x ++ l) (bits-push drivers more p) ∙ sym (append_assoc (part_bits drivers x) (all_bits drivers more) (part_bits drivers p))

-- the parts are whole, and have one bit more than the old ones
abbrev pub IsGrown : List (List Bit) → List Part → List Part → Bit → Type 0
IsGrown drivers old new bit = AllWhole drivers new × (all_bits drivers new ≡ all_bits drivers old ++ bit ∷ [])

pub grown-one : (drivers : List (List Bit)) (old : List Part) (next : Source) (bit : Bit) → AllWhole drivers old → source_bits drivers next 1 ≡ bit ∷ [] → IsGrown drivers old (old ++ record { first = next; width = 1 } ∷ []) bit
grown-one drivers old next bit whole is = (
  whole-push drivers old (record { first = next; width = 1 }) whole (omega arith) (ap length is),
  bits-push drivers old (record { first = next; width = 1 }) ∙ ap (λ (l : List Bit). all_bits drivers old ++ l) is,
)

pub grown-last : (drivers : List (List Bit)) (front : List Part) (last : Part) (bit : Bit) → AllWhole drivers (front ++ last ∷ []) → source_bits drivers last.first (last.width + 1) ≡ part_bits drivers last ++ bit ∷ [] → IsGrown drivers (front ++ last ∷ []) (front ++ record { first = last.first; width = last.width + 1 } ∷ []) bit
grown-last drivers front last bit whole is =
    let longer : Part = record { first = last.first; width = last.width + 1 } in
    let long : length (part_bits drivers longer) ≡ last.width + 1 = ap length is ∙ length_push (part_bits drivers last) bit ∙ ap (λ (k : ℕ). k + 1) (whole-last drivers front last whole) in (
      whole-push drivers front longer (whole-front drivers front last whole) (omega arith) long,
      bits-push drivers front longer ∙ ap (λ (l : List Bit). all_bits drivers front ++ l) is ∙ sym (append_assoc (all_bits drivers front) (part_bits drivers last) (bit ∷ [])) ∙ ap (λ (l : List Bit). l ++ bit ∷ []) (sym (bits-push drivers front last)),
    )
