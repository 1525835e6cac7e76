-- The first bit that has a writer, in bits one after the other.
use Rattle.flat_assigns.proofs.Common.{◌≡◌, ◌⊎◌, ℕ, ◌+◌, ◌<◌, length, take, get_or, Bool, true, false, List, [], ◌∷◌, ◌++◌, Option, Some, None, refl, sym, ap, ◌∙◌, subst, inl, inr, append_assoc}
use Rattle.flat_assigns.proofs.Common.{slice_get, slice_index_or, Contains, append-nil, Span, Bit, Net, Building, signal, Place, HasOwnNets, IsBit, are_apart, net_of, Kept, IsWriter, bit_in}
use Rattle.flat_assigns.proofs.Common.{first_bits, slices_of, Target, bit_targets, targets, IsFirstWritten, NetSet, has, HasSeen, IsMet, IsTaken, IsPassed, places_of}
use Rattle.std.proofs.lemmas.List.Elements.{Contains-append_left, Contains-append_right, Contains-append_cases}
use Rattle.net_builder.specs.Written.{IsJoined, IsStored}
use Rattle.std.proofs.lemmas.Option.{get_or_from_slice_get}
use Rattle.flat_assigns.proofs.Bits.{first_more, first_split, targets_append}
use Rattle.flat_assigns.proofs.Scans.{targets_more, targets_split}
use Rattle.net_builder.proofs.Writing.{has_first, has_cases, has_none}

-- where none has a writer, the first of all is the first of the others
pub first_then : (b : Building) (inputs : List Bool) (before : List Place) (ts us : List Target) (o : Option Target) → IsFirstWritten b inputs before ts None → IsFirstWritten b inputs (before ++ places_of ts) us o → IsFirstWritten b inputs before (ts ++ us) o
first_then b inputs before [] us o h r = subst (λ (l : List Place). IsFirstWritten b inputs l us o) (append-nil before) r
first_then b inputs before (t ∷ ts) us o (inl w) r = absurd (let e : None ≡ Some t = w.1 in cc)
first_then b inputs before (t ∷ ts) us o (inr w) r =
    inr (w.0, first_then b inputs (before ++ t.place ∷ []) ts us o w.1 (subst (λ (l : List Place). IsFirstWritten b inputs l us o) (sym (append_assoc before (t.place ∷ []) (places_of ts))) r))

-- where one has a writer, it is the first of all
pub first_stays : (b : Building) (inputs : List Bool) (before : List Place) (ts us : List Target) (t : Target) → IsFirstWritten b inputs before ts (Some t) → IsFirstWritten b inputs before (ts ++ us) (Some t)
first_stays b inputs before [] us t h = absurd (let e : Some t ≡ None = h in cc)
first_stays b inputs before (x ∷ ts) us t (inl w) = inl w
first_stays b inputs before (x ∷ ts) us t (inr w) = inr (w.0, first_stays b inputs (before ++ x.place ∷ []) ts us t w.1)

-- Parts: bits one after the other.

pub places_append : (ts us : List Target) → places_of (ts ++ us) ≡ places_of ts ++ places_of us
places_append [] us = refl
places_append (t ∷ ts) us = ap (λ (l : List Place). t.place ∷ l) (places_append ts us)

pub seen_append : (b : Building) (seen : NetSet) (before : List Place) (ts us : List Target) → HasSeen b seen ((before ++ places_of ts) ++ places_of us) → HasSeen b seen (before ++ places_of (ts ++ us))
seen_append b seen before ts us h = subst (HasSeen b seen) (append_assoc before (places_of ts) (places_of us) ∙ ap (λ (l : List Place). before ++ l) (sym (places_append ts us))) h

pub passed_then : (b : Building) (inputs : List Bool) (before : List Place) (span : Span) (k : ℕ) (xs ys : List (Option ℕ)) (old new : NetSet) (taken : Bool)
    → IsPassed b inputs before span k xs old false → IsPassed b inputs (before ++ places_of (bit_targets span k xs)) span k ys new taken → IsPassed b inputs before span k (xs ++ ys) new taken
passed_then b inputs before span k xs ys old new true h r =
    (r.0, r.1, r.2, subst (λ (l : List Target). IsFirstWritten b inputs before l (Some r.0)) (sym (targets_append span k xs ys)) (first_then b inputs before _ _ (Some r.0) h.0 r.3))
passed_then b inputs before span k xs ys old new false h r = (
  subst (λ (l : List Target). IsFirstWritten b inputs before l None) (sym (targets_append span k xs ys)) (first_then b inputs before _ _ None h.0 r.0),
  subst (λ (l : List Target). HasSeen b new (before ++ places_of l)) (sym (targets_append span k xs ys)) (seen_append b new before (bit_targets span k xs) (bit_targets span k ys) r.1),
)

pub passed_stays : (b : Building) (inputs : List Bool) (before : List Place) (span : Span) (k : ℕ) (xs ys : List (Option ℕ)) (seen : NetSet) → IsPassed b inputs before span k xs seen true → IsPassed b inputs before span k (xs ++ ys) seen true
passed_stays b inputs before span k xs ys seen h = (h.0, h.1, h.2, subst (λ (l : List Target). IsFirstWritten b inputs before l (Some h.0)) (sym (targets_append span k xs ys)) (first_stays b inputs before _ _ h.0 h.3))

-- one bit
pub passed_one : (b : Building) (inputs : List Bool) (before : List Place) (span : Span) (k i : ℕ) (seen : NetSet) (taken : Bool) → IsTaken b inputs before (record { signal = k; bit = i }) seen taken → IsPassed b inputs before span k (Some i ∷ []) seen taken
passed_one b inputs before span k i seen true h = (record { span = span; place = record { signal = k; bit = i } }, refl, refl, inl (h, refl))
passed_one b inputs before span k i seen false h = (inr (h.0, refl), h.1)

-- One bit of a signal, by its net.

same_net : (bits : List Bit) (i n m : ℕ) → slice_get bits i ≡ Some (Net n) → slice_get bits i ≡ Some (Net m) → n ≡ m
same_net bits i n m e f = let g : Some (Net n) ≡ Some (Net m) = sym e ∙ f in cc

same_place : (p q : Place) → p.signal ≡ q.signal → p.bit ≡ q.bit → p ≡ q
same_place p q e f =
    let by_signal : ℕ → Place = λ k. record { signal = k; bit = p.bit } in
    let by_bit : ℕ → Place = λ i. record { signal = q.signal; bit = i } in
    ap by_signal e ∙ ap by_bit f

pub met_takes : (b : Building) (inputs : List Bool) (before : List Place) (p : Place) (net : ℕ) (old new : NetSet) (met : Bool) → HasOwnNets b → IsBit b p.signal p.bit net → slice_index_or inputs p.signal false ≡ false
    → HasSeen b old before → IsMet b net old new met → IsTaken b inputs before p new met
met_takes b inputs before p net old new true own at free seen (inl w) = inr (inl (net, at, w))
met_takes b inputs before p net old new true own at free seen (inr w) =
    let q = (seen net).0 w in
    let apart = are_apart b own q.0.signal q.0.bit p.signal p.bit net q.2 at in
    inr (inr (subst (λ (x : Place). Contains before x) (same_place q.0 p apart.0 apart.1) q.1))
met_takes b inputs before p net old new false own at free seen (unwritten, unseen, adds) = (
  λ w. elim w [
    | inl t ↦ let e : true ≡ false = sym t ∙ free in cc
    | inr r ↦ elim r [
      | inl x ↦ unwritten (subst (λ (n : ℕ). IsJoined b n ⊎ IsStored b n) (same_net (signal b p.signal) p.bit x.0 net x.1 at) x.2)
      | inr c ↦ let s : has old net ≡ true = (seen net).1 (p, c, at) in absurd cc
    ]
  ],
  λ n. (
    λ h. elim ((adds n).0 h) [
      | inl e ↦ (p, Contains-append_right before (p ∷ []) p (has_first [] p), subst (IsBit b p.signal p.bit) (sym e) at)
      | inr o ↦ let q = (seen n).0 o in (q.0, Contains-append_left before (p ∷ []) q.0 q.1, q.2)
    ],
    λ q. elim (Contains-append_cases before (p ∷ []) q.0 q.1) [
      | inl c ↦ (adds n).1 (inr ((seen n).1 (q.0, c, q.2)))
      | inr c ↦ elim (has_cases [] p q.0 c) [
        | inl same ↦ (adds n).1 (inl (same_net (signal b p.signal) p.bit n net (subst (λ (x : Place). IsBit b x.signal x.bit n) (sym same) q.2) at))
        | inr none ↦ absurd (has_none q.0 none)
      ]
    ],
  ),
)

-- a bit by what is read of its signal
pub bit_is : (b : Building) → HasOwnNets b → (k i n : ℕ) (ys : List Bit) (d : Bit) → ys ≡ signal b k → i < length (signal b k) → get_or ys i d ≡ Net n → IsBit b k i n
bit_is b own k i n ys d same less is =
    let net = net_of b own k i less in
    let there : get_or (signal b k) i d ≡ Net net.0 = get_or_from_slice_get (signal b k) i (Net net.0) d net.1 in
    let both : Net net.0 ≡ Net n = sym there ∙ ap (λ (l : List Bit). get_or l i d) (sym same) ∙ is in
    let e : net.0 ≡ n = cc in
    subst (λ (m : ℕ). IsBit b k i m) e net.1

-- One more bit of a part.

pub part_hit : (b : Building) (inputs : List Bool) (before : List Place) (s : Kept) (k n : ℕ) (old new : NetSet) (t : Bool) → k < n → IsPassed b inputs before s.span s.signal (first_bits s k) old false
    → IsPassed b inputs (before ++ places_of (bit_targets s.span s.signal (first_bits s k))) s.span s.signal (bit_in s k ∷ []) new t → t ≡ true → IsPassed b inputs before s.span s.signal (first_bits s n) new true
part_hit b inputs before s k n old new t less h r is =
    let P : Bool → Type 0 = λ y. IsPassed b inputs (before ++ places_of (bit_targets s.span s.signal (first_bits s k))) s.span s.signal (bit_in s k ∷ []) new y in
    let both = passed_then b inputs before s.span s.signal (first_bits s k) (bit_in s k ∷ []) old new true h (subst P is r) in
    let split = first_split s k n less in
    subst (λ (l : List (Option ℕ)). IsPassed b inputs before s.span s.signal l new true) (sym split.1) (passed_stays b inputs before s.span s.signal (first_bits s k ++ bit_in s k ∷ []) split.0 new both)

pub part_on : (b : Building) (inputs : List Bool) (before : List Place) (s : Kept) (k : ℕ) (old new : NetSet) (t : Bool) → IsPassed b inputs before s.span s.signal (first_bits s k) old false
    → IsPassed b inputs (before ++ places_of (bit_targets s.span s.signal (first_bits s k))) s.span s.signal (bit_in s k ∷ []) new t → t ≡ false → IsPassed b inputs before s.span s.signal (first_bits s (k + 1)) new false
part_on b inputs before s k old new t h r is =
    let P : Bool → Type 0 = λ y. IsPassed b inputs (before ++ places_of (bit_targets s.span s.signal (first_bits s k))) s.span s.signal (bit_in s k ∷ []) new y in
    let both = passed_then b inputs before s.span s.signal (first_bits s k) (bit_in s k ∷ []) old new false h (subst P is r) in
    subst (λ (l : List (Option ℕ)). IsPassed b inputs before s.span s.signal l new false) (sym (first_more s k)) both

-- One more part.

pub writer_hit : (b : Building) (inputs : List Bool) (xs : List Kept) (k : ℕ) (d : Kept) (new : NetSet) (t : Bool) → k < length xs → IsFirstWritten b inputs [] (targets (slices_of (take k xs))) None
    → IsPassed b inputs (places_of (targets (slices_of (take k xs)))) (get_or xs k d).span (get_or xs k d).signal (first_bits (get_or xs k d) (get_or xs k d).size) new t → t ≡ true
    → (x : Option Target) × IsFirstWritten b inputs [] (targets (slices_of xs)) x × IsWriter x (Some (record { span = (get_or xs k d).span; signal = (get_or xs k d).signal }))
writer_hit b inputs xs k d new t less h r is =
    let s : Kept = get_or xs k d in
    let ts : List Target = targets (slices_of (take k xs)) in
    let us : List Target = bit_targets s.span s.signal (first_bits s s.size) in
    let P : Bool → Type 0 = λ y. IsPassed b inputs (places_of ts) s.span s.signal (first_bits s s.size) new y in
    let hit = subst P is r in
    let split = targets_split xs k d less in
    let first = first_stays b inputs [] (ts ++ us) split.0 hit.0 (first_then b inputs [] ts us (Some hit.0) h hit.3) in
    (Some hit.0, subst (λ (l : List Target). IsFirstWritten b inputs [] l (Some hit.0)) (sym split.1) first, (sym hit.1, sym hit.2))

pub writer_on : (b : Building) (inputs : List Bool) (xs : List Kept) (k : ℕ) (d : Kept) (new : NetSet) (t : Bool) → k < length xs → IsFirstWritten b inputs [] (targets (slices_of (take k xs))) None
    → IsPassed b inputs (places_of (targets (slices_of (take k xs)))) (get_or xs k d).span (get_or xs k d).signal (first_bits (get_or xs k d) (get_or xs k d).size) new t → t ≡ false
    → IsFirstWritten b inputs [] (targets (slices_of (take (k + 1) xs))) None × HasSeen b new (places_of (targets (slices_of (take (k + 1) xs))))
writer_on b inputs xs k d new t less h r is =
    let s : Kept = get_or xs k d in
    let ts : List Target = targets (slices_of (take k xs)) in
    let us : List Target = bit_targets s.span s.signal (first_bits s s.size) in
    let P : Bool → Type 0 = λ y. IsPassed b inputs (places_of ts) s.span s.signal (first_bits s s.size) new y in
    let pass = subst P is r in
    let more = targets_more xs k d less in
    (subst (λ (l : List Target). IsFirstWritten b inputs [] l None) (sym more) (first_then b inputs [] ts us None h pass.0), subst (λ (l : List Target). HasSeen b new (places_of l)) (sym more) (seen_append b new [] ts us pass.1))
