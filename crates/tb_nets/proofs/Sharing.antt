-- The nodes that are found are those that write one of the bits.
use Rattle.tb_nets.proofs.Common.{◌≡◌, ℕ, Bool, true, ◌&&◌, nat_eq, List, [], ◌∷◌, ◌++◌, refl, sym, ◌∙◌, subst, ◌⊎◌, inl, inr, arith, slice_index_or, if◌then◌else◌, Contains, eqb_tells, Bits, Mask}
use Rattle.tb_nets.proofs.Common.{has_bit, bits_in, Writer, some_writes, writes_in, shares, with_sharing, sharing, all_sharing, AreWritersOf, or_cases, or_left, or_right, and_from, cases_Bool}
use Rattle.std.proofs.lemmas.List.Elements.{Contains-append_left}
use Rattle.tb_nets.proofs.Bits.{shared_bit, bit_shared}
use Rattle.std.proofs.lemmas.Map.Views.{exact_unsigned_eq}
use Rattle.net_order.proofs.Reading.{Contains-cases, Contains-head, Contains-tail}
use Rattle.vlog_effects.proofs.Bools.{and-left, and-right}

pub is_number : (n : ℕ) → nat_eq n n ≡ true
is_number n = elim (eqb_tells n n) [ inl same ↦ same.0 | inr other ↦ absurd (other.1 refl) ]

-- Lists.

pub has_none : (x : ℕ) → Contains [] x → ⊥
has_none x h = omega (arith, h.1)

has_append : (xs ys : List ℕ) (y : ℕ) → Contains (xs ++ ys) y → Contains xs y ⊎ Contains ys y
has_append [] ys y h = inr h
has_append (x ∷ xs) ys y h = elim (Contains-cases x y (xs ++ ys) h) [
  | inl same ↦ inl (subst (λ (k : ℕ). Contains (x ∷ xs) k) same (Contains-head x xs))
  | inr later ↦ elim (has_append xs ys y later) [ inl a ↦ inl (Contains-tail x y xs a) | inr b ↦ inr b ]
]

has_right : (xs ys : List ℕ) (y : ℕ) → Contains ys y → Contains (xs ++ ys) y
has_right [] ys y h = h
has_right (x ∷ xs) ys y h = Contains-tail x y (xs ++ ys) (has_right xs ys y h)

-- Writers of a signal.

-- a node that writes one of the bits
abbrev WritesOne : ℕ → List Writer → ℕ → Type 0
WritesOne bits ws d = (i : ℕ) × (has_bit bits i ≡ true) × (some_writes ws i d ≡ true)

later_writes : (bits d : ℕ) (w : Writer) (ws : List Writer) → WritesOne bits ws d → WritesOne bits (w ∷ ws) d
later_writes bits d w ws h = (h.0, h.1, or_right (nat_eq d w.node && has_bit w.bits h.0) (some_writes ws h.0 d) h.2)

sharing_sound : (bits d : ℕ) (ws : List Writer) → Contains (sharing bits ws) d → WritesOne bits ws d
sharing_sound bits d [] h = absurd (has_none d h)
sharing_sound bits d (w ∷ ws) h = elim (cases_Bool (shares w.bits bits)) [
  | inl yes_ ↦
      let there : Contains (w.node ∷ sharing bits ws) d = subst (λ (b : Bool). Contains (if b then w.node ∷ sharing bits ws else sharing bits ws) d) yes_ h in
      elim (Contains-cases w.node d (sharing bits ws) there) [
        | inl same ↦
            let one = shared_bit w.bits bits yes_ in
            let node : nat_eq d w.node ≡ true = subst (λ (k : ℕ). nat_eq k w.node ≡ true) same (is_number w.node) in
            (one.0, one.2, or_left (nat_eq d w.node && has_bit w.bits one.0) (some_writes ws one.0 d) (and_from (nat_eq d w.node) (has_bit w.bits one.0) node one.1))
        | inr later ↦ later_writes bits d w ws (sharing_sound bits d ws later)
      ]
  | inr no_ ↦
      let there : Contains (sharing bits ws) d = subst (λ (b : Bool). Contains (if b then w.node ∷ sharing bits ws else sharing bits ws) d) no_ h in
      later_writes bits d w ws (sharing_sound bits d ws there)
]

kept : (bits d : ℕ) (w : Writer) (more : List ℕ) → Contains more d → Contains (with_sharing bits w more) d
kept bits d w more h = elim (cases_Bool (shares w.bits bits)) [
  | inl yes_ ↦ rw yes_ (Contains-tail w.node d more h)
  | inr no_ ↦ rw no_ h
]

sharing_covers : (bits d i : ℕ) (ws : List Writer) → has_bit bits i ≡ true → some_writes ws i d ≡ true → Contains (sharing bits ws) d
sharing_covers bits d i [] b h = absurd cc
sharing_covers bits d i (w ∷ ws) b h = elim (or_cases (nat_eq d w.node && has_bit w.bits i) (some_writes ws i d) h) [
  | inl here ↦
      let node : d ≡ w.node = exact_unsigned_eq d w.node (and-left (nat_eq d w.node) (has_bit w.bits i) here) in
      let yes_ : shares w.bits bits ≡ true = bit_shared w.bits bits i (and-right (nat_eq d w.node) (has_bit w.bits i) here) b in
      rw yes_ (subst (λ (k : ℕ). Contains (w.node ∷ sharing bits ws) k) (sym node) (Contains-head w.node (sharing bits ws)))
  | inr later ↦ kept bits d w (sharing bits ws) (sharing_covers bits d i ws b later)
]

-- Writers of bits.

-- a node that writes one of the bits of masks
abbrev WritesSome : List (List Writer) → List Mask → ℕ → Type 0
WritesSome rows ms d = (n : ℕ) × (i : ℕ) × (bits_in ms n i ≡ true) × (writes_in rows n i d ≡ true)

all_sound : (rows : List (List Writer)) (d : ℕ) (ms : List Mask) → Contains (all_sharing rows ms) d → WritesSome rows ms d
all_sound rows d [] h = absurd (has_none d h)
all_sound rows d (m ∷ ms) h = elim (has_append (sharing m.bits (slice_index_or rows m.number [])) (all_sharing rows ms) d h) [
  | inl here ↦
      let one = sharing_sound m.bits d (slice_index_or rows m.number []) here in
      (m.number, one.0, or_left (nat_eq m.number m.number && has_bit m.bits one.0) (bits_in ms m.number one.0) (and_from (nat_eq m.number m.number) (has_bit m.bits one.0) (is_number m.number) one.1), one.2)
  | inr later ↦
      let one = all_sound rows d ms later in
      (one.0, one.1, or_right (nat_eq one.0 m.number && has_bit m.bits one.1) (bits_in ms one.0 one.1) one.2, one.3)
]

all_covers : (rows : List (List Writer)) (d n i : ℕ) (ms : List Mask) → bits_in ms n i ≡ true → writes_in rows n i d ≡ true → Contains (all_sharing rows ms) d
all_covers rows d n i [] b h = absurd cc
all_covers rows d n i (m ∷ ms) b h = elim (or_cases (nat_eq n m.number && has_bit m.bits i) (bits_in ms n i) b) [
  | inl here ↦
      let number : n ≡ m.number = exact_unsigned_eq n m.number (and-left (nat_eq n m.number) (has_bit m.bits i) here) in
      let there : some_writes (slice_index_or rows m.number []) i d ≡ true = subst (λ (k : ℕ). some_writes (slice_index_or rows k []) i d ≡ true) number h in
      Contains-append_left (sharing m.bits (slice_index_or rows m.number [])) (all_sharing rows ms) d (sharing_covers m.bits d i (slice_index_or rows m.number []) (and-right (nat_eq n m.number) (has_bit m.bits i) here) there)
  | inr later ↦ has_right (sharing m.bits (slice_index_or rows m.number [])) (all_sharing rows ms) d (all_covers rows d n i ms later h)
]

-- the nodes that were found for masks of these bits
pub are_writers : (rows : List (List Writer)) (ms : List Mask) (bits : Bits) (row : List ℕ) → ((n i : ℕ) → bits_in ms n i ≡ bits n i) → row ≡ all_sharing rows ms → AreWritersOf (writes_in rows) bits row
are_writers rows ms bits row same is = record {
  sound = λ d has.
      let one = all_sound rows d ms (subst (λ (l : List ℕ). Contains l d) is has) in
      (one.0, one.1, sym (same one.0 one.1) ∙ one.2, one.3);
  covers = λ d n i b h. subst (λ (l : List ℕ). Contains l d) (sym is) (all_covers rows d n i ms (same n i ∙ b) h);
}
