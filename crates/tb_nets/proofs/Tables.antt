-- The table of writers, one writer more at a time.
use Rattle.tb_nets.proofs.Common.{◌≡◌, zero, suc, ℕ, ◌<◌, Bool, true, false, ◌&&◌, ◌||◌, nat_eq, List, [], ◌∷◌, ◌++◌, map, set, refl, sym, ap, ◌∙◌, inl, inr, arith, length, get_or, take}
use Rattle.tb_nets.proofs.Common.{slice_index_or, eqb_tells, Mask, has_bit, bits_in, Writer, some_writes, writes_in, parted, or_end, bits_take, after}
use Rattle.std.proofs.lemmas.List.{map-set, get_or-map, length-map, get_or-set_same, get_or-set_other}

-- an empty list more
pub push_room : {V : Type 0} (items : V → List Writer) (ws : List V) (v : V) (n : ℕ) → items v ≡ [] → slice_index_or (map items (ws ++ v ∷ [])) n [] ≡ slice_index_or (map items ws) n []
push_room items [] v zero e = e
push_room items [] v (suc n) e = refl
push_room items (w ∷ ws) v zero e = refl
push_room items (w ∷ ws) v (suc n) e = push_room items ws v n e

writes_push : (ws : List Writer) (x : Writer) (i d : ℕ) → some_writes (ws ++ x ∷ []) i d ≡ (some_writes ws i d || (nat_eq d x.node && has_bit x.bits i))
writes_push [] x i d = or_end (nat_eq d x.node && has_bit x.bits i)
writes_push (w ∷ ws) x i d = ap (λ (b : Bool). (nat_eq d w.node && has_bit w.bits i) || b) (writes_push ws x i d) ∙ after (nat_eq d w.node && has_bit w.bits i) (some_writes ws i d) (nat_eq d x.node && has_bit x.bits i)

no_more : (w e : Bool) → w ≡ (w || (e && false))
no_more true e = refl
no_more false true = refl
no_more false false = refl

-- a writer more of the signal k
pushed_row : (rows : List (List Writer)) (k : ℕ) (x : Writer) (n i d : ℕ) → k < length rows → writes_in (set rows k (slice_index_or rows k [] ++ x ∷ [])) n i d ≡ (writes_in rows n i d || (nat_eq d x.node && (nat_eq n k && has_bit x.bits i)))
pushed_row rows k x n i d inside =
    let row : List Writer = slice_index_or rows k [] ++ x ∷ [] in
    elim (eqb_tells n k) [
      | inl same ↦
          let here : slice_index_or (set rows k row) n [] ≡ row = ap (λ (j : ℕ). slice_index_or (set rows k row) j []) same.1 ∙ get_or-set_same rows k row [] inside in
          ap (λ (l : List Writer). some_writes l i d) here
          ∙ writes_push (slice_index_or rows k []) x i d
          ∙ ap (λ (j : ℕ). some_writes (slice_index_or rows j []) i d || (nat_eq d x.node && has_bit x.bits i)) (sym same.1)
          ∙ ap (λ (b : Bool). some_writes (slice_index_or rows n []) i d || (nat_eq d x.node && (b && has_bit x.bits i))) (sym same.0)
      | inr other ↦
          ap (λ (l : List Writer). some_writes l i d) (get_or-set_other rows k n row [] other.1)
          ∙ no_more (some_writes (slice_index_or rows n []) i d) (nat_eq d x.node)
          ∙ ap (λ (b : Bool). some_writes (slice_index_or rows n []) i d || (nat_eq d x.node && (b && has_bit x.bits i))) (sym other.0)
    ]

pub pushed : {V : Type 0} (items : V → List Writer) (ws : List V) (k : ℕ) (u w : V) (x : Writer) (n i d : ℕ) → u ≡ get_or ws k u → k < length ws → items w ≡ items u ++ x ∷ [] → writes_in (map items (set ws k w)) n i d ≡ (writes_in (map items ws) n i d || (nat_eq d x.node && (nat_eq n k && has_bit x.bits i)))
pushed items ws k u w x n i d is h longer =
    let here : items u ≡ slice_index_or (map items ws) k [] = ap items is ∙ sym (get_or-map items ws k u [] h) in
    let row : items w ≡ slice_index_or (map items ws) k [] ++ x ∷ [] = longer ∙ ap (λ (l : List Writer). l ++ x ∷ []) here in
    let inside : k < length (map items ws) = omega (arith, h, length-map ws items) in
    ap (λ (rows : List (List Writer)). writes_in rows n i d) (map-set items ws k w)
    ∙ ap (λ (l : List Writer). writes_in (set (map items ws) k l) n i d) row
    ∙ pushed_row (map items ws) k x n i d inside

-- the same after rows were made
pub pushed_on : (before mid now : List (List Writer)) (n i d : ℕ) (b : Bool) → slice_index_or mid n [] ≡ slice_index_or before n [] → writes_in now n i d ≡ (writes_in mid n i d || b) → writes_in now n i d ≡ (writes_in before n i d || b)
pushed_on before mid now n i d b same e = e ∙ ap (λ (l : List Writer). some_writes l i d || b) same

-- Masks one after the other.

pub more_masks : (ms : List Mask) (k : ℕ) (m : Mask) (n i : ℕ) (test old before now : Bool) → m ≡ get_or ms k m → k < length ms → before ≡ (old || (test && bits_in (take k ms) n i)) → now ≡ (before || (test && (nat_eq n m.number && has_bit m.bits i))) → now ≡ (old || (test && bits_in (take (suc k) ms) n i))
more_masks ms k m n i test old before now is h e f =
    f ∙ ap (λ (b : Bool). b || (test && (nat_eq n m.number && has_bit m.bits i))) e
    ∙ sym (after old (test && bits_in (take k ms) n i) (test && (nat_eq n m.number && has_bit m.bits i)))
    ∙ ap (λ (b : Bool). old || b) (parted test (bits_in (take k ms) n i) (nat_eq n m.number && has_bit m.bits i))
    ∙ ap (λ (b : Bool). old || (test && b)) (sym (bits_take ms k m n i is h))

pub no_masks : (test old : Bool) → old ≡ (old || (test && false))
no_masks true true = refl
no_masks true false = refl
no_masks false true = refl
no_masks false false = refl
