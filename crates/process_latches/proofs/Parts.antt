-- Parts of left sides, one after the other.
use Rattle.process_latches.proofs.Common.{◌≡◌, suc, ℕ, ◌<◌, Bool, ◌||◌, List, [], ◌∷◌, ◌++◌, map, refl, sym, ap, ◌∙◌, subst, length, get_or, take, append_assoc, Option, None, Some, append-nil, Span}
use Rattle.process_latches.proofs.Common.{Identifier, LeftSide, Names, Whole, Part, Vector, vector_of, parts_of, concatenated, part_vector, parts_cover, parts_take, bits_in, indices_read, Mask, Marks}
use Rattle.process_latches.proofs.Common.{Write, BitsAdded, WriteAdded, PartsAdded, IsPart, name_writes, sound_part, part_writes, parts_writes, covers_both, or-again}
use Rattle.process_latches.specs.declared.left.Manner.{Manner}
use Rattle.process_latches.proofs.Fitting.{sound_keeps_name}
use Rattle.signal_masks.proofs.Indexing.{read_both}

writes_both : (blocking : Bool) (first : Span) (names : Names) (xs ys : List Part) → parts_writes blocking first names (xs ++ ys) ≡ parts_writes blocking first names xs ++ parts_writes blocking first names ys
writes_both blocking first names [] ys = refl
writes_both blocking first names (p ∷ xs) ys =
    let here : List Write = part_writes blocking first p (part_vector names p) in
    ap (λ (l : List Write). here ++ l) (writes_both blocking first names xs ys) ∙ sym (append_assoc here (parts_writes blocking first names xs) (parts_writes blocking first names ys))

map_both : {A B : Type 0} (f : A → B) (xs ys : List A) → map f (xs ++ ys) ≡ map f xs ++ map f ys
map_both f [] ys = refl
map_both {A} {B} f (x ∷ xs) ys = ap (λ (l : List B). f x ∷ l) (map_both f xs ys)

parts_then : (names : Names) (m : Manner) (xs ys : List Part) (a b d : Marks) → PartsAdded names m xs a b → PartsAdded names m ys b d → PartsAdded names m (xs ++ ys) a d
parts_then names m xs ys a b d x y = record {
  covered_is = λ n i. y.covered_is n i ∙ ap (λ (t : Bool). t || parts_cover names ys n i) (x.covered_is n i) ∙ or-again (bits_in a.covered n i) (parts_cover names xs n i) (parts_cover names ys n i) ∙ ap (λ (t : Bool). bits_in a.covered n i || t) (sym (covers_both names xs ys n i));
  early_is = λ n i. y.early_is n i ∙ ap (λ (t : Bool). t || indices_read names ys n i) (x.early_is n i) ∙ or-again (bits_in a.early n i) (indices_read names xs n i) (indices_read names ys n i) ∙ ap (λ (t : Bool). bits_in a.early n i || t) (sym (read_both names xs ys n i));
  writes_are = y.writes_are ∙ ap (λ (l : List Write). l ++ parts_writes m.is_blocking m.first names ys) x.writes_are ∙ append_assoc a.writes.items (parts_writes m.is_blocking m.first names xs) (parts_writes m.is_blocking m.first names ys) ∙ ap (λ (l : List Write). a.writes.items ++ l) (sym (writes_both m.is_blocking m.first names xs ys));
  stopped_is = y.stopped_is ∙ x.stopped_is;
}

-- the parts of one left side more
pub parts_more : (names : Names) (m : Manner) (ls : List LeftSide) (k : ℕ) (x : LeftSide) (a b d : Marks) → x ≡ get_or ls k x → k < length ls → PartsAdded names m (map (sound_part names) (concatenated (map parts_of (take k ls)))) a b → PartsAdded names m (map (sound_part names) (parts_of x)) b d → PartsAdded names m (map (sound_part names) (concatenated (map parts_of (take (suc k) ls)))) a d
parts_more names m ls k x a b d at h before here =
    let f : Part → Part = sound_part names in
    let ps : List Part = concatenated (map parts_of (take k ls)) in
    subst (λ (l : List Part). PartsAdded names m l a d) (sym (ap (map f) (parts_take ls k x at h) ∙ map_both f ps (parts_of x))) (parts_then names m (map f ps) (map f (parts_of x)) a b d before here)

-- the bits of a part, and its variable
pub part_added : (names : Names) (m : Manner) (left : LeftSide) (n : Identifier) (p : Part) (a b d : Marks) → IsPart left n p → BitsAdded names (sound_part names p ∷ []) a b → WriteAdded names m n b d → PartsAdded names m (map (sound_part names) (parts_of left)) a d
part_added names m left n p a b d is x y =
    let q : Part = sound_part names p in
    let same : q.name ≡ n = sound_keeps_name names p ∙ is.name_is in
    let write : Identifier → List Write = λ k. part_writes m.is_blocking m.first (record { name = k; select = Whole }) (vector_of (names k.name)) in
    subst (λ (l : List Part). PartsAdded names m (map (sound_part names) l) a d) (sym is.parts) (record {
      covered_is = λ n i. ap (λ (l : List Mask). bits_in l n i) y.covered_is ∙ x.covered_is n i;
      early_is = λ n i. ap (λ (l : List Mask). bits_in l n i) y.early_is ∙ x.early_is n i;
      writes_are = y.writes_are ∙ ap (λ (l : List Write). l ++ name_writes names m n) x.writes_are ∙ ap (λ (l : List Write). a.writes.items ++ l) (ap write (sym same) ∙ by_select (part_vector names q) q ∙ sym (append-nil (part_writes m.is_blocking m.first q (part_vector names q))));
      stopped_is = y.stopped_is ∙ x.stopped_is;
    }) where
      by_select : (o : Option Vector) (q : Part) → part_writes m.is_blocking m.first (record { name = q.name; select = Whole }) o ≡ part_writes m.is_blocking m.first q o
      by_select None q = refl
      by_select (Some v) q = refl

-- bits of parts that are the same
pub bits_as : (names : Names) (ps qs : List Part) (a b : Marks) → ps ≡ qs → BitsAdded names ps a b → BitsAdded names qs a b
bits_as names ps qs a b is x = subst (λ (l : List Part). BitsAdded names l a b) is x
