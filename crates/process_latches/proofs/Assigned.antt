-- An assignment from what it reads and what its left side assigns.
use Rattle.process_latches.proofs.Common.{◌≡◌, Bool, false, ◌||◌, List, [], ◌++◌, map, sym, ap, ◌∙◌, subst, append-nil, Span, left_first_token, Expr, LeftSide, Assignment, Names, Bits, no_bits, Part}
use Rattle.process_latches.proofs.Common.{parts_of, parts_cover, parts_missed, Assign, Done, assigning, same_form, bits_in, indices_read, Mask, Marks, Write, AreBlank, Added, PartsAdded, Marked}
use Rattle.process_latches.proofs.Common.{reads_by, sound, right_faults, sound_part, sound_left, parts_writes, or_end}
use Rattle.process_latches.proofs.Adding.{and_end, added_as, added_then}
use Rattle.process_latches.proofs.Fitting.{parts_sound, token_sound, missed_none}

-- the right side, by its form and its value as they are at hand
pub right_read : (names : Names) (left : LeftSide) (form right value : Expr) (a b : Marks) → form ≡ same_form left → value ≡ right → Added no_bits (reads_by names (right_faults names form value) value) [] false a b → Added no_bits (reads_by names (right_faults names (same_form left) right) right) [] false a b
right_read names left form right value a b is_form is_value x =
    subst (λ (e : Expr). Added no_bits (reads_by names (right_faults names (same_form left) e) e) [] false a b) is_value
    (subst (λ (f : Expr). Added no_bits (reads_by names (right_faults names f value) value) [] false a b) is_form x)

pub assign_marked : (names : Names) (is_blocking : Bool) (s : Assignment) (first : Span) (m0 m1 l0 l1 m2 : Marks) → first ≡ left_first_token s.left → Added no_bits (reads_by names (right_faults names (same_form s.left) s.value) s.value) [] false m0 m1 → AreBlank l0 → PartsAdded names (record { first = first; is_blocking = is_blocking }) (map (sound_part names) (parts_of s.left)) l0 l1 → Added (bits_in l1.covered) (bits_in l1.early) l1.writes.items l1.is_stopped m1 m2 → Marked (sound (Assign (assigning is_blocking s names) Done)) m0 m2
assign_marked names is_blocking s first m0 m1 l0 l1 m2 token x blank y z =
    let right : Bits = reads_by names (right_faults names (same_form s.left) s.value) s.value in
    let ps : List Part = map (sound_part names) (parts_of s.left) in
    let same : parts_of (sound_left names s.left) ≡ ps = parts_sound names s.left in
    added_as _ _ _ _ _ _ _ _ m0 m2
    (λ n i. y.covered_is n i ∙ ap (λ (l : List Mask). bits_in l n i || parts_cover names ps n i) blank.covered_is ∙ ap (λ (l : List Part). parts_cover names l n i) (sym same))
    (λ n i. ap (λ (b : Bool). right n i || b) (and_end (bits_in l1.early n i) ∙ y.early_is n i ∙ ap (λ (l : List Mask). bits_in l n i || indices_read names ps n i) blank.early_is ∙ sym (missed_none names ps n i) ∙ ap (λ (l : List Part). parts_missed names l no_bits n i) (sym same)) ∙ ap (λ (b : Bool). b || parts_missed names (parts_of (sound_left names s.left)) no_bits n i) (sym (and_end (right n i))) ∙ sym (or_end _))
    (y.writes_are ∙ ap (λ (l : List Write). l ++ parts_writes is_blocking first names ps) blank.writes_are ∙ ap (λ (t : Span). parts_writes is_blocking t names ps) (token ∙ sym (token_sound names s.left)) ∙ ap (λ (l : List Part). parts_writes is_blocking (left_first_token (sound_left names s.left)) names l) (sym same) ∙ sym (append-nil _))
    (y.stopped_is ∙ blank.stopped_is)
    (added_then no_bits right (bits_in l1.covered) (bits_in l1.early) [] l1.writes.items false l1.is_stopped m0 m1 m2 x z)
