-- A word in a text that grows by a piece: it stands in the text, or in the text's end with the piece.
use Rattle.std.proofs.Common.{◌≡◌, ◌↔◌, ◌⊎◌, inl, inr, ℕ, suc, zero, ◌+◌, ◌-◌, ◌<◌, ◌≤◌, Bool, true, false, IsTrue, List, ◌++◌, length, drop, slice_index, Option, None, Some, refl, ap, sym, ◌∙◌, arith, length-append, length-drop}
use Rattle.std.proofs.lemmas.List.{drop-append-le, drop-drop, get_or-drop, get_or_append_left}
use Rattle.memchr.specs.Find.{OccursAt, FindsNeedle}
use Rattle.tb_watch.specs.Occurs.{Occurs, last}
use Rattle.tb_watch.specs.Searches.{Searching, HasSeen}

-- The window that is searched is the end of the whole text.
window-is : (n : ℕ) (text piece : List ℕ) → last n text ++ piece ≡ drop (length text - n) (text ++ piece)
window-is n text piece = sym (drop-append-le (length text - n) text piece (omega arith))

last-again : (n : ℕ) (text piece : List ℕ) → last n (last n text ++ piece) ≡ last n (text ++ piece)
last-again n text piece =
    let whole = text ++ piece in
    let s = length text - n in
    let long : length whole ≡ length text + length piece = length-append text piece in
    let e : s + (length whole - s - n) ≡ length whole - n = omega arith in
    rw (window-is n text piece, length-drop s whole, drop-drop (length whole - s - n) s whole, e) refl

-- a word stands in the end of a text just where it stands in the text, after the start of that end
from_end : (s i : ℕ) (text word : List ℕ) → s ≤ length text → OccursAt (drop s text) word i → OccursAt text word (s + i)
from_end s i text word low o =
    let long : length (drop s text) ≡ length text - s = length-drop s text in
    let fits : i + length word ≤ length (drop s text) = o.fits in
    record { fits = omega arith; reads = λ j below. let e : s + i + j ≡ s + (i + j) = omega arith in ap (slice_index text) e ∙ sym (get_or-drop s text (i + j) 0) ∙ o.reads j below }

in_end : (s i : ℕ) (text word : List ℕ) → s ≤ i → OccursAt text word i → OccursAt (drop s text) word (i - s)
in_end s i text word low o =
    let long : length (drop s text) ≡ length text - s = length-drop s text in
    let fits : i + length word ≤ length text = o.fits in
    record { fits = omega arith; reads = λ j below. let e : s + (i - s + j) ≡ i + j = omega arith in get_or-drop s text (i - s + j) 0 ∙ ap (slice_index text) e ∙ o.reads j below }

-- a word that ends before the piece
in_text : (i : ℕ) (text piece word : List ℕ) → i + length word ≤ length text → OccursAt (text ++ piece) word i → OccursAt text word i
in_text i text piece word ends o = record { fits = ends; reads = λ j below. sym (get_or_append_left text piece 0 (i + j) (omega arith)) ∙ o.reads j below }

le_or_lt : (a b : ℕ) → (a ≤ b) ⊎ (b < a)
le_or_lt zero b = inl (omega arith)
le_or_lt (suc a) zero = inr (omega arith)
le_or_lt (suc a) (suc b) = elim (le_or_lt a b) [ inl h ↦ inl (omega arith) | inr h ↦ inr (omega arith) ]

occurs-apart : (word text piece : List ℕ) → Occurs word (text ++ piece) → Occurs word text ⊎ Occurs word (last (length word - 1) text ++ piece)
occurs-apart word text piece (some, (i, o)) =
    elim (le_or_lt (i + length word) (length text)) [
      | inl ends ↦ inl (some, (i, in_text i text piece word ends o))
      | inr past ↦ let s = length text - (length word - 1) in inr (some, (i - s, rw (window-is (length word - 1) text piece) (in_end s i (text ++ piece) word (omega arith) o)))
    ]

occurs-together : (word text piece : List ℕ) → Occurs word (last (length word - 1) text ++ piece) → Occurs word (text ++ piece)
occurs-together word text piece (some, (i, o)) =
    let s = length text - (length word - 1) in
    let long : length (text ++ piece) ≡ length text + length piece = length-append text piece in
    let here : OccursAt (drop s (text ++ piece)) word i = rw (window-is (length word - 1) text piece) at o in
    (some, (s + i, from_end s i (text ++ piece) word (omega arith) here))

-- A search that has not found its word has seen one more piece, where it has searched its tail with the piece.
pub seen-next : (s : Searching) (text piece window tail : List ℕ) (here : Bool) → s.found ≡ false → HasSeen s text → window ≡ s.tail ++ piece → (IsTrue here ↔ Occurs s.word window) → tail ≡ last (length s.word - 1) window → HasSeen (record { word = s.word; found = here; tail = tail }) (text ++ piece)
seen-next s text piece window tail here new seen is searched cut =
    let w : window ≡ last (length s.word - 1) text ++ piece = rw (is, seen.tail new) refl in
    let looked : IsTrue here ↔ Occurs s.word (last (length s.word - 1) text ++ piece) = rw w at searched in
    record {
      found = (
        λ h. occurs-together s.word text piece (looked.0 h),
        λ h. elim (occurs-apart s.word text piece h) [ inl x ↦ let e : s.found ≡ true = seen.found.1 x in absurd cc | inr y ↦ looked.1 y ],
      );
      tail = λ e. cut ∙ rw w (last-again (length s.word - 1) text piece);
    }

-- what a search of a slice says
pub finds-occurs : (text word : List ℕ) (r : Option ℕ) (b : Bool) → 0 < length word → FindsNeedle text word 0 r → (b ≡ elim r [ None ↦ false | Some k ↦ true ]) → IsTrue b ↔ Occurs word text
finds-occurs text word None b some finds is = (λ h. absurd cc, λ occurs. let fits : occurs.1.0 + length word ≤ length text = occurs.1.1.fits in absurd (finds occurs.1.0 (omega arith) (omega arith) occurs.1.1))
finds-occurs text word (Some k) b some finds is = (λ h. (some, (k, finds.1)), λ occurs. is)
