-- How far a text is UTF-8 without blanks, character by character, and names.
use Rattle.site_texts.proofs.Common.{◌≡◌, ◌≢◌, ℕ, zero, suc, ◌+◌, ◌<◌, ◌≤◌, ⊎_elim, false, List, [], ◌∷◌, ◌++◌, length, get_or, take, drop, refl, sym, subst, ap, ◌∙◌, arith, cases_eq, cases_lt}
use Rattle.site_texts.proofs.Common.{append_assoc, append-nil, take-append-drop, take-append-le, take_at, take-take, drop_at, drop_more, length-append, length-take-le, get_or_append_left, get_or_at}
use Rattle.site_texts.proofs.Common.{get_or-take, All-append, All-drop, All-get_or, IsUtf8-append, All, IsUtf8, after_text, IsBadField, IsCharacter, IsFront, IsName, IsSolid, is_blank, Cut}
use Rattle.std.proofs.lemmas.List.{length-drop}
use Rattle.std.proofs.str.Valid.{of_one}
use Rattle.site_texts.specs.declared.name.Front.{Front}
use Rattle.site_texts.proofs.Characters.{solid_1}
use Rattle.site_texts.proofs.Splits.{NoSpace, NoSpace-from}

abbrev IsFull : ℕ → Type 0
IsFull byte = is_blank byte ≡ false

pub solid-append : (a b : List ℕ) → IsSolid a → IsSolid b → IsSolid (a ++ b)
solid-append a b ia ib = record { utf8 = IsUtf8-append a b ia.utf8 ib.utf8; solid = All-append IsFull a b ia.solid ib.solid }

-- what stands behind a solid front of a solid text
solid-behind : (a b : List ℕ) → IsSolid a → IsSolid (a ++ b) → IsSolid b
solid-behind a b ia whole =
    let front : take (length a) (a ++ b) ≡ a = take_at a b (length a) refl in
    let back : drop (length a) (a ++ b) ≡ b = drop_at a b (length a) refl in
    record {
      utf8 = subst IsUtf8 back (after_text (a ++ b) (length a) whole.utf8 (subst IsUtf8 (sym front) ia.utf8));
      solid = subst (All IsFull) back (All-drop IsFull (length a) (a ++ b) whole.solid);
    }

-- the first bytes behind a place
take_from : (text : List ℕ) (n m : ℕ) → n ≤ length text → take (n + m) text ≡ take n text ++ take m (drop n text)
take_from [] zero m le = ap (λ k. take k []) (let e : 0 + m ≡ m = omega arith in e)
take_from [] (suc n) m le = absurd (omega arith)
take_from (b ∷ text) zero m le = ap (λ k. take k (b ∷ text)) (let e : 0 + m ≡ m = omega arith in e)
take_from (b ∷ text) (suc n) m le =
    let e : suc n + m ≡ suc (n + m) = omega arith in
    ap (λ k. take k (b ∷ text)) e ∙ ap (λ t. b ∷ t) (take_from text n m (omega arith))

-- the front and a character more
pub front_more : (text : List ℕ) (n m : ℕ) → n ≤ length text → IsSolid (take n text) → (0 < m) × (m ≤ length (drop n text)) × IsSolid (take m (drop n text)) → IsSolid (take (n + m) text)
front_more text n m le front char = subst IsSolid (sym (take_from text n m le)) (solid-append (take n text) (take m (drop n text)) front char.2)

-- The front ends at what is no character.
pub front_cut : (text : List ℕ) (n at : ℕ) → n < length text → IsSolid (take n text) → IsCharacter (drop n text) (Cut at) → IsFront text (record { whole = n; stop = n + at })
front_cut text n at less front char =
    let cut = char.0 in
    let rest = drop n text in
    let split = take_from text n at (omega arith) in
    record {
      order = omega arith;
      whole = front;
      cut = record {
        within = omega (arith, cut.within, length-drop n text);
        more = cut.more;
        before = subst IsSolid (sym (append_assoc (take n text) (take at rest) cut.more) ∙ ap (λ t. t ++ cut.more) (sym split)) (solid-append (take n text) (take at rest ++ cut.more) front cut.before);
        here = λ other within solid.
            let further : take (n + at + 1) text ≡ take n text ++ take (at + 1) rest = ap (λ k. take k text) (let e : n + at + 1 ≡ n + (at + 1) = omega arith in e) ∙ take_from text n (at + 1) (omega arith) in
            let there : take (n + at + 1) text ++ other ≡ take n text ++ (take (at + 1) rest ++ other) = ap (λ t. t ++ other) further ∙ append_assoc (take n text) (take (at + 1) rest) other in
            cut.here other (omega (arith, length-drop n text)) (solid-behind (take n text) (take (at + 1) rest ++ other) front (subst IsSolid there solid));
      };
      inner = λ some utf8. char.1 (omega arith) (subst IsUtf8 (drop_at (take n text) (take at rest) n (length-take-le n text (omega arith)))
          (subst (λ t. IsUtf8 (drop n t)) split (after_text (take (n + at) text) n utf8 (subst IsUtf8 (sym (take-take n (n + at) text (omega arith))) front.utf8))));
    }

-- The front is the whole text.
pub front_all : (text : List ℕ) (n : ℕ) → length text ≤ n → n ≤ length text → IsSolid (take n text) → IsFront text (record { whole = n; stop = n })
front_all text n past le front = record {
  order = omega arith;
  whole = front;
  cut = record {
    within = le;
    more = [];
    before = subst IsSolid (sym (append-nil (take n text))) front;
    here = λ other less solid. absurd (omega arith);
  };
  inner = λ less. absurd (omega arith);
}

-- names have no space
full_no_space : (b : ℕ) → is_blank b ≡ false → b ≢ 32
full_no_space b full = λ e. let bad : is_blank 32 ≡ false = ap is_blank (sym e) ∙ full in absurd cc

pub solid_no_space : (text : List ℕ) → IsSolid text → NoSpace text
solid_no_space text solid = NoSpace-from text (λ k within. full_no_space (get_or text k 0) (All-get_or IsFull text k 0 within solid.solid))

pub letter : IsSolid (97 ∷ [])
letter = solid_1 97 (of_one (97 ∷ []) 0 (omega arith) (omega arith)) refl

-- no space stands in the front
space_inside : (text : List ℕ) (front : Front) → IsFront text front → (n : ℕ) → n < front.stop → get_or text n 0 ≡ 32 → ⊥
space_inside text front is n less space =
    let t = take front.stop text in
    let long : n < length t = omega (arith, length-take-le front.stop text is.cut.within) in
    let full : is_blank (get_or (t ++ is.cut.more) n 0) ≡ false = All-get_or IsFull (t ++ is.cut.more) n 0 (omega (arith, length-append t is.cut.more)) is.cut.before.solid in
    let there : get_or (t ++ is.cut.more) n 0 ≡ get_or text n 0 = get_or_append_left t is.cut.more 0 n long ∙ get_or-take front.stop text n 0 less in
    full_no_space (get_or text n 0) (sym (ap is_blank there) ∙ full) space

-- The front is no name with a blank behind it: it is empty, it ends within a character, and another byte or none follows.
abbrev pub IsNoName : List ℕ → Front → Type 0
IsNoName text front = 0 < front.whole → front.whole ≡ front.stop → front.stop < length text → get_or text front.stop 0 ≢ 32

-- a name and a blank that begin with the bytes up to the stop
misses : (text : List ℕ) (front : Front) → IsFront text front → IsNoName text front → (other : List ℕ) → IsName other → (more rest : List ℕ) → front.stop < length text
    → take (front.stop + 1) text ++ more ≡ other ++ 32 ∷ rest → ⊥
misses text front is ends other name more rest within e =
    let w = take (front.stop + 1) text in
    let long : length w ≡ front.stop + 1 = length-take-le (front.stop + 1) text (omega arith) in
    let byte : (n : ℕ) → n < front.stop + 1 → get_or (other ++ 32 ∷ rest) n 0 ≡ get_or text n 0 = λ n less.
    sym (ap (λ t. get_or t n 0) e) ∙ get_or_append_left w more 0 n (omega arith) ∙ get_or-take (front.stop + 1) text n 0 less in
    ⊎_elim
    (λ same. let space : get_or text front.stop 0 ≡ 32 = sym (byte front.stop (omega arith)) ∙ get_or_at other 32 rest 0 front.stop (sym same) in
    let first : take front.stop text ≡ other = sym (take-take front.stop (front.stop + 1) text (omega arith)) ∙ sym (take-append-le front.stop w more (omega arith)) ∙ ap (take front.stop) e ∙ take_at other (32 ∷ rest) front.stop (sym same) in
    ⊎_elim (λ cut. is.inner cut (subst IsUtf8 (sym first) name.text.utf8)) (λ none. ends (omega (arith, name.some, is.order)) (omega (arith, is.order)) within space) (cases_lt front.whole front.stop))
    (λ differ. ⊎_elim
    (λ less. let first : w ≡ take (front.stop + 1) other = sym (take_at w more (front.stop + 1) long) ∙ ap (take (front.stop + 1)) e ∙ take-append-le (front.stop + 1) other (32 ∷ rest) (omega arith) in
    let whole : other ≡ w ++ drop (front.stop + 1) other = sym (take-append-drop (front.stop + 1) other) ∙ ap (λ t. t ++ drop (front.stop + 1) other) (sym first) in
    is.cut.here (drop (front.stop + 1) other) within (subst IsSolid whole name.text))
    (λ past. let short : length other < front.stop = omega arith in
    space_inside text front is (length other) short (sym (byte (length other) (omega arith)) ∙ get_or_at other 32 rest 0 (length other) refl))
    (cases_lt front.stop (length other))) (cases_eq front.stop (length other))

never : (text : List ℕ) (front : Front) → IsFront text front → IsNoName text front → (other : List ℕ) → IsName other → (rest : List ℕ) → text ≡ other ++ 32 ∷ rest → ⊥
never text front is ends other name rest e = ⊎_elim
    (λ within. misses text front is ends other name (drop (front.stop + 1) text) rest within (take-append-drop (front.stop + 1) text ∙ e))
    (λ past. let short : length other < front.stop = omega (arith, ap length e, length-append other (32 ∷ rest)) in
    space_inside text front is (length other) short (ap (λ t. get_or t (length other) 0) e ∙ get_or_at other 32 rest 0 (length other) refl))
    (cases_lt front.stop (length text))

pub no_name : (text : List ℕ) (front : Front) → IsFront text front → IsNoName text front → IsBadField IsName text front.stop
no_name text front is ends = record {
  within = is.cut.within;
  content = take front.stop text ++ (is.cut.more ++ 97 ∷ []);
  is_content = record {
    some = omega (arith, length-append (take front.stop text) (is.cut.more ++ 97 ∷ []), length-append is.cut.more (97 ∷ []));
    text = subst IsSolid (append_assoc (take front.stop text) is.cut.more (97 ∷ [])) (solid-append (take front.stop text ++ is.cut.more) (97 ∷ []) is.cut.before letter);
  };
  more = is.cut.more ++ 97 ∷ [];
  before = refl;
  here = λ other name. record { here = λ more rest within e. misses text front is ends other name more rest within e; none = λ rest e. never text front is ends other name rest e };
}

pub a_name : (text : List ℕ) (front : Front) → IsFront text front → 0 < front.whole → front.whole < length text → get_or text front.whole 0 ≡ 32
    → IsName (take front.whole text) × (text ≡ take front.whole text ++ 32 ∷ drop (front.whole + 1) text)
a_name text front is some within space = (
  record { some = omega (arith, length-take-le front.whole text (omega arith)); text = is.whole },
  sym (take-append-drop front.whole text) ∙ ap (λ t. take front.whole text ++ t) (drop_more text front.whole 0 within ∙ ap (λ b. b ∷ drop (front.whole + 1) text) space),
)
