-- The words of site texts, what they stand for, and a site with given mode, place and bit.
use Rattle.site_texts.proofs.Common.{◌≡◌, ℕ, zero, suc, ◌<◌, ◌^◌, Bool, true, false, not, ◌&&◌, cond, List, [], ◌∷◌, get_or, slice_get, Option, Some, None, refl, sym, subst, ap, ◌∙◌, arith, eqb}
use Rattle.site_texts.proofs.Common.{nat_lt, codes, and_parts, decimal_is_IsNumeral, digit_at, decimal, Mode, Inv, Const0, Const1, Cnot0, Cnot1, mode_text, Choice, SiteText, IsWordOf, is_control}
use Rattle.site_texts.proofs.Common.{mode_words, place_words, port_words, word_of, IsName, HasControl, IsSite, place_text}
use Rattle.site_texts.specs.declared.choice.Choice.TheVariants as field
use Rattle.site_texts.proofs.Choosing.{later_control, word_below}
use Rattle.site_texts.proofs.Fronts.{letter}
use Rattle.site_texts.proofs.Splits.{NoSpace, NoSpace-from}

-- Words have no space.
pub decimal_no_space : (n : ℕ) → n < 2 ^ 64 → NoSpace (decimal n)
decimal_no_space n small = NoSpace-from (decimal n) (λ k within e. let digit = digit_at (decimal n) k ((decimal_is_IsNumeral n small).0.1) within in absurd (omega (arith, digit.0)))

abbrev has_none : List ℕ → Bool
has_none [] = true
has_none (b ∷ more) = not (eqb b 32) && has_none more

abbrev all_have_none : List (List ℕ) → Bool
all_have_none [] = true
all_have_none (w ∷ words) = has_none w && all_have_none words

no_space_by : (text : List ℕ) → has_none text ≡ true → NoSpace text
no_space_by [] is = tt
no_space_by (b ∷ more) is =
    let both = and_parts (not (eqb b 32)) (has_none more) is in
    (λ e. let here : not (eqb 32 32) ≡ true = ap (λ n. not (eqb n 32)) (sym e) ∙ both.0 in absurd cc, no_space_by more both.1)

no_space_at : (words : List (List ℕ)) (n : ℕ) (word : List ℕ) → all_have_none words ≡ true → slice_get words n ≡ Some word → NoSpace word
no_space_at [] n word all is = absurd cc
no_space_at (w ∷ words) zero word all is =
    let e : w ≡ word = cc in
    subst NoSpace e (no_space_by w (and_parts (has_none w) (all_have_none words) all).0)
no_space_at (w ∷ words) (suc n) word all is = no_space_at words n word (and_parts (has_none w) (all_have_none words) all).1 is

pub chosen_is : (b : Bool) (text word : List ℕ) → cond b (Some text) None ≡ Some word → text ≡ word
chosen_is true text word is = cc
chosen_is false text word is = absurd cc

pub word_no_space : (choice : Choice) (n : ℕ) (word : List ℕ) → word_of choice n ≡ Some word → NoSpace word
word_no_space field.Mode n word is = no_space_at mode_words n word refl is
word_no_space field.Place n word is = no_space_at place_words n word refl is
word_no_space (field.Port true) n word is = no_space_at (port_words true) n word refl is
word_no_space (field.Port false) n word is = no_space_at (port_words false) n word refl is
word_no_space field.Bit n word is =
    let below = word_below field.Bit n word is in
    subst NoSpace (chosen_is (nat_lt n 128) (decimal n) word is) (decimal_no_space n (omega arith))
word_no_space (field.Control bit) n word is =
    let below = word_below (field.Control bit) n word is in
    subst NoSpace (chosen_is (is_control bit n) (decimal n) word is) (decimal_no_space n (omega arith))

-- Words and what they stand for.
abbrev mode_back : List ℕ → Mode
mode_back word = cond (eqb (get_or word 0 0) 105) Inv (cond (eqb (get_or word 4 0) 116) (cond (eqb (get_or word 5 0) 48) Const0 Const1) (cond (eqb (get_or word 4 0) 48) Cnot0 Cnot1))

back_of_mode : (mode : Mode) → mode_back (mode_text mode) ≡ mode
back_of_mode Inv = refl
back_of_mode Const0 = refl
back_of_mode Const1 = refl
back_of_mode Cnot0 = refl
back_of_mode Cnot1 = refl

pub mode_same : (a b : Mode) → mode_text a ≡ mode_text b → a ≡ b
mode_same a b e = sym (back_of_mode a) ∙ ap mode_back e ∙ back_of_mode b

pub mode_fits : (mode : Mode) → IsWordOf field.Mode (mode_text mode)
mode_fits Inv = (0, refl)
mode_fits Const0 = (1, refl)
mode_fits Const1 = (2, refl)
mode_fits Cnot0 = (3, refl)
mode_fits Cnot1 = (4, refl)

pub mode_at : (n : ℕ) (word : List ℕ) → slice_get mode_words n ≡ Some word → (mode : Mode) × (mode_text mode ≡ word)
mode_at zero word is = (Inv, cc)
mode_at (suc zero) word is = (Const0, cc)
mode_at (suc (suc zero)) word is = (Const1, cc)
mode_at (suc (suc (suc zero))) word is = (Cnot0, cc)
mode_at (suc (suc (suc (suc zero)))) word is = (Cnot1, cc)
mode_at (suc (suc (suc (suc (suc n))))) word is = absurd cc

back_of_place : (is_cell : Bool) → eqb (get_or (place_text is_cell) 0 0) 99 ≡ is_cell
back_of_place true = refl
back_of_place false = refl

pub place_same : (a b : Bool) → place_text a ≡ place_text b → a ≡ b
place_same a b e = sym (back_of_place a) ∙ ap (λ w. eqb (get_or w 0 0) 99) e ∙ back_of_place b

pub place_fits : (is_cell : Bool) → IsWordOf field.Place (place_text is_cell)
place_fits true = (0, refl)
place_fits false = (1, refl)

pub place_at : (n : ℕ) (word : List ℕ) → slice_get place_words n ≡ Some word → place_text (eqb n 0) ≡ word
place_at zero word is = cc
place_at (suc zero) word is = cc
place_at (suc (suc n)) word is = absurd cc

pub mode_no_space : (mode : Mode) → NoSpace (mode_text mode)
mode_no_space mode = let fits = mode_fits mode in word_no_space field.Mode fits.0 (mode_text mode) fits.1

pub place_no_space : (is_cell : Bool) → NoSpace (place_text is_cell)
place_no_space is_cell = let fits = place_fits is_cell in word_no_space field.Place fits.0 (place_text is_cell) fits.1

-- a site with these fields
abbrev pub plain_control : Mode → ℕ → Option ℕ
plain_control Inv bit = None
plain_control Const0 bit = None
plain_control Const1 bit = None
plain_control Cnot0 zero = Some 1
plain_control Cnot0 (suc bit) = Some 0
plain_control Cnot1 zero = Some 1
plain_control Cnot1 (suc bit) = Some 0

has_control : (mode : Mode) (bit : ℕ) → HasControl mode bit (plain_control mode bit)
has_control Inv bit = refl
has_control Const0 bit = refl
has_control Const1 bit = refl
has_control Cnot0 zero = (refl, refl)
has_control Cnot0 (suc bit) = (refl, later_control bit)
has_control Cnot1 zero = (refl, refl)
has_control Cnot1 (suc bit) = (refl, later_control bit)

letter_name : IsName (97 ∷ [])
letter_name = record { some = omega arith; text = letter }

abbrev pub plain_site : Mode → Bool → ℕ → SiteText
plain_site mode is_cell bit = record {
  mode = mode;
  top = 97 ∷ [];
  is_cell = is_cell;
  name = 97 ∷ [];
  port = codes "D";
  bit = bit;
  control = plain_control mode bit;
  file = 97 ∷ [];
  line = 1;
}

d_port : (is_cell : Bool) → IsWordOf (field.Port is_cell) (codes "D")
d_port true = (3, refl)
d_port false = (0, refl)

pub plain_fields : (mode : Mode) (is_cell : Bool) (bit : ℕ) → bit < 128 → IsSite (plain_site mode is_cell bit)
plain_fields mode is_cell bit below = record {
  top = letter_name;
  name = letter_name;
  port = d_port is_cell;
  bit = below;
  control = has_control mode bit;
  file = letter_name;
  line_some = omega arith;
  line_fits = omega arith;
}
