-- The search for a word of a choice.
use Rattle.site_texts.proofs.Common.{◌≡◌, ◌≢◌, ℕ, zero, suc, ◌+◌, ◌<◌, ◌≤◌, ◌⊎◌, ⊎_elim, Bool, true, false, cond, List, [], ◌∷◌, ◌++◌, length, get_or, take, drop, slice_get, Option, Some, None, refl}
use Rattle.site_texts.proofs.Common.{sym, subst, ap, ap₂, ◌∙◌, arith, nat_lt, cases_eq, cases_lt, nat_tests, append_assoc, drop_more, take-append-drop, take_all, get_or_append_left, get_or_at}
use Rattle.site_texts.proofs.Common.{get_or-take, get_or_past, length-append, length-take-le, decimal, GoesAlong, IsBadField, IsRead, IsSameFront, IsWordOf, Misses, is_control, word_of, Choice}
use Rattle.site_texts.specs.declared.choice.Choice.TheVariants as field
use Rattle.site_texts.specs.declared.choice.Along.TheVariants.{Whole, Until, NoWord}
use Rattle.site_texts.proofs.Splits.{take_further}

-- what no text with the bytes up to one is, no text with those up to a later one is
pub Misses-later : (content text : List ℕ) (at later : ℕ) → at ≤ later → Misses content text at → Misses content text later
Misses-later content text at later le missed = record {
  here = λ more rest within e.
      let split = take_further (at + 1) (later + 1) text (omega arith) in
      missed.here (drop (at + 1) (take (later + 1) text) ++ more) rest (omega arith)
      (sym (append_assoc (take (at + 1) text) (drop (at + 1) (take (later + 1) text)) more) ∙ ap (λ t. t ++ more) (sym split) ∙ e);
  none = missed.none;
}

-- bit 0 controls each later bit
pub later_control : (bit : ℕ) → is_control (suc bit) 0 ≡ true
later_control bit = grind (arith, nat_tests)

-- each choice has a word
pub some_word : (choice : Choice) → (word : List ℕ) × IsWordOf choice word
some_word field.Mode = (_, (0, refl))
some_word field.Place = (_, (0, refl))
some_word (field.Port true) = (_, (0, refl))
some_word (field.Port false) = (_, (0, refl))
some_word field.Bit = (decimal 0, (0, refl))
some_word (field.Control zero) = (decimal 1, (1, refl))
some_word (field.Control (suc bit)) = (decimal 0, (0, ap (λ (b : Bool). cond b (Some (decimal 0)) None) (later_control bit)))

-- after the words below a number: the longest front that one of them has, and that none is at the front
pub record IsSearched (choice : Choice) (text : List ℕ) (number longest : ℕ) : Type 0 where
  pub within : longest ≤ length text
  pub content : List ℕ
  pub is_content : IsWordOf choice content
  pub more : List ℕ
  pub before : content ≡ take longest text ++ more
  pub missed : (n : ℕ) (word : List ℕ) → n < number → word_of choice n ≡ Some word → Misses word text longest

pub searched_none : (choice : Choice) (text : List ℕ) → IsSearched choice text 0 0
searched_none choice text = let some = some_word choice in record {
  within = omega arith;
  content = some.0;
  is_content = some.1;
  more = some.0;
  before = refl;
  missed = λ n word below. absurd (omega arith);
}

same_word : (choice : Choice) (n m : ℕ) (o : Option (List ℕ)) (word : List ℕ) → m ≡ n → word_of choice n ≡ o → word_of choice m ≡ Some word → o ≡ Some word
same_word choice n m o word e is there = sym is ∙ ap (word_of choice) (sym e) ∙ there

-- one word more, of which so many bytes are the same
until_by : (choice : Choice) (text : List ℕ) (number longest same new : ℕ) (o : Option (List ℕ)) → word_of choice number ≡ o → IsSearched choice text number longest → GoesAlong o text (Until same)
    → longest ≤ new → same ≤ new → (new ≡ longest) ⊎ (new ≡ same) → IsSearched choice text (number + 1) new
until_by choice text number longest same new None is searched along kept had which = absurd along
until_by choice text number longest same new (Some word) is searched along kept had which =
    let missed : (n : ℕ) (other : List ℕ) → n < number + 1 → word_of choice n ≡ Some other → Misses other text new = λ n other below there.
    ⊎_elim (λ e. let w : Some word ≡ Some other = same_word choice number n (Some word) other e is there in
    let v : word ≡ other = cc in
    Misses-later other text same new had (subst (λ t. Misses t text same) v along.2))
    (λ ne. Misses-later other text longest new kept (searched.missed n other (omega arith) there)) (cases_eq n number) in
    ⊎_elim (λ e. record {
      within = omega arith;
      content = searched.content;
      is_content = searched.is_content;
      more = searched.more;
      before = searched.before ∙ ap (λ n. take n text ++ searched.more) (sym e);
      missed = missed;
    })
    (λ e. record {
      within = omega (arith, along.0);
      content = word;
      is_content = (number, is);
      more = drop same word;
      before = along.1 ∙ ap (λ n. take n text ++ drop same word) (sym e);
      missed = missed;
    }) which

pub searched_until : (choice : Choice) (text : List ℕ) (number longest same new : ℕ) → IsSearched choice text number longest → GoesAlong (word_of choice number) text (Until same)
    → longest ≤ new → same ≤ new → (new ≡ longest) ⊎ (new ≡ same) → IsSearched choice text (number + 1) new
searched_until choice text number longest same new = until_by choice text number longest same new (word_of choice number) refl

no_word_by : (choice : Choice) (text : List ℕ) (number longest : ℕ) (o : Option (List ℕ)) → word_of choice number ≡ o → IsSearched choice text number longest → GoesAlong o text NoWord → IsSearched choice text (number + 1) longest
no_word_by choice text number longest (Some word) is searched along = absurd along
no_word_by choice text number longest None is searched along = record {
  within = searched.within;
  content = searched.content;
  is_content = searched.is_content;
  more = searched.more;
  before = searched.before;
  missed = λ n other below there. ⊎_elim (λ e. let bad : None ≡ Some other = same_word choice number n None other e is there in absurd cc)
      (λ ne. searched.missed n other (omega arith) there) (cases_eq n number);
}

pub searched_no_word : (choice : Choice) (text : List ℕ) (number longest : ℕ) → IsSearched choice text number longest → GoesAlong (word_of choice number) text NoWord → IsSearched choice text (number + 1) longest
searched_no_word choice text number longest = no_word_by choice text number longest (word_of choice number) refl

read_by : (choice : Choice) (text : List ℕ) (number len : ℕ) (o : Option (List ℕ)) → word_of choice number ≡ o → GoesAlong o text (Whole len) → (len < length text) × IsRead choice text number (drop (len + 1) text)
read_by choice text number len None is along = absurd along
read_by choice text number len (Some word) is along = (along.0, (word, is, along.1))

pub read_whole : (choice : Choice) (text : List ℕ) (number len : ℕ) → GoesAlong (word_of choice number) text (Whole len) → (len < length text) × IsRead choice text number (drop (len + 1) text)
read_whole choice text number len = read_by choice text number len (word_of choice number) refl

-- the numbers of words are below 128
past_five : (a b c d e : List ℕ) (n : ℕ) (word : List ℕ) → slice_get (a ∷ b ∷ c ∷ d ∷ e ∷ []) n ≡ Some word → n < 128
past_five a b c d e zero word is = omega arith
past_five a b c d e (suc zero) word is = omega arith
past_five a b c d e (suc (suc zero)) word is = omega arith
past_five a b c d e (suc (suc (suc zero))) word is = omega arith
past_five a b c d e (suc (suc (suc (suc zero)))) word is = omega arith
past_five a b c d e (suc (suc (suc (suc (suc n))))) word is = absurd cc

past_two : (a b : List ℕ) (n : ℕ) (word : List ℕ) → slice_get (a ∷ b ∷ []) n ≡ Some word → n < 128
past_two a b zero word is = omega arith
past_two a b (suc zero) word is = omega arith
past_two a b (suc (suc n)) word is = absurd cc

chosen : (b : Bool) (n : ℕ) (text word : List ℕ) → (b ≡ true → n < 128) → cond b (Some text) None ≡ Some word → n < 128
chosen true n text word below is = below refl
chosen false n text word below is = absurd cc

below_control : (bit n : ℕ) → is_control bit n ≡ true → n < 128
below_control bit n is = grind (arith, nat_tests)

pub word_below : (choice : Choice) (n : ℕ) (word : List ℕ) → word_of choice n ≡ Some word → n < 128
word_below field.Mode n word is = past_five _ _ _ _ _ n word is
word_below field.Place n word is = past_two _ _ n word is
word_below (field.Port true) n word is = past_five _ _ _ _ _ n word is
word_below (field.Port false) n word is = past_two _ _ n word is
word_below field.Bit n word is = chosen (nat_lt n 128) n (decimal n) word (λ t. grind (arith, nat_tests)) is
word_below (field.Control bit) n word is = chosen (is_control bit n) n (decimal n) word (below_control bit n) is

pub searched_all : (choice : Choice) (text : List ℕ) (longest : ℕ) → IsSearched choice text 128 longest → IsBadField (IsWordOf choice) text longest
searched_all choice text longest searched = record {
  within = searched.within;
  content = searched.content;
  is_content = searched.is_content;
  more = searched.more;
  before = searched.before;
  here = λ other is. searched.missed is.0 other (word_below choice is.0 other is.1) is.1;
}

-- a text that does not go on as the word and its blank do
differs : (word text : List ℕ) (same : ℕ) → IsSameFront word text same → (same ≡ length word → get_or text same 0 ≢ 32) → same < length text
    → (whole rest : List ℕ) → get_or whole same 0 ≡ get_or text same 0 → whole ≡ word ++ 32 ∷ rest → ⊥
differs word text same front ends within whole rest there e = ⊎_elim
    (λ all. ends all (sym there ∙ ap (λ t. get_or t same 0) e ∙ get_or_at word 32 rest 0 same (sym all)))
    (λ ne. let some : same < length word = omega (arith, front.first) in
    front.longest some within (sym (get_or_append_left word (32 ∷ rest) 0 same some) ∙ sym (ap (λ t. get_or t same 0) e) ∙ there))
    (cases_eq same (length word))

too_short : (word text : List ℕ) (same : ℕ) → IsSameFront word text same → (rest : List ℕ) → length text ≤ same → text ≡ word ++ 32 ∷ rest → ⊥
too_short word text same front rest past e = absurd (omega (arith, front.first, ap length e, length-append word (32 ∷ rest)))

pub misses_at : (word text : List ℕ) (same : ℕ) → IsSameFront word text same → (same ≡ length word → get_or text same 0 ≢ 32) → Misses word text same
misses_at word text same front ends = record {
  here = λ more rest within e.
      differs word text same front ends within (take (same + 1) text ++ more) rest
      (get_or_append_left (take (same + 1) text) more 0 same (omega (arith, length-take-le (same + 1) text (omega arith))) ∙ get_or-take (same + 1) text same 0 (omega arith)) e;
  none = λ rest e. ⊎_elim (λ within. differs word text same front ends within text rest refl e)
      (λ past. too_short word text same front rest past e) (cases_lt same (length text));
}

-- how far the text goes along with the word, where a blank stands behind it or not
pub along_whole : (word text : List ℕ) (same : ℕ) → IsSameFront word text same → same ≡ length word → same < length text → get_or text same 0 ≡ 32 → text ≡ word ++ 32 ∷ drop (same + 1) text
along_whole word text same front all within blank =
    let front_is : take same text ≡ word = sym front.same ∙ take_all same word (omega arith) in
    sym (take-append-drop same text) ∙ ap₂ (λ (a b : List ℕ). a ++ b) front_is (drop_more text same 0 within ∙ ap (λ n. n ∷ drop (same + 1) text) blank)

pub along_until : (word text : List ℕ) (same : ℕ) → IsSameFront word text same → word ≡ take same text ++ drop same word
along_until word text same front = sym (take-append-drop same word) ∙ ap (λ t. t ++ drop same word) front.same

pub along_fails : (word text : List ℕ) (same : ℕ) → IsSameFront word text same → (same ≡ length word → get_or text same 0 ≢ 32) → GoesAlong (Some word) text (Until same)
along_fails word text same front ends = (front.second, along_until word text same front, misses_at word text same front ends)

-- behind the end of a text no blank stands
pub end_is_no_blank : (text : List ℕ) (at : ℕ) → length text ≤ at → get_or text at 0 ≢ 32
end_is_no_blank text at past = λ e. absurd (omega (arith, get_or_past text at 0 past))

pub along_is : (word text : List ℕ) (same : ℕ) → IsSameFront word text same → length word ≤ same → same < length text → get_or text same 0 ≡ 32 → GoesAlong (Some word) text (Whole same)
along_is word text same front all within blank = (within, along_whole word text same front (omega (arith, front.first)) within blank)
