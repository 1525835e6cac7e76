-- A word that `parse` refuses has no digits, or a number of 2 ^ 32 or more.
use Rattle.command_words.proofs.Common.{◌≡◌, ◌&&◌, ◌<◌, ◌^◌, false, List, ℕ, None, Err, nat_lt, and_parts, false_from_ne_true, Decides-ltb, ParsesUnsigned, digits_value, is_numeral, small_number}
use Rattle.std.proofs.lemmas.Str.Parse.{parse_digits}
use Rattle.command_words.proofs.Numerals.{numeral_word, numerals}
use Rattle.command_words.proofs.numbers.number.Goals as goal

none_where_refused : {E : Type 0} (word : List ℕ) (e : E) → ParsesUnsigned 32 10 word (Err e) → None ≡ small_number word
none_where_refused word e refused =
    let no : (is_numeral word && nat_lt (digits_value 10 word) (2 ^ 32)) ≡ false =
    false_from_ne_true _ (λ accepted.
    let parts = and_parts (is_numeral word) (nat_lt (digits_value 10 word) (2 ^ 32)) accepted in
    let numeral = numeral_word word parts.0 in
    let most : digits_value 10 word < 2 ^ 32 = (Decides-ltb (digits_value 10 word) (2 ^ 32)).0 parts.1 in
    parse_digits numerals 32 word (Err e) refused numeral.digits (numeral.some, most)) in
    rw no

pub returns-in-Err : goal.returns-in-Err
returns-in-Err c = none_where_refused c.args.word.now c.in-Err.field-0 (rw c.in-Err.is at c.parse.ensures.value.0)
