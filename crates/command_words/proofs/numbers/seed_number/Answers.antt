-- A word that `parse` refuses has no digits, since ten digits are below 2 ^ 64.
use Rattle.command_words.proofs.Common.{◌≡◌, false, List, ℕ, None, Err, false_from_ne_true, ParsesUnsigned, is_numeral, seed_number}
use Rattle.std.proofs.lemmas.Str.Parse.{parse_digits}
use Rattle.command_words.proofs.Numerals.{numeral_small, numeral_word, numerals}
use Rattle.command_words.proofs.numbers.seed_number.Goals as goal

none_where_refused : {E : Type 0} (word : List ℕ) (e : E) → ParsesUnsigned 64 10 word (Err e) → None ≡ seed_number word
none_where_refused word e refused =
    let no : is_numeral word ≡ false =
    false_from_ne_true _ (λ accepted.
    let numeral = numeral_word word accepted in
    parse_digits numerals 64 word (Err e) refused numeral.digits (numeral.some, numeral_small word accepted)) in
    rw no

pub returns-in-Err : goal.returns-in-Err
returns-in-Err c = none_where_refused c.args.word.now c.in-Err.field-0 (rw c.in-Err.is at c.parse.ensures.value.0)
