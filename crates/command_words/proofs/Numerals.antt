-- A word of digits alone is a numeral, and ten digits say a number below 2 ^ 64.
use Rattle.command_words.proofs.Common.{◌≡◌, ◌≤◌, ◌<◌, ◌^◌, true, List, ℕ, length, arith, rules, and_parts, leb-true, list_all, nat_le, digits_value, is_numeral}
use Rattle.std.proofs.lemmas.Str.Parse.{IsNumeralModel, digits_value_short, numerals_by_value}
use Rattle.std.specs.Char.{is_ascii_digit}
use Rattle.std.specs.Prelude.{◌&&◌}

pub numerals : IsNumeralModel (λ word. list_all is_ascii_digit word ≡ true) (digits_value 10)
numerals = numerals_by_value _ (search rules)

-- what makes a word a numeral
pub record IsNumeralWord (word : List ℕ) : Type 0 where
  pub digits : list_all is_ascii_digit word ≡ true
  pub some : 1 ≤ length word
  pub few : length word ≤ 10

pub numeral_word : (word : List ℕ) → is_numeral word ≡ true → IsNumeralWord word
numeral_word word is =
    let parts = and_parts (list_all is_ascii_digit word) (nat_le 1 (length word) && nat_le (length word) 10) is in
    let lengths = and_parts (nat_le 1 (length word)) (nat_le (length word) 10) parts.1 in
    record { digits = parts.0; some = leb-true 1 (length word) lengths.0; few = leb-true (length word) 10 lengths.1 }

pub numeral_small : (word : List ℕ) → is_numeral word ≡ true → digits_value 10 word < 2 ^ 64
numeral_small word is =
    let numeral = numeral_word word is in
    let short : digits_value 10 word < 10 ^ 10 = digits_value_short numerals word 10 numeral.digits numeral.few in
    omega arith
