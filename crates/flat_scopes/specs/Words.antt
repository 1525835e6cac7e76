-- Words made of a width and a number.
use Rattle.std.specs.Prelude.{ℕ, ◌%◌, ◌^◌, ◌<◌, ◌≤◌, max, min}
use Rattle.std.proofs.Common.{arith}
use Rattle.std.proofs.lemmas.Nat.{pow_pos}
use Rattle.mcy_base.specs.declared.word.Word.{Word}

-- the nearest width that a word has
abbrev pub width_in : ℕ → ℕ
width_in width = max 1 (min width 128)

pub width_some : (width : ℕ) → 1 ≤ width_in width
width_some width = omega arith

pub width_narrow : (width : ℕ) → width_in width ≤ 128
width_narrow width = omega arith

pub bits_fit : (w bits : ℕ) → bits % 2 ^ w < 2 ^ w
bits_fit w bits = let positive : 0 < 2 ^ w = pow_pos w in omega arith

-- the number in so many bits, from 1 to 128
abbrev pub word : ℕ → ℕ → Word
word width bits = record { width = width_in width; bits = bits % 2 ^ width_in width; some = width_some width; narrow = width_narrow width; fits = bits_fit (width_in width) bits }
