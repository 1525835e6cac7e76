-- The values of a tag script: numbers and texts. True is 1, and False is 0.
use Rattle.std.specs.Prelude.{ℕ, ◌==◌, Bool, true, false, not, List, [], ◌∷◌, bytes_eq, codes, if◌then◌else◌}
use Rattle.tag_lines.specs.declared.expr.Comparison.{Comparison}
use Rattle.tag_lines.specs.declared.expr.Comparison.TheVariants as op
use Rattle.tag_script.specs.declared.value.Value.{Value}
use Rattle.tag_script.specs.declared.value.Value.TheVariants as v

pub data Datum : Type 0 where
  number : ℕ → Datum
  text : List ℕ → Datum

-- 0 and the empty text are false
abbrev pub is_true : Datum → Bool
is_true (number n) = not (n == 0)
is_true (text []) = false
is_true (text (byte ∷ more)) = true

abbrev pub truth : Bool → Datum
truth b = if b then number 1 else number 0

-- a number never equals a text
abbrev pub is_same : Datum → Datum → Bool
is_same (number a) (number b) = a == b
is_same (text a) (text b) = bytes_eq a b
is_same a b = false

abbrev pub compared : Comparison → Datum → Datum → Datum
compared op.Equal a b = truth (is_same a b)
compared op.NotEqual a b = truth (not (is_same a b))

-- the text of a test's word, by its code
unfoldable pub word_text : ℕ → List ℕ
word_text word =
    if word == 0 then codes "PASS" else
    (if word == 1 then codes "FAIL" else
    (if word == 2 then codes "HANG" else codes "UNKNOWN"))

-- For proofs alone.

-- the value that the code holds
abbrev pub datum_of : Value → Datum
datum_of (v.Number n) = number n
datum_of (v.Text t) = text t.now
