-- The word of a number's value.
use Rattle.std.proofs.Common.{◌≡◌, ◌<◌, ◌≤◌, ◌^◌, ◌⊎◌, inl, inr, Option, Some, sym, ap, ◌∙◌, arith}
use Rattle.std.proofs.lemmas.Bool.{cases_lt}
use Rattle.std.specs.Coded.{le_prop}
use Rattle.std.specs.Prelude.{option_map}
use Rattle.mcy_base.specs.declared.word.Word.{Word}
use Rattle.vlog_token.specs.declared.token.Token.{Token}
use Rattle.vlog_token.specs.declared.value.Number.{Number}
use Rattle.vlog_token.specs.Numbers.{meaning, number_of}
use Rattle.vlog_syntax.specs.declared.expr.Expr.TheVariants as e
use Rattle.vlog_parts.specs.Leaves.{word_by, word, valued, number_by, number}

same_word : (w : Word) (some : 1 ≤ w.width) (narrow : w.width ≤ 128) (fits : w.bits < 2 ^ w.width) → Some (record { width = w.width; bits = w.bits; some = some; narrow = narrow; fits = fits }) ≡ Some w
same_word w some narrow fits =
    let by_some : (1 ≤ w.width) → Option Word = λ p. Some (record { width = w.width; bits = w.bits; some = p; narrow = narrow; fits = fits }) in
    let by_narrow : (w.width ≤ 128) → Option Word = λ p. Some (record { width = w.width; bits = w.bits; some = w.some; narrow = p; fits = fits }) in
    let by_fits : (w.bits < 2 ^ w.width) → Option Word = λ p. Some (record { width = w.width; bits = w.bits; some = w.some; narrow = w.narrow; fits = p }) in
    ap by_some (le_prop some w.some) ∙ ap by_narrow (le_prop narrow w.narrow) ∙ ap by_fits (le_prop fits w.fits)

word_of : (w : Word) → word w.width w.bits ≡ Some w
word_of w = go (cases_lt w.width 1) (cases_lt 128 w.width) (cases_lt w.bits (2 ^ w.width))
  where
    go : (a : (w.width < 1) ⊎ (1 ≤ w.width)) (b : (128 < w.width) ⊎ (w.width ≤ 128)) (c : (w.bits < 2 ^ w.width) ⊎ (2 ^ w.width ≤ w.bits)) → word_by w.width w.bits a b c ≡ Some w
    go (inl none) b c = let is : 1 ≤ w.width = w.some in absurd (omega arith)
    go (inr some) (inl wide) c = let is : w.width ≤ 128 = w.narrow in absurd (omega arith)
    go (inr some) (inr narrow) (inr over) = let is : w.bits < 2 ^ w.width = w.fits in absurd (omega arith)
    go (inr some) (inr narrow) (inl fits) = same_word w some narrow fits

pub number_value : (t : Token) (n : Number) → option_map meaning (Some n) ≡ number_of t.text.now → e.Number (record { value = n.value; is_signed = n.is_signed; x_bits = n.x_bits; z_bits = n.z_bits; span = t.span }) ≡ number (Some t)
unfolding number
number_value t n is = sym (ap (number_by t.span) (sym is) ∙ ap (valued t.span (meaning n)) (word_of n.value))
