-- Identifiers, numbers and strings, from their tokens.
use Rattle.std.specs.Prelude.{ℕ, ◌^◌, ◌<◌, ◌≤◌, ◌⊎◌, List, [], Option, Some, None}
use Rattle.std.proofs.Common.{inl, inr}
use Rattle.std.proofs.lemmas.Bool.{cases_lt}
use Rattle.mcy_base.specs.declared.span.Span.{Span}
use Rattle.mcy_base.specs.declared.word.Word.{Word}
use Rattle.vlog_token.specs.declared.token.Token.{Token}
use Rattle.vlog_token.specs.Names.{name_of, string_bytes}
use Rattle.vlog_token.specs.Numbers.{NumberMeaning, number_of}
use Rattle.vlog_syntax.specs.declared.identifier.Identifier.{Identifier}
use Rattle.vlog_syntax.specs.declared.expr.Expr.{Expr}
use Rattle.vlog_syntax.specs.declared.expr.Expr.TheVariants as e
use Rattle.vlog_parts.specs.Values.{no_identifier, no_expr}

unfoldable pub identifier : Option Token → Identifier
identifier None = no_identifier
identifier (Some t) = record { name = name_of t.kind t.text.now; span = t.span }

unfoldable pub string : Option Token → List ℕ
string None = []
string (Some t) = string_bytes t.text.now

-- the word of this width with these bits, if there is one
abbrev pub word_by : (width bits : ℕ) → (width < 1) ⊎ (1 ≤ width) → (128 < width) ⊎ (width ≤ 128) → (bits < 2 ^ width) ⊎ (2 ^ width ≤ bits) → Option Word
word_by w b (inr some) (inr narrow) (inl fits) = Some (record { width = w; bits = b; some = some; narrow = narrow; fits = fits })
word_by _ _ _ _ _ = None

abbrev pub word : ℕ → ℕ → Option Word
word w b = word_by w b (cases_lt w 1) (cases_lt 128 w) (cases_lt b (2 ^ w))

abbrev pub valued : Span → NumberMeaning → Option Word → Expr
valued place m None = no_expr
valued place m (Some w) = e.Number (record { value = w; is_signed = m.is_signed; x_bits = m.x_bits; z_bits = m.z_bits; span = place })

abbrev pub number_by : Span → Option NumberMeaning → Expr
number_by place None = no_expr
number_by place (Some m) = valued place m (word m.width m.bits)

-- the number of a token, by the value of its text
unfoldable pub number : Option Token → Expr
number None = no_expr
number (Some t) = number_by t.span (number_of t.text.now)
