-- Conditions and their parts (IEEE 1364-2005, 19.4), whatever macros are defined. What a `define, a `timescale
-- or a `default_nettype has on its line belongs to it.
use Rattle.std.specs.Prelude.{ℕ, zero, suc, Bool, true, false, List, [], ◌∷◌, Option, None, Some, if◌then◌else◌}
use Rattle.vlog_token.specs.declared.token.Token.{Token}
use Rattle.vlog_expand.specs.declared.word.Word.{Word}
use Rattle.vlog_expand.specs.declared.word.Word.TheVariants.{Plain, Define, Ifdef, Ifndef, Else, Elsif, Endif, Dropped}
use Rattle.vlog_expand.specs.Words.{word_of}
use Rattle.vlog_expand.specs.Lines.{is_on}

-- a token belongs to a directive to which the rest of this line belongs
abbrev pub belongs : Option ℕ → Token → Bool
belongs None t = false
belongs (Some line) t = is_on line t

-- what a token is to the conditions
abbrev pub word_at : Option ℕ → Token → Word
word_at line t = if belongs line t then Plain else word_of t

-- the line whose rest belongs to a directive, behind a token
abbrev pub line_by : Word → ℕ → Option ℕ
line_by Define here = Some here
line_by Dropped here = Some here
line_by _ here = None

abbrev pub line_after : Option ℕ → Token → Option ℕ
line_after line t = if belongs line t then line else line_by (word_of t) t.span.line

-- whether the condition that is asked for is closed from a token on, where so many are open inside it
abbrev pub closed_by : Word → ℕ → (ℕ → Bool) → Bool
closed_by Ifdef depth others = others (suc depth)
closed_by Ifndef depth others = others (suc depth)
closed_by Endif zero others = true
closed_by Endif (suc depth) others = others depth
closed_by _ depth others = others depth

abbrev pub is_closed_from : ℕ → Option ℕ → List Token → Bool
is_closed_from depth line [] = false
is_closed_from depth line (t ∷ ts) = closed_by (word_at line t) depth (λ n. is_closed_from n (line_after line t) ts)

-- a condition that begins before these tokens has its `endif among them
unfoldable pub is_closed : List Token → Bool
is_closed ts = is_closed_from 0 None ts

-- the tokens from the first `else, `elsif or `endif on that is of no condition among them
abbrev pub part_by : Word → ℕ → List Token → (ℕ → List Token) → List Token
part_by Ifdef depth here others = others (suc depth)
part_by Ifndef depth here others = others (suc depth)
part_by Endif zero here others = here
part_by Endif (suc depth) here others = others depth
part_by Else zero here others = here
part_by Elsif zero here others = here
part_by _ depth here others = others depth

abbrev pub after_part_from : ℕ → Option ℕ → List Token → List Token
after_part_from depth line [] = []
after_part_from depth line (t ∷ ts) = part_by (word_at line t) depth (t ∷ ts) (λ n. after_part_from n (line_after line t) ts)

unfoldable pub after_part : List Token → List Token
after_part ts = after_part_from 0 None ts
