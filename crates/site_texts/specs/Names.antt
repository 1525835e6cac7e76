-- Names: texts in UTF-8 without blanks.
use Rattle.std.specs.Prelude.{◌≡◌, ℕ, ◌+◌, ◌<◌, ◌≤◌, ◌==◌, ◌||◌, Bool, false, List, ◌++◌, take, length}
use Rattle.std.specs.List.{All}
use Rattle.std.specs.Str.{IsUtf8}
use Rattle.site_texts.specs.declared.character.Character.{Character}
use Rattle.site_texts.specs.declared.character.Character.TheVariants.{Whole, Cut}
use Rattle.site_texts.specs.declared.name.Front.{Front}

-- space, tab, newline, carriage return or form feed, as between tokens
abbrev pub is_blank : ℕ → Bool
is_blank byte = byte == 32 || byte == 9 || byte == 10 || byte == 13 || byte == 12

-- text in UTF-8 without blanks
pub record IsSolid (text : List ℕ) : Type 0 where
  pub utf8 : IsUtf8 text
  pub solid : All (λ byte. is_blank byte ≡ false) text

pub record IsName (name : List ℕ) : Type 0 where
  pub some : 0 < length name
  pub text : IsSolid name

-- For proofs alone.

-- Such text goes on up to the place and no further; where bytes stand between the whole characters and the place, these
-- begin a character and are none.
pub record IsCut (text : List ℕ) (at : ℕ) : Type 0 where
  pub within : at ≤ length text
  pub more : List ℕ
  pub before : IsSolid (take at text ++ more)
  pub here : (other : List ℕ) → at < length text → IsSolid (take (at + 1) text ++ other) → ⊥

-- the character at the front of the text
abbrev pub IsCharacter : List ℕ → Character → Type 0
IsCharacter text (Whole len) = (0 < len) × (len ≤ length text) × IsSolid (take len text)
IsCharacter text (Cut at) = IsCut text at × (0 < at → IsUtf8 (take at text) → ⊥)

-- the whole characters at the front of a text, and where it is cut
pub record IsFront (text : List ℕ) (front : Front) : Type 0 where
  pub order : front.whole ≤ front.stop
  pub whole : IsSolid (take front.whole text)
  pub cut : IsCut text front.stop
  pub inner : front.whole < front.stop → IsUtf8 (take front.stop text) → ⊥
