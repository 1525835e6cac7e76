-- Fields that are one of a few words.
use Rattle.std.specs.Prelude.{◌≡◌, ℕ, ◌+◌, ◌<◌, ◌≤◌, ◌==◌, ◌&&◌, ◌||◌, Bool, true, false, List, [], ◌∷◌, ◌++◌, take, drop, length, slice_get, slice_index, Option, None, Some, ⊤, if◌then◌else◌, nat_lt, codes, decimal}
use Rattle.site_texts.specs.declared.choice.Choice.{Choice}
use Rattle.site_texts.specs.declared.choice.Choice.TheVariants as field
use Rattle.site_texts.specs.declared.choice.Along.{Along}
use Rattle.site_texts.specs.declared.choice.Along.TheVariants.{Whole, Until, NoWord}

abbrev pub mode_words : List (List ℕ)
mode_words = codes "inv" ∷ codes "const0" ∷ codes "const1" ∷ codes "cnot0" ∷ codes "cnot1" ∷ []

abbrev pub place_words : List (List ℕ)
place_words = codes "cell" ∷ codes "reg" ∷ []

-- the ports of cells, and those of registers
abbrev pub port_words : Bool → List (List ℕ)
port_words true = codes "A" ∷ codes "B" ∷ codes "S" ∷ codes "D" ∷ codes "Y" ∷ []
port_words false = codes "D" ∷ codes "Q" ∷ []

-- The control bit of a bit is the next one, or bit 0 where the bit is the last of its port.
abbrev pub is_control : ℕ → ℕ → Bool
is_control bit control = nat_lt control 128 && (control == bit + 1 || (nat_lt 0 bit && control == 0))

abbrev pub word_of : Choice → ℕ → Option (List ℕ)
word_of field.Mode n = slice_get mode_words n
word_of field.Place n = slice_get place_words n
word_of (field.Port is_cell) n = slice_get (port_words is_cell) n
word_of field.Bit n = if nat_lt n 128 then Some (decimal n) else None
word_of (field.Control bit) n = if is_control bit n then Some (decimal n) else None

abbrev pub IsWordOf : Choice → List ℕ → Type 0
IsWordOf choice word = (n : ℕ) × (word_of choice n ≡ Some word)

-- For proofs alone.

-- the text is the word of this number, a blank and the rest
abbrev pub IsRead : Choice → List ℕ → ℕ → List ℕ → Type 0
IsRead choice text n rest = (word : List ℕ) × (word_of choice n ≡ Some word) × (text ≡ word ++ 32 ∷ rest)

-- the text does not begin with this field and a blank, and no text with its bytes up to this one does
pub record Misses (content text : List ℕ) (at : ℕ) : Type 0 where
  pub here : (more rest : List ℕ) → at < length text → take (at + 1) text ++ more ≡ content ++ 32 ∷ rest → ⊥
  pub none : (rest : List ℕ) → text ≡ content ++ 32 ∷ rest → ⊥

-- The byte at the place is the first after which no such field and a blank go on.
pub record IsBadField (IsContent : List ℕ → Type 0) (text : List ℕ) (at : ℕ) : Type 0 where
  pub within : at ≤ length text
  pub content : List ℕ
  pub is_content : IsContent content
  pub more : List ℕ
  pub before : content ≡ take at text ++ more
  pub here : (other : List ℕ) → IsContent other → Misses other text at

-- how far the text goes along with the word
abbrev pub GoesAlong : Option (List ℕ) → List ℕ → Along → Type 0
GoesAlong None text NoWord = ⊤
GoesAlong None text _ = ⊥
GoesAlong (Some word) text (Whole len) = (len < length text) × (text ≡ word ++ 32 ∷ drop (len + 1) text)
GoesAlong (Some word) text (Until same) = (same ≤ length text) × (word ≡ take same text ++ drop same word) × Misses word text same
GoesAlong (Some word) text NoWord = ⊥

-- so many bytes at the front of both are the same, and no more
pub record IsSameFront (a b : List ℕ) (len : ℕ) : Type 0 where
  pub first : len ≤ length a
  pub second : len ≤ length b
  pub same : take len a ≡ take len b
  pub longest : len < length a → len < length b → slice_index a len ≡ slice_index b len → ⊥
