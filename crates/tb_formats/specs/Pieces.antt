-- Format texts in pieces (IEEE 1364-2005, 17.1.1). A `%` begins a format; any other byte stands for itself.
use Rattle.std.specs.Prelude.{◌≡◌, ℕ, ◌==◌, Bool, true, false, List, [], ◌∷◌, Option, None, Some, option_map, drop, length, ◌≤◌, ◌<◌, ◌⊎◌, if◌then◌else◌}
use Rattle.tb_formats.specs.declared.form.Form.{Form}
use Rattle.tb_formats.specs.declared.form.Form.TheVariants.{Binary, Octal, Hexadecimal, Decimal, Time, Character}
use Rattle.tb_formats.specs.declared.text.Piece.{Piece}
use Rattle.tb_formats.specs.declared.text.Piece.TheVariants.{Byte, Value, String}

-- b, o, h or x, d, t
abbrev pub form_of : ℕ → Option Form
form_of c = if c == 98 then Some Binary else (if c == 111 then Some Octal else (if c == 104 then Some Hexadecimal else (if c == 120 then Some Hexadecimal else (if c == 100 then Some Decimal else (if c == 116 then Some Time else None)))))

abbrev pub value_piece : Bool → Form → Piece
value_piece padded f = Value (record { form = f; padded = padded })

-- what stands behind a `%`: another `%`, `s`, `c` or a form's letter
abbrev pub after_percent : ℕ → Option Piece
after_percent c = if c == 37 then Some (Byte 37) else (if c == 115 then Some String else (if c == 99 then Some (value_piece true Character) else option_map (value_piece true) (form_of c)))

-- a piece before the others
abbrev pub before : Option Piece → Option (List Piece) → Option (List Piece)
before None more = None
before (Some p) more = option_map (λ ps. p ∷ ps) more

abbrev mutual
  -- the pieces of a text, where each of its formats is supported
  pub pieces : List ℕ → Option (List Piece)
  pieces [] = Some []
  pieces (c ∷ more) = if c == 37 then formatted more else before (Some (Byte c)) (pieces more)

  -- behind a `%`
  pub formatted : List ℕ → Option (List Piece)
  formatted [] = None
  formatted (c ∷ more) = if c == 48 then unpadded more else before (after_percent c) (pieces more)

  -- behind a `%0`
  pub unpadded : List ℕ → Option (List Piece)
  unpadded [] = None
  unpadded (c ∷ more) = before (option_map (value_piece false) (form_of c)) (pieces more)

-- For proofs alone.

-- a text begins with this piece, of so many bytes
abbrev pub Begins : List ℕ → Option (Piece × ℕ) → Type 0
Begins text None = (text ≡ []) ⊎ (pieces text ≡ None)
Begins text (Some (p, n)) = (0 < n) × (n ≤ length text) × (pieces text ≡ before (Some p) (pieces (drop n text)))
