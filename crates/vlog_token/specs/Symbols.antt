-- Operators and punctuation of the standard (IEEE 1364-2005, 5.1, 7.14, 9.7.3, 14.2, 15.3 and annex A): those of
-- one byte, and by their first byte those of two and of three. `(*` and `*)` are two symbols each.
use Rattle.std.specs.Prelude.{◌≡◌, ℕ, true, ◌==◌, List, [], ◌∷◌, if◌then◌else◌, codes}
use Rattle.vlog_token.specs.Bytes.{is_among}

abbrev pub singles : List ℕ
singles = codes "+-!~&^|*/%<>=?:()[]{};,.@#"

-- what may stand behind the first byte of a symbol of two
abbrev pub seconds : ℕ → List ℕ
seconds c =
    if c == 43 then codes ":"
    else (if c == 45 then codes ":>"
    else (if c == 42 then codes "*>"
    else (if c == 61 then codes "=>"
    else (if c == 33 then codes "="
    else (if c == 60 then codes "=<"
    else (if c == 62 then codes "=>"
    else (if c == 38 then codes "&"
    else (if c == 124 then codes "|"
    else (if c == 126 then codes "&|^"
    else (if c == 94 then codes "~"
    else []))))))))))

-- what stands twice behind the first byte of a symbol of three: `===`, `!==`, `<<<`, `>>>`, `&&&`
abbrev pub doubles : ℕ → List ℕ
doubles c =
    if c == 61 then codes "="
    else (if c == 33 then codes "="
    else (if c == 60 then codes "<"
    else (if c == 62 then codes ">"
    else (if c == 38 then codes "&"
    else []))))

abbrev pub IsSymbol : List ℕ → Type 0
IsSymbol (a ∷ []) = is_among singles a ≡ true
IsSymbol (a ∷ b ∷ []) = is_among (seconds a) b ≡ true
IsSymbol (a ∷ b ∷ c ∷ []) = (is_among (doubles a) b ≡ true) × (c ≡ b)
IsSymbol _ = ⊥
