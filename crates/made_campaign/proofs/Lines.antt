-- The lines of the project file of a seed.
use Rattle.made_campaign.proofs.Common.{◌≡◌, inl, inr, arith, ℕ, suc, ◌+◌, ◌-◌, ◌^◌, ◌%◌, ◌<◌, ◌==◌, Bool, true, false, ◌&&◌, not, List, [], ◌∷◌, ◌++◌, length, take, refl, sym, ap, ◌∙◌, if◌then◌else◌}
use Rattle.made_campaign.proofs.Common.{codes, decimal, slice_index, list_all, onto_first, slice_split, lines, lines_of_parts, strip_carriage_return, and_parts, config_text, settings_text}
use Rattle.std.proofs.lemmas.Bool.Decides.{eqb_tells}
use Rattle.std.proofs.lemmas.List.Splits.{length-slice_split}
use Rattle.std.proofs.lemmas.Fmt.{decimal_by_steps, decimal_nonempty}

-- no byte of it ends a line
abbrev IsOneLine : List ℕ → Type 0
IsOneLine line = list_all (λ byte. not (byte == 10)) line ≡ true

cut : (line rest : List ℕ) → IsOneLine line → slice_split (λ byte. byte == 10) (line ++ 10 ∷ rest) ≡ line ∷ slice_split (λ byte. byte == 10) rest
cut [] rest one = refl
cut (byte ∷ line) rest one = elim (eqb_tells byte 10) [
  | inl h ↦ absurd (let never : false ≡ true = sym (ap not h.0) ∙ (and_parts (not (byte == 10)) (list_all (λ b. not (b == 10)) line) one).0 in cc)
  | inr h ↦ here (byte == 10) h.0 (cut line rest (and_parts (not (byte == 10)) (list_all (λ b. not (b == 10)) line) one).1)
]
  where
    here : (t : Bool) → t ≡ false → slice_split (λ b. b == 10) (line ++ 10 ∷ rest) ≡ line ∷ slice_split (λ b. b == 10) rest
        → (if t then [] ∷ slice_split (λ b. b == 10) (line ++ 10 ∷ rest) else onto_first byte (slice_split (λ b. b == 10) (line ++ 10 ∷ rest))) ≡ (byte ∷ line) ∷ slice_split (λ b. b == 10) rest
    here true is more = absurd (let never : true ≡ false = is in cc)
    here false is more = ap (onto_first byte) more

first_of : (line : List ℕ) (parts : List (List ℕ)) → 0 < length parts → lines_of_parts (line ∷ parts) ≡ strip_carriage_return line ∷ lines_of_parts parts
first_of line [] some = absurd (omega (arith, some))
first_of line (next ∷ parts) some = refl

-- a line, and those behind its newline
first_line : (line rest : List ℕ) → IsOneLine line → lines (line ++ 10 ∷ rest) ≡ strip_carriage_return line ∷ lines rest
first_line line rest one =
    ap lines_of_parts (cut line rest one) ∙ first_of line (slice_split (λ byte. byte == 10) rest) (omega (arith, length-slice_split (λ byte. byte == 10) rest))

-- a digit ends no line
digit_line : (digit : ℕ) → not (48 + digit == 10) ≡ true
digit_line digit = elim (eqb_tells (48 + digit) 10) [
  | inl h ↦ absurd (omega (arith, h.1))
  | inr h ↦ ap not h.0
]

one_more : (line : List ℕ) (byte : ℕ) → IsOneLine line → not (byte == 10) ≡ true → IsOneLine (line ++ byte ∷ [])
one_more [] byte one last = both (not (byte == 10)) last
  where
    both : (t : Bool) → t ≡ true → (t && true) ≡ true
    both true is = refl
    both false is = is
one_more (first ∷ line) byte one last =
    let parts = and_parts (not (first == 10)) (list_all (λ b. not (b == 10)) line) one in
    both (not (first == 10)) (list_all (λ b. not (b == 10)) (line ++ byte ∷ [])) parts.0 (one_more line byte parts.1 last)
  where
    both : (s t : Bool) → s ≡ true → t ≡ true → (s && t) ≡ true
    both true t is are = are
    both false t is are = is

decimal_line : (n : ℕ) → n < 2 ^ 64 → IsOneLine (decimal n)
decimal_line n small =
    decimal_by_steps (λ k digits. IsOneLine digits) (λ k below. one_more [] (48 + k) refl (digit_line k)) (λ k digits more one. one_more digits (48 + k % 10) one (digit_line (k % 10))) n small

-- the line of the seed, without what may be a carriage return: it begins as it does
strip_seed : (digits : List ℕ) → 0 < length digits → (rest : List ℕ) × (strip_carriage_return (codes "seed " ++ digits) ≡ codes "seed " ++ rest)
strip_seed [] some = absurd (omega (arith, some))
strip_seed (digit ∷ digits) some = by (slice_index (codes "seed " ++ digit ∷ digits) (length (codes "seed " ++ digit ∷ digits) - 1) == 13)
  where
    by : (t : Bool) → (rest : List ℕ) × ((if t then take (length (codes "seed " ++ digit ∷ digits) - 1) (codes "seed " ++ digit ∷ digits) else codes "seed " ++ digit ∷ digits) ≡ codes "seed " ++ rest)
    by false = (digit ∷ digits, refl)
    by true =
        let most : length (codes "seed " ++ digit ∷ digits) - 1 ≡ suc (suc (suc (suc (suc (length digits))))) = omega arith in
        (take (length digits) (digit ∷ digits), ap (λ (n : ℕ). take n (codes "seed " ++ digit ∷ digits)) most)

-- the lines of the file
pub config_lines : (seed : ℕ) → seed < 2 ^ 64 → (rest : List ℕ) × (lines (config_text seed) ≡ codes "[options]" ∷ codes "size 100" ∷ (codes "seed " ++ rest) ∷ lines settings_text)
config_lines seed small =
    let seed_line = strip_seed (decimal seed) (decimal_nonempty seed small) in
    let third : lines ((codes "seed " ++ decimal seed) ++ 10 ∷ settings_text) ≡ (codes "seed " ++ seed_line.0) ∷ lines settings_text =
    first_line (codes "seed " ++ decimal seed) settings_text (decimal_line seed small) ∙ ap (λ (l : List ℕ). l ∷ lines settings_text) seed_line.1 in
    let second : lines (codes "size 100" ++ 10 ∷ ((codes "seed " ++ decimal seed) ++ 10 ∷ settings_text)) ≡ codes "size 100" ∷ (codes "seed " ++ seed_line.0) ∷ lines settings_text =
    first_line (codes "size 100") ((codes "seed " ++ decimal seed) ++ 10 ∷ settings_text) refl ∙ ap (λ (l : List (List ℕ)). codes "size 100" ∷ l) third in (
      seed_line.0,
      first_line (codes "[options]") (codes "size 100" ++ 10 ∷ ((codes "seed " ++ decimal seed) ++ 10 ∷ settings_text)) refl ∙ ap (λ (l : List (List ℕ)). codes "[options]" ∷ l) second,
    )
