-- How a word looks to the lexer: what a word is that it takes for a flag, and the first character of such a word.
use Rattle.command_words.proofs.Common.{◌≡◌, ◌∙◌, ◌==◌, ◌<◌, ℕ, Bool, cond, true, false, refl, sym, ap, List, [], ◌∷◌, ◌++◌, take, arith, ◌+◌, suc, Option, Some, None, inl, inr, IsUtf8, chars}
use Rattle.command_words.proofs.Common.{encode_utf8_all, map, String, string_bytes, ◌⊎◌, ⊤, option_and_then, slice_get, option_map_or, before_first, position_or_len, Decides-eqb, long_of}
use Rattle.command_words.proofs.Common.{long_of_rest, short_of, short_of_rest, strip_byte, Text, same_Some, none-some}
use Rattle.std.proofs.lemmas.Str.{IsUtf8-past_char, IsUtf8-string_bytes, encode_ascii, encodes-chars}

pub same_byte : (x c : ℕ) → (x == c) ≡ true → x ≡ c
same_byte x c e = (Decides-eqb x c).0 e

stripped : (c : ℕ) (word rest : Text) → strip_byte c word ≡ Some rest → word ≡ c ∷ rest
stripped c [] rest e = absurd (none-some rest e)
stripped c (x ∷ xs) rest e = go (x == c) refl
  where
    go : (b : Bool) → (x == c) ≡ b → x ∷ xs ≡ c ∷ rest
    go true same = let tail : xs ≡ rest = same_Some xs rest (rw same at e) in ap (λ y. y ∷ xs) (same_byte x c same) ∙ ap (λ ys. c ∷ ys) tail
    go false other = absurd (none-some rest (rw other at e))

-- ---- flags

-- a word that the lexer takes for a long flag is two hyphens and a text that begins with the flag's name
pub long_parts : (word : Text) (p : Text × Option Text) → long_of word ≡ Some p → (rest : Text) × (word ≡ 45 ∷ 45 ∷ rest) × (p.0 ≡ before_first (λ x. x == 61) rest)
long_parts word p e = first (strip_byte 45 word) refl e
  where
    last : (rest : Text) → word ≡ 45 ∷ 45 ∷ rest → long_of_rest rest ≡ Some p → (rest : Text) × (word ≡ 45 ∷ 45 ∷ rest) × (p.0 ≡ before_first (λ x. x == 61) rest)
    last [] is none = absurd (none-some p none)
    last (x ∷ xs) is some = (x ∷ xs, is, ap (λ o. option_map_or (λ q. q.0) o p.0) (sym some))

    second : (one : Text) → word ≡ 45 ∷ one → (a : Option Text) → strip_byte 45 one ≡ a → option_and_then long_of_rest a ≡ Some p
        → (rest : Text) × (word ≡ 45 ∷ 45 ∷ rest) × (p.0 ≡ before_first (λ x. x == 61) rest)
    second one is None s none = absurd (none-some p none)
    second one is (Some rest) s some = last rest (is ∙ ap (λ xs. 45 ∷ xs) (stripped 45 one rest s)) some

    first : (a : Option Text) → strip_byte 45 word ≡ a → option_and_then long_of_rest (option_and_then (strip_byte 45) a) ≡ Some p
        → (rest : Text) × (word ≡ 45 ∷ 45 ∷ rest) × (p.0 ≡ before_first (λ x. x == 61) rest)
    first None s none = absurd (none-some p none)
    first (Some one) s some = second one (stripped 45 word one s) (strip_byte 45 one) refl some

-- a word that the lexer takes for short flags is a hyphen and these
pub short_parts : (word flags : Text) → short_of word ≡ Some flags → word ≡ 45 ∷ flags
short_parts word flags e = first (strip_byte 45 word) refl e
  where
    last : (rest : Text) → word ≡ 45 ∷ rest → short_of_rest rest ≡ Some flags → word ≡ 45 ∷ flags
    last [] is none = absurd (none-some flags none)
    last (x ∷ xs) is some = go (x == 45) some
      where
        go : (b : Bool) → cond b None (Some (x ∷ xs)) ≡ Some flags → word ≡ 45 ∷ flags
        go true none = absurd (none-some flags none)
        go false e = is ∙ ap (λ rest. 45 ∷ rest) (same_Some (x ∷ xs) flags e)

    first : (a : Option Text) → strip_byte 45 word ≡ a → option_and_then short_of_rest a ≡ Some flags → word ≡ 45 ∷ flags
    first None s none = absurd (none-some flags none)
    first (Some rest) s some = last rest (stripped 45 word rest s) some

-- ---- characters

-- what follows a hyphen in a text is a text
pub past_hyphen : (flags : Text) → IsUtf8 (45 ∷ flags) → IsUtf8 flags
past_hyphen flags text = IsUtf8-past_char (45 ∷ flags) flags 45 text (ap (λ l. l ++ flags) (sym (encode_ascii 45 (omega arith))))

-- a text whose first character is ASCII begins with its byte
pub first_byte : (flags : Text) → IsUtf8 flags → (c : ℕ) → c < 128 → slice_get (chars flags) 0 ≡ Some c → (rest : Text) × (flags ≡ c ∷ rest)
first_byte flags text c small is = go (chars flags) (encodes-chars flags text) is
  where
    go : (cs : List ℕ) → encode_utf8_all cs ≡ flags → slice_get cs 0 ≡ Some c → (rest : Text) × (flags ≡ c ∷ rest)
    go [] e none = absurd (none-some c none)
    go (x ∷ xs) e some =
        (encode_utf8_all xs, sym e ∙ ap (λ y. encode_utf8_all (y ∷ xs)) (same_Some x c some) ∙ ap (λ l. l ++ encode_utf8_all xs) (encode_ascii c small))

-- each word is a text
abbrev pub AreTexts : List Text → Type 0
AreTexts [] = ⊤
AreTexts (word ∷ rest) = IsUtf8 word × AreTexts rest

pub strings_are_texts : {Z : Type 0} (words : List (String Z)) → AreTexts (map string_bytes words)
strings_are_texts [] = tt
strings_are_texts (word ∷ rest) = (IsUtf8-string_bytes word, strings_are_texts rest)

-- ---- up to the first `=`

-- a byte that is no `=` stands before the first one
before_more : (x : ℕ) (xs : Text) → (x == 61) ≡ false → before_first (λ y. y == 61) (x ∷ xs) ≡ x ∷ before_first (λ y. y == 61) xs
before_more x xs e =
    let one_more : 1 + position_or_len (λ y. y == 61) xs ≡ suc (position_or_len (λ y. y == 61) xs) = omega arith in
    rw e (ap (λ n. take n (x ∷ xs)) one_more)

-- a text is what stands before its first `=`, or that and `=` and more
pub cut_as : (t : Text) → (t ≡ before_first (λ x. x == 61) t) ⊎ ((rest : Text) × (t ≡ before_first (λ x. x == 61) t ++ 61 ∷ rest))
cut_as [] = inl refl
cut_as (x ∷ xs) = go (x == 61) refl (cut_as xs)
  where
    go : (b : Bool) → (x == 61) ≡ b → (xs ≡ before_first (λ y. y == 61) xs) ⊎ ((rest : Text) × (xs ≡ before_first (λ y. y == 61) xs ++ 61 ∷ rest))
        → (x ∷ xs ≡ before_first (λ y. y == 61) (x ∷ xs)) ⊎ ((rest : Text) × (x ∷ xs ≡ before_first (λ y. y == 61) (x ∷ xs) ++ 61 ∷ rest))
    go true e h = inr (xs, rw e (ap (λ y. y ∷ xs) (same_byte x 61 e)))
    go false e (inl h) = inl (ap (λ ys. x ∷ ys) h ∙ sym (before_more x xs e))
    go false e (inr h) = inr (h.0, ap (λ ys. x ∷ ys) h.1 ∙ ap (λ front. front ++ 61 ∷ h.0) (sym (before_more x xs e)))
