-- Where `rsplit_once` and `split_once` cut a text, in the words of `specs`.
use Rattle.project_options.proofs.Common.{◌≡◌, ◌≢◌, ◌∙◌, ◌==◌, ◌+◌, ◌-◌, ◌<◌, ◌≤◌, ℕ, not, true, false, List, [], ap, sym, arith, drop, drop_of_length-le, get_or, get_or-drop, length, length-drop}
use Rattle.project_options.proofs.Common.{take, take_all, after_first, after_last, before_first, before_last, position_or_len, suffix_len}
use Rattle.std.specs.Str.{NoCharPasses}
use Rattle.std.specs.Str.Pattern.{RFindsChar, SplitsAroundMatch}
use Rattle.std.proofs.lemmas.Bool.Decides.{nat_tests}
use Rattle.std.proofs.lemmas.List.Sums.{suffix_len_is}
use Rattle.std.proofs.lemmas.Str.{len_utf8_ascii}
use Rattle.std.proofs.lemmas.Str.Pattern.{NoCharPasses-char}

no_such : (c b : ℕ) → b ≢ c → not (b == c) ≡ true
no_such c b h = grind (arith, nat_tests)

such : (c b : ℕ) → b ≡ c → not (b == c) ≡ false
such c b h = grind (arith, nat_tests)

-- how many bytes stand behind the last of these, which stands before place n
behind_last : (c : ℕ) (text : List ℕ) (n : ℕ) → n ≤ length text → ((k : ℕ) → n ≤ k → k < length text → get_or text k 0 ≢ c) → (0 < n → get_or text (n - 1) 0 ≡ c) → suffix_len (λ byte. not (byte == c)) text ≡ length text - n
behind_last c text n l others stop = suffix_len_is (λ byte. not (byte == c)) text n 0 l (λ k le lt. no_such c (get_or text k 0) (others k le lt)) (λ some. such c (get_or text (n - 1) 0) (stop some))

-- what stands before the last of these bytes, and what stands behind it
pub last_cut : (c : ℕ) (text front back : List ℕ) → c < 128 → SplitsAroundMatch (RFindsChar c) text front back → (front ≡ before_last (λ byte. byte == c) text) × (back ≡ after_last (λ byte. byte == c) text)
last_cut c text front back low h =
    let next : h.1 ≡ h.0 + 1 = omega (arith, h.2.1.ends, len_utf8_ascii c low) in
    let behind : suffix_len (λ byte. not (byte == c)) text ≡ length text - h.1 = behind_last c text h.1 (omega (arith, h.7))
    (λ k le lt is.
    let place : h.1 + (k - h.1) ≡ k = omega arith in
    NoCharPasses-char c (drop h.1 text) (k - h.1) h.2.0 low (omega (arith, length-drop h.1 text)) (get_or-drop h.1 text (k - h.1) 0 ∙ ap (λ n. get_or text n 0) place ∙ is))
    (λ some.
    let place : h.1 - 1 ≡ h.0 = omega (arith, next) in
    ap (λ n. get_or text n 0) place ∙ h.2.1.byte low) in
    let before : h.0 ≡ length text - suffix_len (λ byte. not (byte == c)) text - 1 = omega (arith, next, behind, h.7) in
    let after : h.1 ≡ length text - suffix_len (λ byte. not (byte == c)) text = omega (arith, behind, h.7) in
    (h.3 ∙ ap (λ n. take n text) before, h.4 ∙ ap (λ n. drop n text) after)

-- where there is none
pub no_last : (c : ℕ) (text : List ℕ) → c < 128 → NoCharPasses (λ byte. byte == c) text → ([] ≡ before_last (λ byte. byte == c) text) × (text ≡ after_last (λ byte. byte == c) text)
no_last c text low none =
    let behind : suffix_len (λ byte. not (byte == c)) text ≡ length text - 0 = behind_last c text 0 (omega arith) (λ k le lt. NoCharPasses-char c text k none low lt) (λ some. absurd (omega arith)) in
    let before : 0 ≡ length text - suffix_len (λ byte. not (byte == c)) text - 1 = omega (arith, behind) in
    let after : 0 ≡ length text - suffix_len (λ byte. not (byte == c)) text = omega (arith, behind) in
    (ap (λ n. take n text) before, ap (λ n. drop n text) after)

-- the same of the first one
pub no_first : (c : ℕ) (text : List ℕ) → position_or_len (λ byte. byte == c) text ≡ length text → (text ≡ before_first (λ byte. byte == c) text) × ([] ≡ after_first (λ byte. byte == c) text)
no_first c text none = (
  sym (ap (λ n. take n text) none ∙ take_all (length text) text (omega arith)),
  sym (drop_of_length-le text (omega (arith, none))),
)
