-- Positional notation modulo a power of two.
use Rattle.vlog_token.proofs.Common.{◌≡◌, ℕ, ◌+◌, ◌-◌, ◌*◌, ◌%◌, ◌^◌, ◌<◌, Bool, true, cond, ◌&&◌, List, [], ◌∷◌, length, take, drop, get_or, sym, ap, ◌∙◌, arith, Some, None, ◌==◌, list_all}
use Rattle.vlog_token.proofs.Common.{cond-true, cond-false, ne_eqb, eq-eqb, and_from, fold_more, is_digit, is_digit_part, is_x, is_z, digits_number, filled, NumberMeaning, positional, value_digit}
use Rattle.vlog_token.proofs.Common.{x_digit, z_digit}
use Rattle.std.proofs.Math.Nat.{mod-add-mod}
use Rattle.std.proofs.Math.Pow.{mod-mod-pow}
use Rattle.std.proofs.lemmas.Nat.{mul-mod_first, one_shl}

-- one digit more
more_digits : (digit : ℕ → ℕ) (radix left : ℕ) (cs : List ℕ) (i : ℕ) → i < length cs → positional digit radix left (take (i + 1) cs) ≡ cond (get_or cs i 0 == 95) (positional digit radix left (take i cs)) (positional digit radix left (take i cs) * radix + digit (get_or cs i 0))
more_digits digit radix left cs i inside = fold_more (λ sum c. cond (c == 95) sum (sum * radix + digit c)) left cs i 0 inside

step_mod : (p r d m : ℕ) → ((p % m) * r % m + d) % m ≡ (p * r + d) % m
step_mod p r d m = ap (λ k. (k + d) % m) (mul-mod_first p r m) ∙ mod-add-mod (p * r) m d

pub wrap_digit : (digit : ℕ → ℕ) (radix left m : ℕ) (cs : List ℕ) (i sum : ℕ) → i < length cs → sum ≡ positional digit radix left (take i cs) % m → (get_or cs i 0 ≡ 95 → ⊥) → (sum * radix % m + digit (get_or cs i 0)) % m ≡ positional digit radix left (take (i + 1) cs) % m
wrap_digit digit radix left m cs i sum inside is other =
    let before = positional digit radix left (take i cs) in
    ap (λ s. (s * radix % m + digit (get_or cs i 0)) % m) is
    ∙ step_mod before radix (digit (get_or cs i 0)) m
    ∙ ap (λ s. s % m) (sym (more_digits digit radix left cs i inside ∙ cond-false (get_or cs i 0 == 95) before (before * radix + digit (get_or cs i 0)) (ne_eqb (get_or cs i 0) 95 other)))

pub wrap_skip : (digit : ℕ → ℕ) (radix left m : ℕ) (cs : List ℕ) (i sum : ℕ) → i < length cs → sum ≡ positional digit radix left (take i cs) % m → get_or cs i 0 ≡ 95 → sum ≡ positional digit radix left (take (i + 1) cs) % m
wrap_skip digit radix left m cs i sum inside is skip =
    let before = positional digit radix left (take i cs) in
    is ∙ ap (λ s. s % m) (sym (more_digits digit radix left cs i inside ∙ cond-true (get_or cs i 0 == 95) before (before * radix + digit (get_or cs i 0)) (eq-eqb (get_or cs i 0) 95 skip)))

-- cut to the width after it was cut to 128 bits
pub cut_after : (n bits width : ℕ) → width < 128 → bits ≡ n % 2 ^ 128 → bits % (1 * 2 ^ width % 2 ^ 128) ≡ n % 2 ^ width
cut_after n bits width narrow is =
    let all : 128 ≡ 128 - width + width = omega arith in
    ap (λ m. bits % m) (one_shl width 128 narrow)
    ∙ ap (λ b. b % 2 ^ width) (is ∙ ap (λ e. n % 2 ^ e) all)
    ∙ mod-mod-pow n (128 - width) width

abbrev pub number : ℕ → ℕ → Bool → ℕ → ℕ → NumberMeaning
number width bits is_signed x_bits z_bits = record { width = width; bits = bits; is_signed = is_signed; x_bits = x_bits; z_bits = z_bits }

-- the number of digits, part by part
pub digits_are : (width radix : ℕ) (is_signed : Bool) (digits : List ℕ) (w b x z : ℕ) → 0 < length digits → is_digit radix (get_or digits 0 0) ≡ true → list_all (is_digit_part radix) (drop 1 digits) ≡ true → w ≡ width → b ≡ positional (value_digit radix) radix 0 digits % 2 ^ width → x ≡ positional (x_digit radix) radix (filled (is_x (get_or digits 0 0)) width) digits % 2 ^ width → z ≡ positional (z_digit radix) radix (filled (is_z (get_or digits 0 0)) width) digits % 2 ^ width → Some (number w b is_signed x z) ≡ digits_number width is_signed radix digits
digits_are width radix is_signed [] w b x z some first rest w_is b_is x_is z_is = absurd (omega arith)
digits_are width radix is_signed (c ∷ cs) w b x z some first rest w_is b_is x_is z_is =
    ap (λ k. Some (number k b is_signed x z)) w_is
    ∙ ap (λ k. Some (number width k is_signed x z)) b_is
    ∙ ap (λ k. Some (number width (positional (value_digit radix) radix 0 (c ∷ cs) % 2 ^ width) is_signed k z)) x_is
    ∙ ap (λ k. Some (number width (positional (value_digit radix) radix 0 (c ∷ cs) % 2 ^ width) is_signed (positional (x_digit radix) radix (filled (is_x c) width) (c ∷ cs) % 2 ^ width) k)) z_is
    ∙ sym (cond-true (is_digit radix c && list_all (is_digit_part radix) cs) _ None (and_from (is_digit radix c) (list_all (is_digit_part radix) cs) first rest))
