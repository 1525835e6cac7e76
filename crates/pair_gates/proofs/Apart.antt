-- Whether one of the bits of two rows differs.
use Rattle.pair_gates.proofs.Common.{◌≡◌, ◌⊎◌, inl, inr, Bool, true, false, not, List, [], ◌∷◌, length, refl, sym, ◌∙◌, arith, true≢false, if◌then◌else◌, Values, GateLit, lit_value, Xor, lit_values}
use Rattle.pair_gates.proofs.Common.{operation_value, both_bits, IsSome}

-- the bits that differ
abbrev pub bits_apart : Values → List Bool → List Bool → List Bool
bits_apart values xs ys = both_bits (operation_value Xor values) xs ys

none-apart : (x : Bool) → (if x then not x else x) ≡ false
none-apart true = refl
none-apart false = refl

one-apart : (x y : Bool) → ((if x then not y else y) ≡ true) ⊎ (x ≡ y)
one-apart true true = inr refl
one-apart true false = inl refl
one-apart false true = inl refl
one-apart false false = inr refl

pub equal-none : (values : Values) (row : List GateLit) (xs : List Bool) → lit_values values row ≡ bits_apart values xs xs → IsSome values row → ⊥
equal-none values [] xs is some = some
equal-none values (l ∷ row) [] is some = cc
equal-none values (l ∷ row) (x ∷ xs) is (inl one) = (let head : lit_value values l ≡ (if x then not x else x) = cc in true≢false (sym one ∙ (head ∙ none-apart x)))
equal-none values (l ∷ row) (x ∷ xs) is (inr more) = (let tail : lit_values values row ≡ bits_apart values xs xs = cc in equal-none values row xs tail more)

pub some-or-equal : (values : Values) (row : List GateLit) (xs ys : List Bool) → length xs ≡ length ys → lit_values values row ≡ bits_apart values xs ys → IsSome values row ⊎ (xs ≡ ys)
some-or-equal values row [] [] long is = inr refl
some-or-equal values row [] (y ∷ ys) long is = absurd (omega (arith, long))
some-or-equal values row (x ∷ xs) [] long is = absurd (omega (arith, long))
some-or-equal values [] (x ∷ xs) (y ∷ ys) long is = absurd (cc)
some-or-equal values (l ∷ row) (x ∷ xs) (y ∷ ys) long is =
    let head : lit_value values l ≡ (if x then not y else y) = cc in
    let tail : lit_values values row ≡ bits_apart values xs ys = cc in
    by (one-apart x y) (some-or-equal values row xs ys (omega (arith, long)) tail) head
  where
    by : ((if x then not y else y) ≡ true) ⊎ (x ≡ y) → IsSome values row ⊎ (xs ≡ ys) → lit_value values l ≡ (if x then not y else y) → IsSome values (l ∷ row) ⊎ ((x ∷ xs) ≡ (y ∷ ys))
    by (inl one) rest head = inl (inl (head ∙ one))
    by (inr same) (inl some) head = inl (inr some)
    by (inr same) (inr rest) head = inr (λ i. same i ∷ rest i)
