-- What the cells of processes compute, as bits.
use Rattle.proc_muxes.proofs.Common.{◌≡◌, ℕ, zero, suc, ◌+◌, ◌-◌, ◌*◌, ◌/◌, ◌%◌, ◌^◌, Bool, true, false, not, ◌&&◌, ◌||◌, List, [], ◌∷◌, length, nat_eq, refl, sym, ◌∙◌, ap, subst, arith, add-one}
use Rattle.proc_muxes.proofs.Common.{if◌then◌else◌, nat_tests, Span, Bit, CellKind, Mux, Ror, Eq, Lor, digit, number, cell_number, some_one, Nets, bit_value, values, plain, ports_seen, bits_of}
use Rattle.proc_muxes.proofs.Common.{bit_same, agree, Building, RunsIn, fresh_bits, with_cell, cell_computes, length_fresh, AddsCell, kept, mattering, BuildsEqual}
use Rattle.std.proofs.lemmas.Nat.{mod-pow-add}
use Rattle.elab_expr.proofs.KindLemmas.{some_tells}
use Rattle.proc_muxes.proofs.Bits.{values-are}

-- the lowest bits of a remainder are those of the number
pub bits_of-mod : (w v : ℕ) → bits_of w (v % 2 ^ w) ≡ bits_of w v
bits_of-mod zero v = refl
bits_of-mod (suc w) v =
    let whole : v % 2 ^ (w + 1) ≡ (v / 2 ^ 1 % 2 ^ w) * 2 ^ 1 + v % 2 ^ 1 = mod-pow-add v w 1 in
    let e : v % 2 ^ suc w ≡ (v / 2 % 2 ^ w) * 2 + v % 2 = rw add-one at whole in
    let low : v % 2 ^ suc w % 2 ≡ v % 2 = omega arith in
    let high : v % 2 ^ suc w / 2 ≡ v / 2 % 2 ^ w = omega arith in
    rw (low, high, bits_of-mod w (v / 2)) refl

-- the cell that was added computes its Y
pub cell-values : (a b : Building) (kind : CellKind) (ports : List (List Bit)) (w : ℕ) (at : Span) (nets : Nets) → AddsCell kind ports w at a b → RunsIn b nets → values nets (fresh_bits a.nets w) ≡ bits_of w (cell_number kind false w (ports_seen (plain nets) 0 0 ports))
cell-values a b kind ports w at nets f runs =
    let r : RunsIn (with_cell a kind false ports w at) nets = subst (λ (x : Building). RunsIn x nets) f.1 runs in
    values-are nets (fresh_bits a.nets w) w _ (length_fresh a.nets w) (cell_computes a kind false ports w at nets r) ∙ bits_of-mod w (cell_number kind false w (ports_seen (plain nets) 0 0 ports))

-- the bits of a number of a list are the list
bits-back : (nets : Nets) (bits : List Bit) (w : ℕ) → length bits ≡ w → bits_of w (number (values nets bits)) ≡ values nets bits
bits-back nets bits w long = sym (values-are nets bits w (number (values nets bits)) long refl)

bits-choice : (w : ℕ) (b : Bool) (m n : ℕ) → bits_of w (if b then m else n) ≡ (if b then bits_of w m else bits_of w n)
bits-choice w true m n = refl
bits-choice w false m n = refl

one-some : (b : Bool) → some_one (b ∷ []) ≡ b
one-some true = refl
one-some false = refl

pub mux-values : (a b : Building) (test xs ys : List Bit) (w : ℕ) (at : Span) (nets : Nets) (c : Bool) → AddsCell Mux (test ∷ xs ∷ ys ∷ []) w at a b → RunsIn b nets → values nets test ≡ c ∷ [] → length xs ≡ w → length ys ≡ w → values nets (fresh_bits a.nets w) ≡ (if c then values nets ys else values nets xs)
mux-values a b test xs ys w at nets c f runs is long_x long_y =
    let all = cell-values a b Mux (test ∷ xs ∷ ys ∷ []) w at nets f runs in
    let tells : some_one (values nets test) ≡ c = ap some_one is ∙ one-some c in
    all ∙ ap (λ (t : Bool). bits_of w (if t then number (values nets ys) else number (values nets xs))) tells ∙ bits-choice w c (number (values nets ys)) (number (values nets xs)) ∙ rw (bits-back nets ys w long_y, bits-back nets xs w long_x) refl

bit-of-digit : (b : Bool) → bits_of 1 (digit b) ≡ b ∷ []
bit-of-digit true = refl
bit-of-digit false = refl

pub ror-values : (a b : Building) (xs : List Bit) (at : Span) (nets : Nets) → AddsCell Ror (xs ∷ []) 1 at a b → RunsIn b nets → values nets (fresh_bits a.nets 1) ≡ not (nat_eq (number (values nets xs)) 0) ∷ []
ror-values a b xs at nets f runs = cell-values a b Ror (xs ∷ []) 1 at nets f runs ∙ bit-of-digit (some_one (values nets xs)) ∙ ap (λ (t : Bool). t ∷ []) (some_tells (values nets xs))

eq-values : (a b : Building) (xs ys : List Bit) (at : Span) (nets : Nets) → AddsCell Eq (xs ∷ ys ∷ []) 1 at a b → RunsIn b nets → values nets (fresh_bits a.nets 1) ≡ nat_eq (number (values nets xs)) (number (values nets ys)) ∷ []
eq-values a b xs ys at nets f runs = cell-values a b Eq (xs ∷ ys ∷ []) 1 at nets f runs ∙ bit-of-digit (nat_eq (number (values nets xs)) (number (values nets ys)))

pub equal-values : (n : ℕ) (xs ys : List Bit) (at : Span) (a b : Building) (test : List Bit) (nets : Nets) → BuildsEqual n xs ys at a b test → length xs ≡ n → length ys ≡ n → RunsIn b nets → values nets test ≡ nat_eq (number (values nets xs)) (number (values nets ys)) ∷ []
equal-values zero [] [] at a b test nets f x y runs = ap (values nets) f.1
equal-values zero [] (q ∷ ys) at a b test nets f x y runs = absurd (omega arith)
equal-values zero (p ∷ xs) ys at a b test nets f x y runs = absurd (omega arith)
equal-values (suc n) xs ys at a b test nets f x y runs = ap (values nets) f.1 ∙ eq-values a b xs ys at nets f.0 runs

either-some : (p q : Bool) → (if some_one (p ∷ []) then true else some_one (q ∷ [])) ≡ (p || q)
either-some true q = refl
either-some false true = refl
either-some false false = refl

pub lor-values : (a b : Building) (xs ys : List Bit) (at : Span) (nets : Nets) (p q : Bool) → AddsCell Lor (xs ∷ ys ∷ []) 1 at a b → RunsIn b nets → values nets xs ≡ p ∷ [] → values nets ys ≡ q ∷ [] → values nets (fresh_bits a.nets 1) ≡ (p || q) ∷ []
lor-values a b xs ys at nets p q f runs is_p is_q =
    let all = cell-values a b Lor (xs ∷ ys ∷ []) 1 at nets f runs in
    all ∙ bit-of-digit (if some_one (values nets xs) then true else some_one (values nets ys)) ∙ ap (λ (t : Bool). t ∷ []) (rw (is_p, is_q) (either-some p q))

-- Comparing the bits that matter.

pub kept-length : (ignored : List Bool) (xs : List Bit) → length ignored ≡ length xs → length (kept ignored xs) ≡ mattering ignored
kept-length [] xs e = refl
kept-length (i ∷ ignored) [] e = absurd (omega arith)
kept-length (true ∷ ignored) (x ∷ xs) e = kept-length ignored xs (omega arith)
kept-length (false ∷ ignored) (x ∷ xs) e = let k = kept-length ignored xs (omega arith) in omega (arith, k)

digits-same : (x y : Bool) (n m : ℕ) → nat_eq (digit x + 2 * n) (digit y + 2 * m) ≡ (bit_same x y && nat_eq n m)
digits-same true true n m = grind (arith, nat_tests)
digits-same true false n m = grind (arith, nat_tests)
digits-same false true n m = grind (arith, nat_tests)
digits-same false false n m = grind (arith, nat_tests)

pub kept-agree : (nets : Nets) (w : ℕ) (ignored : List Bool) (xs ys : List Bit) → length ignored ≡ w → length xs ≡ w → length ys ≡ w → nat_eq (number (values nets (kept ignored xs))) (number (values nets (kept ignored ys))) ≡ agree ignored (values nets xs) (values nets ys)
kept-agree nets w [] xs ys i x y = refl
kept-agree nets w (b ∷ ignored) [] ys i x y = absurd (omega arith)
kept-agree nets w (b ∷ ignored) (p ∷ xs) [] i x y = absurd (omega arith)
kept-agree nets w (true ∷ ignored) (p ∷ xs) (q ∷ ys) i x y = kept-agree nets (w - 1) ignored xs ys (omega arith) (omega arith) (omega arith)
kept-agree nets w (false ∷ ignored) (p ∷ xs) (q ∷ ys) i x y =
    digits-same (bit_value nets p) (bit_value nets q) (number (values nets (kept ignored xs))) (number (values nets (kept ignored ys))) ∙
    ap (λ (t : Bool). bit_same (bit_value nets p) (bit_value nets q) && t) (kept-agree nets (w - 1) ignored xs ys (omega arith) (omega arith) (omega arith))
