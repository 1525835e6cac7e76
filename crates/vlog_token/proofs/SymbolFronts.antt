-- The longest symbol at the front.
use Rattle.vlog_token.proofs.Common.{◌≡◌, ℕ, ◌<◌, ◌≤◌, Bool, true, false, cond, ◌&&◌, List, [], ◌∷◌, ◌++◌, length, get_or, sym, ap, ◌∙◌, arith, ◌==◌, slice_index, cond_both, and_parts, and_from}
use Rattle.vlog_token.proofs.Common.{eqb-true, eq-eqb, is_among, IsSymbol, doubles, seconds, singles, IsLongestFront, symbol_length}

-- no symbol of two bytes is at the front, and none of three
abbrev NoPair : List ℕ → Type 0
NoPair bytes = (x y : ℕ) (more : List ℕ) → bytes ≡ x ∷ y ∷ more → is_among (seconds x) y ≡ true → ⊥

abbrev NoTriple : List ℕ → Type 0
NoTriple bytes = (x y z : ℕ) (more : List ℕ) → bytes ≡ x ∷ y ∷ z ∷ more → is_among (doubles x) y ≡ true → z ≡ y → ⊥

longest_one : (bytes : List ℕ) → NoPair bytes → NoTriple bytes → (text more : List ℕ) → IsSymbol text → bytes ≡ text ++ more → length text ≤ 1
longest_one bytes pair triple [] more h e = absurd h
longest_one bytes pair triple (x ∷ []) more h e = omega arith
longest_one bytes pair triple (x ∷ y ∷ []) more h e = absurd (pair x y more e h)
longest_one bytes pair triple (x ∷ y ∷ z ∷ []) more h e = absurd (triple x y z more e h.0 h.1)
longest_one bytes pair triple (x ∷ y ∷ z ∷ u ∷ us) more h e = absurd h

longest_two : (bytes : List ℕ) → NoTriple bytes → (text more : List ℕ) → IsSymbol text → bytes ≡ text ++ more → length text ≤ 2
longest_two bytes triple [] more h e = absurd h
longest_two bytes triple (x ∷ []) more h e = omega arith
longest_two bytes triple (x ∷ y ∷ []) more h e = omega arith
longest_two bytes triple (x ∷ y ∷ z ∷ []) more h e = absurd (triple x y z more e h.0 h.1)
longest_two bytes triple (x ∷ y ∷ z ∷ u ∷ us) more h e = absurd h

longest_three : (bytes text more : List ℕ) → IsSymbol text → bytes ≡ text ++ more → length text ≤ 3
longest_three bytes [] more h e = absurd h
longest_three bytes (x ∷ []) more h e = omega arith
longest_three bytes (x ∷ y ∷ []) more h e = omega arith
longest_three bytes (x ∷ y ∷ z ∷ []) more h e = omega arith
longest_three bytes (x ∷ y ∷ z ∷ u ∷ us) more h e = absurd h

-- a test of the first bytes rules the symbols out that pass it
no_pair : (a b : ℕ) (rest : List ℕ) (F : ℕ → ℕ → Bool) → F a b ≡ false → (x y : ℕ) (more : List ℕ) → a ∷ b ∷ rest ≡ x ∷ y ∷ more → F x y ≡ true → ⊥
no_pair a b rest F fails x y more e passes =
    let same = ap (λ (l : List ℕ). F (get_or l 0 0) (get_or l 1 0)) e in
    let bad : true ≡ false = sym passes ∙ sym same ∙ fails in cc

no_triple : (a b c : ℕ) (rest : List ℕ) (F : ℕ → ℕ → Bool) → (F a b && c == b) ≡ false → (x y z : ℕ) (more : List ℕ) → a ∷ b ∷ c ∷ rest ≡ x ∷ y ∷ z ∷ more → F x y ≡ true → z ≡ y → ⊥
no_triple a b c rest F fails x y z more e passes twice =
    let same = ap (λ (l : List ℕ). F (get_or l 0 0) (get_or l 1 0) && get_or l 2 0 == get_or l 1 0) e in
    let bad : true ≡ false = sym (and_from (F x y) (z == y) passes (eq-eqb z y twice)) ∙ sym same ∙ fails in cc

short_pair : (a : ℕ) (F : ℕ → ℕ → Bool) (x y : ℕ) (more : List ℕ) → a ∷ [] ≡ x ∷ y ∷ more → F x y ≡ true → ⊥
short_pair a F x y more e passes = absurd (omega (arith, ap length e))

short_triple : (bytes : List ℕ) (F : ℕ → ℕ → Bool) → length bytes ≤ 2 → (x y z : ℕ) (more : List ℕ) → bytes ≡ x ∷ y ∷ z ∷ more → F x y ≡ true → z ≡ y → ⊥
short_triple bytes F short x y z more e passes twice = absurd (omega (arith, ap length e, short))

pub symbol_front : (bytes : List ℕ) → 0 < length bytes → is_among singles (slice_index bytes 0) ≡ true → IsLongestFront IsSymbol bytes (symbol_length bytes)
symbol_front [] some single = absurd (omega arith)
symbol_front (a ∷ []) some single = record {
  within = omega arith;
  fits = single;
  longest = longest_one (a ∷ []) (short_pair a (λ x y. is_among (seconds x) y)) (short_triple (a ∷ []) (λ x y. is_among (doubles x) y) (omega arith));
}
symbol_front (a ∷ b ∷ []) some single =
    let triple = short_triple (a ∷ b ∷ []) (λ x y. is_among (doubles x) y) (omega arith) in
    cond_both (is_among (seconds a) b) 2 1 (IsLongestFront IsSymbol (a ∷ b ∷ []))
    (λ yes. record { within = omega arith; fits = yes; longest = longest_two (a ∷ b ∷ []) triple })
    (λ no. record { within = omega arith; fits = single; longest = longest_one (a ∷ b ∷ []) (no_pair a b [] (λ x y. is_among (seconds x) y) no) triple })
symbol_front (a ∷ b ∷ c ∷ rest) some single =
    let bytes = a ∷ b ∷ c ∷ rest in
    cond_both (is_among (doubles a) b && c == b) 3 (cond (is_among (seconds a) b) 2 1) (IsLongestFront IsSymbol bytes)
    (λ yes. let both = and_parts (is_among (doubles a) b) (c == b) yes in record {
      within = omega arith;
      fits = (both.0, eqb-true c b both.1);
      longest = longest_three bytes;
    })
    (λ other.
    let triple = no_triple a b c rest (λ x y. is_among (doubles x) y) other in
    cond_both (is_among (seconds a) b) 2 1 (IsLongestFront IsSymbol bytes)
    (λ yes. record { within = omega arith; fits = yes; longest = longest_two bytes triple })
    (λ no. record { within = omega arith; fits = single; longest = longest_one bytes (no_pair a b (c ∷ rest) (λ x y. is_among (seconds x) y) no) triple }))
