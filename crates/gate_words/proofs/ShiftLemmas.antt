-- What a shift adds, and how a loop makes it.
use Rattle.gate_words.proofs.Common.{◌≡◌, ℕ, zero, suc, ◌+◌, ◌*◌, ◌^◌, ◌<◌, ◌≤◌, Bool, true, false, List, [], ◌∷◌, length, drop, replicate, refl, sym, ap, ◌∙◌, ◌⊎◌, inl, inr, arith, if◌then◌else◌}
use Rattle.gate_words.proofs.Common.{nat_lt, All, false≢true, leb_tells, length-map, length-replicate, drop_all, All-head, All-tail, All-replicate, Values, digit, number, some_one, GateLit, Fixed}
use Rattle.gate_words.proofs.Common.{Gates, count, IsLit, lit_value, Made, Or, Mux, Way, MadeRow, row_of, chain_of, lit_values, Grows, AddsBits, moved, past_end, shift_from, shift_of}
use Rattle.std.proofs.Math.Nat.{mul-le-mul_left}
use Rattle.gate_words.proofs.Growing.{hold-before, grows-then, grows-most, lit-later, lits-later}
use Rattle.gate_words.proofs.Numbers.{fold-some}
use Rattle.gate_words.proofs.RowLemmas.{row-adds, chain-adds}
use Rattle.gate_words.proofs.Moving.{length-moved, All-moved, map-replicate, map-moved, moved-none, moved-all, moved-twice, both-chosen}

-- the higher bits

abbrev pub PastIs : GateLit → List GateLit → List GateLit → Values → List Bool → Type 0
PastIs fill bits higher values found = found ≡ (if some_one (lit_values values higher) then replicate (length (lit_values values bits)) (lit_value values fill) else lit_values values bits)

pub past-adds : (gates : Gates) (fill : GateLit) (bits higher : List GateLit) → IsLit (count gates) fill → All (IsLit (count gates)) bits → All (IsLit (count gates)) higher → AddsBits gates (past_end gates fill bits higher).gates (past_end gates fill bits higher).bits (length bits) (length higher + length bits) (PastIs fill bits higher)
past-adds gates fill bits higher is lb lh =
    let past : Made = chain_of Or gates (Fixed false) higher in
    let C = chain-adds Or gates (Fixed false) higher tt tt lh in
    let full : List GateLit = replicate (length bits) fill in
    let R = row-adds (Mux past.lit) past.gates bits full C.within (lits-later C.grows bits lb) (All-replicate (IsLit (count past.gates)) (length bits) fill (lit-later C.grows fill is)) (sym (length-replicate (length bits) fill)) in
    record {
      grows = grows-then (length higher + length bits) C.grows R.grows (omega arith);
      within = R.within;
      wide = R.wide;
      is = λ values holds. (
          let is-past : lit_value values past.lit ≡ some_one (lit_values values higher) = C.is values (hold-before R.grows values holds) ∙ fold-some values (lit_values values higher) in
          let is-full : lit_values values full ≡ replicate (length (lit_values values bits)) (lit_value values fill) = map-replicate (lit_value values) (length bits) fill ∙ ap (λ (k : ℕ). replicate k (lit_value values fill)) (sym (length-map bits (lit_value values))) in
          let wide : length (lit_values values bits) ≡ length (lit_values values full) = length-map bits (lit_value values) ∙ sym (length-map full (lit_value values) ∙ length-replicate (length bits) fill) in
          R.is values holds
          ∙ both-chosen (lit_value values past.lit) (lit_values values bits) (lit_values values full) wide
          ∙ ap (λ (b : Bool). if b then lit_values values full else lit_values values bits) is-past
          ∙ ap (λ (l : List Bool). if some_one (lit_values values higher) then l else lit_values values bits) is-full);
    }

number-some : (bits : List Bool) → some_one bits ≡ true → 1 ≤ number bits
number-some [] some = absurd (false≢true some)
number-some (true ∷ more) some = omega arith
number-some (false ∷ more) some = let rest = number-some more some in omega (arith, rest)

number-none : (bits : List Bool) → some_one bits ≡ false → number bits ≡ 0
number-none [] none = refl
number-none (true ∷ more) none = absurd (false≢true (sym none))
number-none (false ∷ more) none = let rest = number-none more none in omega (arith, rest)

-- where the weight is not below the width, the higher bits settle the shift
past-moved : (way : Way) (weight : ℕ) (fill : Bool) (bits higher : List Bool) → length bits ≤ weight → (if some_one higher then replicate (length bits) fill else bits) ≡ moved way (weight * number higher) fill bits
past-moved way weight fill bits higher past = by (some_one higher) refl where
  by : (b : Bool) → some_one higher ≡ b → (if some_one higher then replicate (length bits) fill else bits) ≡ moved way (weight * number higher) fill bits
  by true some =
      let one : weight * 1 ≤ weight * number higher = mul-le-mul_left weight (number-some higher some) in
      rw some (sym (moved-all way (weight * number higher) fill bits (omega (arith, one, past))))
  by false none =
      let zero : weight * number higher ≡ 0 = ap (λ (k : ℕ). weight * k) (number-none higher none) ∙ (omega arith) in
      rw none (sym (ap (λ (k : ℕ). moved way k fill bits) zero ∙ moved-none way fill bits))

none-moved : (way : Way) (weight : ℕ) (fill : Bool) (bits : List Bool) → bits ≡ moved way (weight * 0) fill bits
none-moved way weight fill bits = sym (ap (λ (k : ℕ). moved way k fill bits) (let e : weight * 0 ≡ 0 = omega arith in e) ∙ moved-none way fill bits)

-- one place, and then the others
chosen-moved : (way : Way) (weight n : ℕ) (s fill : Bool) (bits : List Bool) → moved way (2 * weight * n) fill (if s then moved way weight fill bits else bits) ≡ moved way (weight * (digit s + 2 * n)) fill bits
chosen-moved way weight n true fill bits = moved-twice way (2 * weight * n) weight fill bits ∙ ap (λ (k : ℕ). moved way k fill bits) (let e : 2 * weight * n + weight ≡ weight * (1 + 2 * n) = omega arith in e)
chosen-moved way weight n false fill bits = ap (λ (k : ℕ). moved way k fill bits) (let e : 2 * weight * n ≡ weight * (0 + 2 * n) = omega arith in e)

abbrev pub ShiftIs : Way → GateLit → ℕ → List GateLit → List GateLit → Values → List Bool → Type 0
ShiftIs way fill weight bits places values found = found ≡ moved way (weight * number (lit_values values places)) (lit_value values fill) (lit_values values bits)

halved : (w weight k : ℕ) → w ≤ weight * 2 ^ suc k → w ≤ 2 * weight * 2 ^ k
halved w weight k le =
    let p : weight * 2 ^ suc k ≡ weight * (2 ^ k * 2) = ap (λ (x : ℕ). weight * x) (let q : 2 ^ suc k ≡ 2 ^ k * 2 = omega arith in q) in
    let e : weight * (2 ^ k * 2) ≡ 2 * weight * 2 ^ k = omega arith in
    omega (arith, le, p, e)

-- k rows are enough
pub shift-adds : (way : Way) (fill : GateLit) (weight k : ℕ) (gates : Gates) (bits places : List GateLit) → IsLit (count gates) fill → All (IsLit (count gates)) bits → All (IsLit (count gates)) places → length bits ≤ weight * 2 ^ k → AddsBits gates (shift_from way fill weight gates bits places).gates (shift_from way fill weight gates bits places).bits (length bits) (k * length bits + length places + length bits) (ShiftIs way fill weight bits places)
shift-adds way fill weight k gates bits [] is lb lp enough =
    let P = past-adds gates fill bits [] is lb lp in
    record {
      grows = grows-most (k * length bits + 0 + length bits) P.grows (omega arith);
      within = P.within;
      wide = P.wide;
      is = λ values holds. P.is values holds ∙ none-moved way weight (lit_value values fill) (lit_values values bits);
    }
shift-adds way fill weight k gates bits (s ∷ more) is lb lp enough = by (λ j later row there are above fits. shift-adds way fill (2 * weight) j later row more there are above fits) (leb_tells (suc weight) (length bits)) k enough where
  result : ℕ → Type 0
  result k = AddsBits gates (shift_from way fill weight gates bits (s ∷ more)).gates (shift_from way fill weight gates bits (s ∷ more)).bits (length bits) (k * length bits + length (s ∷ more) + length bits) (ShiftIs way fill weight bits (s ∷ more))

  -- the rows of the other bits
  others : Type 0
  others = (k : ℕ) (gates : Gates) (bits : List GateLit) → IsLit (count gates) fill → All (IsLit (count gates)) bits → All (IsLit (count gates)) more → length bits ≤ 2 * weight * 2 ^ k → AddsBits gates (shift_from way fill (2 * weight) gates bits more).gates (shift_from way fill (2 * weight) gates bits more).bits (length bits) (k * length bits + length more + length bits) (ShiftIs way fill (2 * weight) bits more)

  by : others → ((nat_lt weight (length bits) ≡ true) × (weight < length bits)) ⊎ ((nat_lt weight (length bits) ≡ false) × (length bits < suc weight)) → (k : ℕ) → length bits ≤ weight * 2 ^ k → result k
  by again (inl h) zero enough = absurd (let one : weight * 2 ^ 0 ≡ weight = omega arith in omega (arith, h.1, enough, one))
  by again (inl h) (suc k) enough =
      let next : MadeRow = row_of (Mux s) gates bits (moved way weight fill bits) in
      let R = row-adds (Mux s) gates bits (moved way weight fill bits) (All-head (IsLit (count gates)) s more lp) lb (All-moved (IsLit (count gates)) way weight fill bits is lb) (sym (length-moved way weight fill bits)) in
      let wide : length next.bits ≡ length bits = R.wide in
      let last : MadeRow = shift_from way fill (2 * weight) next.gates next.bits more in
      let rest : AddsBits next.gates last.gates last.bits (length next.bits) (k * length next.bits + length more + length next.bits) (ShiftIs way fill (2 * weight) next.bits more) = again k next.gates next.bits (lit-later R.grows fill is) R.within (lits-later R.grows more (All-tail (IsLit (count gates)) s more lp)) (omega (arith, halved (length bits) weight k enough, wide)) in
      let rows : k * length next.bits ≡ k * length bits = ap (λ (n : ℕ). k * n) wide in
      rw h.0 (record {
        grows = grows-then (suc k * length bits + length (s ∷ more) + length bits) R.grows rest.grows (omega (arith, rows, wide));
        within = rest.within;
        wide = rest.wide ∙ wide;
        is = λ values holds. (
            let is-next : lit_values values next.bits ≡ (if lit_value values s then moved way weight (lit_value values fill) (lit_values values bits) else lit_values values bits) =
            R.is values (hold-before rest.grows values holds)
            ∙ both-chosen (lit_value values s) (lit_values values bits) (lit_values values (moved way weight fill bits)) (length-map bits (lit_value values) ∙ sym (length-map (moved way weight fill bits) (lit_value values) ∙ length-moved way weight fill bits))
            ∙ ap (λ (l : List Bool). if lit_value values s then l else lit_values values bits) (map-moved (lit_value values) way weight fill bits) in
            rest.is values holds
            ∙ ap (λ (l : List Bool). moved way (2 * weight * number (lit_values values more)) (lit_value values fill) l) is-next
            ∙ chosen-moved way weight (number (lit_values values more)) (lit_value values s) (lit_value values fill) (lit_values values bits));
      })
  by again (inr h) k enough =
      let P = past-adds gates fill bits (s ∷ more) is lb lp in
      rw h.0 (record {
        grows = grows-most (k * length bits + length (s ∷ more) + length bits) P.grows (omega arith);
        within = P.within;
        wide = P.wide;
        is = λ values holds. P.is values holds ∙ past-moved way weight (lit_value values fill) (lit_values values bits) (lit_values values (s ∷ more)) (omega (arith, length-map bits (lit_value values), h.1));
      })

-- a shift of a row of at most 128 bits
pub shifted-adds : (way : Way) (fill : GateLit) (gates : Gates) (bits places : List GateLit) → IsLit (count gates) fill → All (IsLit (count gates)) bits → All (IsLit (count gates)) places → length bits ≤ 128 → AddsBits gates (shift_of way fill gates bits places).gates (shift_of way fill gates bits places).bits (length bits) (8 * length bits + length places) (λ values found. found ≡ moved way (number (lit_values values places)) (lit_value values fill) (lit_values values bits))
shifted-adds way fill gates bits places is lb lp narrow =
    let S = shift-adds way fill 1 7 gates bits places is lb lp (omega (arith, narrow)) in
    record {
      grows = grows-most (8 * length bits + length places) S.grows (omega arith);
      within = S.within;
      wide = S.wide;
      is = λ values holds. S.is values holds ∙ ap (λ (n : ℕ). moved way n (lit_value values fill) (lit_values values bits)) (let e : 1 * number (lit_values values places) ≡ number (lit_values values places) = omega arith in e);
    }

-- the loop

pub record ShiftAhead (way : Way) (fill : GateLit) (old : Gates) (start places : List GateLit) (place weight : ℕ) (gates : Gates) (bits : List GateLit) : Type 0 where
  pub reached : place ≤ length places
  pub grows : Grows old gates (128 * place)
  pub within : All (IsLit (count gates)) bits
  pub wide : length bits ≡ length start
  pub ahead : shift_of way fill old start places ≡ shift_from way fill weight gates bits (drop place places)

shift-stop : (way : Way) (fill : GateLit) (weight : ℕ) (gates : Gates) (bits places : List GateLit) → length bits ≤ weight → shift_from way fill weight gates bits places ≡ past_end gates fill bits places
shift-stop way fill weight gates bits [] past = refl
shift-stop way fill weight gates bits (s ∷ more) past = elim (leb_tells (suc weight) (length bits)) [
  | inl h ↦ absurd (omega (arith, h.1, past))
  | inr h ↦ rw h.0 refl
]

pub shift-done : (way : Way) (fill : GateLit) (old gates : Gates) (start places : List GateLit) (place weight : ℕ) (bits : List GateLit) → ShiftAhead way fill old start places place weight gates bits → (length places ≤ place) ⊎ (length start ≤ weight) → shift_of way fill old start places ≡ past_end gates fill bits (drop place places)
shift-done way fill old gates start places place weight bits state (inl end) =
    state.ahead
    ∙ ap (λ (l : List GateLit). shift_from way fill weight gates bits l) (drop_all place places end)
    ∙ ap (λ (l : List GateLit). past_end gates fill bits l) (sym (drop_all place places end))
shift-done way fill old gates start places place weight bits state (inr past) = state.ahead ∙ shift-stop way fill weight gates bits (drop place places) (omega (arith, state.wide, past))
