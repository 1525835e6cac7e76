-- Sums and carries: what they add.
use Rattle.gate_words.proofs.Common.{◌≡◌, ℕ, suc, ◌+◌, ◌*◌, ◌^◌, ◌≤◌, Bool, true, false, not, List, [], ◌∷◌, length, refl, ap, ◌∙◌, arith, if◌then◌else◌, All, nat_le, All-nil, All-cons, All-head}
use Rattle.gate_words.proofs.Common.{All-tail, Values, digit, number, GateLit, Gates, count, IsLit, lit_value, Hold, Made, and_of, or_of, xor_of, adds-and, adds-or, adds-xor, MadeRow, lit_values}
use Rattle.gate_words.proofs.Common.{Grows, AddsBits, AddsLit, MadeBit, full_sum, last_sum, carry_of, sum_of, carry_out}
use Rattle.gate_words.proofs.Growing.{hold-before, grows-none, grows-then, grows-most, grows-adds, lit-later, lits-later}
use Rattle.gate_words.proofs.Numbers.{pow-twice, carried}

-- one bit

abbrev pub bit_sum : Bool → Bool → Bool → Bool
bit_sum a b c = if (if a then not b else b) then not c else c

abbrev pub bit_carry : Bool → Bool → Bool → Bool
bit_carry a b c = if (if a then b else false) then true else (if c then (if a then not b else b) else false)

bit-table : (a b c : Bool) → digit (bit_sum a b c) + 2 * digit (bit_carry a b c) ≡ digit a + digit b + digit c
bit-table true true true = refl
bit-table true true false = refl
bit-table true false true = refl
bit-table true false false = refl
bit-table false true true = refl
bit-table false true false = refl
bit-table false false true = refl
bit-table false false false = refl

summed : (a b c apart sum : Bool) → apart ≡ (if a then not b else b) → sum ≡ (if apart then not c else c) → sum ≡ bit_sum a b c
summed a b c apart sum e f = f ∙ ap (λ (x : Bool). if x then not c else c) e

passed-on : (a b c apart both passed carry : Bool) → apart ≡ (if a then not b else b) → both ≡ (if a then b else false) → passed ≡ (if c then apart else false) → carry ≡ (if both then true else passed) → carry ≡ bit_carry a b c
passed-on a b c apart both passed carry e f g h =
    h ∙ ap (λ (x : Bool). if x then true else passed) f ∙ ap (λ (x : Bool). if (if a then b else false) then true else x) (g ∙ ap (λ (x : Bool). if c then x else false) e)

-- a sum and a carry, of three literals
pub record AddsBit (old : Gates) (bit : MadeBit) (a b c : GateLit) : Type 0 where
  pub grows : Grows old bit.gates 5
  pub sum_within : IsLit (count bit.gates) bit.sum
  pub carry_within : IsLit (count bit.gates) bit.carry
  pub is : (values : Values) → Hold bit.gates values → digit (lit_value values bit.sum) + 2 * digit (lit_value values bit.carry) ≡ digit (lit_value values a) + digit (lit_value values b) + digit (lit_value values c)

pub full-adds : (gates : Gates) (a b c : GateLit) → IsLit (count gates) a → IsLit (count gates) b → IsLit (count gates) c → AddsBit gates (full_sum gates a b c) a b c
full-adds gates a b c la lb lc =
    let apart : Made = xor_of gates a b in
    let A = adds-xor gates a b la lb in
    let ga : Grows gates apart.gates 1 = grows-adds A in
    let sum : Made = xor_of apart.gates apart.lit c in
    let S = adds-xor apart.gates apart.lit c A.within (lit-later ga c lc) in
    let gs : Grows apart.gates sum.gates 1 = grows-adds S in
    let gas : Grows gates sum.gates 2 = grows-then 2 ga gs (omega arith) in
    let both : Made = and_of sum.gates a b in
    let B = adds-and sum.gates a b (lit-later gas a la) (lit-later gas b lb) in
    let gb : Grows sum.gates both.gates 1 = grows-adds B in
    let gsb : Grows apart.gates both.gates 2 = grows-then 2 gs gb (omega arith) in
    let gab : Grows gates both.gates 3 = grows-then 3 ga gsb (omega arith) in
    let passed : Made = and_of both.gates c apart.lit in
    let P = adds-and both.gates c apart.lit (lit-later gab c lc) (lit-later gsb apart.lit A.within) in
    let gp : Grows both.gates passed.gates 1 = grows-adds P in
    let carry : Made = or_of passed.gates both.lit passed.lit in
    let C = adds-or passed.gates both.lit passed.lit (lit-later gp both.lit B.within) P.within in
    let gc : Grows passed.gates carry.gates 1 = grows-adds C in
    let gpc : Grows both.gates carry.gates 2 = grows-then 2 gp gc (omega arith) in
    let gbc : Grows sum.gates carry.gates 3 = grows-then 3 gb gpc (omega arith) in
    record {
      grows = grows-then 5 gas gbc (omega arith);
      sum_within = lit-later gbc sum.lit S.within;
      carry_within = C.within;
      is = λ values holds. (
          let hp = hold-before gc values holds in
          let hb = hold-before gp values hp in
          let hs = hold-before gb values hb in
          let ha = hold-before gs values hs in
          let is-sum = summed (lit_value values a) (lit_value values b) (lit_value values c) (lit_value values apart.lit) (lit_value values sum.lit) (A.is values ha) (S.is values hs) in
          let is-carry = passed-on (lit_value values a) (lit_value values b) (lit_value values c) (lit_value values apart.lit) (lit_value values both.lit) (lit_value values passed.lit) (lit_value values carry.lit) (A.is values ha) (B.is values hb) (P.is values hp) (C.is values holds) in
          ap (λ (x : Bool). digit x + 2 * digit (lit_value values carry.lit)) is-sum
          ∙ ap (λ (x : Bool). digit (bit_sum (lit_value values a) (lit_value values b) (lit_value values c)) + 2 * digit x) is-carry
          ∙ bit-table (lit_value values a) (lit_value values b) (lit_value values c));
    }

pub last-adds : (gates : Gates) (a b c : GateLit) → IsLit (count gates) a → IsLit (count gates) b → IsLit (count gates) c → AddsLit gates (last_sum gates a b c).gates (last_sum gates a b c).lit 2 (λ values. bit_sum (lit_value values a) (lit_value values b) (lit_value values c))
last-adds gates a b c la lb lc =
    let apart : Made = xor_of gates a b in
    let A = adds-xor gates a b la lb in
    let ga : Grows gates apart.gates 1 = grows-adds A in
    let sum : Made = xor_of apart.gates apart.lit c in
    let S = adds-xor apart.gates apart.lit c A.within (lit-later ga c lc) in
    let gs : Grows apart.gates sum.gates 1 = grows-adds S in
    record {
      grows = grows-then 2 ga gs (omega arith);
      within = S.within;
      is = λ values holds. summed (lit_value values a) (lit_value values b) (lit_value values c) (lit_value values apart.lit) (lit_value values sum.lit) (A.is values (hold-before gs values holds)) (S.is values holds);
    }

pub carry-adds : (gates : Gates) (a b c : GateLit) → IsLit (count gates) a → IsLit (count gates) b → IsLit (count gates) c → AddsLit gates (carry_of gates a b c).gates (carry_of gates a b c).lit 4 (λ values. bit_carry (lit_value values a) (lit_value values b) (lit_value values c))
carry-adds gates a b c la lb lc =
    let both : Made = and_of gates a b in
    let B = adds-and gates a b la lb in
    let gb : Grows gates both.gates 1 = grows-adds B in
    let apart : Made = xor_of both.gates a b in
    let A = adds-xor both.gates a b (lit-later gb a la) (lit-later gb b lb) in
    let ga : Grows both.gates apart.gates 1 = grows-adds A in
    let gab : Grows gates apart.gates 2 = grows-then 2 gb ga (omega arith) in
    let passed : Made = and_of apart.gates c apart.lit in
    let P = adds-and apart.gates c apart.lit (lit-later gab c lc) A.within in
    let gp : Grows apart.gates passed.gates 1 = grows-adds P in
    let gap : Grows both.gates passed.gates 2 = grows-then 2 ga gp (omega arith) in
    let carry : Made = or_of passed.gates both.lit passed.lit in
    let C = adds-or passed.gates both.lit passed.lit (lit-later gap both.lit B.within) P.within in
    let gc : Grows passed.gates carry.gates 1 = grows-adds C in
    record {
      grows = grows-then 4 gab (grows-then 2 gp gc (omega arith)) (omega arith);
      within = C.within;
      is = λ values holds. (
          let hp = hold-before gc values holds in
          let ha = hold-before gp values hp in
          let hb = hold-before ga values ha in
          passed-on (lit_value values a) (lit_value values b) (lit_value values c) (lit_value values apart.lit) (lit_value values both.lit) (lit_value values passed.lit) (lit_value values carry.lit) (A.is values ha) (B.is values hb) (P.is values hp) (C.is values holds));
    }

-- the steps by which a bit is made

abbrev summed_last : Made → Made → MadeBit
summed_last sum carry = record { gates = carry.gates; sum = sum.lit; carry = carry.lit }

abbrev summed_passed : Made → Made → Made → MadeBit
summed_passed sum both passed = summed_last sum (or_of passed.gates both.lit passed.lit)

abbrev summed_both : GateLit → Made → Made → Made → MadeBit
summed_both c apart sum both = summed_passed sum both (and_of both.gates c apart.lit)

abbrev summed_sum : GateLit → GateLit → GateLit → Made → Made → MadeBit
summed_sum a b c apart sum = summed_both c apart sum (and_of sum.gates a b)

pub full-made : (old : Gates) (a b c : GateLit) (apart sum both passed carry : Made) → apart ≡ xor_of old a b → sum ≡ xor_of apart.gates apart.lit c → both ≡ and_of sum.gates a b → passed ≡ and_of both.gates c apart.lit → carry ≡ or_of passed.gates both.lit passed.lit → summed_last sum carry ≡ full_sum old a b c
full-made old a b c apart sum both passed carry e f g h k =
    ap (λ (m : Made). summed_last sum m) k
    ∙ ap (λ (m : Made). summed_passed sum both m) h
    ∙ ap (λ (m : Made). summed_both c apart sum m) g
    ∙ ap (λ (m : Made). summed_sum a b c apart m) f
    ∙ ap (λ (m : Made). summed_sum a b c m (xor_of m.gates m.lit c)) e

abbrev carried_passed : Made → Made → Made
carried_passed both passed = or_of passed.gates both.lit passed.lit

abbrev carried_apart : GateLit → Made → Made → Made
carried_apart c both apart = carried_passed both (and_of apart.gates c apart.lit)

pub carry-made : (old : Gates) (a b c : GateLit) (both apart passed carry : Made) → both ≡ and_of old a b → apart ≡ xor_of both.gates a b → passed ≡ and_of apart.gates c apart.lit → carry ≡ or_of passed.gates both.lit passed.lit → carry ≡ carry_of old a b c
carry-made old a b c both apart passed carry e f g h =
    h
    ∙ ap (λ (m : Made). carried_passed both m) g
    ∙ ap (λ (m : Made). carried_apart c both m) f
    ∙ ap (λ (m : Made). carried_apart c m (xor_of m.gates a b)) e

-- rows

-- some number of times 2 ^ w more is the sum
abbrev pub SumIs : List GateLit → List GateLit → GateLit → Values → List Bool → Type 0
SumIs xs ys c values found = (r : ℕ) × (number found + 2 ^ length xs * r ≡ number (lit_values values xs) + number (lit_values values ys) + digit (lit_value values c))

pub sum-adds : (gates : Gates) (xs ys : List GateLit) (c : GateLit) → All (IsLit (count gates)) xs → All (IsLit (count gates)) ys → IsLit (count gates) c → length xs ≡ length ys → AddsBits gates (sum_of gates xs ys c).gates (sum_of gates xs ys c).bits (length xs) (5 * length xs) (SumIs xs ys c)
sum-adds gates [] [] c la lb lc len = record { grows = grows-none gates 0; within = All-nil (IsLit (count gates)); wide = refl; is = λ values holds. (digit (lit_value values c), omega arith) }
sum-adds gates [] (b ∷ ys) c la lb lc len = absurd (omega arith)
sum-adds gates (a ∷ xs) [] c la lb lc len = absurd (omega arith)
sum-adds gates (a ∷ []) (b ∷ e ∷ ys) c la lb lc len = absurd (omega arith)
sum-adds gates (a ∷ []) (b ∷ []) c la lb lc len =
    let last : Made = last_sum gates a b c in
    let L = last-adds gates a b c (All-head (IsLit (count gates)) a [] la) (All-head (IsLit (count gates)) b [] lb) lc in
    record {
      grows = grows-most 5 L.grows (omega arith);
      within = All-cons (IsLit (count last.gates)) last.lit [] L.within (All-nil (IsLit (count last.gates)));
      wide = refl;
      is = λ values holds. (
        digit (bit_carry (lit_value values a) (lit_value values b) (lit_value values c)),
        omega (arith, ap digit (L.is values holds), bit-table (lit_value values a) (lit_value values b) (lit_value values c)),
      );
    }
sum-adds gates (a ∷ d ∷ xs) (b ∷ ys) c la lb lc len =
    let bit : MadeBit = full_sum gates a b c in
    let F = full-adds gates a b c (All-head (IsLit (count gates)) a (d ∷ xs) la) (All-head (IsLit (count gates)) b ys lb) lc in
    let more : MadeRow = sum_of bit.gates (d ∷ xs) ys bit.carry in
    let rest : AddsBits bit.gates more.gates more.bits (length (d ∷ xs)) (5 * length (d ∷ xs)) (SumIs (d ∷ xs) ys bit.carry) = sum-adds bit.gates (d ∷ xs) ys bit.carry (lits-later F.grows (d ∷ xs) (All-tail (IsLit (count gates)) a (d ∷ xs) la)) (lits-later F.grows ys (All-tail (IsLit (count gates)) b ys lb)) F.carry_within (omega arith) in
    record {
      grows = grows-then (5 * length (a ∷ d ∷ xs)) F.grows rest.grows (omega arith);
      within = All-cons (IsLit (count more.gates)) bit.sum more.bits (lit-later rest.grows bit.sum F.sum_within) rest.within;
      wide = ap suc rest.wide;
      is = λ values holds. (
        (rest.is values holds).0,
        let twice : 2 ^ length (a ∷ d ∷ xs) * (rest.is values holds).0 ≡ 2 * (2 ^ length (d ∷ xs) * (rest.is values holds).0) = pow-twice (length (d ∷ xs)) (rest.is values holds).0 in
            omega (arith, (rest.is values holds).1, twice, F.is values (hold-before rest.grows values holds)),
      );
    }

pub carry_out-adds : (gates : Gates) (xs ys : List GateLit) (c : GateLit) → All (IsLit (count gates)) xs → All (IsLit (count gates)) ys → IsLit (count gates) c → length xs ≡ length ys → AddsLit gates (carry_out gates xs ys c).gates (carry_out gates xs ys c).lit (4 * length xs) (λ values. nat_le (2 ^ length xs) (number (lit_values values xs) + number (lit_values values ys) + digit (lit_value values c)))
carry_out-adds gates [] [] c la lb lc len = record { grows = grows-none gates 0; within = lc; is = λ values holds. only (lit_value values c) } where
  only : (x : Bool) → x ≡ nat_le 1 (0 + 0 + digit x)
  only true = refl
  only false = refl
carry_out-adds gates [] (b ∷ ys) c la lb lc len = absurd (omega arith)
carry_out-adds gates (a ∷ xs) [] c la lb lc len = absurd (omega arith)
carry_out-adds gates (a ∷ xs) (b ∷ ys) c la lb lc len =
    let next : Made = carry_of gates a b c in
    let N = carry-adds gates a b c (All-head (IsLit (count gates)) a xs la) (All-head (IsLit (count gates)) b ys lb) lc in
    let more : Made = carry_out next.gates xs ys next.lit in
    let rest = carry_out-adds next.gates xs ys next.lit (lits-later N.grows xs (All-tail (IsLit (count gates)) a xs la)) (lits-later N.grows ys (All-tail (IsLit (count gates)) b ys lb)) N.within (omega arith) in
    record {
      grows = grows-then (4 * length (a ∷ xs)) N.grows rest.grows (omega arith);
      within = rest.within;
      is = λ values holds. (
          let before = N.is values (hold-before rest.grows values holds) in
          let table = bit-table (lit_value values a) (lit_value values b) (lit_value values c) in
          rest.is values holds ∙ carried (length xs) (digit (bit_sum (lit_value values a) (lit_value values b) (lit_value values c))) (number (lit_values values xs) + number (lit_values values ys) + digit (lit_value values next.lit)) (number (lit_values values (a ∷ xs)) + number (lit_values values (b ∷ ys)) + digit (lit_value values c)) (small (bit_sum (lit_value values a) (lit_value values b) (lit_value values c))) (omega (arith, ap digit before, table)));
    } where
      small : (x : Bool) → digit x ≤ 1
      small true = omega arith
      small false = omega arith
