-- What sums, orders and equality add, and how loops make them.
use Rattle.gate_words.proofs.Common.{◌≡◌, ℕ, suc, ◌+◌, ◌-◌, ◌*◌, ◌%◌, ◌^◌, ◌<◌, Bool, true, false, not, List, [], ◌∷◌, ◌++◌, length, map, drop, get_or, refl, sym, ap, subst, ◌∙◌, append_assoc, arith}
use Rattle.gate_words.proofs.Common.{nat_le, nat_lt, nat_eq, All, drop_more, drop_all, length-map, length-drop, append-nil, All-nil, All-cons, All-head, All-tail, All-map, All-weaker, Values, digit}
use Rattle.gate_words.proofs.Common.{number, all_ones, is_less, GateLit, Fixed, Gates, count, IsLit, lit_value, Made, negated, lit-negated, value-negated, And, Xor, MadeRow, row_of, lit_values, Grows}
use Rattle.gate_words.proofs.Common.{AddsBits, AddsLit, MadeBit, full_sum, last_sum, carry_of, sum_of, difference_of, carry_out, top_negated, ordered, less_of, equal_of, number-fits}
use Rattle.gate_words.proofs.Growing.{hold-before, grows-then, grows-most, lit-later}
use Rattle.gate_words.proofs.Numbers.{number-not, mod-from, less-carries, top_turned, signed-turned, alike-equal, fold-all}
use Rattle.gate_words.proofs.RowLemmas.{prefixed, row-adds, chain-adds}
use Rattle.gate_words.proofs.SumLemmas.{full-adds, carry-adds, sum-adds, carry_out-adds}

-- negated rows

pub lits-negated : (most : ℕ) (bits : List GateLit) → All (IsLit most) bits → All (IsLit most) (map negated bits)
lits-negated most bits are = All-map (IsLit most) negated bits (All-weaker (IsLit most) (λ x. IsLit most (negated x)) (λ x is. lit-negated most x is) bits are)

pub values-negated : (most : ℕ) (values : Values) (bits : List GateLit) → All (IsLit most) bits → lit_values values (map negated bits) ≡ map not (lit_values values bits)
values-negated most values [] are = refl
values-negated most values (b ∷ more) are =
    ap (λ (x : Bool). x ∷ lit_values values (map negated more)) (value-negated most values b (All-head (IsLit most) b more are))
    ∙ ap (λ (l : List Bool). not (lit_value values b) ∷ l) (values-negated most values more (All-tail (IsLit most) b more are))

pub adds-negated : {old new : Gates} {lit : GateLit} {most : ℕ} {f : Values → Bool} → AddsLit old new lit most f → AddsLit old new (negated lit) most (λ values. not (f values))
adds-negated {new = new} {lit = lit} adds = record {
  grows = adds.grows;
  within = lit-negated (count new) lit adds.within;
  is = λ values holds. value-negated (count new) values lit adds.within ∙ ap not (adds.is values holds);
}

-- sums

abbrev pub NumberIs : ℕ → (Values → ℕ) → Values → List Bool → Type 0
NumberIs width f values found = number found ≡ f values % 2 ^ width

pub sum-number : (gates : Gates) (xs ys : List GateLit) (c : GateLit) → All (IsLit (count gates)) xs → All (IsLit (count gates)) ys → IsLit (count gates) c → length xs ≡ length ys → AddsBits gates (sum_of gates xs ys c).gates (sum_of gates xs ys c).bits (length xs) (5 * length xs) (NumberIs (length xs) (λ values. number (lit_values values xs) + number (lit_values values ys) + digit (lit_value values c)))
sum-number gates xs ys c lx ly lc len =
    let S = sum-adds gates xs ys c lx ly lc len in
    record {
      grows = S.grows;
      within = S.within;
      wide = S.wide;
      is = λ values holds. (
          let made : MadeRow = sum_of gates xs ys c in
          let wide : length (lit_values values made.bits) ≡ length xs = length-map made.bits (lit_value values) ∙ S.wide in
          mod-from (number (lit_values values made.bits)) (number (lit_values values xs) + number (lit_values values ys) + digit (lit_value values c)) (2 ^ length xs) (S.is values holds).0 (subst (λ (k : ℕ). number (lit_values values made.bits) < 2 ^ k) wide (number-fits (lit_values values made.bits))) (S.is values holds).1);
    }

pub difference-number : (gates : Gates) (xs ys : List GateLit) → All (IsLit (count gates)) xs → All (IsLit (count gates)) ys → length xs ≡ length ys → AddsBits gates (difference_of gates xs ys).gates (difference_of gates xs ys).bits (length xs) (5 * length xs) (NumberIs (length xs) (λ values. 2 ^ length xs + number (lit_values values xs) - number (lit_values values ys)))
difference-number gates xs ys lx ly len =
    let S = sum-number gates xs (map negated ys) (Fixed true) lx (lits-negated (count gates) ys ly) tt (len ∙ sym (length-map ys negated)) in
    record {
      grows = S.grows;
      within = S.within;
      wide = S.wide;
      is = λ values holds. S.is values holds ∙ ap (λ (x : ℕ). x % 2 ^ length xs) (turned values);
    } where
      turned : (values : Values) → number (lit_values values xs) + number (lit_values values (map negated ys)) + digit true ≡ 2 ^ length xs + number (lit_values values xs) - number (lit_values values ys)
      turned values =
          let flipped : number (lit_values values (map negated ys)) ≡ number (map not (lit_values values ys)) = ap number (values-negated (count gates) values ys ly) in
          let sum : number (map not (lit_values values ys)) + number (lit_values values ys) + 1 ≡ 2 ^ length xs = number-not (lit_values values ys) ∙ ap (λ (k : ℕ). 2 ^ k) (length-map ys (lit_value values) ∙ sym len) in
          omega (arith, flipped, sum)

-- orders

values-turned : (most : ℕ) (values : Values) (bits : List GateLit) → All (IsLit most) bits → lit_values values (top_negated bits) ≡ top_turned (lit_values values bits)
values-turned most values [] are = refl
values-turned most values (b ∷ []) are = ap (λ (x : Bool). x ∷ []) (value-negated most values b (All-head (IsLit most) b [] are))
values-turned most values (b ∷ c ∷ more) are = ap (λ (l : List Bool). lit_value values b ∷ l) (values-turned most values (c ∷ more) (All-tail (IsLit most) b (c ∷ more) are))

length-top : (bits : List GateLit) → length (top_negated bits) ≡ length bits
length-top [] = refl
length-top (b ∷ []) = refl
length-top (b ∷ c ∷ more) = ap suc (length-top (c ∷ more))

lits-top : (most : ℕ) (bits : List GateLit) → All (IsLit most) bits → All (IsLit most) (top_negated bits)
lits-top most [] are = are
lits-top most (b ∷ []) are = All-cons (IsLit most) (negated b) [] (lit-negated most b (All-head (IsLit most) b [] are)) (All-nil (IsLit most))
lits-top most (b ∷ c ∷ more) are = All-cons (IsLit most) b (top_negated (c ∷ more)) (All-head (IsLit most) b (c ∷ more) are) (lits-top most (c ∷ more) (All-tail (IsLit most) b (c ∷ more) are))

pub length-ordered : (signed : Bool) (bits : List GateLit) → length (ordered signed bits) ≡ length bits
length-ordered false bits = refl
length-ordered true bits = length-top bits

pub lits-ordered : (most : ℕ) (signed : Bool) (bits : List GateLit) → All (IsLit most) bits → All (IsLit most) (ordered signed bits)
lits-ordered most false bits are = are
lits-ordered most true bits are = lits-top most bits are

-- a row whose top bit is last
pub top-pushed : (rest : List GateLit) (top : GateLit) → top_negated (rest ++ top ∷ []) ≡ rest ++ negated top ∷ []
top-pushed [] top = refl
top-pushed (b ∷ []) top = refl
top-pushed (b ∷ c ∷ rest) top = ap (λ (l : List GateLit). b ∷ l) (top-pushed (c ∷ rest) top)

-- an empty row has no top bit
pub top-empty : (bits rest : List GateLit) → bits ≡ rest ++ [] → length bits ≡ 0 → rest ≡ top_negated bits
top-empty [] rest e none = sym (append-nil rest) ∙ sym e
top-empty (b ∷ more) rest e none = absurd (omega arith)

less-numbers : (most : ℕ) (signed : Bool) (values : Values) (xs ys : List GateLit) → All (IsLit most) xs → All (IsLit most) ys → length xs ≡ length ys → nat_lt (number (lit_values values (ordered signed xs))) (number (lit_values values (ordered signed ys))) ≡ is_less signed (lit_values values xs) (lit_values values ys)
less-numbers most false values xs ys lx ly len = refl
less-numbers most true values xs ys lx ly len =
    ap (λ (l : List Bool). nat_lt (number l) (number (lit_values values (top_negated ys)))) (values-turned most values xs lx)
    ∙ ap (λ (l : List Bool). nat_lt (number (top_turned (lit_values values xs))) (number l)) (values-turned most values ys ly)
    ∙ sym (signed-turned (lit_values values xs) (lit_values values ys) (length-map xs (lit_value values) ∙ len ∙ sym (length-map ys (lit_value values))))

-- the carry of an order
pub less-carry : (signed : Bool) (gates : Gates) (xs ys : List GateLit) → All (IsLit (count gates)) xs → All (IsLit (count gates)) ys → length xs ≡ length ys → AddsLit gates (carry_out gates (ordered signed xs) (map negated (ordered signed ys)) (Fixed true)).gates (carry_out gates (ordered signed xs) (map negated (ordered signed ys)) (Fixed true)).lit (4 * length (ordered signed xs)) (λ values. nat_le (2 ^ length (ordered signed xs)) (number (lit_values values (ordered signed xs)) + number (lit_values values (map negated (ordered signed ys))) + digit true))
less-carry signed gates xs ys lx ly len =
    carry_out-adds gates (ordered signed xs) (map negated (ordered signed ys)) (Fixed true) (lits-ordered (count gates) signed xs lx) (lits-negated (count gates) (ordered signed ys) (lits-ordered (count gates) signed ys ly)) tt
    (length-ordered signed xs ∙ len ∙ sym (length-ordered signed ys) ∙ sym (length-map (ordered signed ys) negated))

pub less-adds : (signed : Bool) (gates : Gates) (xs ys : List GateLit) → All (IsLit (count gates)) xs → All (IsLit (count gates)) ys → length xs ≡ length ys → AddsLit gates (less_of signed gates xs ys).gates (less_of signed gates xs ys).lit (4 * length xs) (λ values. is_less signed (lit_values values xs) (lit_values values ys))
less-adds signed gates xs ys lx ly len =
    let most : ℕ = count gates in
    let first : List GateLit = ordered signed xs in
    let second : List GateLit = ordered signed ys in
    let wide : length first ≡ length second = length-ordered signed xs ∙ len ∙ sym (length-ordered signed ys) in
    let C = adds-negated (less-carry signed gates xs ys lx ly len) in
    record {
      grows = grows-most (4 * length xs) C.grows (omega (arith, length-ordered signed xs));
      within = C.within;
      is = λ values holds. (
          let flipped : lit_values values (map negated second) ≡ map not (lit_values values second) = values-negated most values second (lits-ordered most signed ys ly) in
          let long : length (lit_values values first) ≡ length first = length-map first (lit_value values) in
          let same : length (lit_values values first) ≡ length (lit_values values second) = long ∙ wide ∙ sym (length-map second (lit_value values)) in
          C.is values holds
          ∙ ap (λ (l : List Bool). not (nat_le (2 ^ length first) (number (lit_values values first) + number l + 1))) flipped
          ∙ ap (λ (k : ℕ). not (nat_le (2 ^ k) (number (lit_values values first) + number (map not (lit_values values second)) + 1))) (sym long)
          ∙ less-carries (lit_values values first) (lit_values values second) same
          ∙ less-numbers most signed values xs ys lx ly len);
    }

-- equality

pub equal-adds : (gates : Gates) (xs ys : List GateLit) → All (IsLit (count gates)) xs → All (IsLit (count gates)) ys → length xs ≡ length ys → AddsLit gates (equal_of gates xs ys).gates (equal_of gates xs ys).lit (2 * length xs) (λ values. nat_eq (number (lit_values values xs)) (number (lit_values values ys)))
equal-adds gates xs ys lx ly len =
    let apart : MadeRow = row_of Xor gates xs ys in
    let R = row-adds Xor gates xs ys tt lx ly len in
    let most : ℕ = count apart.gates in
    let alike : List GateLit = map negated apart.bits in
    let E = chain-adds And apart.gates (Fixed true) alike tt tt (lits-negated most apart.bits R.within) in
    record {
      grows = grows-then (2 * length xs) R.grows E.grows (omega (arith, length-map apart.bits negated, R.wide));
      within = E.within;
      is = λ values holds. (
          E.is values holds
          ∙ fold-all values (lit_values values alike)
          ∙ ap all_ones (values-negated most values apart.bits R.within ∙ ap (λ (l : List Bool). map not l) (R.is values (hold-before E.grows values holds)))
          ∙ alike-equal values (lit_values values xs) (lit_values values ys) (length-map xs (lit_value values) ∙ len ∙ sym (length-map ys (lit_value values))));
    }

-- loops

pub record SumAhead (old : Gates) (xs ys : List GateLit) (from : GateLit) (i : ℕ) (gates : Gates) (bits : List GateLit) (carry : GateLit) : Type 0 where
  pub grows : Grows old gates (5 * i)
  pub within : IsLit (count gates) carry
  pub ahead : sum_of old xs ys from ≡ prefixed bits (sum_of gates (drop i xs) (drop i ys) carry)

sum-next : (gates : Gates) (a b c : GateLit) (xs ys : List GateLit) → 0 < length xs → sum_of gates (a ∷ xs) (b ∷ ys) c ≡ prefixed ((full_sum gates a b c).sum ∷ []) (sum_of (full_sum gates a b c).gates xs ys (full_sum gates a b c).carry)
sum-next gates a b c [] ys some = absurd (omega arith)
sum-next gates a b c (d ∷ xs) ys some = refl

pub sum-step : (old gates new : Gates) (xs ys : List GateLit) (from : GateLit) (i : ℕ) (x y carry sum next : GateLit) (bits items : List GateLit) → SumAhead old xs ys from i gates bits carry → All (IsLit (count old)) xs → All (IsLit (count old)) ys → i + 1 < length xs → i < length ys → record { gates = new; sum = sum; carry = next } ≡ full_sum gates (get_or xs i x) (get_or ys i y) carry → items ≡ bits ++ sum ∷ [] → SumAhead old xs ys from (i + 1) new items next
sum-step old gates new xs ys from i x y carry sum next bits items state lx ly ix iy made pushed =
    let here : i < length xs = omega arith in
    let a : GateLit = get_or xs i x in
    let b : GateLit = get_or ys i y in
    let F = full-adds gates a b carry (lit-later state.grows a (lx i x here)) (lit-later state.grows b (ly i y iy)) state.within in
    let one : Grows gates new 5 = subst (λ (m : MadeBit). Grows gates m.gates 5) (sym made) F.grows in
    let left : 0 < length (drop (i + 1) xs) = omega (arith, length-drop (i + 1) xs) in
    let rest : MadeRow = sum_of new (drop (i + 1) xs) (drop (i + 1) ys) next in
    record {
      grows = grows-then (5 * (i + 1)) state.grows one (omega arith);
      within = subst (λ (m : MadeBit). IsLit (count m.gates) m.carry) (sym made) F.carry_within;
      ahead =
          state.ahead
          ∙ ap (λ (zs : List GateLit). prefixed bits (sum_of gates zs (drop i ys) carry)) (drop_more xs i x here)
          ∙ ap (λ (zs : List GateLit). prefixed bits (sum_of gates (a ∷ drop (i + 1) xs) zs carry)) (drop_more ys i y iy)
          ∙ ap (λ (m : MadeRow). prefixed bits m) (sum-next gates a b carry (drop (i + 1) xs) (drop (i + 1) ys) left)
          ∙ ap (λ (m : MadeBit). prefixed bits (prefixed (m.sum ∷ []) (sum_of m.gates (drop (i + 1) xs) (drop (i + 1) ys) m.carry))) (sym made)
          ∙ ap (λ (zs : List GateLit). record { gates = rest.gates; bits = zs }) (sym (append_assoc bits (sum ∷ []) rest.bits) ∙ ap (λ (zs : List GateLit). zs ++ rest.bits) (sym pushed));
    }

pub sum-done : (old gates new : Gates) (xs ys : List GateLit) (from : GateLit) (i : ℕ) (x y carry sum : GateLit) (bits items : List GateLit) → SumAhead old xs ys from i gates bits carry → i + 1 ≡ length xs → i < length ys → record { gates = new; lit = sum } ≡ last_sum gates (get_or xs i x) (get_or ys i y) carry → items ≡ bits ++ sum ∷ [] → record { gates = new; bits = items } ≡ sum_of old xs ys from
sum-done old gates new xs ys from i x y carry sum bits items state end iy made pushed =
    let here : i < length xs = omega arith in
    let a : GateLit = get_or xs i x in
    let b : GateLit = get_or ys i y in
    sym (
    state.ahead
    ∙ ap (λ (zs : List GateLit). prefixed bits (sum_of gates zs (drop i ys) carry)) (drop_more xs i x here ∙ ap (λ (zs : List GateLit). a ∷ zs) (drop_all (i + 1) xs (omega arith)))
    ∙ ap (λ (zs : List GateLit). prefixed bits (sum_of gates (a ∷ []) zs carry)) (drop_more ys i y iy)
    ∙ ap (λ (m : Made). record { gates = m.gates; bits = bits ++ m.lit ∷ [] }) (sym made)
    ∙ ap (λ (zs : List GateLit). record { gates = new; bits = zs }) (sym pushed))

pub record CarryAhead (old : Gates) (xs ys : List GateLit) (from : GateLit) (i : ℕ) (gates : Gates) (carry : GateLit) : Type 0 where
  pub grows : Grows old gates (4 * i)
  pub within : IsLit (count gates) carry
  pub ahead : carry_out old xs ys from ≡ carry_out gates (drop i xs) (drop i ys) carry

pub carry-step : (old gates new : Gates) (xs ys : List GateLit) (from : GateLit) (i : ℕ) (x y carry next : GateLit) → CarryAhead old xs ys from i gates carry → All (IsLit (count old)) xs → All (IsLit (count old)) ys → i < length xs → i < length ys → record { gates = new; lit = next } ≡ carry_of gates (get_or xs i x) (get_or ys i y) carry → CarryAhead old xs ys from (i + 1) new next
carry-step old gates new xs ys from i x y carry next state lx ly ix iy made =
    let a : GateLit = get_or xs i x in
    let b : GateLit = get_or ys i y in
    let N = carry-adds gates a b carry (lit-later state.grows a (lx i x ix)) (lit-later state.grows b (ly i y iy)) state.within in
    let one : Grows gates new 4 = subst (λ (m : Made). Grows gates m.gates 4) (sym made) N.grows in
    record {
      grows = grows-then (4 * (i + 1)) state.grows one (omega arith);
      within = subst (λ (m : Made). IsLit (count m.gates) m.lit) (sym made) N.within;
      ahead =
          state.ahead
          ∙ ap (λ (zs : List GateLit). carry_out gates zs (drop i ys) carry) (drop_more xs i x ix)
          ∙ ap (λ (zs : List GateLit). carry_out gates (a ∷ drop (i + 1) xs) zs carry) (drop_more ys i y iy)
          ∙ ap (λ (m : Made). carry_out m.gates (drop (i + 1) xs) (drop (i + 1) ys) m.lit) (sym made);
    }
