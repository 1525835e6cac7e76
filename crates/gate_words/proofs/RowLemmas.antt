-- Rows and chains: what they add, and how a loop makes them.
use Rattle.gate_words.proofs.Common.{◌≡◌, ℕ, suc, ◌+◌, ◌<◌, ◌≤◌, Bool, List, [], ◌∷◌, ◌++◌, length, drop, get_or, refl, sym, ap, subst, ◌∙◌, append_assoc, arith, drop_more, drop_all, append-nil, All}
use Rattle.gate_words.proofs.Common.{fold, All-nil, All-cons, All-head, All-tail, Values, GateLit, Gates, count, IsLit, lit_value, Adds, Made, adds-and, adds-or, adds-xor, adds-mux, Operation, And}
use Rattle.gate_words.proofs.Common.{Or, Xor, Mux, MadeRow, IsOperation, made_by, row_of, chain_of, lit_values, operation_value, both_bits, Grows, AddsBits, AddsLit}
use Rattle.gate_words.proofs.Growing.{hold-before, grows-none, grows-then, grows-adds, lit-later, lits-later, operation-later}

pub operation-adds : (operation : Operation) (gates : Gates) (a b : GateLit) → IsOperation (count gates) operation → IsLit (count gates) a → IsLit (count gates) b → Adds gates (made_by operation gates a b).gates (made_by operation gates a b).lit (λ values. operation_value operation values (lit_value values a) (lit_value values b))
operation-adds And gates a b is la lb = adds-and gates a b la lb
operation-adds Or gates a b is la lb = adds-or gates a b la lb
operation-adds Xor gates a b is la lb = adds-xor gates a b la lb
operation-adds (Mux s) gates a b is la lb = adds-mux gates s a b is la lb

abbrev pub RowIs : Operation → List GateLit → List GateLit → Values → List Bool → Type 0
RowIs operation xs ys values found = found ≡ both_bits (operation_value operation values) (lit_values values xs) (lit_values values ys)

pub row-adds : (operation : Operation) (gates : Gates) (xs ys : List GateLit) → IsOperation (count gates) operation → All (IsLit (count gates)) xs → All (IsLit (count gates)) ys → length xs ≡ length ys → AddsBits gates (row_of operation gates xs ys).gates (row_of operation gates xs ys).bits (length xs) (length xs) (RowIs operation xs ys)
row-adds operation gates [] ys is la lb len = record { grows = grows-none gates 0; within = All-nil (IsLit (count gates)); wide = refl; is = λ values holds. refl }
row-adds operation gates (a ∷ xs) [] is la lb len = absurd (omega arith)
row-adds operation gates (a ∷ xs) (b ∷ ys) is la lb len =
    let first : Made = made_by operation gates a b in
    let adds = operation-adds operation gates a b is (All-head (IsLit (count gates)) a xs la) (All-head (IsLit (count gates)) b ys lb) in
    let one : Grows gates first.gates 1 = grows-adds adds in
    let more : MadeRow = row_of operation first.gates xs ys in
    let rest : AddsBits first.gates more.gates more.bits (length xs) (length xs) (RowIs operation xs ys) = row-adds operation first.gates xs ys (operation-later one operation is) (lits-later one xs (All-tail (IsLit (count gates)) a xs la)) (lits-later one ys (All-tail (IsLit (count gates)) b ys lb)) (omega arith) in
    record {
      grows = grows-then (suc (length xs)) one rest.grows (omega arith);
      within = All-cons (IsLit (count more.gates)) first.lit more.bits (lit-later rest.grows first.lit adds.within) rest.within;
      wide = ap suc rest.wide;
      is = λ values holds. ap (λ (y : Bool). y ∷ lit_values values more.bits) (adds.is values (hold-before rest.grows values holds)) ∙ ap (λ (found : List Bool). operation_value operation values (lit_value values a) (lit_value values b) ∷ found) (rest.is values holds);
    }

pub chain-adds : (operation : Operation) (gates : Gates) (x : GateLit) (ys : List GateLit) → IsOperation (count gates) operation → IsLit (count gates) x → All (IsLit (count gates)) ys → AddsLit gates (chain_of operation gates x ys).gates (chain_of operation gates x ys).lit (length ys) (λ values. fold (operation_value operation values) (lit_value values x) (lit_values values ys))
chain-adds operation gates x [] is lx lb = record { grows = grows-none gates 0; within = lx; is = λ values holds. refl }
chain-adds operation gates x (b ∷ ys) is lx lb =
    let first : Made = made_by operation gates x b in
    let adds = operation-adds operation gates x b is lx (All-head (IsLit (count gates)) b ys lb) in
    let one : Grows gates first.gates 1 = grows-adds adds in
    let more : Made = chain_of operation first.gates first.lit ys in
    let rest = chain-adds operation first.gates first.lit ys (operation-later one operation is) adds.within (lits-later one ys (All-tail (IsLit (count gates)) b ys lb)) in
    record {
      grows = grows-then (suc (length ys)) one rest.grows (omega arith);
      within = rest.within;
      is = λ values holds. rest.is values holds ∙ ap (λ (y : Bool). fold (operation_value operation values) y (lit_values values ys)) (adds.is values (hold-before rest.grows values holds));
    }

-- loops: what is left to make

abbrev pub prefixed : List GateLit → MadeRow → MadeRow
prefixed bits row = record { gates = row.gates; bits = bits ++ row.bits }

-- after i bits
pub record RowAhead (operation : Operation) (old : Gates) (xs ys : List GateLit) (i : ℕ) (gates : Gates) (bits : List GateLit) : Type 0 where
  pub grows : Grows old gates i
  pub ahead : row_of operation old xs ys ≡ prefixed bits (row_of operation gates (drop i xs) (drop i ys))

pub row-begun : (operation : Operation) (old : Gates) (xs ys bits : List GateLit) → bits ≡ [] → RowAhead operation old xs ys 0 old bits
row-begun operation old xs ys bits none = rw none (record { grows = grows-none old 0; ahead = refl })

pub row-step : (operation : Operation) (old gates new : Gates) (xs ys : List GateLit) (i : ℕ) (x y lit : GateLit) (bits items : List GateLit) → RowAhead operation old xs ys i gates bits → IsOperation (count old) operation → All (IsLit (count old)) xs → All (IsLit (count old)) ys → i < length xs → i < length ys → record { gates = new; lit = lit } ≡ made_by operation gates (get_or xs i x) (get_or ys i y) → items ≡ bits ++ lit ∷ [] → RowAhead operation old xs ys (i + 1) new items
row-step operation old gates new xs ys i x y lit bits items state is lx ly ix iy made pushed =
    let adds = operation-adds operation gates (get_or xs i x) (get_or ys i y) (operation-later state.grows operation is) (lit-later state.grows (get_or xs i x) (lx i x ix)) (lit-later state.grows (get_or ys i y) (ly i y iy)) in
    let one : Grows gates new 1 = subst (λ (m : Made). Grows gates m.gates 1) (sym made) (grows-adds adds) in
    record {
      grows = grows-then (i + 1) state.grows one (omega arith);
      ahead =
          state.ahead
          ∙ ap (λ (zs : List GateLit). prefixed bits (row_of operation gates zs (drop i ys))) (drop_more xs i x ix)
          ∙ ap (λ (zs : List GateLit). prefixed bits (row_of operation gates (get_or xs i x ∷ drop (i + 1) xs) zs)) (drop_more ys i y iy)
          ∙ ap (λ (m : Made). prefixed bits (prefixed (m.lit ∷ []) (row_of operation m.gates (drop (i + 1) xs) (drop (i + 1) ys)))) (sym made)
          ∙ ap (λ (zs : List GateLit). record { gates = (row_of operation new (drop (i + 1) xs) (drop (i + 1) ys)).gates; bits = zs }) (sym (append_assoc bits (lit ∷ []) (row_of operation new (drop (i + 1) xs) (drop (i + 1) ys)).bits) ∙ ap (λ (zs : List GateLit). zs ++ (row_of operation new (drop (i + 1) xs) (drop (i + 1) ys)).bits) (sym pushed));
    }

pub row-done : (operation : Operation) (old gates : Gates) (xs ys : List GateLit) (i : ℕ) (bits : List GateLit) → RowAhead operation old xs ys i gates bits → length xs ≤ i → record { gates = gates; bits = bits } ≡ row_of operation old xs ys
row-done operation old gates xs ys i bits state end =
    sym (state.ahead ∙ ap (λ (zs : List GateLit). prefixed bits (row_of operation gates zs (drop i ys))) (drop_all i xs end) ∙ ap (λ (zs : List GateLit). record { gates = gates; bits = zs }) (append-nil bits))

pub record ChainAhead (operation : Operation) (old : Gates) (start : GateLit) (xs : List GateLit) (i : ℕ) (gates : Gates) (lit : GateLit) : Type 0 where
  pub grows : Grows old gates i
  pub within : IsLit (count gates) lit
  pub ahead : chain_of operation old start xs ≡ chain_of operation gates lit (drop i xs)

pub chain-step : (operation : Operation) (old gates new : Gates) (start : GateLit) (xs : List GateLit) (i : ℕ) (x from lit : GateLit) → ChainAhead operation old start xs i gates from → IsOperation (count old) operation → All (IsLit (count old)) xs → i < length xs → record { gates = new; lit = lit } ≡ made_by operation gates from (get_or xs i x) → ChainAhead operation old start xs (i + 1) new lit
chain-step operation old gates new start xs i x from lit state is lx ix made =
    let adds = operation-adds operation gates from (get_or xs i x) (operation-later state.grows operation is) state.within (lit-later state.grows (get_or xs i x) (lx i x ix)) in
    let one : Grows gates new 1 = subst (λ (m : Made). Grows gates m.gates 1) (sym made) (grows-adds adds) in
    record {
      grows = grows-then (i + 1) state.grows one (omega arith);
      within = subst (λ (m : Made). IsLit (count m.gates) m.lit) (sym made) adds.within;
      ahead = state.ahead ∙ ap (λ (zs : List GateLit). chain_of operation gates from zs) (drop_more xs i x ix) ∙ ap (λ (m : Made). chain_of operation m.gates m.lit (drop (i + 1) xs)) (sym made);
    }

pub chain-done : (operation : Operation) (old gates : Gates) (start : GateLit) (xs : List GateLit) (i : ℕ) (lit : GateLit) → ChainAhead operation old start xs i gates lit → length xs ≤ i → record { gates = gates; lit = lit } ≡ chain_of operation old start xs
chain-done operation old gates start xs i lit state end = sym (state.ahead ∙ ap (λ (zs : List GateLit). chain_of operation gates lit zs) (drop_all i xs end))
