-- What cells come to by the numbers at their ports.
use Rattle.cycle_sim.proofs.Common.{◌≡◌, ◌≢◌, ℕ, zero, suc, ◌+◌, ◌/◌, ◌%◌, ◌^◌, ◌<◌, ◌≤◌, Bool, true, false, List, [], ◌∷◌, bit_and, bit_or, not, nat_eq, sym, ◌∙◌, ap, subst, inl, inr, arith, bit_xor}
use Rattle.cycle_sim.proofs.Common.{eqb_tells, CellKind, And, Or, Xor, Add, Eq, Mux, digit, number, low_bits, some_one, HasValue, wrapped, Wires, parts_number, wires_bits}
use Rattle.cycle_sim.proofs.PartNumbers.{pow-next}
use Rattle.cell_meaning.proofs.Digits.{bits-some, bits-zero}

number-low : (w n : ℕ) → n < 2 ^ w → number (low_bits w n) ≡ n
unfolding low_bits
number-low zero n small = omega (arith, small)
number-low (suc w) n small =
    let twice = pow-next w in
    let above : number (low_bits w (n / 2)) ≡ n / 2 = number-low w (n / 2) (omega (arith, small, twice)) in
    elim (eqb_tells (n % 2) 1) [ inl h ↦ rw h.0 (let odd : n % 2 ≡ 1 = h.1 in omega (arith, above, odd)) | inr h ↦ rw h.0 (let even : n % 2 ≢ 1 = h.1 in omega (arith, above, even)) ]

-- the number that was read is that of the bits
pub read-bits : (table : List ℕ) (wires : Wires) (n : ℕ) → n ≡ parts_number table wires.parts → n < 2 ^ wires.width → number (wires_bits table wires) ≡ n
read-bits table wires n is fits = ap (λ (k : ℕ). number (low_bits wires.width k)) (sym is) ∙ number-low wires.width n fits

-- one of the bits is set where the number is not 0
pub set-is : (bits : List Bool) (n : ℕ) → number bits ≡ n → some_one bits ≡ not (nat_eq n 0)
set-is bits n is = elim (eqb_tells n 0) [
  | inl h ↦ rw h.0 (bits-zero bits (is ∙ h.1))
  | inr h ↦ rw h.0 (bits-some bits (λ none. h.1 (sym is ∙ none)))
]

pub first-selected : (s a b : List Bool) (n : ℕ) (signed : Bool) (w : ℕ) → some_one s ≡ false → number a ≡ n → HasValue n Mux signed w (s ∷ a ∷ b ∷ [])
first-selected s a b n signed w none is = rw none (ap (λ (k : ℕ). k % 2 ^ w) (sym is))

pub second-selected : (s a b : List Bool) (n : ℕ) (signed : Bool) (w : ℕ) → some_one s ≡ true → number b ≡ n → HasValue n Mux signed w (s ∷ a ∷ b ∷ [])
second-selected s a b n signed w some is = rw some (ap (λ (k : ℕ). k % 2 ^ w) (sym is))

pub of-kind : (kind known : CellKind) (n : ℕ) (signed : Bool) (w : ℕ) (ports : List (List Bool)) → kind ≡ known → HasValue n known signed w ports → HasValue n kind signed w ports
of-kind kind known n signed w ports is value = subst (λ (k : CellKind). HasValue n k signed w ports) (sym is) value

pub by-and : (a b : List Bool) (m n : ℕ) (signed : Bool) (w : ℕ) → number a ≡ m → number b ≡ n → HasValue (bit_and m n) And signed w (a ∷ b ∷ [])
by-and a b m n signed w x y = λ i. bit_and (sym x i) (sym y i) % 2 ^ w

pub by-or : (a b : List Bool) (m n : ℕ) (signed : Bool) (w : ℕ) → number a ≡ m → number b ≡ n → HasValue (bit_or m n) Or signed w (a ∷ b ∷ [])
by-or a b m n signed w x y = λ i. bit_or (sym x i) (sym y i) % 2 ^ w

pub by-xor : (a b : List Bool) (m n : ℕ) (signed : Bool) (w : ℕ) → number a ≡ m → number b ≡ n → HasValue (bit_xor m n) Xor signed w (a ∷ b ∷ [])
by-xor a b m n signed w x y = λ i. bit_xor (sym x i) (sym y i) % 2 ^ w

pub by-add : (a b : List Bool) (m n : ℕ) (signed : Bool) (w : ℕ) → number a ≡ m → number b ≡ n → w ≤ 128 → HasValue ((m + n) % 2 ^ 128) Add signed w (a ∷ b ∷ [])
by-add a b m n signed w x y narrow = wrapped ((m + n) % 2 ^ 128) (number a + number b) w narrow (λ i. (sym x i + sym y i) % 2 ^ 128)

pub by-eq : (a b : List Bool) (m n : ℕ) (signed : Bool) (w : ℕ) → number a ≡ m → number b ≡ n → (v : ℕ) → v ≡ digit (nat_eq m n) → HasValue v Eq signed w (a ∷ b ∷ [])
by-eq a b m n signed w x y v is = ap (λ (k : ℕ). k % 2 ^ w) is ∙ (λ i. digit (nat_eq (sym x i) (sym y i)) % 2 ^ w)
