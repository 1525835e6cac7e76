-- Computing the cells in their order solves the equations of a cycle, and nothing else does.
use Rattle.netlist_core.proofs.Common.{◌≡◌, ◌≢◌, ℕ, zero, suc, ◌+◌, ◌*◌, ◌/◌, ◌%◌, ◌^◌, ◌<◌, ◌≤◌, Bool, true, false, List, [], ◌∷◌, length, nat_eq, refl, sym, ◌∙◌, ap, subst, inl, inr, arith}
use Rattle.netlist_core.proofs.Common.{eqb_tells, cases_lt, Bit, Fixed, Net, RawNetlist, digit, number, Nets, values, Sight, plain, ports_seen, port_numbers, times, times_at, AllNets, AllPortsNets}
use Rattle.netlist_core.proofs.Common.{with_net, laid, laid_all}
use Rattle.std.proofs.lemmas.Nat.{mod-pow-add}
use Rattle.std.proofs.Math.Nat.{mod-eq_of_lt}
use Rattle.netlist_core.specs.Runs.{Port}
use Rattle.netlist_core.specs.Solutions.{FitPorts, StandTogether, IsCausal}
use Rattle.netlist_core.proofs.Counting.{one_at-same, one_at-cases}

-- Values at bits.

-- two values for all nets are the same at these bits
abbrev pub AgreeAt : List Bit → Nets → Nets → Type 0
AgreeAt bits a b = (n : ℕ) → 1 ≤ times n bits → a n ≡ b n

pub values-agree : (a b : Nets) (bits : List Bit) → AgreeAt bits a b → values a bits ≡ values b bits
values-agree a b [] h = refl
values-agree a b (Fixed v ∷ more) h = ap (λ (t : List Bool). v ∷ t) (values-agree a b more h)
values-agree a b (Net n ∷ more) h =
    let head : a n ≡ b n = h n (omega (arith, one_at-same n)) in
    let tail : values a more ≡ values b more = values-agree a b more (λ m t. h m (omega (arith, t))) in
    cc

pub agree-values : (a b : Nets) (bits : List Bit) → values a bits ≡ values b bits → AgreeAt bits a b
agree-values a b [] e n h = absurd (omega (arith, h))
agree-values a b (Fixed v ∷ more) e n h = agree-values a b more (cc) n h
agree-values a b (Net m ∷ more) e n h = elim (one_at-cases m n) [
  | inl same ↦ (let head : a m ≡ b m = cc in subst (λ (k : ℕ). a k ≡ b k) same.0 head)
  | inr other ↦ agree-values a b more (cc) n (omega (arith, h, other.1))
]

pub number-injective : (xs ys : List Bool) → length xs ≡ length ys → number xs ≡ number ys → xs ≡ ys
number-injective [] [] l e = refl
number-injective [] (b ∷ ys) l e = absurd (omega arith)
number-injective (a ∷ xs) [] l e = absurd (omega arith)
number-injective (true ∷ xs) (true ∷ ys) l e = ap (λ (t : List Bool). true ∷ t) (number-injective xs ys (omega arith) (omega arith))
number-injective (false ∷ xs) (false ∷ ys) l e = ap (λ (t : List Bool). false ∷ t) (number-injective xs ys (omega arith) (omega arith))
number-injective (true ∷ xs) (false ∷ ys) l e = absurd (omega arith)
number-injective (false ∷ xs) (true ∷ ys) l e = absurd (omega arith)

pub length-values : (nets : Nets) (bits : List Bit) → length (values nets bits) ≡ length bits
length-values nets [] = refl
length-values nets (b ∷ more) = ap suc (length-values nets more)

pub fits-at : (bits : List Bool) (k : ℕ) → length bits ≡ k → number bits < 2 ^ k
fits-at [] zero e = omega arith
fits-at [] (suc k) e = absurd (omega arith)
fits-at (b ∷ more) zero e = absurd (omega arith)
fits-at (true ∷ more) (suc k) e = let rest = fits-at more k (omega arith) in omega (arith, rest)
fits-at (false ∷ more) (suc k) e = let rest = fits-at more k (omega arith) in omega (arith, rest)

pub number-fits : (bits : List Bool) → number bits < 2 ^ length bits
number-fits bits = fits-at bits (length bits) refl

-- equal numbers at bits are equal values
pub agree-numbers : (a b : Nets) (bits : List Bit) → number (values a bits) ≡ number (values b bits) → AgreeAt bits a b
agree-numbers a b bits e = agree-values a b bits (number-injective (values a bits) (values b bits) (length-values a bits ∙ sym (length-values b bits)) e)

pub agree-ports : (a b : Nets) (ports : List (List Bit)) → port_numbers a ports ≡ port_numbers b ports → (n : ℕ) → 1 ≤ times_at n ports → a n ≡ b n
agree-ports a b [] e n h = absurd (omega (arith, h))
agree-ports a b (bits ∷ more) e n h =
    let head : number (values a bits) ≡ number (values b bits) = cc in
    let tail : port_numbers a more ≡ port_numbers b more = cc in
    elim (cases_lt 0 (times n bits)) [
      | inl some ↦ agree-numbers a b bits head n (omega (arith, some))
      | inr none ↦ agree-ports a b more tail n (omega (arith, h, none))
    ]

pub ports-agree : (a b : Nets) (ports : List (List Bit)) → ((n : ℕ) → 1 ≤ times_at n ports → a n ≡ b n) → port_numbers a ports ≡ port_numbers b ports
ports-agree a b [] h = refl
ports-agree a b (bits ∷ more) h =
    let head : values a bits ≡ values b bits = values-agree a b bits (λ n t. h n (omega (arith, t))) in
    let tail : port_numbers a more ≡ port_numbers b more = ports-agree a b more (λ n t. h n (omega (arith, t))) in
    rw (head, tail) refl

-- What readers see.

pub plain-causal : (netlist : RawNetlist) → IsCausal netlist plain
plain-causal netlist = record { wide = λ nets reader bits. length-values nets bits; alike = λ a b reader bits h. values-agree a b bits (λ n t. h n n t (inl refl)) }

pub seen-agree : (netlist : RawNetlist) (sight : Nets → Sight) → IsCausal netlist sight → (a b : Nets) (c p : ℕ) (ports : List (List Bit)) → ((n m : ℕ) → 1 ≤ times_at n ports → StandTogether netlist n m → a m ≡ b m) → ports_seen (sight a) c p ports ≡ ports_seen (sight b) c p ports
seen-agree netlist sight causal a b c p [] h = refl
seen-agree netlist sight causal a b c p (bits ∷ more) h =
    let head : sight a (Port c p) bits ≡ sight b (Port c p) bits = causal.alike a b (Port c p) bits (λ n m t. h n m (omega (arith, t))) in
    let tail : ports_seen (sight a) c (p + 1) more ≡ ports_seen (sight b) c (p + 1) more = seen-agree netlist sight causal a b c (p + 1) more (λ n m t. h n m (omega (arith, t))) in
    rw (head, tail) refl

-- Laying numbers.

pub with_net-same : (nets : Nets) (n : ℕ) (b : Bool) → with_net nets n b n ≡ b
with_net-same nets n b = elim (eqb_tells n n) [ inl h ↦ rw h.0 refl | inr h ↦ absurd (h.1 refl) ]

pub with_net-other : (nets : Nets) (n m : ℕ) (b : Bool) → m ≢ n → with_net nets n b m ≡ nets m
with_net-other nets n m b other = elim (eqb_tells m n) [ inl h ↦ absurd (other h.1) | inr h ↦ rw h.0 refl ]

pub laid-other : (nets : Nets) (bits : List Bit) (v n : ℕ) → times n bits ≡ 0 → laid nets bits v n ≡ nets n
laid-other nets [] v n none = refl
laid-other nets (Fixed b ∷ more) v n none = laid-other nets more (v / 2) n none
laid-other nets (Net m ∷ more) v n none = elim (one_at-cases m n) [
  | inl same ↦ absurd (omega (arith, none, same.1))
  | inr other ↦ laid-other (with_net nets m (nat_eq (v % 2) 1)) more (v / 2) n (omega (arith, none)) ∙ with_net-other nets m n (nat_eq (v % 2) 1) (λ e. other.0 (sym e))
]

-- the low bits of a number are its parity, and the low bits of its half
pub digit-low : (v k : ℕ) → digit (nat_eq (v % 2) 1) + 2 * (v / 2 % 2 ^ k) ≡ v % 2 ^ suc k
digit-low v k =
    let parts : v % 2 ^ (k + 1) ≡ (v / 2 ^ 1 % 2 ^ k) * 2 ^ 1 + v % 2 ^ 1 = mod-pow-add v k 1 in
    let same : k + 1 ≡ suc k = omega arith in
    let whole : v % 2 ^ suc k ≡ (v / 2 ^ 1 % 2 ^ k) * 2 ^ 1 + v % 2 ^ 1 = rw same at parts in
    elim (eqb_tells (v % 2) 1) [ inl h ↦ rw h.0 (let odd : v % 2 ≡ 1 = h.1 in omega (arith, whole)) | inr h ↦ rw h.0 (let even : v % 2 ≢ 1 = h.1 in omega (arith, whole)) ]

-- nets that stand once take a number's low bits
pub laid-number : (nets : Nets) (bits : List Bit) (v : ℕ) → AllNets bits → ((n : ℕ) → times n bits ≤ 1) → number (values (laid nets bits v) bits) ≡ v % 2 ^ length bits
laid-number nets [] v all once = omega arith
laid-number nets (Fixed b ∷ more) v all once = absurd all
laid-number nets (Net m ∷ more) v all once =
    let start : Nets = with_net nets m (nat_eq (v % 2) 1) in
    let gone : times m more ≡ 0 = (let one = once m in omega (arith, one, one_at-same m)) in
    let kept : laid start more (v / 2) m ≡ nat_eq (v % 2) 1 = laid-other start more (v / 2) m gone ∙ with_net-same nets m (nat_eq (v % 2) 1) in
    let rest : number (values (laid start more (v / 2)) more) ≡ v / 2 % 2 ^ length more = laid-number start more (v / 2) all (λ n. let one = once n in omega (arith, one)) in
    rw (kept, rest) (digit-low v (length more))

pub laid_all-other : (nets : Nets) (ports : List (List Bit)) (vs : List ℕ) (n : ℕ) → times_at n ports ≡ 0 → laid_all nets ports vs n ≡ nets n
laid_all-other nets [] vs n none = refl
laid_all-other nets (bits ∷ more) [] n none = refl
laid_all-other nets (bits ∷ more) (v ∷ vs) n none =
    laid_all-other (laid nets bits v) more vs n (omega (arith, none)) ∙ laid-other nets bits v n (omega (arith, none))

pub laid_all-numbers : (nets : Nets) (ports : List (List Bit)) (vs : List ℕ) → AllPortsNets ports → ((n : ℕ) → times_at n ports ≤ 1) → FitPorts ports vs → port_numbers (laid_all nets ports vs) ports ≡ vs
laid_all-numbers nets [] [] all once fit = refl
laid_all-numbers nets [] (v ∷ vs) all once fit = absurd fit
laid_all-numbers nets (bits ∷ more) [] all once fit = absurd fit
laid_all-numbers nets (bits ∷ more) (v ∷ vs) all once fit =
    let start : Nets = laid nets bits v in
    let same : values (laid_all start more vs) bits ≡ values start bits = values-agree (laid_all start more vs) start bits (λ n t. laid_all-other start more vs n (let one = once n in omega (arith, one, t))) in
    let head : number (values (laid_all start more vs) bits) ≡ v = ap number same ∙ laid-number nets bits v all.0 (λ n. let one = once n in omega (arith, one)) ∙ mod-eq_of_lt fit.0 in
    let tail : port_numbers (laid_all start more vs) more ≡ vs = laid_all-numbers start more vs all.1 (λ n. let one = once n in omega (arith, one)) fit.1 in
    rw (head, tail) refl
