-- Bits and values of signals that have nets of their own.
use Rattle.flat_runs.proofs.Common.{◌≡◌, ◌≢◌, ◌⊎◌, ℕ, zero, suc, ◌+◌, ◌^◌, ◌<◌, ◌≤◌, List, [], ◌∷◌, ◌++◌, map, length, nat_eq, slice_get, Some, refl, sym, ◌∙◌, ap, subst, inl, inr, arith}
use Rattle.flat_runs.proofs.Common.{slice_index_or, if◌then◌else◌, Contains, eqb_tells, cases_lt, Bit, Fixed, Net, number, Nets, values, port_numbers, times, times_at, Store, Building, AllBelow}
use Rattle.flat_runs.proofs.Common.{PortsBelow, fresh_bits, empty, signal, store, length-values, number-fits, HasOwnNets, IsBit, DeclaredOwnNets, OwnNetsStay, has_first, has_more}
use Rattle.netlist_core.specs.Checked.{AllNets, AllPortsNets}
use Rattle.netlist_core.specs.Solutions.{FitPorts}
use Rattle.flat_runs.proofs.Values.{values_same}
use Rattle.net_builder.proofs.Parts.{below_later, fresh_below}

-- the bits of a signal, and the values of the signals
abbrev pub bits_in : List (List Bit) → ℕ → List Bit
bits_in signals k = slice_index_or signals k []

abbrev pub store_in : List (List Bit) → Nets → Store
store_in signals nets k = number (values nets (bits_in signals k))

-- Bits are nets, and stand below.

pub nets_in : (signals : List (List Bit)) (k : ℕ) → AllPortsNets signals → AllNets (bits_in signals k)
nets_in [] k h = tt
nets_in (x ∷ more) zero h = h.0
nets_in (x ∷ more) (suc k) h = nets_in more k h.1

net_at : (bits : List Bit) (i : ℕ) → AllNets bits → i < length bits → (n : ℕ) × (slice_get bits i ≡ Some (Net n))
net_at [] i h less = absurd (omega arith)
net_at (Fixed b ∷ more) i h less = absurd h
net_at (Net n ∷ more) zero h less = (n, refl)
net_at (Net n ∷ more) (suc i) h less = net_at more i h (omega arith)

-- a bit of a signal is a net
pub net_of : (b : Building) → HasOwnNets b → (k i : ℕ) → i < length (signal b k) → (n : ℕ) × IsBit b k i n
net_of b own k i less = net_at (signal b k) i (nets_in b.signals k own.nets) less

pub ports_in : (limit : ℕ) (signals : List (List Bit)) (k : ℕ) → PortsBelow limit signals → AllBelow limit (bits_in signals k)
ports_in limit [] k h = tt
ports_in limit (x ∷ more) zero h = h.0
ports_in limit (x ∷ more) (suc k) h = ports_in limit more k h.1

pub below_at : (limit : ℕ) (bits : List Bit) (i n : ℕ) → AllBelow limit bits → slice_get bits i ≡ Some (Net n) → n < limit
below_at limit [] i n h e = absurd cc
below_at limit (Fixed b ∷ more) zero n h e = absurd cc
below_at limit (Fixed b ∷ more) (suc i) n h e = below_at limit more i n h e
below_at limit (Net m ∷ more) zero n h e = let same : m ≡ n = cc in omega (arith, h.0)
below_at limit (Net m ∷ more) (suc i) n h e = below_at limit more i n h.1 e

-- all bits of the signals are below the number
abbrev pub AreBelow : List (List Bit) → ℕ → Type 0
AreBelow signals limit = (k i n : ℕ) → slice_get (bits_in signals k) i ≡ Some (Net n) → n < limit

pub are_below : (b : Building) → HasOwnNets b → AreBelow b.signals b.nets
are_below b own k i n at = below_at b.nets (signal b k) i n (ports_in b.nets b.signals k own.below) at

-- Each net is one bit of one signal.

abbrev pub one_at : ℕ → ℕ → ℕ
one_at m n = if nat_eq m n then 1 else 0

one_at-same : (m : ℕ) → one_at m m ≡ 1
one_at-same m = elim (eqb_tells m m) [ inl h ↦ rw h.0 refl | inr h ↦ absurd (h.1 refl) ]

pub one_at-cases : (m n : ℕ) → ((m ≡ n) × (one_at m n ≡ 1)) ⊎ ((m ≢ n) × (one_at m n ≡ 0))
one_at-cases m n = elim (eqb_tells m n) [ inl h ↦ inl (h.1, rw h.0 refl) | inr h ↦ inr (h.1, rw h.0 refl) ]

pub times_get : (bits : List Bit) (i n : ℕ) → slice_get bits i ≡ Some (Net n) → 1 ≤ times n bits
times_get [] i n e = absurd cc
times_get (Fixed b ∷ more) zero n e = absurd cc
times_get (Fixed b ∷ more) (suc i) n e = times_get more i n e
times_get (Net m ∷ more) zero n e = let same : m ≡ n = cc in subst (λ (k : ℕ). 1 ≤ times n (Net k ∷ more)) (sym same) (omega (arith, one_at-same n))
times_get (Net m ∷ more) (suc i) n e = omega (arith, times_get more i n e)

same_bit : (bits : List Bit) (i j n : ℕ) → times n bits ≤ 1 → slice_get bits i ≡ Some (Net n) → slice_get bits j ≡ Some (Net n) → i ≡ j
same_bit [] i j n one at_i at_j = absurd cc
same_bit (Fixed b ∷ more) zero j n one at_i at_j = absurd cc
same_bit (Fixed b ∷ more) (suc i) zero n one at_i at_j = absurd cc
same_bit (Fixed b ∷ more) (suc i) (suc j) n one at_i at_j = ap suc (same_bit more i j n one at_i at_j)
same_bit (Net m ∷ more) zero zero n one at_i at_j = refl
same_bit (Net m ∷ more) zero (suc j) n one at_i at_j =
    let same : m ≡ n = cc in
    let here : times n (Net n ∷ more) ≤ 1 = subst (λ (k : ℕ). times n (Net k ∷ more) ≤ 1) same one in
    absurd (omega (arith, here, one_at-same n, times_get more j n at_j))
same_bit (Net m ∷ more) (suc i) zero n one at_i at_j =
    let same : m ≡ n = cc in
    let here : times n (Net n ∷ more) ≤ 1 = subst (λ (k : ℕ). times n (Net k ∷ more) ≤ 1) same one in
    absurd (omega (arith, here, one_at-same n, times_get more i n at_i))
same_bit (Net m ∷ more) (suc i) (suc j) n one at_i at_j = ap suc (same_bit more i j n (omega (arith, one)) at_i at_j)

pub times_in : (signals : List (List Bit)) (k i n : ℕ) → slice_get (bits_in signals k) i ≡ Some (Net n) → 1 ≤ times_at n signals
times_in [] k i n e = absurd cc
times_in (x ∷ more) zero i n e = omega (arith, times_get x i n e)
times_in (x ∷ more) (suc k) i n e = omega (arith, times_in more k i n e)

pub bits_few : (signals : List (List Bit)) (k n : ℕ) → times n (bits_in signals k) ≤ times_at n signals
bits_few [] k n = omega arith
bits_few (x ∷ more) zero n = omega arith
bits_few (x ∷ more) (suc k) n = omega (arith, bits_few more k n)

apart_in : (signals : List (List Bit)) (k i k' i' n : ℕ) → times_at n signals ≤ 1 → slice_get (bits_in signals k) i ≡ Some (Net n) → slice_get (bits_in signals k') i' ≡ Some (Net n) → (k ≡ k') × (i ≡ i')
apart_in [] k i k' i' n one a b = absurd cc
apart_in (x ∷ more) zero i zero i' n one a b = (refl, same_bit x i i' n (omega (arith, one)) a b)
apart_in (x ∷ more) zero i (suc k') i' n one a b = absurd (omega (arith, one, times_get x i n a, times_in more k' i' n b))
apart_in (x ∷ more) (suc k) i zero i' n one a b = absurd (omega (arith, one, times_get x i' n b, times_in more k i n a))
apart_in (x ∷ more) (suc k) i (suc k') i' n one a b = let r = apart_in more k i k' i' n (omega (arith, one)) a b in (ap suc r.0, r.1)

pub are_apart : (b : Building) → HasOwnNets b → (k i k' i' n : ℕ) → IsBit b k i n → IsBit b k' i' n → (k ≡ k') × (i ≡ i')
are_apart b own k i k' i' n = apart_in b.signals k i k' i' n (own.once n)

-- signals with the same bits are one
pub same_signal : (b : Building) → HasOwnNets b → (j k : ℕ) → 1 ≤ length (signal b k) → signal b j ≡ signal b k → j ≡ k
same_signal b own j k some same =
    let at = net_of b own k 0 some in
    (are_apart b own j 0 k 0 at.0 (ap (λ (bits : List Bit). slice_get bits 0) same ∙ at.1) at.1).0

-- Values.

pub store_same : (signals : List (List Bit)) (a b : Nets) → ((k i n : ℕ) → slice_get (bits_in signals k) i ≡ Some (Net n) → a n ≡ b n) → store_in signals a ≡ store_in signals b
store_same signals a b h =
    let each : (k : ℕ) → store_in signals a k ≡ store_in signals b k = λ k. ap number (values_same a b (bits_in signals k) (λ i n at. h k i n at)) in
    λ p k. each k p

pub store_fits : (b : Building) (nets : Nets) (k w : ℕ) → length (signal b k) ≡ w → store b nets k < 2 ^ w
store_fits b nets k w long = subst (λ (n : ℕ). store b nets k < 2 ^ n) (length-values nets (signal b k) ∙ long) (number-fits (values nets (signal b k)))

-- the numbers at the bits of signals are their values
pub kept_numbers : (signals : List (List Bit)) (a b : Nets) (ks : List ℕ) → ((k : ℕ) → Contains ks k → values a (bits_in signals k) ≡ values b (bits_in signals k)) → port_numbers b (map (bits_in signals) ks) ≡ map (store_in signals a) ks
kept_numbers signals a b [] h = refl
kept_numbers signals a b (k ∷ more) h =
    let head : number (values b (bits_in signals k)) ≡ number (values a (bits_in signals k)) = ap number (sym (h k (has_first more k))) in
    let tail : port_numbers b (map (bits_in signals) more) ≡ map (store_in signals a) more = kept_numbers signals a b more (λ j has. h j (has_more more k j has)) in
    rw (head, tail) refl

-- Values of nets from values of signals.

abbrev pub firsts : Store → ℕ → List ℕ
firsts store zero = []
firsts store (suc n) = store zero ∷ firsts (λ k. store (suc k)) n

pub firsts_fit : (signals : List (List Bit)) (s : Store) → ((k : ℕ) → s k < 2 ^ length (bits_in signals k)) → FitPorts signals (firsts s (length signals))
firsts_fit [] s h = tt
firsts_fit (x ∷ more) s h = (h zero, firsts_fit more (λ k. s (suc k)) (λ k. h (suc k)))

pub firsts_stored : (signals : List (List Bit)) (nets : Nets) (s : Store) → ((k : ℕ) → s k < 2 ^ length (bits_in signals k)) → port_numbers nets signals ≡ firsts s (length signals) → (k : ℕ) → store_in signals nets k ≡ s k
firsts_stored [] nets s h e k = let small : s k < 2 ^ 0 = h k in omega arith
firsts_stored (x ∷ more) nets s h e zero = cc
firsts_stored (x ∷ more) nets s h e (suc k) = firsts_stored more nets (λ j. s (suc j)) (λ j. h (suc j)) (cc) k

-- Signals that are declared.

pub ports_more : (n m : ℕ) (ports : List (List Bit)) → n ≤ m → PortsBelow n ports → PortsBelow m ports
ports_more n m [] le h = tt
ports_more n m (bits ∷ more) le h = (below_later n m bits le h.0, ports_more n m more le h.1)

pub own_stays : OwnNetsStay
own_stays old new own same grown = record {
  nets = subst (λ (s : List (List Bit)). AllPortsNets s) (sym same) own.nets;
  below = subst (λ (s : List (List Bit)). PortsBelow new.nets s) (sym same) (ports_more old.nets new.nets old.signals grown own.below);
  once = λ n. subst (λ (s : List (List Bit)). times_at n s ≤ 1) (sym same) (own.once n);
}

pub fresh_nets : (from w : ℕ) → AllNets (fresh_bits from w)
fresh_nets from zero = tt
fresh_nets from (suc w) = fresh_nets (from + 1) w

pub fresh_above : (from w n : ℕ) → n < from → times n (fresh_bits from w) ≡ 0
fresh_above from zero n less = refl
fresh_above from (suc w) n less = elim (one_at-cases from n) [
  | inl same ↦ absurd (omega (arith, same.0))
  | inr other ↦ omega (arith, other.1, fresh_above (from + 1) w n (omega arith))
]

pub fresh_once : (from w n : ℕ) → times n (fresh_bits from w) ≤ 1
fresh_once from zero n = omega arith
fresh_once from (suc w) n = elim (one_at-cases from n) [
  | inl same ↦ omega (arith, same.1, fresh_above (from + 1) w n (omega (arith, same.0)))
  | inr other ↦ omega (arith, other.1, fresh_once (from + 1) w n)
]

pub fresh_in : (from w n : ℕ) → from ≤ n → n < from + w → times n (fresh_bits from w) ≡ 1
fresh_in from zero n after less = absurd (omega (arith, after, less))
fresh_in from (suc w) n after less = elim (one_at-cases from n) [
  | inl same ↦ omega (arith, same.1, fresh_above (from + 1) w n (omega (arith, same.0)))
  | inr other ↦ (let on : from < n = omega (arith, after, other.0) in omega (arith, other.1, fresh_in (from + 1) w n (omega arith) (omega (arith, less))))
]

pub fresh_beyond : (from w n : ℕ) → from + w ≤ n → times n (fresh_bits from w) ≡ 0
fresh_beyond from zero n over = refl
fresh_beyond from (suc w) n over = elim (one_at-cases from n) [
  | inl same ↦ absurd (omega (arith, same.0, over))
  | inr other ↦ omega (arith, other.1, fresh_beyond (from + 1) w n (omega (arith, over)))
]

below_times : (limit n : ℕ) (bits : List Bit) → limit ≤ n → AllBelow limit bits → times n bits ≡ 0
below_times limit n [] le h = refl
below_times limit n (Fixed b ∷ more) le h = below_times limit n more le h
below_times limit n (Net m ∷ more) le h = elim (one_at-cases m n) [
  | inl same ↦ absurd (omega (arith, same.0, h.0))
  | inr other ↦ omega (arith, other.1, below_times limit n more le h.1)
]

ports_times : (limit n : ℕ) (ports : List (List Bit)) → limit ≤ n → PortsBelow limit ports → times_at n ports ≡ 0
ports_times limit n [] le h = refl
ports_times limit n (x ∷ more) le h = omega (arith, below_times limit n x le h.0, ports_times limit n more le h.1)

pub times_push : (n : ℕ) (ports : List (List Bit)) (y : List Bit) → times_at n (ports ++ y ∷ []) ≡ times_at n ports + times n y
times_push n [] y = omega arith
times_push n (x ∷ more) y = omega (arith, times_push n more y)

nets_push : (ports : List (List Bit)) (y : List Bit) → AllPortsNets ports → AllNets y → AllPortsNets (ports ++ y ∷ [])
nets_push [] y h k = (k, tt)
nets_push (x ∷ more) y h k = (h.0, nets_push more y h.1 k)

pub below_push : (limit : ℕ) (ports : List (List Bit)) (y : List Bit) → PortsBelow limit ports → AllBelow limit y → PortsBelow limit (ports ++ y ∷ [])
below_push limit [] y h k = (k, tt)
below_push limit (x ∷ more) y h k = (h.0, below_push limit more y h.1 k)

pub declared_own : DeclaredOwnNets
declared_own b name span width own =
    let y : List Bit = fresh_bits b.nets width in
    record {
      nets = nets_push b.signals y own.nets (fresh_nets b.nets width);
      below = below_push (b.nets + width) b.signals y (ports_more b.nets (b.nets + width) b.signals (omega arith) own.below) (fresh_below b.nets width);
      once = λ n. elim (cases_lt n b.nets) [
        | inl less ↦ omega (arith, times_push n b.signals y, own.once n, fresh_above b.nets width n less)
        | inr over ↦ omega (arith, times_push n b.signals y, fresh_once b.nets width n, ports_times b.nets n b.signals over own.below)
      ];
    }

pub empty_owns : HasOwnNets empty
empty_owns = record { nets = tt; below = tt; once = λ n. omega arith }
