-- The numbers that the items of a sound design declare: each signal's, once. Those of ports are signals' too.
use Rattle.elab_writers.proofs.Common.{◌≡◌, inl, inr, ℕ, ◌+◌, ◌<◌, ◌≤◌, Bool, true, false, List, [], ◌∷◌, ◌++◌, length, Option, None, Some, refl, sym, ap, ◌∙◌, subst, arith, nat_eq, nat_lt, slice_get}
use Rattle.elab_writers.proofs.Common.{if◌then◌else◌, Contains, Identifier, Building, NoneTwice, FlatItem, AllStand, declares, times_declared, direction_in, has_direction, is_clock, port_number}
use Rattle.elab_writers.proofs.Common.{port_numbers, without, AreKnown, declared_numbers, nat_eq_same, has_cases, has_first, has_more, has_none}
use Rattle.std.proofs.lemmas.Bool.Decides.{eqb_tells, nat_tests}
use Rattle.std.proofs.lemmas.Option.{slice_get_within}
use Rattle.vlog_syntax.specs.declared.item.Direction.{Direction}
use Rattle.vlog_syntax.specs.declared.item.Direction.TheVariants.{Input, Output}
use Rattle.flat_scopes.specs.declared.signal.Signal.{Signal}
use Rattle.flat_scopes.specs.declared.signal.What.{What}
use Rattle.flat_scopes.specs.declared.signal.What.TheVariants as w
use Rattle.flat_scopes.specs.Owns.{Own}
use Rattle.flat_instances.specs.declared.item.FlatItem.TheVariants as f

-- How often a number is declared.

-- how often a test counts
abbrev one_if : Bool → ℕ
one_if b = if b then 1 else 0

counts_one : (n k : ℕ) → n ≡ k → one_if (nat_eq n k) ≡ 1
counts_one n k e = subst (λ (j : ℕ). one_if (nat_eq n j) ≡ 1) e (ap one_if (nat_eq_same n))

counts_none : (n k : ℕ) → nat_eq n k ≡ false → one_if (nat_eq n k) ≡ 0
counts_none n k e = ap one_if e

times_more : (items : List FlatItem) (k : ℕ) → Contains (declared_numbers items) k → 1 ≤ times_declared k items
times_more [] k c = absurd (has_none k c)
times_more (f.Declares n ∷ more) k c = elim (has_cases (declared_numbers more) n k c) [
  | inl e ↦ (let one = counts_one n k e in let sum : times_declared k (f.Declares n ∷ more) ≡ one_if (nat_eq n k) + times_declared k more = refl in omega (arith, one, sum))
  | inr m ↦ (let t = times_more more k m in let sum : times_declared k (f.Declares n ∷ more) ≡ one_if (nat_eq n k) + times_declared k more = refl in omega (arith, t, sum))
]
times_more (other ∷ more) k c = let t = times_more more k c in let sum : times_declared k (other ∷ more) ≡ 0 + times_declared k more = refl in omega (arith, t, sum)

pub declared_has : (items : List FlatItem) (k : ℕ) → 1 ≤ times_declared k items → Contains (declared_numbers items) k
declared_has [] k some = absurd (omega (arith, some))
declared_has (f.Declares n ∷ more) k some = elim (eqb_tells n k) [
  | inl t ↦ subst (Contains (n ∷ declared_numbers more)) t.1 (has_first (declared_numbers more) n)
  | inr t ↦ has_more (declared_numbers more) n k (declared_has more k (later (counts_none n k t.0)))
] where
  later : one_if (nat_eq n k) ≡ 0 → 1 ≤ times_declared k more
  later none = let sum : times_declared k (f.Declares n ∷ more) ≡ one_if (nat_eq n k) + times_declared k more = refl in omega (arith, none, some, sum)
declared_has (other ∷ more) k some = declared_has more k (let sum : times_declared k (other ∷ more) ≡ 0 + times_declared k more = refl in omega (arith, some, sum))

-- where the first item declares a number, the others do not
others_none : (n : ℕ) (more : List FlatItem) → times_declared n (f.Declares n ∷ more) ≤ 1 → ¬ Contains (declared_numbers more) n
others_none n more most c =
    let t = times_more more n c in
    let one = counts_one n n refl in
    let sum : times_declared n (f.Declares n ∷ more) ≡ one_if (nat_eq n n) + times_declared n more = refl in
    absurd (omega (arith, t, one, sum, most))

fewer : (k : ℕ) (item : FlatItem) (more : List FlatItem) → times_declared k (item ∷ more) ≤ 1 → times_declared k more ≤ 1
fewer k item more most = let sum : times_declared k (item ∷ more) ≡ declares k item + times_declared k more = refl in omega (arith, most, sum)

pub declared_once : (items : List FlatItem) → ((k : ℕ) → times_declared k items ≤ 1) → NoneTwice (declared_numbers items)
declared_once [] h = tt
declared_once (f.Declares n ∷ more) h = (others_none n more (h n), declared_once more (λ k. fewer k (f.Declares n) more (h k)))
declared_once (other ∷ more) h = declared_once more (λ k. fewer k other more (h k))

pub once_most : (k n t : ℕ) → t ≡ (if nat_lt k n then 1 else 0) → t ≤ 1
once_most k n t e = go (nat_lt k n) e where
  go : (b : Bool) → t ≡ (if b then 1 else 0) → t ≤ 1
  go true is = omega (arith, is)
  go false is = omega (arith, is)

less_told : (k n : ℕ) → k < n → nat_lt k n ≡ true
less_told k n less = grind (arith, nat_tests, less)

pub once_least : (k n t : ℕ) → k < n → t ≡ (if nat_lt k n then 1 else 0) → 1 ≤ t
once_least k n t less e = let one : t ≡ 1 = e ∙ ap (λ (b : Bool). if b then 1 else 0) (less_told k n less) in omega (arith, one)

-- Numbers of signals.

pub declared_known : (b : Building) (m : ℕ) (items : List FlatItem) → AllStand (length b.signals) m items → AreKnown b (declared_numbers items)
declared_known b m [] h = tt
declared_known b m (f.Declares n ∷ more) h = (h.0, declared_known b m more h.1)
declared_known b m (other ∷ more) h = declared_known b m more h.1

known_both : (b : Building) (xs ys : List ℕ) → AreKnown b xs → AreKnown b ys → AreKnown b (xs ++ ys)
known_both b [] ys h k = k
known_both b (x ∷ xs) ys h k = (h.0, known_both b xs ys h.1 k)

known_where : (b : Building) (k : ℕ) (t : Bool) → k < length b.signals → AreKnown b (if t then k ∷ [] else [])
known_where b k true less = (less, tt)
known_where b k false less = tt

undirected : (d : Direction) → has_direction d None ≡ false
undirected Input = refl
undirected Output = refl

port_known : (b : Building) (d : Direction) (signals : List Signal) → length b.signals ≡ length signals → (o : Option What) → AreKnown b (port_number d signals o)
port_known b d signals count None = tt
port_known b d signals count (Some (w.Variable k)) = go (slice_get signals k) refl where
  go : (o : Option Signal) → slice_get signals k ≡ o → AreKnown b (if has_direction d (direction_in o) then k ∷ [] else [])
  go None is = subst (λ (t : Bool). AreKnown b (if t then k ∷ [] else [])) (sym (undirected d)) tt
  go (Some s) is = let within = slice_get_within signals k s is in known_where b k (has_direction d (direction_in (Some s))) (omega (arith, within, count))
port_known b d signals count (Some other) = tt

pub ports_known : (b : Building) (d : Direction) (signals : List Signal) (own : Own) → length b.signals ≡ length signals → (ports : List Identifier) → AreKnown b (port_numbers d signals own ports)
ports_known b d signals own count [] = tt
ports_known b d signals own count (p ∷ more) =
    known_both b (port_number d signals (own p.name)) (port_numbers d signals own more) (port_known b d signals count (own p.name)) (ports_known b d signals own count more)

pub without_known : (b : Building) (clock : Option ℕ) (ks : List ℕ) → AreKnown b ks → AreKnown b (without clock ks)
without_known b clock [] h = tt
without_known b clock (k ∷ more) h = go (is_clock clock k) (without_known b clock more h.1) where
  go : (t : Bool) → AreKnown b (without clock more) → AreKnown b (if t then without clock more else k ∷ without clock more)
  go true rest = rest
  go false rest = (h.0, rest)
