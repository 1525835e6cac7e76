-- The runs of small designs.
use Rattle.flat_runs.proofs.Common.{◌≡◌, ℕ, zero, suc, ◌+◌, ◌-◌, ◌%◌, ◌^◌, ◌<◌, List, [], ◌∷◌, Some, refl, sym, ◌∙◌, ap, subst, inl, inr, arith, Contains, bit_at, Store, LeftIs, SameBut, IsFree}
use Rattle.flat_runs.proofs.Common.{Cycle, IsSourceRun, source_outputs, places_from, has_first, has_none, has_cases}
use Rattle.flat_runs.specs.Examples.{at, with_value, successor, SuccessorsAreShown, counter, CounterCounts, constant, StartValueStays, ContradictionHasNoRun, follower, FollowerFollows}
use Rattle.flat_runs.proofs.Combining.{same_bits, left_bits, bits_left, place_at}

-- a whole signal that has the bits of a value has the value
assigned : (s : Store) (k w v : ℕ) → s k < 2 ^ w → v < 2 ^ w → LeftIs s (places_from k 0 w) v → s k ≡ v
assigned s k w v small fits said = same_bits w (s k) v small fits (λ j less. let e : j ≡ 0 + j = omega arith in ap (bit_at (s k)) e ∙ left_bits s k 0 w v said j less)

said_of : (s : Store) (k w v : ℕ) → s k ≡ v → LeftIs s (places_from k 0 w) v
said_of s k w v same = bits_left s k 0 w v (λ j less. let e : 0 + j ≡ j = omega arith in ap (bit_at (s k)) e ∙ ap (λ (n : ℕ). bit_at n j) same)

all_places : (k w i : ℕ) → i < w → Contains (places_from k 0 w) (Some (record { signal = k; bit = i }))
all_places k w i less = let e : 0 + i ≡ i = omega arith in subst (λ (n : ℕ). Contains (places_from k 0 w) (Some (record { signal = k; bit = n }))) e (place_at k 0 w i less)

head_same : (a b : ℕ) (xs ys : List ℕ) → a ∷ xs ≡ b ∷ ys → a ≡ b
head_same a b xs ys e = cc

-- `assign y = a + 1;`

successor_value : (s : Store) (a : ℕ) → Cycle successor s (a ∷ []) [] → s 1 ≡ (a + 1) % 4
successor_value s a c =
    let is : s 0 ≡ a = head_same (s 0) a [] [] c.entered in
    assigned s 1 2 ((s 0 + 1) % 4) (c.fits 1) (omega arith) c.said.0 ∙ ap (λ (n : ℕ). (n + 1) % 4) is

successor_shows : (cycles : List Store) → IsSourceRun successor [] ((1 ∷ []) ∷ (3 ∷ []) ∷ []) cycles → source_outputs successor cycles ≡ (2 ∷ []) ∷ (0 ∷ []) ∷ []
successor_shows [] run = absurd run
successor_shows (s ∷ []) run = absurd run.1
successor_shows (s ∷ t ∷ []) run =
    let first : s 1 ≡ 2 = successor_value s 1 run.0 in
    let second : t 1 ≡ 0 = successor_value t 3 run.1.0 in
    rw (first, second) refl
successor_shows (s ∷ t ∷ u ∷ more) run = absurd run.1.1

successor_cycle : (a : ℕ) → a < 4 → Cycle successor (at (a ∷ (a + 1) % 4 ∷ [])) (a ∷ []) []
successor_cycle a small = record { fits = fits; entered = refl; stored = refl; said = (said_of (at (a ∷ (a + 1) % 4 ∷ [])) 1 2 ((a + 1) % 4) refl, tt); unwritten = free } where
  fits : (k : ℕ) → at (a ∷ (a + 1) % 4 ∷ []) k < 2 ^ at (2 ∷ 2 ∷ []) k
  fits zero = omega arith
  fits (suc zero) = omega arith
  fits (suc (suc k)) = omega arith

  free : (k i : ℕ) → IsFree successor k i → bit_at (at (a ∷ (a + 1) % 4 ∷ []) k) i ≡ bit_at (at [] k) i
  free zero i f = absurd (f.no_input (has_first [] 0))
  free (suc zero) i f = absurd (f.none_writes (inl (all_places 1 2 i f.inside)))
  free (suc (suc k)) i f = absurd (let less : i < 0 = f.inside in omega arith)

pub successors_are_shown : SuccessorsAreShown
successors_are_shown = record {
  run = (at (1 ∷ 2 ∷ []) ∷ at (3 ∷ 0 ∷ []) ∷ [], (successor_cycle 1 (omega arith), (successor_cycle 3 (omega arith), tt)));
  shows = successor_shows;
}

-- `count <= count + 1;`

counter_shows : (cycles : List Store) → IsSourceRun counter (2 ∷ []) ([] ∷ [] ∷ [] ∷ []) cycles → source_outputs counter cycles ≡ (2 ∷ []) ∷ (3 ∷ []) ∷ (0 ∷ []) ∷ []
counter_shows [] run = absurd run
counter_shows (s ∷ []) run = absurd run.1
counter_shows (s ∷ t ∷ []) run = absurd run.1.1
counter_shows (s ∷ t ∷ u ∷ []) run =
    let first : s 0 ≡ 2 = head_same (s 0) 2 [] [] run.0.stored in
    let second : t 0 ≡ 3 = head_same (t 0) ((s 0 + 1) % 4) [] [] run.1.0.stored ∙ ap (λ (n : ℕ). (n + 1) % 4) first in
    let third : u 0 ≡ 0 = head_same (u 0) ((t 0 + 1) % 4) [] [] run.1.1.0.stored ∙ ap (λ (n : ℕ). (n + 1) % 4) second in
    rw (first, second, third) refl
counter_shows (s ∷ t ∷ u ∷ v ∷ more) run = absurd run.1.1.1

counter_cycle : (n : ℕ) → n < 4 → Cycle counter (at (n ∷ [])) [] (n ∷ [])
counter_cycle n small = record { fits = fits; entered = refl; stored = refl; said = (tt, tt); unwritten = free } where
  fits : (k : ℕ) → at (n ∷ []) k < 2 ^ at (2 ∷ []) k
  fits zero = omega arith
  fits (suc k) = omega arith

  free : (k i : ℕ) → IsFree counter k i → bit_at (at (n ∷ []) k) i ≡ bit_at (at [] k) i
  free zero i f = absurd (f.none_writes (inl (has_first [] 0)))
  free (suc k) i f = absurd (let less : i < 0 = f.inside in omega arith)

pub counter_counts : CounterCounts
counter_counts = record {
  run = (at (2 ∷ []) ∷ at (3 ∷ []) ∷ at (0 ∷ []) ∷ [], (counter_cycle 2 (omega arith), (counter_cycle 3 (omega arith), (counter_cycle 0 (omega arith), tt))));
  shows = counter_shows;
}

-- `reg [1:0] y = 2;`

start_shows : (cycles : List Store) → IsSourceRun constant [] ([] ∷ []) cycles → source_outputs constant cycles ≡ (2 ∷ []) ∷ []
start_shows [] run = absurd run
start_shows (s ∷ []) run =
    let none : (i : ℕ) → i < 2 → IsFree constant 0 i = λ i less. record { inside = less; no_input = has_none 0; none_writes = λ some. some } in
    let is : s 0 ≡ 2 = same_bits 2 (s 0) 2 (run.0.fits 0) (omega arith) (λ i less. run.0.unwritten 0 i (none i less)) in
    rw is refl
start_shows (s ∷ t ∷ more) run = absurd run.1

start_cycle : Cycle constant (at (2 ∷ [])) [] []
start_cycle = record { fits = fits; entered = refl; stored = refl; said = tt; unwritten = λ k i free. refl } where
  fits : (k : ℕ) → at (2 ∷ []) k < 2 ^ at (2 ∷ []) k
  fits zero = omega arith
  fits (suc k) = omega arith

pub start_value_stays : StartValueStays
start_value_stays = record { run = (at (2 ∷ []) ∷ [], (start_cycle, tt)); shows = start_shows }

-- `assign y = !y;`

pub contradiction_has_no_run : ContradictionHasNoRun
contradiction_has_no_run [] run = run
contradiction_has_no_run (s ∷ []) run =
    let is : s 0 ≡ 1 - s 0 = assigned s 0 1 (1 - s 0) (run.0.fits 0) (omega arith) run.0.said.0 in
    absurd (omega arith)
contradiction_has_no_run (s ∷ t ∷ more) run = run.1

-- `always @* y = a;`

follower_value : (s : Store) (a : ℕ) → Cycle follower s (a ∷ []) [] → s 1 ≡ a
follower_value s a c = sym (c.said.0 s (λ k other. refl) 1 (has_first [] 1)) ∙ head_same (s 0) a [] [] c.entered

follower_shows : (cycles : List Store) → IsSourceRun follower [] ((1 ∷ []) ∷ (0 ∷ []) ∷ []) cycles → source_outputs follower cycles ≡ (1 ∷ []) ∷ (0 ∷ []) ∷ []
follower_shows [] run = absurd run
follower_shows (s ∷ []) run = absurd run.1
follower_shows (s ∷ t ∷ []) run =
    let first : s 1 ≡ 1 = follower_value s 1 run.0 in
    let second : t 1 ≡ 0 = follower_value t 0 run.1.0 in
    rw (first, second) refl
follower_shows (s ∷ t ∷ u ∷ more) run = absurd run.1.1

is_1 : (k : ℕ) → Contains (1 ∷ []) k → 1 ≡ k
is_1 k has = elim (has_cases [] 1 k has) [ inl same ↦ same | inr none ↦ absurd (has_none k none) ]

follower_cycle : (a : ℕ) → a < 2 → Cycle follower (at (a ∷ a ∷ [])) (a ∷ []) []
follower_cycle a small = record { fits = fits; entered = refl; stored = refl; said = (said, tt); unwritten = free } where
  fits : (k : ℕ) → at (a ∷ a ∷ []) k < 2 ^ at (1 ∷ 1 ∷ []) k
  fits zero = omega arith
  fits (suc zero) = omega arith
  fits (suc (suc k)) = omega arith

  said : (from : Store) → SameBut (1 ∷ []) from (at (a ∷ a ∷ [])) → (k : ℕ) → Contains (1 ∷ []) k → with_value 1 (from 0) from k ≡ at (a ∷ a ∷ []) k
  said from same k has = subst (λ (n : ℕ). with_value 1 (from 0) from n ≡ at (a ∷ a ∷ []) n) (is_1 k has) (same 0 (λ zero_has. let e : 1 ≡ 0 = is_1 0 zero_has in absurd (omega arith)))

  free : (k i : ℕ) → IsFree follower k i → bit_at (at (a ∷ a ∷ []) k) i ≡ bit_at (at [] k) i
  free zero i f = absurd (f.no_input (has_first [] 0))
  free (suc zero) i f = absurd (f.none_writes (inl (has_first [] 1)))
  free (suc (suc k)) i f = absurd (let less : i < 0 = f.inside in omega arith)

pub follower_follows : FollowerFollows
follower_follows = record {
  run = (at (1 ∷ 1 ∷ []) ∷ at (0 ∷ 0 ∷ []) ∷ [], (follower_cycle 1 (omega arith), (follower_cycle 0 (omega arith), tt)));
  shows = follower_shows;
}
