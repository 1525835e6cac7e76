-- Signals that only become more and keep their bits, and the steps of a scope.
use Rattle.flat_laws.proofs.Common.{◌≡◌, ◌⊎◌, inl, inr, ℕ, zero, suc, ◌+◌, ◌<◌, ◌≤◌, List, [], ◌∷◌, ◌++◌, length, Option, None, Some, sym, ap, ◌∙◌, subst, arith, slice_get, slice_set, nat_eq}
use Rattle.flat_laws.proofs.Common.{if◌then◌else◌, length_push, length-set, Decl, Step, VectorBits, Signal, What, IsDirected, HasDirection, AreSized, HasBits, NamesSignal, OwnsSignal}
use Rattle.vlog_meaning.specs.declared.scope.Decl.TheVariants as d
use Rattle.flat_scopes.specs.declared.opening.Step.TheVariants as s
use Rattle.flat_scopes.specs.declared.signal.What.TheVariants as w
use Rattle.flat_laws.proofs.Lists.{holds_more, holds_set}
use Rattle.flat_laws.proofs.Sizes.{IsWithin}

-- Signals.

-- the signals are there with the same bits, and ports with a direction; there may be more
pub record Grows (old new : List Signal) : Type 0 where
  pub longer : length old ≤ length new
  pub same : (width low k : ℕ) → HasBits width low (slice_get old k) → HasBits width low (slice_get new k)
  pub directed : (k : ℕ) → HasDirection (slice_get old k) → HasDirection (slice_get new k)

pub grows_self : (signals : List Signal) → Grows signals signals
grows_self signals = record { longer = omega arith; same = λ width low k h. h; directed = λ k h. h }

pub grows_on : (a b c : List Signal) → Grows a b → Grows b c → Grows a c
grows_on a b c g h =
    let first = g.longer in
    let second = h.longer in
    record { longer = omega (arith, first, second); same = λ width low k x. h.same width low k (g.same width low k x); directed = λ k x. h.directed k (g.directed k x) }

no_bits : (width low : ℕ) → HasBits width low None → ⊥
no_bits width low h = h

pub grows_more : (signals : List Signal) (g : Signal) → Grows signals (signals ++ g ∷ [])
grows_more signals g =
    let long = length_push signals g in
    record { longer = omega (arith, long); same = λ width low k. holds_more (HasBits width low) (no_bits width low) signals (g ∷ []) k; directed = λ k. holds_more HasDirection (λ (h : ⊥). h) signals (g ∷ []) k }

pub grows_set : (signals : List Signal) (k : ℕ) (g new : Signal) → slice_get signals k ≡ Some g → new.bits ≡ g.bits → (IsDirected g.direction → IsDirected new.direction) → Grows signals (slice_set signals k new)
grows_set signals k g new e bits dir =
    let long = length-set signals k new in
    let width : g.bits.width ≡ new.bits.width = ap (λ (b : VectorBits). b.width) (sym bits) in
    let low : g.bits.low ≡ new.bits.low = ap (λ (b : VectorBits). b.low) (sym bits) in
    let there : (w l : ℕ) → HasBits w l (slice_get signals k) → HasBits w l (Some new) = λ w l h. let own : HasBits w l (Some g) = subst (HasBits w l) e h in (sym width ∙ own.0, sym low ∙ own.1) in
    let led : HasDirection (slice_get signals k) → HasDirection (Some new) = λ h. dir (subst HasDirection e h) in
    record {
      longer = omega (arith, long);
      same = λ w l n. holds_set (HasBits w l) new signals k n (there w l);
      directed = λ n. holds_set HasDirection new signals k n led;
    }

pub sized_more : (signals : List Signal) (g : Signal) → AreSized signals → IsWithin g.bits → AreSized (signals ++ g ∷ [])
sized_more [] g h b = (b.0, b.1, tt)
sized_more (x ∷ signals) g h b = (h.0, h.1, sized_more signals g h.2 b)

pub sized_set : (signals : List Signal) (k : ℕ) (g new : Signal) → slice_get signals k ≡ Some g → new.bits ≡ g.bits → AreSized signals → AreSized (slice_set signals k new)
sized_set [] k g new e bits h = h
sized_set (x ∷ signals) zero g new e bits h =
    let same : x ≡ g = cc in
    let width : x.bits.width ≡ new.bits.width = ap (λ (y : Signal). y.bits.width) same ∙ ap (λ (b : VectorBits). b.width) (sym bits) in
    (subst (λ (n : ℕ). 1 ≤ n) width h.0, subst (λ (n : ℕ). n ≤ 128) width h.1, h.2)
sized_set (x ∷ signals) (suc k) g new e bits h = (h.0, h.1, sized_set signals k g new e bits h.2)

pub named_on : (old new : List Signal) (x : Option Decl) → Grows old new → NamesSignal old x → NamesSignal new x
named_on old new (Some (d.Signal width low is_signed k)) g h = g.same width low k h
named_on old new (Some (d.Constant value low is_signed)) g h = tt
named_on old new None g h = tt

pub owned_on : (n m : ℕ) (x : Option What) → n ≤ m → OwnsSignal n x → OwnsSignal m x
owned_on n m (Some (w.Variable k)) le h = omega (arith, le, h)
owned_on n m (Some w.Constant) le h = tt
owned_on n m (Some w.Genvar) le h = tt
owned_on n m (Some w.Inside) le h = tt
owned_on n m None le h = tt

-- Steps.

abbrev pub StepStands : ℕ → Step → Type 0
StepStands n (s.Declares k) = k < n
StepStands n (s.Starts k value) = k < n
StepStands n other = Unit {0}

abbrev pub AllSteps : ℕ → List Step → Type 0
AllSteps n [] = Unit {0}
AllSteps n (x ∷ more) = StepStands n x × AllSteps n more

abbrev pub listed : ℕ → Step → ℕ
listed k (s.Declares n) = if nat_eq n k then 1 else 0
listed k other = 0

abbrev pub times_listed : ℕ → List Step → ℕ
times_listed k [] = 0
times_listed k (x ∷ more) = listed k x + times_listed k more

abbrev pub IsRefusal : Step → Type 0
IsRefusal (s.Refuses x) = Unit {0}
IsRefusal other = ⊥

abbrev pub SomeRefused : List Step → Type 0
SomeRefused [] = ⊥
SomeRefused (x ∷ more) = IsRefusal x ⊎ SomeRefused more

pub step_on : (n m : ℕ) (x : Step) → n ≤ m → StepStands n x → StepStands m x
step_on n m (s.Declares k) le h = omega (arith, le, h)
step_on n m (s.Starts k value) le h = omega (arith, le, h)
step_on n m (s.Refuses x) le h = tt
step_on n m (s.RefusesGiven x) le h = tt
step_on n m (s.Drives name value) le h = tt
step_on n m (s.Lists x) le h = tt
step_on n m (s.Places x) le h = tt
step_on n m (s.Generates k item taken) le h = tt

pub steps_on : (n m : ℕ) (xs : List Step) → n ≤ m → AllSteps n xs → AllSteps m xs
steps_on n m [] le h = tt
steps_on n m (x ∷ xs) le h = (step_on n m x le h.0, steps_on n m xs le h.1)

pub steps_more : (n : ℕ) (xs ys : List Step) → AllSteps n xs → AllSteps n ys → AllSteps n (xs ++ ys)
steps_more n [] ys h g = g
steps_more n (x ∷ xs) ys h g = (h.0, steps_more n xs ys h.1 g)

pub times_more : (k : ℕ) (xs ys : List Step) → times_listed k (xs ++ ys) ≡ times_listed k xs + times_listed k ys
times_more k [] ys = omega arith
times_more k (x ∷ xs) ys = let e = times_more k xs ys in omega (arith, e)

pub refused_more : (xs ys : List Step) → SomeRefused xs → SomeRefused (xs ++ ys)
refused_more [] ys h = absurd h
refused_more (x ∷ xs) ys (inl h) = inl h
refused_more (x ∷ xs) ys (inr h) = inr (refused_more xs ys h)

pub refused_last : (xs : List Step) (x : Step) → IsRefusal x → SomeRefused (xs ++ x ∷ [])
refused_last [] x h = inl h
refused_last (y ∷ xs) x h = inr (refused_last xs x h)
