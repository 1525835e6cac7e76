-- What is known of nets while loops of joints are looked for.
use Rattle.std.specs.Prelude.{◌≡◌, ◌≢◌, ◌⊎◌, ℕ, ◌+◌, ◌<◌, ◌≤◌, List, [], ◌∷◌, length, slice_get, slice_index_or, Option, None, Some}
use Rattle.netlist_core.specs.declared.bit.Bit.{Bit}
use Rattle.netlist_core.specs.declared.bit.Bit.TheVariants.{Net}
use Rattle.net_builder.specs.declared.steps.Step.{Step}
use Rattle.net_builder.specs.declared.steps.Step.TheVariants.{On}
use Rattle.net_builder.specs.Finished.{Follows, IsOnLoop}
use Rattle.elab_finish.specs.declared.search.Mark.{Mark}
use Rattle.elab_finish.specs.declared.search.Mark.TheVariants.{Unknown, Free, From, Looped}

-- For proofs alone.

-- the net that a step goes on to, or none
abbrev pub IsNext : Step → Option ℕ → Type 0
IsNext step None = (m : ℕ) → step ≢ On m
IsNext step (Some m) = step ≡ On m

-- A net past the table's end is on no loop.
abbrev pub mark_in : List Mark → ℕ → Mark
mark_in marks n = slice_index_or marks n Free

-- a number for each mark, all together
abbrev pub tally : (Mark → ℕ) → List Mark → ℕ
tally f [] = 0
tally f (m ∷ more) = f m + tally f more

abbrev pub one_unknown : Mark → ℕ
one_unknown Unknown = 1
one_unknown Free = 0
one_unknown (From n) = 0
one_unknown Looped = 0

abbrev pub one_open : Mark → ℕ
one_open Unknown = 1
one_open Free = 1
one_open (From n) = 1
one_open Looped = 0

-- What the marks tell is so, where `IsOf w n` is what is known of a net n on the way from w; and a net on a loop that is marked
-- so leads to one that is, or to one of which `IsLeft` holds.
pub record IsMarked (next : ℕ → Step) (marks : List Mark) (IsOf : ℕ → ℕ → Type 0) (IsLeft : ℕ → Type 0) : Type 0 where
  pub room : (n m : ℕ) → next n ≡ On m → n < length marks
  pub free : (n : ℕ) → mark_in marks n ≡ Free → ¬ IsOnLoop next n
  pub looped : (n : ℕ) → mark_in marks n ≡ Looped → IsOnLoop next n
  pub round : (n m : ℕ) → mark_in marks n ≡ Looped → next n ≡ On m → IsLeft m ⊎ (mark_in marks m ≡ Looped)
  pub origin : (n w : ℕ) → mark_in marks n ≡ From w → mark_in marks w ≢ Unknown
  pub of : (n w : ℕ) → mark_in marks n ≡ From w → IsOf w n

-- no net that is only on a way is on a loop
abbrev pub IsSettled : (ℕ → Step) → List Mark → Type 0
IsSettled next marks = IsMarked next marks (λ w n. ¬ IsOnLoop next n) (λ m. ⊥)

-- nets on the way from `start` lead to a net, and others that are on a way are on no loop
pub record LeadsOn (next : ℕ → Step) (start net w n : ℕ) : Type 0 where
  pub here : w ≡ start → Follows next n net
  pub before : w ≢ start → ¬ IsOnLoop next n

abbrev pub IsWalked : (ℕ → Step) → List Mark → ℕ → ℕ → Type 0
IsWalked next marks start net = IsMarked next marks (LeadsOn next start net) (λ m. ⊥)

-- the way round a loop, up to a net
abbrev pub IsRounded : (ℕ → Step) → List Mark → ℕ → ℕ → ℕ → Type 0
IsRounded next marks start met net = IsMarked next marks (LeadsOn next start met) (λ m. net ≡ m)

-- the net is one of the bits from `first` on, before `end`
abbrev pub HasNet : List Bit → ℕ → ℕ → ℕ → Type 0
HasNet bits first end n = (i : ℕ) × (first ≤ i) × (i < end) × (slice_get bits i ≡ Some (Net n))
