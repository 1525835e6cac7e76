-- The events of a program, one after the other.
use Rattle.campaign_core.proofs.Common.{◌≡◌, ◌≢◌, ◌∙◌, ℕ, zero, suc, ◌+◌, ◌-◌, ◌<◌, Bool, true, false, cond, List, [], ◌∷◌, ◌++◌, length, slice_get, Option, None, Some, refl, ap, subst, is_some}
use Rattle.campaign_core.proofs.Common.{option_and_then, option_map, option_or, Want, Event, Turn, Commit, Stop, events_left, IsAllowed, Takes, Program, first_given, given_at, least_waiting}
use Rattle.campaign_core.proofs.Common.{next_event, slot_gives, start_of, Asked, GivesTheSame, Busy, Turns, waits_for, IsUnderWay, same_Some}
use Rattle.campaign_core.proofs.Endings.{takes_fewer}
use Rattle.campaign_core.proofs.RunCounts.{takes_stays}

-- it gives the same words as at first
pub same_through : (one two three : Asked → ℕ → Type 0) → GivesTheSame one two → GivesTheSame two three → GivesTheSame one three
same_through one two three first second = record { on = λ asked word h. second.on asked word (first.on asked word h); back = λ asked word h. first.back asked word (second.back asked word h) }

-- one event more
module _ {T : Type 0} (gives : T → Asked → ℕ → Type 0) (most : T → Asked → ℕ) where
  pub program_more : (events : List Event) (start mid end : Turns T) (e : Event) → Program gives most start events mid → next_event mid ≡ Some e → GivesTheSame (gives mid.tester) (gives end.tester) → ((asked : Asked) → most end.tester asked ≡ most mid.tester asked)
      → Takes (gives mid.tester) (most mid.tester) mid e end → Program gives most start (events ++ e ∷ []) end
  program_more [] start mid end e is next same turns takes = subst (λ (s : Turns T). Program gives most s (e ∷ []) end) is (end, next, same, turns, takes, refl)
  program_more (x ∷ events) start mid end e p next same turns takes = (p.0, p.1, p.2, p.3, p.4, program_more events p.0 mid end e p.5 next same turns takes)

-- ---- what comes next is no Stop

module _ {T : Type 0} (s : Turns T) where
  start_no_stop : (slot : ℕ) (least : Option ℕ) (e : Event) → option_and_then (λ m. option_map (start_of slot m) (waits_for s m)) least ≡ Some e → e ≢ Stop
  start_no_stop slot None e is stop = let never : None ≡ Some e = is in cc
  start_no_stop slot (Some m) e is stop = go (waits_for s m) is
    where
      go : (o : Option Want) → option_map (start_of slot m) o ≡ Some e → ⊥
      go None h = let never : None ≡ Some e = h in cc
      go (Some want) h = let never : start_of slot m want ≡ Stop = same_Some (start_of slot m want) e h ∙ stop in cc

  slot_no_stop : (slot : ℕ) (o : Option (Option Busy)) (e : Event) → given_at s slot o ≡ Some e → e ≢ Stop
  slot_no_stop slot None e is stop = let never : None ≡ Some e = is in cc
  slot_no_stop slot (Some None) e is stop = start_no_stop slot (least_waiting s) e is stop
  slot_no_stop slot (Some (Some busy)) e is stop = go (is_some busy.word) is
    where
      go : (b : Bool) → Some (cond b (Commit slot) (Turn slot)) ≡ Some e → ⊥
      go true h = let never : Commit slot ≡ Stop = same_Some (Commit slot) e h ∙ stop in cc
      go false h = let never : Turn slot ≡ Stop = same_Some (Turn slot) e h ∙ stop in cc

  given_no_stop : (slot n : ℕ) (e : Event) → first_given (slot_gives s) slot n ≡ Some e → e ≢ Stop
  given_no_stop slot zero e is stop = let never : None ≡ Some e = is in cc
  given_no_stop slot (suc n) e is stop = go (given_no_stop (slot + 1) n e) (slot_gives s slot) refl is stop
    where
      go : (first_given (slot_gives s) (slot + 1) n ≡ Some e → e ≢ Stop) → (o : Option Event) → slot_gives s slot ≡ o → option_or o (first_given (slot_gives s) (slot + 1) n) ≡ Some e → e ≢ Stop
      go rest None at h = rest h
      go rest (Some x) at h = slot_no_stop slot (slice_get s.slots slot) e (at ∙ h)

  pub next_no_stop : (e : Event) → next_event s ≡ Some e → e ≢ Stop
  next_no_stop e is = by s.is_stopped is
    where
      go : (o : Option Event) → first_given (slot_gives s) s.first (length s.slots - s.first) ≡ o → option_or o (first_given (slot_gives s) 0 s.first) ≡ Some e → e ≢ Stop
      go None at h = given_no_stop 0 s.first e h
      go (Some x) at h = given_no_stop s.first (length s.slots - s.first) e (at ∙ h)

      by : (b : Bool) → cond b None (option_or (first_given (slot_gives s) s.first (length s.slots - s.first)) (first_given (slot_gives s) 0 s.first)) ≡ Some e → e ≢ Stop
      by true h stop = let never : None ≡ Some e = h in cc
      by false h stop = go (first_given (slot_gives s) s.first (length s.slots - s.first)) refl h stop

-- so fewer events are left, whatever name the most have
pub next_fewer : {T : Type 0} (gives : Asked → ℕ → Type 0) (most base : Asked → ℕ) (old new : Turns T) (e : Event) → most ≡ base → IsUnderWay gives old → IsAllowed old e → Takes gives most old e new → next_event old ≡ Some e → events_left base new < events_left base old
next_fewer gives most base old new e same order allowed takes next =
    subst (λ (f : Asked → ℕ). events_left f new < events_left f old) same (takes_fewer gives most old new e order allowed takes (next_no_stop old e next))

-- ---- all of them

-- a program stops no core
pub program_stays : {T : Type 0} (gives : T → Asked → ℕ → Type 0) (most : T → Asked → ℕ) (events : List Event) (start end : Turns T) → Program gives most start events end → end.is_stopped ≡ start.is_stopped
program_stays {T} gives most [] start end is = ap (λ (s : Turns T). s.is_stopped) is
program_stays gives most (e ∷ events) start end (mid, comes, same, turns, taken, rest) =
    program_stays gives most events mid end rest ∙ takes_stays (gives start.tester) (most start.tester) start mid e (next_no_stop start e comes) taken

-- ---- a tester on its way

-- it gives the most turns as at first
pub most_through : (one two three : Asked → ℕ) → two ≡ one → ((asked : Asked) → three asked ≡ two asked) → three ≡ one
most_through one two three before step = let pointwise : three ≡ two = (λ i asked. step asked i) in pointwise ∙ before
