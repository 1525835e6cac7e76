-- What an event of a program changes of the counts: the tests that were started, the rows that were added, and the free slots.
use Rattle.campaign_core.proofs.Common.{◌≡◌, ◌≢◌, arith, eqb, ℕ, ◌+◌, ◌≤◌, true, false, List, set, Option, None, Some, refl, sym, ap, subst, option_eq, eqb-false, eqb-true, Event, Start, Turn, Commit}
use Rattle.campaign_core.proofs.Common.{Stop, Committed, IsUnchanged, Takes, steps_of, HasFree, IsWithin, Reached, Asked, Busy, IsIn, Turns}
use Rattle.campaign_core.proofs.KeptLemmas.{busy_most}
use Rattle.campaign_core.proofs.SlotLemmas.{count_set, length_set}

-- ---- the rows that were asked for

-- they are not there yet
pub unreached : (stop : Option ℕ) (before now gained : ℕ) → now ≡ before + gained → option_eq eqb stop (Some gained) ≡ false → Reached stop before now → ⊥
unreached None before now gained is other all = all
unreached (Some n) before now gained is other all =
    let same : n ≡ gained = omega (arith, is, all) in
    eqb-false n gained other same

-- they are
pub reached : (stop : Option ℕ) (before now gained : ℕ) → now ≡ before + gained → option_eq eqb stop (Some gained) ≡ true → Reached stop before now
reached None before now gained is same = absurd (let never : false ≡ true = same in cc)
reached (Some n) before now gained is same =
    let all : n ≡ gained = eqb-true n gained same in
    omega (arith, is, all)

-- one row more at most is within their number
pub within_more : (stop : Option ℕ) (before old new : ℕ) → (Reached stop before old → ⊥) → new ≤ old + 1 → IsWithin stop before old → IsWithin stop before new
within_more None before old new other more within = tt
within_more (Some n) before old new other more within =
    let differ : old ≡ before + n → ⊥ = other in
    omega (arith, differ, more, within)

pub within_none : (stop : Option ℕ) (before : ℕ) → IsWithin stop before before
within_none None before = tt
within_none (Some n) before = omega arith

-- ---- the free slots

-- a slot that is freed
freed : (slots : List (Option Busy)) (k : ℕ) (busy : Busy) → IsIn slots k busy → HasFree (set slots k None)
freed slots k busy at = omega (arith, count_set slots k (Some busy) None at, busy_most slots, length_set slots k None)

-- ---- one event

module _ {T : Type 0} (gives : Asked → ℕ → Type 0) (most : Asked → ℕ) (old new : Turns T) where
  pub takes_started : (e : Event) → Takes gives most old e new → new.started ≡ old.started + steps_of e
  takes_started (Start slot m t bound) taken = ap (λ (s : Turns T). s.started) taken.is
  takes_started (Turn slot) taken = omega (arith, ap (λ (s : Turns T). s.started) taken.is)
  takes_started (Commit slot) taken = omega (arith, ap (λ (s : Turns T). s.started) taken.is)
  takes_started Stop taken = omega (arith, ap (λ (s : Turns T). s.started) taken)

  pub takes_later : (e : Event) → Takes gives most old e new → old.acknowledged ≤ new.acknowledged
  takes_later (Start slot m t bound) taken = omega (arith, ap (λ (s : Turns T). s.acknowledged) taken.is)
  takes_later (Turn slot) taken = omega (arith, ap (λ (s : Turns T). s.acknowledged) taken.is)
  takes_later (Commit slot) taken = omega (arith, ap (λ (s : Turns T). s.acknowledged) taken.is)
  takes_later Stop taken = omega (arith, ap (λ (s : Turns T). s.acknowledged) taken)

  -- an event adds one row at most
  pub takes_one : (e : Event) → Takes gives most old e new → new.acknowledged ≤ old.acknowledged + 1
  takes_one (Start slot m t bound) taken = omega (arith, ap (λ (s : Turns T). s.acknowledged) taken.is)
  takes_one (Turn slot) taken = omega (arith, ap (λ (s : Turns T). s.acknowledged) taken.is)
  takes_one (Commit slot) taken = omega (arith, ap (λ (s : Turns T). s.acknowledged) taken.is)
  takes_one Stop taken = omega (arith, ap (λ (s : Turns T). s.acknowledged) taken)

  -- no event but Stop stops a core
  pub takes_stays : (e : Event) → e ≢ Stop → Takes gives most old e new → new.is_stopped ≡ old.is_stopped
  takes_stays (Start slot m t bound) other taken = ap (λ (s : Turns T). s.is_stopped) taken.is
  takes_stays (Turn slot) other taken = ap (λ (s : Turns T). s.is_stopped) taken.is
  takes_stays (Commit slot) other taken = ap (λ (s : Turns T). s.is_stopped) taken.is
  takes_stays Stop other taken = absurd (other refl)

  committed_frees : (slot : ℕ) → Committed old new slot → HasFree new.slots
  committed_frees slot taken =
      let slots : new.slots ≡ set old.slots slot None = ap (λ (s : Turns T). s.slots) taken.is in
      subst HasFree (sym slots) (freed old.slots slot taken.row.busy taken.row.at)

  no_more : (stop : Option ℕ) (before : ℕ) → (Reached stop before old.acknowledged → ⊥) → new.acknowledged ≡ old.acknowledged → Reached stop before new.acknowledged → HasFree new.slots
  no_more stop before other same all = absurd (other (subst (Reached stop before) same all))

  -- the event that adds the last of the rows asked for frees a slot
  pub takes_room : (stop : Option ℕ) (before : ℕ) → (Reached stop before old.acknowledged → ⊥) → (e : Event) → Takes gives most old e new → Reached stop before new.acknowledged → HasFree new.slots
  takes_room stop before other (Start slot m t bound) taken all = no_more stop before other (ap (λ (s : Turns T). s.acknowledged) taken.is) all
  takes_room stop before other (Turn slot) taken all = no_more stop before other (ap (λ (s : Turns T). s.acknowledged) taken.is) all
  takes_room stop before other (Commit slot) taken all = committed_frees slot taken
  takes_room stop before other Stop taken all = no_more stop before other (ap (λ (s : Turns T). s.acknowledged) taken) all

  -- a refusal starts none
  pub unchanged_started : IsUnchanged old new → new.started ≡ old.started
  unchanged_started un = ap (λ (s : Turns T). s.started) un.is
