-- How a slot stands, what it gives, and which events it allows.
use Rattle.campaign_core.proofs.Common.{◌≡◌, ℕ, Bool, true, false, List, rules, slice_get, Option, None, Some, refl, sym, ◌∙◌, ap, subst, option_map, Event, Turn, Commit, Answered, Seat, Work}
use Rattle.campaign_core.proofs.Common.{Running, Ended, HasWord, IsAllowed, IsGoing, given_at, next_start, slot_gives, asked_of, busy_of, left_of, seen, word_of, answered_at, answered_by, by_word}
use Rattle.campaign_core.proofs.Common.{raw_stage, stage_of, Busy, IsFree, IsIn, Turns}
use denote.Enum.Bare.{sameb, same_true, true_same}
use Rattle.campaign_core.specs.contracts.seat.Stage.{the_type}
use Rattle.campaign_core.specs.declared.seat.Stage.{Stage}
use Rattle.campaign_core.specs.declared.seat.Stage.TheVariants.{Absent, Free, Going, Told}
use Rattle.campaign_core.proofs.KeptLemmas.{seat_at, seen_at}

-- ---- as callers see it

-- a slot stands as callers see it
pub stage_seen : {J : Type 0} (left : J → ℕ) (slots : List (Option (Seat J))) (k : ℕ) → raw_stage (slice_get slots k) ≡ stage_of (slice_get (seen left slots) k)
stage_seen {J} left slots k = go (slice_get slots k) ∙ ap stage_of (sym (seen_at left slots k))
  where
    go : (o : Option (Option (Seat J))) → raw_stage o ≡ stage_of (option_map (option_map (busy_of left)) o)
    go None = refl
    go (Some None) = refl
    go (Some (Some seat)) = refl

-- by the parts of a core
pub kept_stage : {T J : Type 0} (left : J → ℕ) (view s : Turns T) (slots items : List (Option (Seat J))) (slot : ℕ) (stage : Stage) → view ≡ s → view.slots ≡ seen left items → slots ≡ items → stage ≡ raw_stage (slice_get slots slot) → stage ≡ stage_of (slice_get s.slots slot)
kept_stage {T} {J} left view s slots items slot stage same seen_is are is =
    is
    ∙ ap (λ (l : List (Option (Seat J))). raw_stage (slice_get l slot)) are
    ∙ stage_seen left items slot
    ∙ ap (λ (l : List (Option Busy)). stage_of (slice_get l slot)) (sym seen_is)
    ∙ ap (λ (x : Turns T). stage_of (slice_get x.slots slot)) same

stage_told_by : (r : Bool) (a b : Stage) → r ≡ sameb the_type a b → (r ≡ true → a ≡ b) × (a ≡ b → r ≡ true)
stage_told_by r a b is = (λ t. same_true the_type (search rules) a b (sym is ∙ t), λ e. is ∙ true_same the_type a b e)

-- ---- what is allowed

module _ {T : Type 0} (s : Turns T) (slot : ℕ) where
  pub stage_free : stage_of (slice_get s.slots slot) ≡ Free → IsFree s.slots slot
  stage_free is = go (slice_get s.slots slot) refl is
    where
      worded : (o : Option ℕ) → by_word o ≡ Free → ⊥
      worded None e = let never : Going ≡ Free = e in cc
      worded (Some w) e = let never : Told ≡ Free = e in cc

      go : (o : Option (Option Busy)) → slice_get s.slots slot ≡ o → stage_of o ≡ Free → IsFree s.slots slot
      go None at e = absurd (let never : Absent ≡ Free = e in cc)
      go (Some None) at e = at
      go (Some (Some busy)) at e = absurd (worded busy.word e)

  pub free_stage : IsFree s.slots slot → stage_of (slice_get s.slots slot) ≡ Free
  free_stage free = ap stage_of free

  pub stage_going : stage_of (slice_get s.slots slot) ≡ Going → IsGoing s slot
  stage_going is = go (slice_get s.slots slot) refl is
    where
      worded : (busy : Busy) → IsIn s.slots slot busy → (o : Option ℕ) → busy.word ≡ o → by_word o ≡ Going → IsGoing s slot
      worded busy at None word e = record { busy = busy; at = at; none = word }
      worded busy at (Some w) word e = absurd (let never : Told ≡ Going = e in cc)

      go : (o : Option (Option Busy)) → slice_get s.slots slot ≡ o → stage_of o ≡ Going → IsGoing s slot
      go None at e = absurd (let never : Absent ≡ Going = e in cc)
      go (Some None) at e = absurd (let never : Free ≡ Going = e in cc)
      go (Some (Some busy)) at e = worded busy at busy.word refl e

  pub going_stage : IsGoing s slot → stage_of (slice_get s.slots slot) ≡ Going
  going_stage going = ap stage_of going.at ∙ ap by_word going.none

  pub stage_told : stage_of (slice_get s.slots slot) ≡ Told → HasWord s slot
  stage_told is = go (slice_get s.slots slot) refl is
    where
      worded : (busy : Busy) → IsIn s.slots slot busy → (o : Option ℕ) → busy.word ≡ o → by_word o ≡ Told → HasWord s slot
      worded busy at None word e = absurd (let never : Going ≡ Told = e in cc)
      worded busy at (Some w) word e = record { busy = busy; word = w; at = at; some = word }

      go : (o : Option (Option Busy)) → slice_get s.slots slot ≡ o → stage_of o ≡ Told → HasWord s slot
      go None at e = absurd (let never : Absent ≡ Told = e in cc)
      go (Some None) at e = absurd (let never : Free ≡ Told = e in cc)
      go (Some (Some busy)) at e = worded busy at busy.word refl e

  pub told_stage : HasWord s slot → stage_of (slice_get s.slots slot) ≡ Told
  told_stage has = ap stage_of has.at ∙ ap by_word has.some

  -- ---- what it gives

  abbrev by_stage : Stage → Option Event
  by_stage Absent = None
  by_stage Free = next_start s slot
  by_stage Going = Some (Turn slot)
  by_stage Told = Some (Commit slot)

  pub gives_by_stage : (stage : Stage) → stage_of (slice_get s.slots slot) ≡ stage → slot_gives s slot ≡ by_stage stage
  gives_by_stage stage is = go (slice_get s.slots slot) ∙ ap by_stage is
    where
      worded : (o : Option ℕ) → given_at s slot (Some (Some (record { asked = record { mutation = 0; test = 0; bound = 0 }; word = o; left = 0 }))) ≡ by_stage (by_word o)
      worded None = refl
      worded (Some w) = refl

      go : (o : Option (Option Busy)) → given_at s slot o ≡ by_stage (stage_of o)
      go None = refl
      go (Some None) = refl
      go (Some (Some busy)) = worded busy.word

-- ---- the word of a slot's job

-- a test that has ended with this word
abbrev pub ended : Answered → Busy
ended told = record { asked = record { mutation = told.mutation; test = told.want.test; bound = told.want.bound }; word = Some told.word; left = 0 }

module _ {J : Type 0} (left : J → ℕ) (slots : List (Option (Seat J))) (slot : ℕ) where
  -- the word that a slot has is the one that callers see
  pub told_is : (told : Answered) → answered_at (slice_get slots slot) ≡ Some told → IsIn (seen left slots) slot (ended told)
  told_is told is = go (slice_get slots slot) refl is
    where
      same : (a b : Answered) → Some a ≡ Some b → a ≡ b
      same a b e = cc

      worked : (seat : Seat J) → slice_get slots slot ≡ Some (Some seat) → (work : Work J) → seat.work ≡ work → answered_by seat (word_of work) ≡ Some told → IsIn (seen left slots) slot (ended told)
      worked seat at (Running job) is e = absurd (let never : None ≡ Some told = e in cc)
      worked seat at (Ended w) is e =
          subst (λ (t : Answered). IsIn (seen left slots) slot (ended t)) (same (record { mutation = seat.mutation; want = seat.want; word = w }) told e)
          (seen_at left slots slot ∙ ap (option_map (option_map (busy_of left))) at ∙ ap (λ (x : Work J). Some (Some (record { asked = asked_of seat; word = word_of x; left = left_of left x }))) is)

      go : (o : Option (Option (Seat J))) → slice_get slots slot ≡ o → answered_at o ≡ Some told → IsIn (seen left slots) slot (ended told)
      go None at e = absurd (let never : None ≡ Some told = e in cc)
      go (Some None) at e = absurd (let never : None ≡ Some told = e in cc)
      go (Some (Some seat)) at e = worked seat at seat.work refl e

  -- and one that callers see is there
  pub told_there : (b : Busy) (w : ℕ) → IsIn (seen left slots) slot b → b.word ≡ Some w → answered_at (slice_get slots slot) ≡ None → ⊥
  told_there b w at some none = go (seat_at left slots slot b at)
    where
      answer_is : (a : Answered) → Some a ≡ None → ⊥
      answer_is a e = cc

      by : (seat : Seat J) (o : Option ℕ) → o ≡ Some w → answered_by seat o ≡ None → ⊥
      by seat None word e = let never : None ≡ Some w = word in cc
      by seat (Some v) word e = answer_is (record { mutation = seat.mutation; want = seat.want; word = v }) e

      go : (seat : Seat J) × (slice_get slots slot ≡ Some (Some seat)) × (busy_of left seat ≡ b) → ⊥
      go h = by h.0 (word_of h.0.work) (ap (λ (x : Busy). x.word) h.2 ∙ some) (ap answered_at (sym h.1) ∙ none)

-- ---- whether an event is allowed

module _ {T : Type 0} (s : Turns T) (slot : ℕ) (e : Event) (r : Bool) (stage : Stage) (going : s.is_stopped ≡ false) (is : stage ≡ stage_of (slice_get s.slots slot)) where
  pub turn_told : e ≡ Turn slot → r ≡ sameb the_type stage Going → (r ≡ true → IsAllowed s e) × (IsAllowed s e → r ≡ true)
  turn_told event told =
      let tells = stage_told_by r stage Going told in
      subst (λ (x : Event). (r ≡ true → IsAllowed s x) × (IsAllowed s x → r ≡ true)) (sym event)
      (λ t. (going, stage_going s slot (sym is ∙ tells.0 t)), λ allowed. tells.1 (is ∙ going_stage s slot allowed.1))

  pub commit_told : e ≡ Commit slot → r ≡ sameb the_type stage Told → (r ≡ true → IsAllowed s e) × (IsAllowed s e → r ≡ true)
  commit_told event told =
      let tells = stage_told_by r stage Told told in
      subst (λ (x : Event). (r ≡ true → IsAllowed s x) × (IsAllowed s x → r ≡ true)) (sym event)
      (λ t. (going, stage_told s slot (sym is ∙ tells.0 t)), λ allowed. tells.1 (is ∙ told_stage s slot allowed.1))
