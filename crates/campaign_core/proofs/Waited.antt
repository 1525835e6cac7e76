-- How what the mutations wait for changes with an event.
use Rattle.campaign_core.proofs.Common.{◌≡◌, ◌≢◌, inl, inr, ℕ, Bool, true, false, cond, List, length, set, None, Some, refl, sym, ◌∙◌, ap, ◌==◌, eqb_tells, Entry, wanted, each_from, each_from-same}
use Rattle.campaign_core.proofs.Common.{each_set, wanted-other, Committed, IsUnchanged, MayStart, Started, Turned, Asked, Turns, is_in_slot, is_of, waiting, waits_for, IsBusy, IsUnderWay}
use Rattle.campaign_core.proofs.SlotLemmas.{in_no_slot, in_set, in_slot_now, in_slot_same, inside, same_tests_in}

module _ {T : Type 0} (old new : Turns T) where
  -- a mutation in a slot waits for nothing
  waits_in : (m : ℕ) → is_in_slot m new.slots ≡ true → waits_for new m ≡ None
  waits_in m is = ap (λ (b : Bool). cond b None (wanted new.campaign new.state.rows m new.goal)) is

  -- one that is in a slot as before waits for the same
  waits_same : (m : ℕ) → new.campaign ≡ old.campaign → new.goal ≡ old.goal → wanted old.campaign new.state.rows m old.goal ≡ wanted old.campaign old.state.rows m old.goal → is_in_slot m new.slots ≡ is_in_slot m old.slots → waits_for new m ≡ waits_for old m
  waits_same m campaign goal same slots = rw (campaign, goal, slots, same) refl

  -- a start: its mutation waits for nothing
  pub waiting_started : (most : Asked → ℕ) (slot : ℕ) (asked : Asked) → MayStart old slot asked → Started most old new slot asked → waiting new ≡ set (waiting old) asked.mutation None
  waiting_started most slot asked may started =
      ap (λ (n : ℕ). each_from (waits_for new) 0 n) (ap (λ (s : Turns T). length s.campaign.mutations) started.is)
      ∙ each_set (waits_for old) (waits_for new) (length old.campaign.mutations) asked.mutation may.mutation others
      ∙ ap (set (waiting old) asked.mutation) here
    where
      campaign : new.campaign ≡ old.campaign
      campaign = ap (λ (s : Turns T). s.campaign) started.is

      goal : new.goal ≡ old.goal
      goal = ap (λ (s : Turns T). s.goal) started.is

      slots : new.slots ≡ set old.slots slot (Some started.busy)
      slots = ap (λ (s : Turns T). s.slots) started.is

      rows : new.state.rows ≡ old.state.rows
      rows = ap (λ (s : Turns T). s.state.rows) started.is

      mutation : started.busy.asked.mutation ≡ asked.mutation
      mutation = ap (λ (a : Asked). a.mutation) started.asked_is

      of_mutation : is_of asked.mutation (Some started.busy) ≡ true
      of_mutation = elim (eqb_tells started.busy.asked.mutation asked.mutation) [ inl h ↦ h.0 | inr h ↦ absurd (h.1 mutation) ]

      here : waits_for new asked.mutation ≡ None
      here = waits_in asked.mutation (ap (is_in_slot asked.mutation) slots ∙ in_slot_now asked.mutation old.slots slot (Some started.busy) (inside old.slots slot None may.free) of_mutation)

      of_none : (m : ℕ) → m ≢ asked.mutation → is_of m None ≡ is_of m (Some started.busy)
      of_none m other = sym (elim (eqb_tells started.busy.asked.mutation m) [ inl h ↦ absurd (other (sym h.1 ∙ mutation)) | inr h ↦ h.0 ])

      others : (m : ℕ) → m ≢ asked.mutation → waits_for new m ≡ waits_for old m
      others m other =
          waits_same m campaign goal (ap (λ (l : List Entry). wanted old.campaign l m old.goal) rows)
          (ap (is_in_slot m) slots ∙ in_slot_same m old.slots slot None (Some started.busy) may.free (of_none m other))

  -- a turn: all wait for the same
  pub waiting_turned : (gives : Asked → ℕ → Type 0) (slot : ℕ) → Turned gives old new slot → waiting new ≡ waiting old
  waiting_turned gives slot turned =
      ap (λ (n : ℕ). each_from (waits_for new) 0 n) (ap length (ap (λ (s : Turns T). s.campaign.mutations) turned.is))
      ∙ each_from-same (waits_for old) (waits_for new) 0 (length old.campaign.mutations)
      (λ m above. waits_same m (ap (λ (s : Turns T). s.campaign) turned.is) (ap (λ (s : Turns T). s.goal) turned.is) (ap (λ (s : Turns T). wanted old.campaign s.state.rows m old.goal) turned.is)
      (ap (λ (s : Turns T). is_in_slot m s.slots) turned.is ∙ in_slot_same m old.slots slot (Some turned.before) (Some turned.now) turned.at (ap (λ (a : Asked). a.mutation == m) (sym turned.same))))

  -- a commit: its mutation waits for what is wanted of it next
  pub waiting_committed : (gives : Asked → ℕ → Type 0) → IsUnderWay gives old → (slot : ℕ) (committed : Committed old new slot)
      → waiting new ≡ set (waiting old) committed.row.busy.asked.mutation (wanted new.campaign new.state.rows committed.row.busy.asked.mutation new.goal)
  waiting_committed gives order slot committed =
      ap (λ (n : ℕ). each_from (waits_for new) 0 n) (ap (λ (s : Turns T). length s.campaign.mutations) committed.is)
      ∙ each_set (waits_for old) (waits_for new) (length old.campaign.mutations) committed.row.busy.asked.mutation busy.mutation others
      ∙ ap (set (waiting old) committed.row.busy.asked.mutation) here
    where
      busy : IsBusy gives old.campaign old.goal old.state.rows committed.row.busy
      busy = order.tests slot committed.row.busy committed.row.at

      campaign : new.campaign ≡ old.campaign
      campaign = ap (λ (s : Turns T). s.campaign) committed.is

      slots : new.slots ≡ set old.slots slot None
      slots = ap (λ (s : Turns T). s.slots) committed.is

      none : is_in_slot committed.row.busy.asked.mutation (set old.slots slot None) ≡ false
      none = in_no_slot committed.row.busy.asked.mutation (set old.slots slot None) (λ j b at same.
          elim (in_set old.slots slot (inside old.slots slot (Some committed.row.busy) committed.row.at) None j b at) [
            | inl x ↦ (let never : None ≡ Some b = x.1 in cc)
            | inr x ↦ x.0 (order.apart j slot b committed.row.busy x.1 committed.row.at same)
          ])

      here : waits_for new committed.row.busy.asked.mutation ≡ wanted new.campaign new.state.rows committed.row.busy.asked.mutation new.goal
      here = ap (λ (b : Bool). cond b None (wanted new.campaign new.state.rows committed.row.busy.asked.mutation new.goal)) (ap (is_in_slot committed.row.busy.asked.mutation) slots ∙ none)

      others : (m : ℕ) → m ≢ committed.row.busy.asked.mutation → waits_for new m ≡ waits_for old m
      others m other =
          waits_same m campaign (ap (λ (s : Turns T). s.goal) committed.is)
          (ap (λ (l : List Entry). wanted old.campaign l m old.goal) committed.state.rows_are ∙ wanted-other old.campaign old.state.rows m old.goal committed.entry (λ e. other (sym e ∙ committed.row.pair.0)))
          (ap (is_in_slot m) slots ∙ in_slot_same m old.slots slot (Some committed.row.busy) None committed.row.at (elim (eqb_tells committed.row.busy.asked.mutation m) [ inl h ↦ absurd (other (sym h.1)) | inr h ↦ h.0 ]))

  -- a refusal: all wait for the same
  pub waiting_unchanged : IsUnchanged old new → waiting new ≡ waiting old
  waiting_unchanged un =
      ap (λ (n : ℕ). each_from (waits_for new) 0 n) (ap length (ap (λ (s : Turns T). s.campaign.mutations) un.is))
      ∙ each_from-same (waits_for old) (waits_for new) 0 (length old.campaign.mutations)
      (λ m above. waits_same m (ap (λ (s : Turns T). s.campaign) un.is) (ap (λ (s : Turns T). s.goal) un.is) (ap (λ (s : Turns T). wanted old.campaign s.state.rows m old.goal) un.is)
      (same_tests_in m new.slots old.slots un.slots))
