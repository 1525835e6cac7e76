-- A simulation ends in one cycle, where the phase behind some that go on has one ending.
use Rattle.campaign_baseline.proofs.Common.{◌≡◌, ◌≢◌, ◌⊎◌, inl, inr, arith, ℕ, ◌-◌, ◌<◌, ◌≤◌, sym, ◌∙◌, max, cases_order, Reaches, phases_of}
use Rattle.tb_machine.specs.Phases.{Ending, Going, Finish, Limit, IsPhase, Setting, State}
use Rattle.tb_turns.specs.Reached.{MeetsEnd}

-- it goes on through all cycles before this one, from 1, and has ended by its end
pub record EndsAt (g : Setting) (start : State) (limit cycle : ℕ) : Type 0 where
  pub some : 1 ≤ cycle
  pub few : cycle ≤ max limit 1
  pub before : cycle ≢ 1 → (t : State) × Reaches g (phases_of (cycle - 1)) start t
  pub ends : MeetsEnd g start limit (phases_of cycle)

-- the phase behind some that go on has one ending
abbrev pub GoesOnOnce : Setting → State → Type 0
GoesOnOnce g start = (n before : ℕ) (t u v : State) (e : Ending) → before < n → Reaches g n start t → Reaches g before start u → IsPhase g u e v → e ≡ Going

-- an ending that is no going on
not_going : (e : Ending) → e ≡ Going → ¬ ((e ≡ Finish) ⊎ (e ≡ Limit))
not_going e going (inl finish) = let is : Going ≡ Finish = sym going ∙ finish in cc
not_going e going (inr limit) = let is : Going ≡ Limit = sym going ∙ limit in cc

not_later : (g : Setting) (start : State) (limit n m : ℕ) → GoesOnOnce g start → EndsAt g start limit n → EndsAt g start limit m → ¬ (n < m)
not_later g start limit n m once h k less = by h.ends
  where
    on : (t : State) × Reaches g (phases_of (m - 1)) start t
    on = k.before (λ is. absurd (omega (arith, is, less, h.some)))

    by : ¬ MeetsEnd g start limit (phases_of n)
    by (inl ended) = not_going ended.ending (once (phases_of (m - 1)) ended.before on.0 ended.state ended.after ended.ending (let few = ended.fewer in omega (arith, few, less)) on.1 ended.reached ended.phase) ended.last
    by (inr limit_met) = absurd (omega (arith, limit_met, less, h.some, k.few))

pub cycle_once : (g : Setting) (start : State) (limit n m : ℕ) → GoesOnOnce g start → EndsAt g start limit n → EndsAt g start limit m → n ≡ m
cycle_once g start limit n m once h k = elim (cases_order n m) [
  | inl same ↦ same
  | inr (inl less) ↦ absurd (not_later g start limit n m once h k less)
  | inr (inr less) ↦ absurd (not_later g start limit m n once k h less)
]
