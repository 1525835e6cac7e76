-- A simulation that is driven cycle by cycle.
use Rattle.campaign_baseline.proofs.Common.{◌≡◌, ◌≢◌, ◌∙◌, arith, ℕ, ◌+◌, ◌-◌, ◌<◌, ◌≤◌, List, ap, subst, max, phases_of, SimVerdict, new_job, Job, IsSameJob, Simulated, Ends, GoesOn, Says, EndsIn}
use Rattle.tb_turns.specs.Reached.{phases_after}

-- the phases behind a cycle
pub one_more : (phases cycle : ℕ) → 1 ≤ cycle → max phases 1 ≡ phases_of (cycle - 1) → phases_after phases 1 ≡ phases_of cycle
one_more phases cycle some at = omega (arith, some, at)

pub at_next : (now cycle : ℕ) → now ≡ phases_of cycle → max now 1 ≡ phases_of (cycle + 1 - 1)
at_next now cycle is = omega (arith, is)

-- where it goes on, the limit has one more
pub few_more : (now limit cycle : ℕ) → now ≡ phases_of cycle → now < phases_of limit → cycle + 1 ≤ max limit 1
few_more now limit cycle is more = omega (arith, is, more)

module _ (x : Simulated) (cycle : ℕ) where
  pub goes_on : (now : ℕ) → now ≡ phases_of cycle → GoesOn x now → cycle + 1 ≢ 1 → GoesOn x (phases_of (cycle + 1 - 1))
  goes_on now is goes other = let same : now ≡ phases_of (cycle + 1 - 1) = omega (arith, is) in subst (GoesOn x) same goes

  pub ends_in : (limit phases : ℕ) → 1 ≤ cycle → cycle ≤ max limit 1 → max phases 1 ≡ phases_of (cycle - 1) → (cycle ≢ 1 → GoesOn x (phases_of (cycle - 1))) → Ends x limit (phases_after phases 1) → EndsIn x limit cycle
  ends_in limit phases some few at before ends = record { some = some; few = few; before = before; ends = subst (Ends x limit) (one_more phases cycle some at) ends }

-- the same job after two turns
pub still_same : (a b c : Job) → IsSameJob a b → IsSameJob b c → IsSameJob a c
still_same a b c one two = record { simulated = two.simulated ∙ one.simulated; limit = two.limit ∙ one.limit; pass = two.pass ∙ one.pass; fail = two.fail ∙ one.fail }

-- what the turn says of the job that it began with
module _ (x : Simulated) (limit : ℕ) (pass fail : List ℕ) (first now : Job) (is : first ≡ new_job x limit pass fail) (same : IsSameJob first now) where
  simulated_is : now.simulated ≡ x
  simulated_is = same.simulated ∙ ap (λ (j : Job). j.simulated) is

  limit_is : now.limit ≡ limit
  limit_is = same.limit ∙ ap (λ (j : Job). j.limit) is

  pub says_word : (v : SimVerdict) → Says now.simulated now.limit now.pass now.fail v → Says x limit pass fail v
  says_word v says =
      let first_is : Says x now.limit now.pass now.fail v = subst (λ (y : Simulated). Says y now.limit now.pass now.fail v) simulated_is says in
      let second : Says x limit now.pass now.fail v = subst (λ (n : ℕ). Says x n now.pass now.fail v) limit_is first_is in
      let third : Says x limit pass now.fail v = subst (λ (p : List ℕ). Says x limit p now.fail v) (same.pass ∙ ap (λ (j : Job). j.pass) is) second in
      subst (λ (f : List ℕ). Says x limit pass f v) (same.fail ∙ ap (λ (j : Job). j.fail) is) third

  pub takes_cycles : (cycle : ℕ) → 1 ≤ cycle → cycle ≤ max first.limit 1 → max now.phases 1 ≡ phases_of (cycle - 1) → (cycle ≢ 1 → GoesOn first.simulated (phases_of (cycle - 1))) → Ends now.simulated now.limit (phases_after now.phases 1) → EndsIn x limit cycle
  takes_cycles cycle some few at before ends =
      let first_limit : first.limit ≡ limit = ap (λ (j : Job). j.limit) is in
      let first_simulated : first.simulated ≡ x = ap (λ (j : Job). j.simulated) is in
      let within : cycle ≤ max limit 1 = subst (λ (n : ℕ). cycle ≤ max n 1) first_limit few in
      let ended : Ends x now.limit (phases_after now.phases 1) = subst (λ (y : Simulated). Ends y now.limit (phases_after now.phases 1)) simulated_is ends in
      ends_in x cycle limit now.phases some within at (λ other. subst (λ (y : Simulated). GoesOn y (phases_of (cycle - 1))) first_simulated (before other)) (subst (λ (n : ℕ). Ends x n (phases_after now.phases 1)) limit_is ended)
