-- What is asked of a campaign's tester can be run.
use Rattle.project_tester.proofs.Common.{◌≡◌, arith, ◌<◌, ◌≤◌, length, slice_get, Some, refl, Prepared, Equality, IsPlan, plan_trials, plan_kind, Asked, IsAskable}

module _ (c : Prepared) (asked : Asked) (plan : IsPlan c) (askable : IsAskable (length c.campaign.mutations) c.campaign.kinds asked) where
  -- there is such a test
  pub test_within : asked.test < length c.trials
  test_within = omega (arith, askable.test, plan_trials c plan)

  -- an equality, which is no simulation, has a bound
  pub bound_within : slice_get c.trials asked.test ≡ Some Equality → (1 ≤ asked.bound) × (asked.bound ≤ 100000)
  bound_within at = askable.bound (rw (plan_kind c asked.test Equality plan at) refl)
