use Rattle.campaign_core.proofs.Common.{arith, want_follows}
use Rattle.campaign_core.proofs.Again.{wanted_again}
use Rattle.campaign_core.proofs.Orderly.{waits_some}
use Rattle.campaign_core.proofs.laws.given_up_pairs_start_again.Goals as goal

pub returns : goal.returns
returns g c s slot m t bound order allowed some =
    let is = (waits_some s m (record { test = t; bound = bound }) allowed.1.waits).1 in
    let test = (want_follows s.campaign s.state.rows m s.goal (record { test = t; bound = bound }) order.fit order.is_goal order.form.form allowed.1.mutation is).0 in
    wanted_again s.campaign s.state.rows m s.goal (record { test = t; bound = bound }) is (omega (arith, test, order.fit.few_tests)) some
