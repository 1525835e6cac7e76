-- A bench whose parts can run, from the code of its processes.
use Rattle.tb_reading.proofs.Common.{◌≡◌, ℕ, ◌<◌, List, [], ◌∷◌, ◌++◌, map, length, subst, sym, All, slice_index, append-nil, All-nil, All-cons, All-head, All-tail, Stmt, Adds, Holds, Passes, code_of}
use Rattle.tb_reading.proofs.Common.{bench_tests, known, HasSignals, ArePlans, AreNetPlans, CanSettle, Waiting, Parts, names, widths, IsBelow, IsRunnable}

-- processes whose statements' numbers are below a limit, and the numbers behind them
split_below : (limit : ℕ) (ws : List Waiting) (rest : List ℕ) → All (λ k. k < limit) (map (λ w. w.body) ws ++ rest) → All (IsBelow limit) ws × All (λ k. k < limit) rest
split_below limit [] rest all = (All-nil (IsBelow limit), all)
split_below limit (w ∷ ws) rest all =
    let more = split_below limit ws rest (All-tail (λ k. k < limit) w.body (map (λ v. v.body) ws ++ rest) all) in
    (All-cons (IsBelow limit) w ws (All-head (λ k. k < limit) w.body (map (λ v. v.body) ws ++ rest) all) more.0, more.1)

pub runnable : (b : Parts) (parts : List Stmt) → Adds [] b.code (map (λ w. w.body) b.always ++ map (λ w. w.body) b.initial) parts → All (Passes (bench_tests (names b))) parts → ArePlans (names b) b.code b.plans → AreNetPlans (names b) b.nets.nodes b.net_plans → HasSignals (names b) (widths b) → b.clock.signal < length b.starts → b.clock.high.width ≡ slice_index (widths b) b.clock.signal → CanSettle (names b) (widths b) b.inputs b.outputs b.nets → IsRunnable b
runnable b parts adds passing plans net_plans signals clock high nets =
    let numbers : List ℕ = map (λ w. w.body) b.always ++ map (λ w. w.body) b.initial in
    let held : Holds [] b.code numbers parts = code_of b.code numbers parts adds in
    let first = split_below (length b.code) b.always (map (λ w. w.body) b.initial) held.below in
    let behind : All (λ k. k < length b.code) (map (λ w. w.body) b.initial ++ []) = subst (All (λ k. k < length b.code)) (sym (append-nil (map (λ w. w.body) b.initial))) first.1 in
    record {
      trees = held.more;
      code = held.whole.code;
      known = known (names b) b.code numbers parts adds passing;
      closed = held.whole.closed;
      plans = plans;
      always = first.0;
      initial = (split_below (length b.code) b.initial [] behind).0;
      signals = signals;
      clock = clock;
      high = high;
      nets = nets;
      net_plans = net_plans;
    }
