use Rattle.sat_solver.proofs.Common.{ℕ, ◌+◌, ◌<◌, ◌≤◌, ◌++◌, ◌∷◌, [], inl, inr, sym, subst, arith, Contains, All-push, Contains-append_left, Contains-push}
use Rattle.sat_solver.proofs.Pushes.{last_or}
use Rattle.sat_solver.proofs.focus.all_bits.Goals as goal

pub loop-v-preserved : goal.loop-v-preserved
loop-v-preserved c =
    let P : ℕ → Type 0 = λ v. (0 < v) × (v ≤ c.args.free) in
    rw c.in_ok-push.ensures.items (record {
      range = All-push P c.loop-v.bits.items (c.loop-v.v + 1) c.loop-v.invariant.range (omega arith, omega (arith, c.loop-v-test.true));
      all = λ v low high. elim (last_or (c.loop-v.v + 1) v (omega (arith, high))) [
        | inl early ↦ Contains-append_left c.loop-v.bits.items ((c.loop-v.v + 1) ∷ []) v (c.loop-v.invariant.all v low (omega (arith, early)))
        | inr last ↦ let Q : ℕ → Type 0 = Contains (c.loop-v.bits.items ++ (c.loop-v.v + 1) ∷ []) in subst Q (sym last) (Contains-push c.loop-v.bits.items (c.loop-v.v + 1))
      ];
    })
