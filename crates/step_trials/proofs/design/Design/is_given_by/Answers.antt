use Rattle.step_trials.proofs.Common.{◌≡◌, ℕ, ◌<◌, true, List, [], length, get_or, inl, inr, sym, ap, subst, ◌∙◌, arith, get_or_default, design, GivesAt}
use Rattle.step_trials.proofs.TrialLemmas.{below_or_at, given-once}
use Rattle.step_trials.proofs.design.Design.is_given_by.Goals as goal

pub returns-then-not-are_same : goal.returns-then-not-are_same
returns-then-not-are_same c =
    let n : ℕ = c.loop-number.number in
    let given : List (List ℕ) = c.args.self.now.given in
    let below : n < length given = omega (arith, ap length c.as_slice-given.ensures, c.loop-number-test.true) in
    let listed : c.as_slice-in-loop-number.result.now ≡ get_or given n [] =
    c.as_slice-in-loop-number.ensures ∙ c.index-given-number.is ∙ ap (λ (lists : List (List ℕ)). get_or lists n c.index-given-number.result) c.as_slice-given.ensures ∙ get_or_default given n c.index-given-number.result [] below in (
      (λ told. cc),
      (λ all.
          let one : c.in_ok-numbers.numbers ≡ get_or given n [] = given-once c.one_run.ensures.settles c.one_run.ensures.answer c.args.other.now c.requires.sound n c.in_ok-numbers.numbers (get_or given n []) c.in_ok-numbers.ensures (all n below) in
          let here = c.are_same.ensures.1 (c.as_slice.ensures ∙ one ∙ sym listed) in cc),
    )

pub loop-number-preserved : goal.loop-number-preserved
loop-number-preserved c =
    let n : ℕ = c.loop-number.number in
    let given : List (List ℕ) = c.args.self.now.given in
    let below : n < length given = omega (arith, ap length c.as_slice-given.ensures, c.loop-number-test.true) in
    let listed : c.as_slice-in-loop-number.result.now ≡ get_or given n [] =
    c.as_slice-in-loop-number.ensures ∙ c.index-given-number.is ∙ ap (λ (lists : List (List ℕ)). get_or lists n c.index-given-number.result) c.as_slice-given.ensures ∙ get_or_default given n c.index-given-number.result [] below in
    let yes : c.are_same.result ≡ true = cc in
    let same : c.as_slice.result.now ≡ c.as_slice-in-loop-number.result.now = c.are_same.ensures.0 yes in
    let now : GivesAt (design c.args.other.now.raw) n (get_or given n []) = subst (GivesAt (design c.args.other.now.raw) n) (sym c.as_slice.ensures ∙ same ∙ listed) c.in_ok-numbers.ensures in
    λ k lt. elim (below_or_at k n lt) [
      | inl less ↦ c.loop-number.invariant k less
      | inr at ↦ subst (λ (j : ℕ). GivesAt (design c.args.other.now.raw) j (get_or given j [])) (sym at) now
    ]
