use Rattle.step_trials.proofs.Common.{◌≤◌, ℕ, List, ◌∷◌, [], length, sym, ◌∙◌, subst, arith, pow_below, length-append, design, GivesAt}
use Rattle.step_trials.proofs.TrialLemmas.{GivesAll-push}
use Rattle.step_trials.proofs.design.all_given.Goals as goal

pub overflow_cast-bits : goal.overflow_cast-bits
overflow_cast-bits c =
    let few : length c.args.bits.now ≤ 8 = rw c.requires.bits c.requires.small in
    omega (arith, few)

pub pow-count-requires : goal.pow-count-requires
pow-count-requires c =
    let few : length c.args.bits.now ≤ 8 = rw c.requires.bits c.requires.small in
    pow_below (length c.args.bits.now) 32 (omega (arith, few))

pub loop-number-preserved : goal.loop-number-preserved
loop-number-preserved c =
    let lists : List (List ℕ) = c.loop-number.list.items in
    let list : List ℕ = c.in_ok-given_for.field-0 in
    let one : GivesAt (design c.args.netlist.now.raw) (length lists) list = subst (λ (n : ℕ). GivesAt (design c.args.netlist.now.raw) n list) (c.from.ensures ∙ sym c.loop-number.invariant.count) c.in_ok-given_for.ensures in
    rw c.in_ok-push.ensures.items (record {
      count = omega (arith, length-append lists (list ∷ []), c.loop-number.invariant.count);
      gives = GivesAll-push (design c.args.netlist.now.raw) lists list c.loop-number.invariant.gives one;
    })
