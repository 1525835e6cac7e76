use Rattle.net_builder.proofs.Common.{◌≡◌, ◌<◌, ℕ, true, false, length, get_or, replicate, sym, ◌∙◌, ap, subst, arith, Contains-get_or, get_or_read, next_in, seen_in}
use Rattle.net_builder.proofs.Circling.{round_none, round_below}
use Rattle.net_builder.proofs.loops.least_on_loop.Goals as goal

pub loop-net-init : goal.loop-net-init
loop-net-init c =
    let none : c.in_ok-seen.seen.items ≡ replicate (length c.args.steps.now) false = c.in_ok-seen.ensures.items_if_clones_equal (λ y h. h) ∙ ap (λ (k : ℕ). replicate k false) c.len.ensures.long in
    (c.requires.loops (get_or c.args.loops.now 0 0) (Contains-get_or c.args.loops.now 0 0 c.requires.some), round_none c.args.steps.now (get_or c.args.loops.now 0 0) c.in_ok-seen.seen.items none, λ k h. absurd (omega (arith, h)))

pub returns-clause-below : goal.returns-clause-below
returns-clause-below c = λ d n has from loop.
    (let within : has.0 < length c.args.loops.now = has.1 in
    let at : get_or c.args.loops.now has.0 0 ≡ d = sym (get_or_read c.args.loops.now has.0 d within (sym has.2) 0) in
    let seen : seen_in c.loop-net.seen.items d ≡ true = subst (λ (x : ℕ). seen_in c.loop-net.seen.items x ≡ true) at (c.loop-net.invariant.2 has.0 (omega (arith, within))) in
    round_below (next_in c.args.steps.now) c.loop-net.seen.items c.loop-net.least d n c.loop-net.invariant.1 seen from loop)
