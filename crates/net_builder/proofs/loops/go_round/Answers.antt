use Rattle.net_builder.proofs.Common.{◌≡◌, ℕ, true, false, set, inl, inr, sym, ◌∙◌, subst, arith, On, IsOnLoop, next_in, seen_in, IsRound}
use Rattle.net_builder.proofs.Following.{loop_next}
use Rattle.net_builder.proofs.Circling.{seen_inside, set_unseen, seen_here, seen_stays, round_on, least_loop}
use Rattle.net_builder.proofs.loops.go_round.Goals as goal

is_new : (c : goal.In-On) → seen_in c.loop-seen.seen.items c.loop-seen.net ≡ false
is_new c = cc

pub loop-seen-smaller : goal.loop-seen-smaller
loop-seen-smaller c =
    let less = set_unseen c.loop-seen.seen.items c.loop-seen.net (is_new c) in
    omega (arith, less)

pub loop-seen-preserved : goal.loop-seen-preserved
loop-seen-preserved c =
    let seen = c.loop-seen.seen.items in
    let net = c.loop-seen.net in
    let here = seen_inside seen net (is_new c) in
    let on : next_in c.args.steps.now net ≡ On c.in-On.next = sym c.of.ensures ∙ c.in-On.is in
    let least = sym c.min-found.ensures in (
      loop_next (next_in c.args.steps.now) net c.in-On.next on c.loop-seen.invariant.0,
      subst (λ (k : ℕ). IsOnLoop (next_in c.args.steps.now) k) least (least_loop (next_in c.args.steps.now) c.loop-seen.found net c.loop-seen.invariant.1 c.loop-seen.invariant.0),
      subst (λ (k : ℕ). IsRound (next_in c.args.steps.now) (set seen net true) k (λ m. c.in-On.next ≡ m)) least (round_on (next_in c.args.steps.now) seen c.loop-seen.found net c.in-On.next (is_new c) on c.loop-seen.invariant.2),
      elim c.loop-seen.invariant.3 [
        | inl same ↦ inr (subst (λ (k : ℕ). seen_in (set seen net true) k ≡ true) (sym same) (seen_here seen net here))
        | inr was ↦ inr (seen_stays seen net c.args.from here was)
      ],
      λ n was. seen_stays seen net n here (c.loop-seen.invariant.4 n was),
    )
