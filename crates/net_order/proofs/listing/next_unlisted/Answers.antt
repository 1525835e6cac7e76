use Rattle.net_order.proofs.Common.{◌≡◌, ℕ, ◌<◌, true, List, [], ◌∷◌, length, sym, subst, inl, inr, arith, Contains, Contains-push, Contains-append_left, All-contains, is_listed}
use Rattle.std.proofs.lemmas.Grind.{common_steps}
use Rattle.net_order.proofs.Last.{drop-last}
use Rattle.net_order.proofs.listing.next_unlisted.Goals as goal

pub bounds-listed-d : goal.bounds-listed-d
bounds-listed-d c =
    let has = c.loop-d.invariant.0 c.in-Some.d (subst (λ (l : List ℕ). Contains l c.in-Some.d) (sym c.in-Some.ensures.items) (Contains-push c.pop.new.self.items c.in-Some.d)) in
    All-contains (λ d. d < length c.args.listed.now) c.args.reads.now.items c.in-Some.d c.requires has

pub loop-d-preserved : goal.loop-d-preserved
loop-d-preserved c =
    let is : is_listed c.args.listed.now c.in-Some.d ≡ true = grind (arith, common_steps, c.if-not-listed-d.false) in (
      λ e has. c.loop-d.invariant.0 e (subst (λ (l : List ℕ). Contains l e) (sym c.in-Some.ensures.items) (Contains-append_left c.pop.new.self.items (c.in-Some.d ∷ []) e has)),
      λ e has. elim (c.loop-d.invariant.1 e has) [ inl t ↦ inl t | inr here ↦ drop-last c.args.listed.now c.pop.new.self.items c.in-Some.d e is (subst (λ (l : List ℕ). Contains l e) c.in-Some.ensures.items here) ],
    )
