use Rattle.elab_finish.proofs.Common.{◌≡◌, ℕ, false, set, inl, inr, sym, ◌∙◌, subst, arith, false≢true, length-set, loop_goes, loop_next, Looped, next_of, mark_in}
use Rattle.elab_finish.proofs.Searching.{stays_known, round_here, round_stays, round_on, one_closed}
use Rattle.elab_finish.proofs.search.Search.go_round.Goals as goal

pub index_mut-requires : goal.index_mut-requires
index_mut-requires c =
    let g = loop_goes (next_of c.args.builder.now) c.loop-self.net c.loop-self.invariant.looped in
    let here = c.loop-self.invariant.room c.loop-self.net g.0 g.1 in
    omega (arith, here, c.loop-self.self.marks.ok.0)

pub loop-self-smaller : goal.loop-self-smaller
loop-self-smaller c =
    let marks = c.loop-self.self.marks.items in
    let here = c.loop-self.invariant.room c.loop-self.net c.next_round-net.result c.next_round-net.ensures in
    let less = one_closed marks c.loop-self.net (λ e. (let not : c.is_round.result ≡ false = cc in false≢true (sym not ∙ c.is_round.ensures.1 e))) here in
    omega (arith, less)

pub loop-self-preserved : goal.loop-self-preserved
loop-self-preserved c =
    let next = next_of c.args.builder.now in
    let marks = c.loop-self.self.marks.items in
    let net = c.loop-self.net in
    let m = c.next_round-net.result in
    let on = c.next_round-net.ensures in
    let here = c.loop-self.invariant.room net m on in
    record {
      looped = loop_next next net m on c.loop-self.invariant.looped;
      room = λ n k e. (let r = c.loop-self.invariant.room n k e in let long = length-set marks net Looped in omega (arith, r, long));
      stays = λ n was. stays_known marks net Looped n here (λ s. absurd cc) (c.loop-self.invariant.stays n was);
      met = elim c.loop-self.invariant.met [
        | inl same ↦ inr (subst (λ (k : ℕ). mark_in (set marks net Looped) k ≡ Looped) (sym same) (round_here marks net here))
        | inr is ↦ inr (round_stays marks net c.args.met here is)
      ];
      walked = λ start w. round_on next marks start c.args.met net m (c.loop-self.invariant.walked start w) c.loop-self.invariant.looped on;
    }
