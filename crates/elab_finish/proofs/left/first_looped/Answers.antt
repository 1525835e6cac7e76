use Rattle.elab_finish.proofs.Common.{get_or, refl, sym, ◌∙◌, false≢true, Left}
use Rattle.elab_finish.proofs.Joined.{joined_on, same_there}
use Rattle.elab_finish.proofs.Lefts.{lefts_later, first_left, free_of_loops}
use Rattle.elab_finish.proofs.left.first_looped.Goals as goal

abbrev none : Left
none = record { span = record { file = 0; line = 0; col = 0 }; signal = 0; first = 0; count = 0 }

pub new-requires : goal.new-requires
new-requires c = λ n m e. (let at = c.requires.joined n (joined_on c.args.builder.now n m e) in c.net_limit.ensures.signals at.0 at.1 n at.2)

pub returns-then-is_left_looped : goal.returns-then-is_left_looped
returns-then-is_left_looped c =
    let lefts = c.args.lefts.now in
    let k = c.loop-left.left-index in
    let x = get_or lefts k none in
    (x, first_left c.args.builder.now lefts k x (same_there lefts k none x c.loop-left-test.true) c.loop-left-test.true c.loop-left.invariant.none (c.is_left_looped.ensures.looped.0 c.if-is_left_looped.true), refl)

pub loop-left-preserved : goal.loop-left-preserved
loop-left-preserved c =
    let lefts = c.args.lefts.now in
    let k = c.loop-left.left-index in
    let x = get_or lefts k none in
    record {
      settled = c.is_left_looped.ensures.settled;
      none = lefts_later c.args.builder.now lefts k x (same_there lefts k none x c.loop-left-test.true) c.loop-left-test.true c.loop-left.invariant.none (λ h. false≢true (sym c.if-is_left_looped.false ∙ c.is_left_looped.ensures.looped.1 h));
    }

pub returns : goal.returns
returns c = free_of_loops c.args.builder.now c.args.lefts.now c.loop-left.left-index c.loop-left-test.false c.loop-left.invariant.none c.requires.covered
