use Rattle.tb_process.proofs.Common.{sym, subst}
use Rattle.tb_watch.specs.Searches.{HasWatched}
use Rattle.tb_process.proofs.run.Run.phase.Goals as goal

pub returns-in-Ok-clause-phase : goal.returns-in-Ok-clause-phase
returns-in-Ok-clause-phase c = λ trees s code stands watched.
    let led = c.in_ok-end.ensures.phase trees s code stands in
    (led.0, led.1, subst (HasWatched c.show.new.watch) (sym led.1.text) (c.in-Ok.ensures.seen s.text watched))
