use Rattle.tb_turns.proofs.Common.{◌≡◌, ◌+◌, ◌*◌, refl, sym, ◌∙◌, IsAt}
use Rattle.tb_turns.proofs.Endings.{told}
use Rattle.tb_turns.proofs.transcript.transcript_of.Goals as goal

pub returns : goal.returns
returns g c = λ setting start stands begins.
    let at : IsAt setting (g.R.Phases.stands c.args.run.now setting) (λ t. c.new-text.result.items ≡ t) start 0 = record { state = start; reached = refl; run = stands; text = c.new-text.ensures.items ∙ sym begins } in
    rw (c.finishes.ensures, c.from_vec.ensures) (rw c.from.ensures at (told c.simulations_go_on.ensures.pieces setting (g.R.Phases.stands c.run_to.new.run setting) start (2 * c.from.result + 1) c.run_to.new.listener.items c.in_ok-end.end (c.in_ok-end.ensures.at setting start at)))
