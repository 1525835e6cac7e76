use Rattle.tb_turns.proofs.Common.{◌≡◌, ℕ, ◌≤◌, List, inl, subst, arith, Finish, Limit, outcome, phases_of, phases_after, IsWord, true}
use Rattle.tb_watch.specs.Searches.{HasWatched}
use Rattle.tb_turns.proofs.Endings.{last_within, ended_by_finish, ended_by_limit, hangs_at_the_end, hangs_in_a_phase, has_its_word, first_same, second_same}
use Rattle.tb_turns.proofs.turns.Turns.simulate.Goals as goal

pub returns-then-to-last-clause-told : goal.returns-then-to-last-clause-told
returns-then-to-last-clause-told g c = λ setting start begun.
    let w = c.args.self.now.watch in
    let whole : c.min-to.result ≡ phases_of c.args.self.now.limit = omega arith in
    hangs_at_the_end c.simulations_go_on.ensures.pieces setting (g.R.Phases.stands c.run_to.new.run setting) (HasWatched c.run_to.new.listener) start c.min-to.result c.args.self.now.limit w.pass.word w.fail.word whole (rw c.in-Going.is at (c.in_ok-run_to.ensures.at setting start begun))

pub returns-else-to-last-clause-told : goal.returns-else-to-last-clause-told
returns-else-to-last-clause-told g c = λ setting start begun. rw c.in-Going.is at (c.in_ok-run_to.ensures.at setting start begun)

pub returns-in-Finished-clause-told : goal.returns-in-Finished-clause-told
returns-in-Finished-clause-told g c = λ setting start begun.
    let w = c.args.self.now.watch in
    let u = c.run_to.new.listener in
    let pass : u.pass.word ≡ w.pass.word = first_same u.pass.word u.fail.word w.pass.word w.fail.word c.in_ok-run_to.ensures.same in
    let fail : u.fail.word ≡ w.fail.word = second_same u.pass.word u.fail.word w.pass.word w.fail.word c.in_ok-run_to.ensures.same in
    let within : c.min-to.result ≤ phases_of c.args.self.now.limit = omega arith in
    has_its_word c.simulations_go_on.ensures.pieces setting (HasWatched u) start c.min-to.result c.args.self.now.limit w.pass.word w.fail.word c.finished.result within (rw c.in-Finished.is at (c.in_ok-run_to.ensures.at setting start begun)) (λ text heard.
    let P : List ℕ → Type 0 = λ p. IsWord (outcome true text) p w.fail.word c.finished.result in
    let Q : List ℕ → Type 0 = λ f. IsWord (outcome true text) u.pass.word f c.finished.result in
    subst P pass (subst Q fail (c.finished.ensures text heard)))

pub returns-in-Finished-clause-some : goal.returns-in-Finished-clause-some
returns-in-Finished-clause-some g c = λ setting start begun.
    let n = phases_after c.args.self.now.phases c.args.cycles in
    let within : c.min-to.result ≤ n = omega arith in
    inl (ended_by_finish setting (HasWatched c.run_to.new.listener) start n (last_within setting (HasWatched c.run_to.new.listener) start c.min-to.result n Finish within (rw c.in-Finished.is at (c.in_ok-run_to.ensures.at setting start begun))))

pub returns-in-TooLong-clause-told : goal.returns-in-TooLong-clause-told
returns-in-TooLong-clause-told g c = λ setting start begun.
    let w = c.args.self.now.watch in
    let within : c.min-to.result ≤ phases_of c.args.self.now.limit = omega arith in
    hangs_in_a_phase c.simulations_go_on.ensures.pieces setting (HasWatched c.run_to.new.listener) start c.min-to.result c.args.self.now.limit w.pass.word w.fail.word within (rw c.in-TooLong.is at (c.in_ok-run_to.ensures.at setting start begun))

pub returns-in-TooLong-clause-some : goal.returns-in-TooLong-clause-some
returns-in-TooLong-clause-some g c = λ setting start begun.
    let n = phases_after c.args.self.now.phases c.args.cycles in
    let within : c.min-to.result ≤ n = omega arith in
    inl (ended_by_limit setting (HasWatched c.run_to.new.listener) start n (last_within setting (HasWatched c.run_to.new.listener) start c.min-to.result n Limit within (rw c.in-TooLong.is at (c.in_ok-run_to.ensures.at setting start begun))))
