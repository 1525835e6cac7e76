use Rattle.process_cells.proofs.Common.{ℕ, ap, ◌∙◌, names_of, sense, constant_faults_at, with_start}
use Rattle.vlog_meaning.specs.Senses.{assigned}
use Rattle.process_cells.proofs.Starting.{no_error}
use Rattle.process_cells.proofs.starts.start_signal.Goals as goal

pub returns-in-Ok-clause-starts : goal.returns-in-Ok-clause-starts
returns-in-Ok-clause-starts c = λ none. c.set_start.ensures ∙ ap (λ (v : ℕ). with_start c.args.number v c.args.builder.now) c.in-Ok.ensures.value

pub returns-in-Err-clause-starts : goal.returns-in-Err-clause-starts
returns-in-Err-clause-starts c = λ none. let x = sense (names_of c.args.scope.now) c.args.value.now in no_error (constant_faults_at x (assigned x c.args.width)) c.in-Err.field-0 c.in-Err.ensures.refused none
