use Rattle.process_cells.proofs.Common.{sym, subst, Names, names_of, HasSignals, AreSized, process_refusals}
use Rattle.process_cells.proofs.Items.{first_stays, accepted_stays, adds_stays, short_stays, kept_stays, fit_stays, no_memory}
use Rattle.process_cells.proofs.Laying.{result_laid}
use Rattle.process_cells.proofs.process.build_process.Goals as goal

pub build_found-requires-clause-fit : goal.build_found-requires-clause-fit
build_found-requires-clause-fit c = λ none. fit_stays (names_of c.args.scope.now) (names_of c.process_refusal.new.scope) c.args.written.now c.args.process.now c.in-Ok.found c.in-Ok.ensures.kept c.in-Ok.ensures.first none

pub build_found-requires-clause-sized : goal.build_found-requires-clause-sized
build_found-requires-clause-sized c = subst AreSized (sym c.in-Ok.ensures.kept) c.requires.sized

pub build_found-requires-clause-signals : goal.build_found-requires-clause-signals
build_found-requires-clause-signals c = subst (λ (n : Names). HasSignals n c.args.builder.now) (sym c.in-Ok.ensures.kept) c.requires.signals

pub returns-in-Ok-clause-first : goal.returns-in-Ok-clause-first
returns-in-Ok-clause-first c = first_stays (process_refusals (names_of c.args.scope.now) c.args.written.now c.args.process.now) c.in-Ok.found c.build_found.result c.in-Ok.ensures.first c.build_found.ensures.same

pub returns-in-Ok-clause-adds : goal.returns-in-Ok-clause-adds
returns-in-Ok-clause-adds c = adds_stays (names_of c.args.scope.now) (names_of c.process_refusal.new.scope) c.args.process.now c.args.builder.now c.build_found.new.builder c.build_found.result c.in-Ok.ensures.kept c.build_found.ensures.adds

pub returns-in-Ok-clause-laid : goal.returns-in-Ok-clause-laid
returns-in-Ok-clause-laid c = result_laid (names_of c.args.scope.now) c.args.process.now c.args.builder.now c.build_found.new.builder c.build_found.result (returns-in-Ok-clause-adds c)

pub returns-in-Ok-clause-accepted : goal.returns-in-Ok-clause-accepted
returns-in-Ok-clause-accepted c = accepted_stays (process_refusals (names_of c.args.scope.now) c.args.written.now c.args.process.now) c.in-Ok.found c.build_found.result c.in-Ok.ensures.first c.build_found.ensures.none

pub returns-in-Ok-clause-short : goal.returns-in-Ok-clause-short
returns-in-Ok-clause-short c = short_stays (names_of c.args.scope.now) (names_of c.process_refusal.new.scope) c.args.process.now c.args.builder.now c.build_found.result c.in-Ok.ensures.kept c.build_found.ensures.short

pub returns-in-Ok-clause-kept : goal.returns-in-Ok-clause-kept
returns-in-Ok-clause-kept c = kept_stays (names_of c.args.scope.now) (names_of c.process_refusal.new.scope) (names_of c.build_found.new.scope) c.build_found.result c.in-Ok.ensures.kept c.build_found.ensures.kept

pub returns-in-Err-clause-accepted : goal.returns-in-Err-clause-accepted
returns-in-Err-clause-accepted c = λ kind is. no_memory kind is
