use Rattle.process_cells.proofs.Common.{◌+◌, false, length, sym, subst, ap, ◌∙◌, IfErr-weaker, on_ok_weaker, Names, names_of, steps_of, HasSignals, IsShort, AreSized, cells_of, AddsBy, variables}
use Rattle.process_cells.proofs.Common.{HasOneKind, IsAccepted}
use Rattle.process_events.specs.Events as v
use Rattle.process_cells.proofs.Items.{both_ok, clocked_adds, item_own}
use Rattle.process_cells.proofs.process.build_rising.Goals as goal

pub build_clocked-requires-clause-accepted : goal.build_clocked-requires-clause-accepted
build_clocked-requires-clause-accepted c = subst (λ (n : Names). IsAccepted false (steps_of c.args.body.now n)) (sym c.in_ok-numbers.ensures.kept) c.requires.fit.accepted

pub build_clocked-requires-clause-kinds : goal.build_clocked-requires-clause-kinds
build_clocked-requires-clause-kinds c = subst (λ (n : Names). HasOneKind (steps_of c.args.body.now n)) (sym c.in_ok-numbers.ensures.kept) c.requires.fit.kinds

pub build_clocked-requires-clause-variables : goal.build_clocked-requires-clause-variables
build_clocked-requires-clause-variables c = c.as_slice.ensures.value ∙ c.in_ok-numbers.ensures.numbers ∙ c.requires.fit.numbers ∙ ap (λ (n : Names). variables (steps_of c.args.body.now n)) (sym c.in_ok-numbers.ensures.kept)

pub build_clocked-requires-clause-sized : goal.build_clocked-requires-clause-sized
build_clocked-requires-clause-sized c = subst AreSized (sym c.in_ok-numbers.ensures.kept) c.requires.sized

pub build_clocked-requires-clause-signals : goal.build_clocked-requires-clause-signals
build_clocked-requires-clause-signals c = subst (λ (n : Names). HasSignals n c.args.builder.now) (sym c.in_ok-numbers.ensures.kept) c.requires.signals

pub returns-clause-adds : goal.returns-clause-adds
returns-clause-adds c =
    let old = c.args.builder.now in
    let new = c.build_clocked.new.builder in
    both_ok c.build_clocked.result _ _ _ (λ built item clock. subst (λ (n : Names). AddsBy (v.Clocked clock) (steps_of c.args.body.now n) old new) c.in_ok-numbers.ensures.kept (clocked_adds clock (steps_of c.args.body.now (names_of c.numbers_of.new.scope)) old new built item)) c.build_clocked.ensures.clocks c.build_clocked.ensures.added

pub returns-clause-kept : goal.returns-clause-kept
returns-clause-kept c = on_ok_weaker c.build_clocked.result (λ h. h ∙ c.in_ok-numbers.ensures.kept) c.build_clocked.ensures.kept

pub returns-clause-own : goal.returns-clause-own
returns-clause-own c = on_ok_weaker c.build_clocked.result (λ h. item_own c.args.builder.now c.build_clocked.new.builder _ c.requires.own h) c.build_clocked.ensures.added

pub returns-clause-short : goal.returns-clause-short
returns-clause-short c = IfErr-weaker c.build_clocked.result _ _ (λ x h. subst (λ (n : Names). IsShort (length c.args.builder.now.cells + cells_of (steps_of c.args.body.now n)) x) c.in_ok-numbers.ensures.kept h) c.build_clocked.ensures.short
