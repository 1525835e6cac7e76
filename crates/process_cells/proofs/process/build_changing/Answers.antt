use Rattle.process_cells.proofs.Common.{◌≡◌, ◌+◌, true, length, refl, sym, subst, ap, ◌∙◌, IfErr-weaker, on_ok_weaker, Names, names_of, latch_of, steps_of, HasSignals, IsShort, AreSized, cells_of}
use Rattle.process_cells.proofs.Common.{AddsBy, variables, IsAccepted}
use Rattle.std.specs.Prelude.{None}
use Rattle.process_events.specs.Events as v
use Rattle.process_cells.proofs.Items.{both_ok, combinational_adds, item_own}
use Rattle.process_cells.proofs.process.build_changing.Goals as goal

pub build_combinational-requires-clause-accepted : goal.build_combinational-requires-clause-accepted
build_combinational-requires-clause-accepted c = subst (λ (n : Names). IsAccepted true (steps_of c.args.body.now n)) (sym c.in_ok-numbers.ensures.kept) c.requires.fit.accepted

pub build_combinational-requires-clause-unlatched : goal.build_combinational-requires-clause-unlatched
build_combinational-requires-clause-unlatched c = subst (λ (n : Names). latch_of (steps_of c.args.body.now n) ≡ None) (sym c.in_ok-numbers.ensures.kept) (c.requires.fit.unlatched refl)

pub build_combinational-requires-clause-variables : goal.build_combinational-requires-clause-variables
build_combinational-requires-clause-variables c = c.as_slice.ensures.value ∙ c.in_ok-numbers.ensures.numbers ∙ c.requires.fit.numbers ∙ ap (λ (n : Names). variables (steps_of c.args.body.now n)) (sym c.in_ok-numbers.ensures.kept)

pub build_combinational-requires-clause-sized : goal.build_combinational-requires-clause-sized
build_combinational-requires-clause-sized c = subst AreSized (sym c.in_ok-numbers.ensures.kept) c.requires.sized

pub build_combinational-requires-clause-signals : goal.build_combinational-requires-clause-signals
build_combinational-requires-clause-signals c = subst (λ (n : Names). HasSignals n c.args.builder.now) (sym c.in_ok-numbers.ensures.kept) c.requires.signals

pub returns-clause-adds : goal.returns-clause-adds
returns-clause-adds c =
    let old = c.args.builder.now in
    let new = c.build_combinational.new.builder in
    both_ok c.build_combinational.result _ _ _ (λ built item. subst (λ (n : Names). AddsBy v.Combinational (steps_of c.args.body.now n) old new) c.in_ok-numbers.ensures.kept (combinational_adds (steps_of c.args.body.now (names_of c.numbers_of.new.scope)) old new built item)) c.build_combinational.ensures.combines c.build_combinational.ensures.added

pub returns-clause-kept : goal.returns-clause-kept
returns-clause-kept c = on_ok_weaker c.build_combinational.result (λ h. h ∙ c.in_ok-numbers.ensures.kept) c.build_combinational.ensures.kept

pub returns-clause-own : goal.returns-clause-own
returns-clause-own c = on_ok_weaker c.build_combinational.result (λ h. item_own c.args.builder.now c.build_combinational.new.builder _ c.requires.own h) c.build_combinational.ensures.added

pub returns-clause-short : goal.returns-clause-short
returns-clause-short c = IfErr-weaker c.build_combinational.result _ _ (λ x h. subst (λ (n : Names). IsShort (length c.args.builder.now.cells + cells_of (steps_of c.args.body.now n)) x) c.in_ok-numbers.ensures.kept h) c.build_combinational.ensures.short
