use Rattle.process_cells.proofs.Common.{◌+◌, length, sym, subst, OnOk, IfErr, on_ok_weaker, names_of, steps_of, IsShort, said, cells_by, AddsBy, IsFit}
use Rattle.process_events.specs.declared.sensitivity.Sensitivity.{Sensitivity}
use Rattle.process_cells.proofs.Items.{once_adds, refused_adds}
use Rattle.process_cells.proofs.process.build_body.Goals as goal

pub build_changing-requires-clause-fit : goal.build_changing-requires-clause-fit
build_changing-requires-clause-fit c = subst (λ (w : Sensitivity). IsFit (said w) (steps_of c.args.body.now (names_of c.args.scope.now))) c.in-Combinational.is c.requires.fit

pub build_rising-requires-clause-fit : goal.build_rising-requires-clause-fit
build_rising-requires-clause-fit c = subst (λ (w : Sensitivity). IsFit (said w) (steps_of c.args.body.now (names_of c.args.scope.now))) c.in-Clocked.is c.requires.fit

pub returns-in-Combinational-clause-adds : goal.returns-in-Combinational-clause-adds
returns-in-Combinational-clause-adds c = subst (λ (w : Sensitivity). OnOk c.build_changing.result (AddsBy (said w) (steps_of c.args.body.now (names_of c.args.scope.now)) c.args.builder.now c.build_changing.new.builder)) (sym c.in-Combinational.is) c.build_changing.ensures.adds

pub returns-in-Clocked-clause-adds : goal.returns-in-Clocked-clause-adds
returns-in-Clocked-clause-adds c = subst (λ (w : Sensitivity). OnOk c.build_rising.result (AddsBy (said w) (steps_of c.args.body.now (names_of c.args.scope.now)) c.args.builder.now c.build_rising.new.builder)) (sym c.in-Clocked.is) (on_ok_weaker c.build_rising.result (λ h. h c.in-Clocked.field-0.now) c.build_rising.ensures.adds)

pub returns-in-Once-clause-adds : goal.returns-in-Once-clause-adds
returns-in-Once-clause-adds c = subst (λ (w : Sensitivity). AddsBy (said w) (steps_of c.args.body.now (names_of c.args.scope.now)) c.args.builder.now c.args.builder.now) (sym c.in-Once.is) (once_adds (steps_of c.args.body.now (names_of c.args.scope.now)) c.args.builder.now)

pub returns-in-Refused-clause-adds : goal.returns-in-Refused-clause-adds
returns-in-Refused-clause-adds c = subst (λ (w : Sensitivity). AddsBy (said w) (steps_of c.args.body.now (names_of c.args.scope.now)) c.args.builder.now c.args.builder.now) (sym c.in-Refused.is) (refused_adds c.in-Refused.field-0 c.in-Refused.field-1 (steps_of c.args.body.now (names_of c.args.scope.now)) c.args.builder.now)

pub returns-in-Combinational-clause-short : goal.returns-in-Combinational-clause-short
returns-in-Combinational-clause-short c = subst (λ (w : Sensitivity). IfErr c.build_changing.result (λ e. IsShort (length c.args.builder.now.cells + cells_by (said w) (steps_of c.args.body.now (names_of c.args.scope.now))) e)) (sym c.in-Combinational.is) c.build_changing.ensures.short

pub returns-in-Clocked-clause-short : goal.returns-in-Clocked-clause-short
returns-in-Clocked-clause-short c = subst (λ (w : Sensitivity). IfErr c.build_rising.result (λ e. IsShort (length c.args.builder.now.cells + cells_by (said w) (steps_of c.args.body.now (names_of c.args.scope.now))) e)) (sym c.in-Clocked.is) c.build_rising.ensures.short
