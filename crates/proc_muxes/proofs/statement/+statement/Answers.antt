use Rattle.proc_muxes.proofs.Common.{ℕ, ◌+◌, ◌∙◌, [], List, map, take, length, true, false, IfOk, IfErr, refl, sym, ap, subst, rules, arith, option_map, IfErr-weaker, left_lemmas, Decl, Constant}
use Rattle.proc_muxes.proofs.Common.{Names, names_of, with_name, item_steps, Steps, assigning, steps_of, else_steps, done_by, labelled, HasSignals, made, IsShort, ElabError, signals_kept, same_err}
use Rattle.proc_muxes.proofs.Common.{below_later, labels_in, loop_of, turn_steps, GoesOn, item_body, IsOf, Change, Turn, AreClearLabels, IsReady, cells_of, arms_cells, work, Built}
use Rattle.std.specs.Prelude.{Option, None, Some}
use Rattle.vlog_syntax.specs.declared.stmt.Stmt.TheViews.{the_lemmas}
use Rattle.elab_proc.proofs.TurnLemmas.{some_after, alike_after, put_back}
use Rattle.proc_muxes.specs.Turns.{AsksTurn, IsBuiltTurn}
use Rattle.proc_muxes.proofs.Branching.{else-as, block-as, choice-as, choice-clear, first-ready, test-places, first-fit, backs, haves, second-ready, choices-ready, test-below, both-stand}
use Rattle.proc_muxes.proofs.Branching.{choice-built, test-short, first-short, second-short, muxes-short}
use Rattle.proc_muxes.proofs.Closing.{case-is, case-of, case-arms, case-wrong, case-sized, case-keeps, case-held, case-stands, case-items-ready, case-last-ready, case-built, selector-allowed}
use Rattle.proc_muxes.proofs.Closing.{selector-short, arms-short, items-short, last-short, close-start, closing-on, close-fit, close-one, close-below, close-stands, close-next, close-short, close-end}
use Rattle.proc_muxes.proofs.Frames.{keeps-again, nets-added}
use Rattle.proc_muxes.proofs.Laying.{steps-laid, result-laid}
use Rattle.proc_muxes.proofs.Opening.{ready-item, open-skip, open-more, open-one, arm-keeps, body-ready, grown-places, match-short, body-short, opened-keeps, last-is, within-some}
use Rattle.proc_muxes.proofs.Refusing.{no-other}
use Rattle.proc_muxes.proofs.Turning.{turns-are, turns-ready, turned-start, turn-ready, turned-more, turned-end, turn-room, turned-all, turn-fails, turn-over, body-asked, turn-stops, turn-built}
use Rattle.proc_muxes.proofs.Turning.{turn-short, start-named, start-none, start-constant, start-fails, start-goes, loop-is}
use Rattle.proc_muxes.proofs.Walking.{ready-as, ready-later, block-ready, block-built, block-short, null-built, none-built, blocking-is, nonblocking-is, assign-ready, alone-short}
use Rattle.proc_muxes.proofs.statement.+statement.Goals as goal

pub build_case-arms_in-requires : goal.build_case-arms_in-requires
build_case-arms_in-requires t c = case-wrong (names_of c.args.scope.now) c.args.kind c.args.selector.now c.args.items.now (work c.args.builder.now c.args.variables.now) c.requires.ready

pub build_case-case_size-size-requires : goal.build_case-case_size-size-requires
build_case-case_size-size-requires t c = case-wrong (names_of c.args.scope.now) c.args.kind c.args.selector.now c.args.items.now (work c.args.builder.now c.args.variables.now) c.requires.ready

pub build_case-returns-in_err-bits-clause-short : goal.build_case-returns-in_err-bits-clause-short
build_case-returns-in_err-bits-clause-short t c = same_err c.from_residual-in_err-bits.result c.in_err-bits.field-0.0 _ c.from_residual-in_err-bits.ensures.1 (selector-short (names_of c.args.scope.now) c.args.kind c.args.selector.now c.args.items.now c.case_size-size.result c.case_size-size.ensures.size c.case_size-size.ensures.sized (length c.args.builder.now.cells) (length c.args.builder.now.cells + length (made (names_of c.args.scope.now) c.args.selector.now c.case_size-size.result)) c.in_err-bits.field-0.0 (omega arith) (c.in_err-bits.ensures.short (selector-allowed (names_of c.args.scope.now) c.args.kind c.args.selector.now c.args.items.now c.case_size-size.result c.case_size-size.ensures.size c.case_size-size.ensures.sized (work c.args.builder.now c.args.variables.now) c.requires.ready)))

pub build_case-build_arms-requires : goal.build_case-build_arms-requires
build_case-build_arms-requires t c = (
  search (rules, the_lemmas),
  (
    c.case_size-size.ensures.sized,
    (
      c.in_ok-bits.ensures.built.long,
      (
        c.in_ok-bits.ensures.built.below,
        (
          c.in_ok-chosen.ensures.before,
          (
            case-items-ready (names_of c.args.scope.now) c.args.kind c.args.selector.now c.args.items.now c.case_size-size.result c.case_size-size.ensures.size c.case_size-size.ensures.sized (work c.args.builder.now c.args.variables.now) c.requires.ready c.in_ok-chosen.chosen.before (done_by (option_map (item_body c.args.items.now) c.in_ok-chosen.chosen.last) (names_of c.args.scope.now)) c.in_ok-chosen.ensures.arms (work c.build_expr.new.builder c.args.variables.now) (case-keeps (names_of c.args.scope.now) c.args.kind c.args.selector.now c.args.items.now c.case_size-size.result c.case_size-size.ensures.size c.case_size-size.ensures.sized (work c.args.builder.now c.args.variables.now) c.requires.ready c.build_expr.new.builder c.in_ok-bits.bits c.in_ok-bits.ensures.built),
            (
              signals_kept (names_of c.args.scope.now) c.args.builder.now c.build_expr.new.builder c.in_ok-bits.ensures.built.grows c.requires.ready.signals,
              (case-stands (names_of c.args.scope.now) c.args.kind c.args.selector.now c.args.items.now c.case_size-size.result c.case_size-size.ensures.size c.case_size-size.ensures.sized (work c.args.builder.now c.args.variables.now) c.requires.ready c.build_expr.new.builder c.in_ok-bits.bits c.in_ok-bits.ensures.built, grown-places (work c.args.builder.now c.args.variables.now) c.build_expr.new.builder (length c.args.variables.now) c.in_ok-bits.ensures.built.grows c.requires.places),
            ),
          ),
        ),
      ),
    ),
  ),
)

pub build_case-returns-in_err-arms-clause-short : goal.build_case-returns-in_err-arms-clause-short
build_case-returns-in_err-arms-clause-short t c = same_err c.from_residual-in_err-arms.result c.in_err-arms.field-0.0 _ c.from_residual-in_err-arms.ensures.1 (items-short (names_of c.args.scope.now) c.args.kind c.args.selector.now c.args.items.now c.case_size-size.result c.case_size-size.ensures.size c.case_size-size.ensures.sized (work c.args.builder.now c.args.variables.now) c.build_expr.new.builder c.in_ok-bits.bits c.in_ok-bits.ensures.built c.in_ok-chosen.chosen.before (done_by (option_map (item_body c.args.items.now) c.in_ok-chosen.chosen.last) (names_of c.args.scope.now)) c.in_ok-chosen.ensures.arms c.in_err-arms.field-0.0 (c.in_err-arms.ensures.short (case-of (names_of c.args.scope.now) c.args.kind c.args.selector.now c.args.items.now) (case-sized (names_of c.args.scope.now) c.args.kind c.args.selector.now c.args.items.now c.case_size-size.result c.case_size-size.ensures.size c.case_size-size.ensures.sized)))

pub build_case-build_last-requires : goal.build_case-build_last-requires
build_case-build_last-requires t c = (
  search (rules, the_lemmas),
  (
    c.in_ok-chosen.ensures.last,
    (
      subst (λ (n : Names). IsReady n (done_by (option_map (item_body c.args.items.now) c.in_ok-chosen.chosen.last) n) (work c.build_arms.new.builder c.build_arms.new.variables)) (sym c.in_ok-arms.ensures.kept) (case-last-ready (names_of c.args.scope.now) c.args.kind c.args.selector.now c.args.items.now c.case_size-size.result c.case_size-size.ensures.size c.case_size-size.ensures.sized (work c.args.builder.now c.args.variables.now) c.requires.ready c.in_ok-chosen.chosen.before (done_by (option_map (item_body c.args.items.now) c.in_ok-chosen.chosen.last) (names_of c.args.scope.now)) c.in_ok-chosen.ensures.arms (work c.build_arms.new.builder c.build_arms.new.variables) (keeps-again [] [] (work c.args.builder.now c.args.variables.now) (work c.build_expr.new.builder c.args.variables.now) (work c.build_arms.new.builder c.build_arms.new.variables) (case-keeps (names_of c.args.scope.now) c.args.kind c.args.selector.now c.args.items.now c.case_size-size.result c.case_size-size.ensures.size c.case_size-size.ensures.sized (work c.args.builder.now c.args.variables.now) c.requires.ready c.build_expr.new.builder c.in_ok-bits.bits c.in_ok-bits.ensures.built) (opened-keeps (case-of (names_of c.args.scope.now) c.args.kind c.args.selector.now c.args.items.now) c.in_ok-bits.bits (labelled (map item_steps (take c.in_ok-chosen.chosen.before c.args.items.now))) c.in_ok-arms.arms (work c.build_expr.new.builder c.args.variables.now) (work c.build_arms.new.builder c.build_arms.new.variables) (c.in_ok-arms.ensures.opened (case-of (names_of c.args.scope.now) c.args.kind c.args.selector.now c.args.items.now) (case-sized (names_of c.args.scope.now) c.args.kind c.args.selector.now c.args.items.now c.case_size-size.result c.case_size-size.ensures.size c.case_size-size.ensures.sized))))),
      c.in_ok-arms.ensures.places,
    ),
  ),
)

pub build_case-returns-in_err-changes-clause-short : goal.build_case-returns-in_err-changes-clause-short
build_case-returns-in_err-changes-clause-short t c = same_err c.from_residual-in_err-changes.result c.in_err-changes.field-0.0 _ c.from_residual-in_err-changes.ensures.1 (last-short (names_of c.args.scope.now) c.args.kind c.args.selector.now c.args.items.now c.case_size-size.result c.case_size-size.ensures.size c.case_size-size.ensures.sized (work c.args.builder.now c.args.variables.now) c.build_expr.new.builder c.in_ok-bits.bits c.in_ok-bits.ensures.built c.in_ok-chosen.chosen.before (done_by (option_map (item_body c.args.items.now) c.in_ok-chosen.chosen.last) (names_of c.args.scope.now)) c.in_ok-chosen.ensures.arms (work c.build_arms.new.builder c.build_arms.new.variables) c.in_ok-arms.arms c.in_err-changes.field-0.0 (c.in_ok-arms.ensures.opened (case-of (names_of c.args.scope.now) c.args.kind c.args.selector.now c.args.items.now) (case-sized (names_of c.args.scope.now) c.args.kind c.args.selector.now c.args.items.now c.case_size-size.result c.case_size-size.ensures.size c.case_size-size.ensures.sized)) (subst (λ (n : Names). IsShort (length c.build_arms.new.builder.cells + cells_of (done_by (option_map (item_body c.args.items.now) c.in_ok-chosen.chosen.last) n)) c.in_err-changes.field-0.0) c.in_ok-arms.ensures.kept c.in_err-changes.ensures.short))

pub build_case-loop-arm-init : goal.build_case-loop-arm-init
build_case-loop-arm-init t c = record {
  closing = (c.build_expr.new.builder, c.in_ok-bits.ensures.built, close-start (case-of (names_of c.args.scope.now) c.args.kind c.args.selector.now c.args.items.now) c.in_ok-bits.bits (case-arms (names_of c.args.scope.now) c.args.kind c.args.selector.now c.args.items.now) (labelled (map item_steps (take c.in_ok-chosen.chosen.before c.args.items.now))) (done_by (option_map (item_body c.args.items.now) c.in_ok-chosen.chosen.last) (names_of c.args.scope.now)) (work c.build_expr.new.builder c.args.variables.now) (work c.build_arms.new.builder c.build_arms.new.variables) (work c.build_last.new.builder c.build_last.new.variables) c.in_ok-arms.arms c.in_ok-changes.changes (sym c.in_ok-chosen.ensures.arms) (c.in_ok-arms.ensures.opened (case-of (names_of c.args.scope.now) c.args.kind c.args.selector.now c.args.items.now) (case-sized (names_of c.args.scope.now) c.args.kind c.args.selector.now c.args.items.now c.case_size-size.result c.case_size-size.ensures.size c.case_size-size.ensures.sized)) (subst (λ (n : Names). Built (done_by (option_map (item_body c.args.items.now) c.in_ok-chosen.chosen.last) n) (work c.build_arms.new.builder c.build_arms.new.variables) (work c.build_last.new.builder c.build_last.new.variables) c.in_ok-changes.changes) c.in_ok-arms.ensures.kept c.in_ok-changes.ensures.built), c.in_ok-bits.ensures.laid);
  places = c.in_ok-changes.ensures.places;
  kept = c.in_ok-changes.ensures.kept ∙ c.in_ok-arms.ensures.kept;
}

pub build_case-choose-requires-clause-fit : goal.build_case-choose-requires-clause-fit
build_case-choose-requires-clause-fit t c = close-fit (case-of (names_of c.args.scope.now) c.args.kind c.args.selector.now c.args.items.now) c.in_ok-bits.bits (case-arms (names_of c.args.scope.now) c.args.kind c.args.selector.now c.args.items.now) (work c.loop-arm.invariant.closing.0 c.args.variables.now) (work c.loop-arm.builder c.loop-arm.variables) c.in-Some.arm c.pop.new.self c.loop-arm.changes (closing-on (case-of (names_of c.args.scope.now) c.args.kind c.args.selector.now c.args.items.now) c.in_ok-bits.bits (case-arms (names_of c.args.scope.now) c.args.kind c.args.selector.now c.args.items.now) (work c.loop-arm.invariant.closing.0 c.args.variables.now) (work c.loop-arm.builder c.loop-arm.variables) c.loop-arm.arms c.pop.new.self c.in-Some.arm c.loop-arm.changes c.in-Some.ensures c.loop-arm.invariant.closing.2) c.in-Some.arm.first.items refl (case-held (names_of c.args.scope.now) c.args.kind c.args.selector.now c.args.items.now c.case_size-size.result c.case_size-size.ensures.size c.case_size-size.ensures.sized (work c.args.builder.now c.args.variables.now) c.requires.ready c.loop-arm.invariant.closing.0 c.in_ok-bits.bits c.loop-arm.invariant.closing.1) (case-stands (names_of c.args.scope.now) c.args.kind c.args.selector.now c.args.items.now c.case_size-size.result c.case_size-size.ensures.size c.case_size-size.ensures.sized (work c.args.builder.now c.args.variables.now) c.requires.ready c.loop-arm.invariant.closing.0 c.in_ok-bits.bits c.loop-arm.invariant.closing.1)

pub build_case-choose-requires-clause-places : goal.build_case-choose-requires-clause-places
build_case-choose-requires-clause-places t c = c.loop-arm.invariant.places

pub build_case-choose-requires-clause-one : goal.build_case-choose-requires-clause-one
build_case-choose-requires-clause-one t c = close-one (case-of (names_of c.args.scope.now) c.args.kind c.args.selector.now c.args.items.now) c.in_ok-bits.bits (case-arms (names_of c.args.scope.now) c.args.kind c.args.selector.now c.args.items.now) (work c.loop-arm.invariant.closing.0 c.args.variables.now) (work c.loop-arm.builder c.loop-arm.variables) c.in-Some.arm c.pop.new.self c.loop-arm.changes (closing-on (case-of (names_of c.args.scope.now) c.args.kind c.args.selector.now c.args.items.now) c.in_ok-bits.bits (case-arms (names_of c.args.scope.now) c.args.kind c.args.selector.now c.args.items.now) (work c.loop-arm.invariant.closing.0 c.args.variables.now) (work c.loop-arm.builder c.loop-arm.variables) c.loop-arm.arms c.pop.new.self c.in-Some.arm c.loop-arm.changes c.in-Some.ensures c.loop-arm.invariant.closing.2)

pub build_case-choose-requires-clause-test : goal.build_case-choose-requires-clause-test
build_case-choose-requires-clause-test t c = close-below (case-of (names_of c.args.scope.now) c.args.kind c.args.selector.now c.args.items.now) c.in_ok-bits.bits (case-arms (names_of c.args.scope.now) c.args.kind c.args.selector.now c.args.items.now) (work c.loop-arm.invariant.closing.0 c.args.variables.now) (work c.loop-arm.builder c.loop-arm.variables) c.in-Some.arm c.pop.new.self c.loop-arm.changes (closing-on (case-of (names_of c.args.scope.now) c.args.kind c.args.selector.now c.args.items.now) c.in_ok-bits.bits (case-arms (names_of c.args.scope.now) c.args.kind c.args.selector.now c.args.items.now) (work c.loop-arm.invariant.closing.0 c.args.variables.now) (work c.loop-arm.builder c.loop-arm.variables) c.loop-arm.arms c.pop.new.self c.in-Some.arm c.loop-arm.changes c.in-Some.ensures c.loop-arm.invariant.closing.2)

pub build_case-choose-requires-clause-stands : goal.build_case-choose-requires-clause-stands
build_case-choose-requires-clause-stands t c = close-stands (case-of (names_of c.args.scope.now) c.args.kind c.args.selector.now c.args.items.now) c.in_ok-bits.bits (case-arms (names_of c.args.scope.now) c.args.kind c.args.selector.now c.args.items.now) (work c.loop-arm.invariant.closing.0 c.args.variables.now) (work c.loop-arm.builder c.loop-arm.variables) c.in-Some.arm c.pop.new.self c.loop-arm.changes (closing-on (case-of (names_of c.args.scope.now) c.args.kind c.args.selector.now c.args.items.now) c.in_ok-bits.bits (case-arms (names_of c.args.scope.now) c.args.kind c.args.selector.now c.args.items.now) (work c.loop-arm.invariant.closing.0 c.args.variables.now) (work c.loop-arm.builder c.loop-arm.variables) c.loop-arm.arms c.pop.new.self c.in-Some.arm c.loop-arm.changes c.in-Some.ensures c.loop-arm.invariant.closing.2) (case-stands (names_of c.args.scope.now) c.args.kind c.args.selector.now c.args.items.now c.case_size-size.result c.case_size-size.ensures.size c.case_size-size.ensures.sized (work c.args.builder.now c.args.variables.now) c.requires.ready c.loop-arm.invariant.closing.0 c.in_ok-bits.bits c.loop-arm.invariant.closing.1)

pub build_case-returns-in_err-changes-2-clause-short : goal.build_case-returns-in_err-changes-2-clause-short
build_case-returns-in_err-changes-2-clause-short t c = same_err c.from_residual-in_err-changes-2.result c.in_err-changes-2.field-0.0 _ c.from_residual-in_err-changes-2.ensures.1 (arms-short (names_of c.args.scope.now) c.args.kind c.args.selector.now c.args.items.now c.case_size-size.result c.case_size-size.ensures.size c.case_size-size.ensures.sized (work c.args.builder.now c.args.variables.now) c.loop-arm.invariant.closing.0 c.in_ok-bits.bits (length c.loop-arm.invariant.closing.0.cells + arms_cells (case-of (names_of c.args.scope.now) c.args.kind c.args.selector.now c.args.items.now) (case-arms (names_of c.args.scope.now) c.args.kind c.args.selector.now c.args.items.now)) c.in_err-changes-2.field-0.0 c.loop-arm.invariant.closing.1 (omega arith) (close-short (case-of (names_of c.args.scope.now) c.args.kind c.args.selector.now c.args.items.now) c.in_ok-bits.bits (case-arms (names_of c.args.scope.now) c.args.kind c.args.selector.now c.args.items.now) (work c.loop-arm.invariant.closing.0 c.args.variables.now) (work c.loop-arm.builder c.loop-arm.variables) c.in-Some.arm c.pop.new.self c.loop-arm.changes (closing-on (case-of (names_of c.args.scope.now) c.args.kind c.args.selector.now c.args.items.now) c.in_ok-bits.bits (case-arms (names_of c.args.scope.now) c.args.kind c.args.selector.now c.args.items.now) (work c.loop-arm.invariant.closing.0 c.args.variables.now) (work c.loop-arm.builder c.loop-arm.variables) c.loop-arm.arms c.pop.new.self c.in-Some.arm c.loop-arm.changes c.in-Some.ensures c.loop-arm.invariant.closing.2) c.in-Some.arm.first.items c.in_err-changes-2.field-0.0 refl c.in_err-changes-2.ensures.short))

pub build_case-loop-arm-preserved : goal.build_case-loop-arm-preserved
build_case-loop-arm-preserved t c = record {
  closing = (c.loop-arm.invariant.closing.0, c.loop-arm.invariant.closing.1, close-next (case-of (names_of c.args.scope.now) c.args.kind c.args.selector.now c.args.items.now) c.in_ok-bits.bits (case-arms (names_of c.args.scope.now) c.args.kind c.args.selector.now c.args.items.now) (work c.loop-arm.invariant.closing.0 c.args.variables.now) (work c.loop-arm.builder c.loop-arm.variables) c.in-Some.arm c.pop.new.self c.loop-arm.changes (closing-on (case-of (names_of c.args.scope.now) c.args.kind c.args.selector.now c.args.items.now) c.in_ok-bits.bits (case-arms (names_of c.args.scope.now) c.args.kind c.args.selector.now c.args.items.now) (work c.loop-arm.invariant.closing.0 c.args.variables.now) (work c.loop-arm.builder c.loop-arm.variables) c.loop-arm.arms c.pop.new.self c.in-Some.arm c.loop-arm.changes c.in-Some.ensures c.loop-arm.invariant.closing.2) (work c.choose.new.builder c.choose.new.variables) c.in-Some.arm.first.items c.in_ok-changes-2.changes refl c.in_ok-changes-2.ensures.chooses c.in_ok-changes-2.ensures.joined, c.loop-arm.invariant.closing.3);
  places = c.in_ok-changes-2.ensures.places;
  kept = c.loop-arm.invariant.kept;
}

pub build_case-returns-clause-built : goal.build_case-returns-clause-built
build_case-returns-clause-built t c = case-built (names_of c.args.scope.now) c.args.kind c.args.selector.now c.args.items.now c.case_size-size.result c.case_size-size.ensures.size c.case_size-size.ensures.sized (work c.args.builder.now c.args.variables.now) (work c.loop-arm.builder c.loop-arm.variables) c.loop-arm.invariant.closing.0 c.in_ok-bits.bits c.loop-arm.changes c.loop-arm.invariant.closing.1 c.loop-arm.invariant.closing.3 (close-end (case-of (names_of c.args.scope.now) c.args.kind c.args.selector.now c.args.items.now) c.in_ok-bits.bits (case-arms (names_of c.args.scope.now) c.args.kind c.args.selector.now c.args.items.now) (work c.loop-arm.invariant.closing.0 c.args.variables.now) (work c.loop-arm.builder c.loop-arm.variables) c.loop-arm.arms c.loop-arm.changes c.in_default.ensures.0 c.loop-arm.invariant.closing.2)

pub build_case-returns-clause-places : goal.build_case-returns-clause-places
build_case-returns-clause-places t c = c.loop-arm.invariant.places

pub build_arms-loop-place-preserved-then-is_default : goal.build_arms-loop-place-preserved-then-is_default
build_arms-loop-place-preserved-then-is_default t c = record {
  opened = λ s of. open-skip s c.args.selector.now.bits c.args.items.now c.loop-place.place c.index-items-place.result (work c.args.builder.now c.args.variables.now) (work c.loop-place.builder c.loop-place.variables) c.loop-place.arms c.index-items-place.is (omega arith) (sym c.is_default.ensures ∙ c.if-is_default.true) (c.loop-place.invariant.opened s of);
  keeps = c.loop-place.invariant.keeps;
  places = c.loop-place.invariant.places;
  kept = c.loop-place.invariant.kept;
}

pub build_arms-build_match-requires-clause-below : goal.build_arms-build_match-requires-clause-below
build_arms-build_match-requires-clause-below t c = below_later c.args.builder.now.nets c.loop-place.builder.nets c.args.selector.now.bits (nets-added c.args.builder.now c.loop-place.builder c.loop-place.invariant.keeps.adds) c.requires.below

pub build_arms-build_match-requires-clause-clear : goal.build_arms-build_match-requires-clause-clear
build_arms-build_match-requires-clause-clear t c = rw c.as_slice-labels.ensures (subst (λ (n : Names). AreClearLabels n c.args.selector.now.size (labels_in c.index-items-place.result)) (sym c.loop-place.invariant.kept) (ready-item (names_of c.args.scope.now) c.args.selector.now.size c.args.items.now c.args.before c.loop-place.place c.index-items-place.result (work c.args.builder.now c.args.variables.now) c.index-items-place.is (omega arith) (omega arith) (sym c.is_default.ensures ∙ c.if-is_default.false) c.requires.ready).0)

pub build_arms-returns-in_err-test-clause-short : goal.build_arms-returns-in_err-test-clause-short
build_arms-returns-in_err-test-clause-short t c = same_err c.from_residual.result c.in_err-test.field-0.0 _ c.from_residual.ensures.1 (λ s of. match-short s c.args.selector.now.bits c.args.items.now c.args.before c.loop-place.place c.index-items-place.result (work c.args.builder.now c.args.variables.now) (work c.loop-place.builder c.loop-place.variables) c.loop-place.arms c.as_slice-labels.result.now c.in_err-test.field-0.0 c.as_slice-labels.ensures c.index-items-place.is (omega arith) (omega arith) (sym c.is_default.ensures ∙ c.if-is_default.false) (c.loop-place.invariant.opened s of) (c.in_err-test.ensures.short s (subst (λ (n : Names). IsOf s n c.args.selector.now.kind c.args.selector.now.size) (sym c.loop-place.invariant.kept) of)))

pub build_arms-build_statement-requires : goal.build_arms-build_statement-requires
build_arms-build_statement-requires t c = (search (rules, the_lemmas), (subst (λ (n : Names). IsReady n (steps_of c.get-body.result.now n) (work c.build_match.new.builder c.loop-place.variables)) (sym c.loop-place.invariant.kept) (body-ready (names_of c.args.scope.now) c.args.selector.now.size c.index-items-place.result c.get-body.result.now (work c.args.builder.now c.args.variables.now) (work c.loop-place.builder c.loop-place.variables) c.build_match.new.builder c.get-body.ensures (ready-item (names_of c.args.scope.now) c.args.selector.now.size c.args.items.now c.args.before c.loop-place.place c.index-items-place.result (work c.args.builder.now c.args.variables.now) c.index-items-place.is (omega arith) (omega arith) (sym c.is_default.ensures ∙ c.if-is_default.false) c.requires.ready) c.loop-place.invariant.keeps c.in_ok-test.ensures.grows), grown-places (work c.loop-place.builder c.loop-place.variables) c.build_match.new.builder (length c.loop-place.variables) c.in_ok-test.ensures.grows c.loop-place.invariant.places))

pub build_arms-returns-in_err-changes-clause-short : goal.build_arms-returns-in_err-changes-clause-short
build_arms-returns-in_err-changes-clause-short t c = same_err c.from_residual-in_err-changes.result c.in_err-changes.field-0.0 _ c.from_residual-in_err-changes.ensures.1 (λ s of. body-short s c.args.selector.now.bits (names_of c.args.scope.now) c.args.items.now c.args.before c.loop-place.place c.index-items-place.result (work c.args.builder.now c.args.variables.now) (work c.loop-place.builder c.loop-place.variables) c.build_match.new.builder c.loop-place.arms c.in_ok-test.test c.as_slice-labels.result.now c.get-body.result.now c.in_err-changes.field-0.0 of.names_are c.as_slice-labels.ensures c.get-body.ensures c.index-items-place.is (omega arith) (omega arith) (sym c.is_default.ensures ∙ c.if-is_default.false) (c.loop-place.invariant.opened s of) (c.in_ok-test.ensures.built s (subst (λ (n : Names). IsOf s n c.args.selector.now.kind c.args.selector.now.size) (sym c.loop-place.invariant.kept) of)) (subst (λ (n : Names). IsShort (length c.build_match.new.builder.cells + cells_of (steps_of c.get-body.result.now n)) c.in_err-changes.field-0.0) c.loop-place.invariant.kept c.in_err-changes.ensures.short))

pub build_arms-set_aside-requires-clause-fit : goal.build_arms-set_aside-requires-clause-fit
build_arms-set_aside-requires-clause-fit t c = first-fit (names_of c.args.scope.now) (steps_of c.get-body.result.now (names_of c.args.scope.now)) (work c.build_match.new.builder c.loop-place.variables) (work c.build_statement.new.builder c.build_statement.new.variables) c.in_ok-changes.changes c.as_slice-changed.result.now (body-ready (names_of c.args.scope.now) c.args.selector.now.size c.index-items-place.result c.get-body.result.now (work c.args.builder.now c.args.variables.now) (work c.loop-place.builder c.loop-place.variables) c.build_match.new.builder c.get-body.ensures (ready-item (names_of c.args.scope.now) c.args.selector.now.size c.args.items.now c.args.before c.loop-place.place c.index-items-place.result (work c.args.builder.now c.args.variables.now) c.index-items-place.is (omega arith) (omega arith) (sym c.is_default.ensures ∙ c.if-is_default.false) c.requires.ready) c.loop-place.invariant.keeps c.in_ok-test.ensures.grows) (subst (λ (n : Names). Built (steps_of c.get-body.result.now n) (work c.build_match.new.builder c.loop-place.variables) (work c.build_statement.new.builder c.build_statement.new.variables) c.in_ok-changes.changes) c.loop-place.invariant.kept c.in_ok-changes.ensures.built) c.as_slice-changed.ensures

pub build_arms-loop-place-preserved : goal.build_arms-loop-place-preserved
build_arms-loop-place-preserved t c = record {
  opened = λ s of. open-more s c.args.selector.now.bits c.args.items.now c.loop-place.place c.index-items-place.result (work c.args.builder.now c.args.variables.now) (work c.loop-place.builder c.loop-place.variables) (work c.set_aside.new.builder c.set_aside.new.variables) c.loop-place.arms c.push.new.self _ c.index-items-place.is (omega arith) (sym c.is_default.ensures ∙ c.if-is_default.false) c.in_ok-push.ensures (c.loop-place.invariant.opened s of) (open-one s c.args.selector.now.bits (names_of c.args.scope.now) c.index-items-place.result _ (work c.loop-place.builder c.loop-place.variables) c.build_match.new.builder (work c.build_statement.new.builder c.build_statement.new.variables) (work c.set_aside.new.builder c.set_aside.new.variables) c.as_slice-labels.result.now c.get-body.result.now c.as_slice-changed.result.now of.names_are c.as_slice-labels.ensures c.get-body.ensures (c.in_ok-test.ensures.built s (subst (λ (n : Names). IsOf s n c.args.selector.now.kind c.args.selector.now.size) (sym c.loop-place.invariant.kept) of)) (subst (λ (n : Names). Built (steps_of c.get-body.result.now n) (work c.build_match.new.builder c.loop-place.variables) (work c.build_statement.new.builder c.build_statement.new.variables) c.in_ok-changes.changes) c.loop-place.invariant.kept c.in_ok-changes.ensures.built) c.in_ok-first.ensures.have c.as_slice-changed.ensures c.in_ok-first.ensures.back refl);
  keeps = arm-keeps (steps_of c.get-body.result.now (names_of c.args.scope.now)) (work c.args.builder.now c.args.variables.now) (work c.loop-place.builder c.loop-place.variables) c.build_match.new.builder (work c.build_statement.new.builder c.build_statement.new.variables) (work c.set_aside.new.builder c.set_aside.new.variables) c.in_ok-changes.changes c.as_slice-changed.result.now c.loop-place.invariant.keeps c.in_ok-test.ensures.grows (subst (λ (n : Names). Built (steps_of c.get-body.result.now n) (work c.build_match.new.builder c.loop-place.variables) (work c.build_statement.new.builder c.build_statement.new.variables) c.in_ok-changes.changes) c.loop-place.invariant.kept c.in_ok-changes.ensures.built) c.as_slice-changed.ensures c.in_ok-first.ensures.back;
  places = c.in_ok-first.ensures.places;
  kept = c.in_ok-changes.ensures.kept ∙ c.loop-place.invariant.kept;
}

pub build_last-build_statement-requires : goal.build_last-build_statement-requires
build_last-build_statement-requires t c = (search (rules, the_lemmas), (ready-as (names_of c.args.scope.now) _ _ (work c.args.builder.now c.args.variables.now) (last-is (names_of c.args.scope.now) c.args.items.now c.args.place c.in-Some.place c.index-items-place.result c.get-body.result.now c.in-Some.is c.index-items-place.is (within-some c.args.items.now c.args.place c.in-Some.place c.in-Some.is c.requires.within) c.get-body.ensures) c.requires.ready, c.requires.places))

pub build_last-returns-in-Some-clause-built : goal.build_last-returns-in-Some-clause-built
build_last-returns-in-Some-clause-built t c = subst (λ (p : Steps). IfOk c.build_statement.result (λ (l : List Change). Built p (work c.args.builder.now c.args.variables.now) (work c.build_statement.new.builder c.build_statement.new.variables) l)) (sym (last-is (names_of c.args.scope.now) c.args.items.now c.args.place c.in-Some.place c.index-items-place.result c.get-body.result.now c.in-Some.is c.index-items-place.is (within-some c.args.items.now c.args.place c.in-Some.place c.in-Some.is c.requires.within) c.get-body.ensures)) c.build_statement.ensures.built

pub build_last-returns-in-Some-clause-short : goal.build_last-returns-in-Some-clause-short
build_last-returns-in-Some-clause-short t c = subst (λ (p : Steps). IfErr c.build_statement.result (λ (e : ElabError). IsShort (length c.args.builder.now.cells + cells_of p) e)) (sym (last-is (names_of c.args.scope.now) c.args.items.now c.args.place c.in-Some.place c.index-items-place.result c.get-body.result.now c.in-Some.is c.index-items-place.is (within-some c.args.items.now c.args.place c.in-Some.place c.in-Some.is c.requires.within) c.get-body.ensures)) c.build_statement.ensures.short

pub build_statement-returns-in-Case-clause-built : goal.build_statement-returns-in-Case-clause-built
build_statement-returns-in-Case-clause-built t c = subst (λ (p : Steps). IfOk c.build_case.result (λ (l : List Change). Built p (work c.args.builder.now c.args.variables.now) (work c.build_case.new.builder c.build_case.new.variables) l)) (sym (case-is (names_of c.args.scope.now) c.args.stmt.now c.in-Case.field-0 c.in-Case.kind c.in-Case.selector c.get-selector.result.now c.in-Case.items c.as_slice-in-Case.result.now c.in-Case.is c.get-selector.ensures c.as_slice-in-Case.ensures)) c.build_case.ensures.built

pub build_statement-returns-in-Case-clause-short : goal.build_statement-returns-in-Case-clause-short
build_statement-returns-in-Case-clause-short t c = subst (λ (p : Steps). IfErr c.build_case.result (λ (e : ElabError). IsShort (length c.args.builder.now.cells + cells_of p) e)) (sym (case-is (names_of c.args.scope.now) c.args.stmt.now c.in-Case.field-0 c.in-Case.kind c.in-Case.selector c.get-selector.result.now c.in-Case.items c.as_slice-in-Case.result.now c.in-Case.is c.get-selector.ensures c.as_slice-in-Case.ensures)) c.build_case.ensures.short

pub build_case-returns-clause-kept : goal.build_case-returns-clause-kept
build_case-returns-clause-kept t c = c.loop-arm.invariant.kept

pub build_arms-build_match-requires-clause-signals : goal.build_arms-build_match-requires-clause-signals
build_arms-build_match-requires-clause-signals t c = subst (λ (n : Names). HasSignals n c.loop-place.builder) (sym c.loop-place.invariant.kept) (ready-later (names_of c.args.scope.now) _ [] (work c.args.builder.now c.args.variables.now) (work c.loop-place.builder c.loop-place.variables) c.loop-place.invariant.keeps (ready-item (names_of c.args.scope.now) c.args.selector.now.size c.args.items.now c.args.before c.loop-place.place c.index-items-place.result (work c.args.builder.now c.args.variables.now) c.index-items-place.is (omega arith) (omega arith) (sym c.is_default.ensures ∙ c.if-is_default.false) c.requires.ready).1).signals

pub build_arms-returns-clause-kept : goal.build_arms-returns-clause-kept
build_arms-returns-clause-kept t c = c.loop-place.invariant.kept

pub build_turns-build_each_turn-requires : goal.build_turns-build_each_turn-requires
build_turns-build_each_turn-requires t c = (search (rules, the_lemmas), (some_after (names_of c.args.scope.now) (names_of c.replace-declared.new.self) c.args.header.now.name.now.name (Constant c.args.first 0 c.args.header.now.is_signed) ((rw c.as_str-name.ensures at c.replace-declared.ensures.declared) ∙ ap (λ (d : Decl). with_name (names_of c.args.scope.now) c.args.header.now.name.now.name (Some d)) c.variable.ensures), (c.requires.width, (turns-ready (loop_of c.args.header.now) (steps_of c.args.body.now) (names_of c.args.scope.now) (names_of c.replace-declared.new.self) c.args.first (work c.args.builder.now c.args.variables.now) ((rw c.as_str-name.ensures at c.replace-declared.ensures.declared) ∙ ap (λ (d : Decl). with_name (names_of c.args.scope.now) c.args.header.now.name.now.name (Some d)) c.variable.ensures) c.requires.width c.requires.ready, c.requires.places))))

pub build_turns-returns-clause-built : goal.build_turns-returns-clause-built
build_turns-returns-clause-built t c = subst (λ (p : Steps). Built p (work c.args.builder.now c.args.variables.now) (work c.build_each_turn.new.builder c.build_each_turn.new.variables) c.in_ok-changes.changes) (turns-are (loop_of c.args.header.now) (steps_of c.args.body.now) (names_of c.args.scope.now) (names_of c.replace-declared.new.self) c.args.first ((rw c.as_str-name.ensures at c.replace-declared.ensures.declared) ∙ ap (λ (d : Decl). with_name (names_of c.args.scope.now) c.args.header.now.name.now.name (Some d)) c.variable.ensures) c.requires.width) c.in_ok-changes.ensures.built

pub build_turns-returns-clause-kept : goal.build_turns-returns-clause-kept
build_turns-returns-clause-kept t c = put_back (names_of c.args.scope.now) (names_of c.replace-declared.new.self) (names_of c.build_each_turn.new.scope) (names_of c.replace.new.self) c.args.header.now.name.now.name (Some (Constant c.args.first 0 c.args.header.now.is_signed)) c.replace-declared.result ((rw c.as_str-name.ensures at c.replace-declared.ensures.declared) ∙ ap (λ (d : Decl). with_name (names_of c.args.scope.now) c.args.header.now.name.now.name (Some d)) c.variable.ensures) c.in_ok-changes.ensures.kept (rw c.as_str-name.ensures at c.replace.ensures.declared) (rw c.as_str-name.ensures at c.replace-declared.ensures.replaced)

pub build_turns-returns-in_err-changes-clause-short : goal.build_turns-returns-in_err-changes-clause-short
build_turns-returns-in_err-changes-clause-short t c = same_err c.from_residual.result c.in_err-changes.field-0.0 _ c.from_residual.ensures.1 (subst (λ (p : Steps). IsShort (length c.args.builder.now.cells + cells_of p) c.in_err-changes.field-0.0) (turns-are (loop_of c.args.header.now) (steps_of c.args.body.now) (names_of c.args.scope.now) (names_of c.replace-declared.new.self) c.args.first ((rw c.as_str-name.ensures at c.replace-declared.ensures.declared) ∙ ap (λ (d : Decl). with_name (names_of c.args.scope.now) c.args.header.now.name.now.name (Some d)) c.variable.ensures) c.requires.width) c.in_err-changes.ensures.short)

pub build_each_turn-loop-turn-init : goal.build_each_turn-loop-turn-init
build_each_turn-loop-turn-init t c = record {
  turned = turned-start (loop_of c.args.header.now) (steps_of c.args.body.now) (names_of c.args.scope.now) c.args.first (work c.args.builder.now c.args.variables.now) c.new-changes.result c.new-changes.ensures;
  alike = λ d. refl;
  declared = c.requires.declared;
  width = c.requires.width;
  places = c.requires.places;
}

pub build_each_turn-build_turn-requires : goal.build_each_turn-build_turn-requires
build_each_turn-build_turn-requires t c = (search (rules, the_lemmas), (c.loop-turn.invariant.declared, (c.loop-turn.invariant.width, (turn-ready (loop_of c.args.header.now) (steps_of c.args.body.now) (names_of c.args.scope.now) (with_name (names_of c.loop-turn.scope) c.args.header.now.name.now.name (Some (Constant c.loop-turn.word 0 c.args.header.now.is_signed))) c.args.first c.loop-turn.word c.loop-turn.turn (work c.args.builder.now c.args.variables.now) (work c.loop-turn.builder c.loop-turn.variables) c.loop-turn.changes (omega arith) c.loop-turn.invariant.width (c.loop-turn.invariant.alike (Some (Constant c.loop-turn.word 0 c.args.header.now.is_signed))) c.loop-turn.invariant.turned c.requires.ready, c.loop-turn.invariant.places))))

pub build_each_turn-returns-in_err-after-clause-short : goal.build_each_turn-returns-in_err-after-clause-short
build_each_turn-returns-in_err-after-clause-short t c = same_err c.from_residual.result c.in_err-after.field-0.0 _ c.from_residual.ensures.1 (turn-room (loop_of c.args.header.now) (steps_of c.args.body.now) (names_of c.args.scope.now) (with_name (names_of c.loop-turn.scope) c.args.header.now.name.now.name (Some (Constant c.loop-turn.word 0 c.args.header.now.is_signed))) c.args.first c.loop-turn.word c.loop-turn.turn (work c.args.builder.now c.args.variables.now) (work c.loop-turn.builder c.loop-turn.variables) c.loop-turn.changes (omega arith) c.loop-turn.invariant.width (c.loop-turn.invariant.alike (Some (Constant c.loop-turn.word 0 c.args.header.now.is_signed))) c.loop-turn.invariant.turned c.requires.ready c.in_err-after.field-0.0 c.in_err-after.ensures.short)

pub build_each_turn-returns-in-None-clause-built : goal.build_each_turn-returns-in-None-clause-built
build_each_turn-returns-in-None-clause-built t c = turned-end (loop_of c.args.header.now) (steps_of c.args.body.now) (names_of c.args.scope.now) (with_name (names_of c.loop-turn.scope) c.args.header.now.name.now.name (Some (Constant c.loop-turn.word 0 c.args.header.now.is_signed))) c.args.first c.loop-turn.word c.loop-turn.turn (work c.args.builder.now c.args.variables.now) (work c.loop-turn.builder c.loop-turn.variables) c.loop-turn.changes (omega arith) c.loop-turn.invariant.width (c.loop-turn.invariant.alike (Some (Constant c.loop-turn.word 0 c.args.header.now.is_signed))) c.loop-turn.invariant.turned (work c.build_turn.new.builder c.build_turn.new.variables) (subst (λ (o : Option Turn). IsBuiltTurn (loop_of c.args.header.now) (steps_of c.args.body.now) (with_name (names_of c.loop-turn.scope) c.args.header.now.name.now.name (Some (Constant c.loop-turn.word 0 c.args.header.now.is_signed))) o (work c.loop-turn.builder c.loop-turn.variables) (work c.build_turn.new.builder c.build_turn.new.variables)) c.in-None.is c.in_ok-after.ensures.turn)

pub build_each_turn-returns-in-None-clause-kept : goal.build_each_turn-returns-in-None-clause-kept
build_each_turn-returns-in-None-clause-kept t c = alike_after (names_of c.loop-turn.scope) (names_of c.args.scope.now) (names_of c.build_turn.new.scope) c.args.header.now.name.now.name (Some (Constant c.loop-turn.word 0 c.args.header.now.is_signed)) c.in_ok-after.ensures.kept c.loop-turn.invariant.alike

pub build_each_turn-returns-in-None-clause-declared : goal.build_each_turn-returns-in-None-clause-declared
build_each_turn-returns-in-None-clause-declared t c = some_after (names_of c.loop-turn.scope) (names_of c.build_turn.new.scope) c.args.header.now.name.now.name (Constant c.loop-turn.word 0 c.args.header.now.is_signed) c.in_ok-after.ensures.kept

pub build_each_turn-loop-turn-preserved : goal.build_each_turn-loop-turn-preserved
build_each_turn-loop-turn-preserved t c = record {
  turned = turned-more (loop_of c.args.header.now) (steps_of c.args.body.now) (names_of c.args.scope.now) (with_name (names_of c.loop-turn.scope) c.args.header.now.name.now.name (Some (Constant c.loop-turn.word 0 c.args.header.now.is_signed))) c.args.first c.loop-turn.word c.loop-turn.turn (work c.args.builder.now c.args.variables.now) (work c.loop-turn.builder c.loop-turn.variables) c.loop-turn.changes (omega arith) c.loop-turn.invariant.width (c.loop-turn.invariant.alike (Some (Constant c.loop-turn.word 0 c.args.header.now.is_signed))) c.loop-turn.invariant.turned c.in-Some.turn (work c.build_turn.new.builder c.build_turn.new.variables) c.join.new.self (subst (λ (o : Option Turn). IsBuiltTurn (loop_of c.args.header.now) (steps_of c.args.body.now) (with_name (names_of c.loop-turn.scope) c.args.header.now.name.now.name (Some (Constant c.loop-turn.word 0 c.args.header.now.is_signed))) o (work c.loop-turn.builder c.loop-turn.variables) (work c.build_turn.new.builder c.build_turn.new.variables)) c.in-Some.is c.in_ok-after.ensures.turn) c.in_ok-join-in-Some.ensures;
  alike = alike_after (names_of c.loop-turn.scope) (names_of c.args.scope.now) (names_of c.build_turn.new.scope) c.args.header.now.name.now.name (Some (Constant c.loop-turn.word 0 c.args.header.now.is_signed)) c.in_ok-after.ensures.kept c.loop-turn.invariant.alike;
  declared = some_after (names_of c.loop-turn.scope) (names_of c.build_turn.new.scope) c.args.header.now.name.now.name (Constant c.loop-turn.word 0 c.args.header.now.is_signed) c.in_ok-after.ensures.kept;
  width = (subst (λ (o : Option Turn). IsBuiltTurn (loop_of c.args.header.now) (steps_of c.args.body.now) (with_name (names_of c.loop-turn.scope) c.args.header.now.name.now.name (Some (Constant c.loop-turn.word 0 c.args.header.now.is_signed))) o (work c.loop-turn.builder c.loop-turn.variables) (work c.build_turn.new.builder c.build_turn.new.variables)) c.in-Some.is c.in_ok-after.ensures.turn).0;
  places = c.in_ok-after.ensures.places;
}

pub build_each_turn-returns-clause-built : goal.build_each_turn-returns-clause-built
build_each_turn-returns-clause-built t c = turned-all (loop_of c.args.header.now) (steps_of c.args.body.now) (names_of c.args.scope.now) c.args.first c.loop-turn.word c.loop-turn.turn (work c.args.builder.now c.args.variables.now) (work c.loop-turn.builder c.loop-turn.variables) c.loop-turn.changes (omega arith) c.loop-turn.invariant.width c.loop-turn.invariant.turned c.requires.ready

pub build_each_turn-returns-clause-kept : goal.build_each_turn-returns-clause-kept
build_each_turn-returns-clause-kept t c = c.loop-turn.invariant.alike

pub build_each_turn-returns-clause-declared : goal.build_each_turn-returns-clause-declared
build_each_turn-returns-clause-declared t c = c.loop-turn.invariant.declared

pub build_turn-unreachable-requires : goal.build_turn-unreachable-requires
build_turn-unreachable-requires t c = turn-fails (loop_of c.args.header.now) (steps_of c.args.body.now) (names_of c.replace.new.self) (work c.args.builder.now c.args.variables.now) c.in-Err.field-0 c.in-Err.ensures.refused (subst (λ (n : Names). AsksTurn (loop_of c.args.header.now) (steps_of c.args.body.now) n (work c.args.builder.now c.args.variables.now)) (sym ((rw c.as_str.ensures at c.replace.ensures.declared) ∙ ap (λ (d : Decl). with_name (names_of c.args.scope.now) c.args.header.now.name.now.name (Some d)) c.variable.ensures)) c.requires.ready)

pub build_turn-build_statement-requires : goal.build_turn-build_statement-requires
build_turn-build_statement-requires t c = (search (rules, the_lemmas), (body-asked (loop_of c.args.header.now) (steps_of c.args.body.now) (names_of c.replace.new.self) (work c.args.builder.now c.args.variables.now) c.in-Ok-true.field-0 c.in-Ok-true.ensures.refused c.in-Ok-true.ensures.holds c.in-Ok-true.field-0-test (subst (λ (n : Names). AsksTurn (loop_of c.args.header.now) (steps_of c.args.body.now) n (work c.args.builder.now c.args.variables.now)) (sym ((rw c.as_str.ensures at c.replace.ensures.declared) ∙ ap (λ (d : Decl). with_name (names_of c.args.scope.now) c.args.header.now.name.now.name (Some d)) c.variable.ensures)) c.requires.ready), c.requires.places))

pub build_turn-returns-in-Ok-false-clause-turn : goal.build_turn-returns-in-Ok-false-clause-turn
build_turn-returns-in-Ok-false-clause-turn t c = subst (λ (n : Names). IsBuiltTurn (loop_of c.args.header.now) (steps_of c.args.body.now) n None (work c.args.builder.now c.args.variables.now) (work c.args.builder.now c.args.variables.now)) ((rw c.as_str.ensures at c.replace.ensures.declared) ∙ ap (λ (d : Decl). with_name (names_of c.args.scope.now) c.args.header.now.name.now.name (Some d)) c.variable.ensures) (refl, turn-over (loop_of c.args.header.now) (steps_of c.args.body.now) (names_of c.replace.new.self) (work c.args.builder.now c.args.variables.now) c.in-Ok-false.field-0 c.in-Ok-false.ensures.refused c.in-Ok-false.ensures.holds c.in-Ok-false.field-0-test)

pub build_turn-returns-in_err-changes-in-Ok-true-clause-short : goal.build_turn-returns-in_err-changes-in-Ok-true-clause-short
build_turn-returns-in_err-changes-in-Ok-true-clause-short t c = same_err c.from_residual.result c.in_err-changes-in-Ok-true.field-0.0 _ c.from_residual.ensures.1 (subst (λ (n : Names). (v : ℕ → Steps) → IsShort (length c.args.builder.now.cells + cells_of (turn_steps (loop_of c.args.header.now) (steps_of c.args.body.now) n v)) c.in_err-changes-in-Ok-true.field-0.0) ((rw c.as_str.ensures at c.replace.ensures.declared) ∙ ap (λ (d : Decl). with_name (names_of c.args.scope.now) c.args.header.now.name.now.name (Some d)) c.variable.ensures) (turn-short (loop_of c.args.header.now) (steps_of c.args.body.now) (names_of c.replace.new.self) (work c.args.builder.now c.args.variables.now) c.in-Ok-true.field-0 c.in-Ok-true.ensures.refused c.in-Ok-true.ensures.holds c.in-Ok-true.field-0-test c.in_err-changes-in-Ok-true.field-0.0 c.in_err-changes-in-Ok-true.ensures.short))

pub build_turn-unreachable-requires-in-Err-next_word : goal.build_turn-unreachable-requires-in-Err-next_word
build_turn-unreachable-requires-in-Err-next_word t c = turn-stops (loop_of c.args.header.now) (steps_of c.args.body.now) (names_of c.replace.new.self) (work c.args.builder.now c.args.variables.now) c.in-Ok-true.field-0 c.in-Ok-true.ensures.refused c.in-Ok-true.ensures.holds c.in-Ok-true.field-0-test c.in-Err-next_word.field-0 (rw c.in_ok-changes-in-Ok-true.ensures.kept at c.in-Err-next_word.ensures.none) (subst (λ (n : Names). AsksTurn (loop_of c.args.header.now) (steps_of c.args.body.now) n (work c.args.builder.now c.args.variables.now)) (sym ((rw c.as_str.ensures at c.replace.ensures.declared) ∙ ap (λ (d : Decl). with_name (names_of c.args.scope.now) c.args.header.now.name.now.name (Some d)) c.variable.ensures)) c.requires.ready)

pub build_turn-returns-in-Ok-clause-turn : goal.build_turn-returns-in-Ok-clause-turn
build_turn-returns-in-Ok-clause-turn t c = subst (λ (n : Names). IsBuiltTurn (loop_of c.args.header.now) (steps_of c.args.body.now) n (Some (record { changes = c.in_ok-changes-in-Ok-true.changes; next = c.in-Ok.next })) (work c.args.builder.now c.args.variables.now) (work c.build_statement.new.builder c.build_statement.new.variables)) ((rw c.as_str.ensures at c.replace.ensures.declared) ∙ ap (λ (d : Decl). with_name (names_of c.args.scope.now) c.args.header.now.name.now.name (Some d)) c.variable.ensures) (turn-built (loop_of c.args.header.now) (steps_of c.args.body.now) (names_of c.replace.new.self) (work c.args.builder.now c.args.variables.now) c.in-Ok-true.field-0 c.in-Ok-true.ensures.refused c.in-Ok-true.ensures.holds c.in-Ok-true.field-0-test (record { changes = c.in_ok-changes-in-Ok-true.changes; next = c.in-Ok.next }) (work c.build_statement.new.builder c.build_statement.new.variables) (subst (λ (n : Names). GoesOn (loop_of c.args.header.now) n c.in-Ok.next) c.in_ok-changes-in-Ok-true.ensures.kept c.in-Ok.ensures.next).0 (subst (λ (n : Names). GoesOn (loop_of c.args.header.now) n c.in-Ok.next) c.in_ok-changes-in-Ok-true.ensures.kept c.in-Ok.ensures.next).1 (subst (λ (n : Names). GoesOn (loop_of c.args.header.now) n c.in-Ok.next) c.in_ok-changes-in-Ok-true.ensures.kept c.in-Ok.ensures.next).2 c.in_ok-changes-in-Ok-true.ensures.built)

pub build_turn-returns-in-Ok-false-clause-kept : goal.build_turn-returns-in-Ok-false-clause-kept
build_turn-returns-in-Ok-false-clause-kept t c = ((rw c.as_str.ensures at c.replace.ensures.declared) ∙ ap (λ (d : Decl). with_name (names_of c.args.scope.now) c.args.header.now.name.now.name (Some d)) c.variable.ensures)

pub build_turn-returns-in-Ok-clause-kept : goal.build_turn-returns-in-Ok-clause-kept
build_turn-returns-in-Ok-clause-kept t c = c.in_ok-changes-in-Ok-true.ensures.kept ∙ ((rw c.as_str.ensures at c.replace.ensures.declared) ∙ ap (λ (d : Decl). with_name (names_of c.args.scope.now) c.args.header.now.name.now.name (Some d)) c.variable.ensures)

pub build_loop-unreachable-requires : goal.build_loop-unreachable-requires
build_loop-unreachable-requires t c = start-named c.args.place c.args.start.now c.args.condition.now c.args.step.now (steps_of c.args.body.now) (names_of c.args.scope.now) (search (rules, left_lemmas)) c.requires.ready.clear

pub build_loop-unreachable-requires-in-Err : goal.build_loop-unreachable-requires-in-Err
build_loop-unreachable-requires-in-Err t c = start-fails c.args.place c.args.start.now c.args.condition.now c.args.step.now (steps_of c.args.body.now) (names_of c.args.scope.now) c.in-Name.name c.in-Name.is c.get-declared.result (c.get-declared.ensures ∙ ap (names_of c.args.scope.now) c.as_str.ensures) _ _ _ _ (c.in-Some-Signal.is ∙ ap Some (rw c.in-Some-Signal.is at c.in-Some-Signal.field-0-is)) c.in-Err.field-0 c.get-value.result.now c.get-value.ensures c.in-Err.ensures.refused c.requires.ready.clear

pub build_loop-unreachable-requires-in-Some-Constant : goal.build_loop-unreachable-requires-in-Some-Constant
build_loop-unreachable-requires-in-Some-Constant t c = start-constant c.args.place c.args.start.now c.args.condition.now c.args.step.now (steps_of c.args.body.now) (names_of c.args.scope.now) c.in-Name.name c.in-Name.is c.get-declared.result (c.get-declared.ensures ∙ ap (names_of c.args.scope.now) c.as_str.ensures) _ _ _ (c.in-Some-Constant.is ∙ ap Some (rw c.in-Some-Constant.is at c.in-Some-Constant.field-0-is)) c.requires.ready.clear

pub build_loop-unreachable-requires-in-None : goal.build_loop-unreachable-requires-in-None
build_loop-unreachable-requires-in-None t c = start-none c.args.place c.args.start.now c.args.condition.now c.args.step.now (steps_of c.args.body.now) (names_of c.args.scope.now) c.in-Name.name c.in-Name.is c.get-declared.result (c.get-declared.ensures ∙ ap (names_of c.args.scope.now) c.as_str.ensures) c.in-None.is c.requires.ready.clear

pub build_loop-build_turns-requires : goal.build_loop-build_turns-requires
build_loop-build_turns-requires t c = (search (rules, the_lemmas), (search (rules, left_lemmas), (c.in-Ok.ensures.width, (ready-as (names_of c.args.scope.now) _ _ (work c.args.builder.now c.args.variables.now) (start-goes c.args.place c.args.start.now c.args.condition.now c.args.step.now (steps_of c.args.body.now) (names_of c.args.scope.now) c.in-Name.name c.in-Name.is c.get-declared.result (c.get-declared.ensures ∙ ap (names_of c.args.scope.now) c.as_str.ensures) _ _ _ _ (c.in-Some-Signal.is ∙ ap Some (rw c.in-Some-Signal.is at c.in-Some-Signal.field-0-is)) c.get-value.result.now c.in-Ok.first c.get-value.ensures c.in-Ok.ensures.refused c.in-Ok.ensures.value) c.requires.ready, c.requires.places))))

pub build_loop-returns-clause-built : goal.build_loop-returns-clause-built
build_loop-returns-clause-built t c = subst (λ (p : Steps). IfOk c.build_turns.result (λ (l : List Change). Built p (work c.args.builder.now c.args.variables.now) (work c.build_turns.new.builder c.build_turns.new.variables) l)) (sym (start-goes c.args.place c.args.start.now c.args.condition.now c.args.step.now (steps_of c.args.body.now) (names_of c.args.scope.now) c.in-Name.name c.in-Name.is c.get-declared.result (c.get-declared.ensures ∙ ap (names_of c.args.scope.now) c.as_str.ensures) _ _ _ _ (c.in-Some-Signal.is ∙ ap Some (rw c.in-Some-Signal.is at c.in-Some-Signal.field-0-is)) c.get-value.result.now c.in-Ok.first c.get-value.ensures c.in-Ok.ensures.refused c.in-Ok.ensures.value)) c.build_turns.ensures.built

pub build_loop-returns-clause-short : goal.build_loop-returns-clause-short
build_loop-returns-clause-short t c = subst (λ (p : Steps). IfErr c.build_turns.result (λ (e : ElabError). IsShort (length c.args.builder.now.cells + cells_of p) e)) (sym (start-goes c.args.place c.args.start.now c.args.condition.now c.args.step.now (steps_of c.args.body.now) (names_of c.args.scope.now) c.in-Name.name c.in-Name.is c.get-declared.result (c.get-declared.ensures ∙ ap (names_of c.args.scope.now) c.as_str.ensures) _ _ _ _ (c.in-Some-Signal.is ∙ ap Some (rw c.in-Some-Signal.is at c.in-Some-Signal.field-0-is)) c.get-value.result.now c.in-Ok.first c.get-value.ensures c.in-Ok.ensures.refused c.in-Ok.ensures.value)) c.build_turns.ensures.short

pub build_statement-returns-in-For-clause-built : goal.build_statement-returns-in-For-clause-built
build_statement-returns-in-For-clause-built t c = subst (λ (p : Steps). IfOk c.build_loop.result (λ (l : List Change). Built p (work c.args.builder.now c.args.variables.now) (work c.build_loop.new.builder c.build_loop.new.variables) l)) (sym (loop-is (names_of c.args.scope.now) c.args.stmt.now c.in-For.span c.in-For.start c.in-For.condition c.get-test.result.now c.in-For.step c.in-For.body c.get-turn.result.now c.in-For.is c.get-test.ensures c.get-turn.ensures)) c.build_loop.ensures.built

pub build_statement-returns-in-For-clause-short : goal.build_statement-returns-in-For-clause-short
build_statement-returns-in-For-clause-short t c = subst (λ (p : Steps). IfErr c.build_loop.result (λ (e : ElabError). IsShort (length c.args.builder.now.cells + cells_of p) e)) (sym (loop-is (names_of c.args.scope.now) c.args.stmt.now c.in-For.span c.in-For.start c.in-For.condition c.get-test.result.now c.in-For.step c.in-For.body c.get-turn.result.now c.in-For.is c.get-test.ensures c.get-turn.ensures)) c.build_loop.ensures.short

pub build_statement-build_loop-requires : goal.build_statement-build_loop-requires
build_statement-build_loop-requires t c = (search (rules, the_lemmas), (ready-as (names_of c.args.scope.now) _ _ (work c.args.builder.now c.args.variables.now) (loop-is (names_of c.args.scope.now) c.args.stmt.now c.in-For.span c.in-For.start c.in-For.condition c.get-test.result.now c.in-For.step c.in-For.body c.get-turn.result.now c.in-For.is c.get-test.ensures c.get-turn.ensures) c.requires.ready, c.requires.places))

pub build_block-returns-clause-kept : goal.build_block-returns-clause-kept
build_block-returns-clause-kept t c = c.loop-stmt.invariant.kept

pub build_statement-returns-in_ok-choose-in-Conditional-clause-kept : goal.build_statement-returns-in_ok-choose-in-Conditional-clause-kept
build_statement-returns-in_ok-choose-in-Conditional-clause-kept t c = c.in_ok-others-in-Conditional.ensures.kept ∙ c.in_ok-changes-in-Conditional.ensures.kept

pub build_else-build_statement-requires : goal.build_else-build_statement-requires
build_else-build_statement-requires t c = (search (rules, the_lemmas), (ready-as (names_of c.args.scope.now) _ _ (work c.args.builder.now c.args.variables.now) (else-as (names_of c.args.scope.now) c.args.no.now c.in-Some.no c.get.result.now c.in-Some.is c.get.ensures) c.requires.ready, c.requires.places))

pub build_else-returns-in-Some-clause-built : goal.build_else-returns-in-Some-clause-built
build_else-returns-in-Some-clause-built t c = subst (λ (p : Steps). IfOk c.build_statement.result (λ (l : List Change). Built p (work c.args.builder.now c.args.variables.now) (work c.build_statement.new.builder c.build_statement.new.variables) l)) (sym (else-as (names_of c.args.scope.now) c.args.no.now c.in-Some.no c.get.result.now c.in-Some.is c.get.ensures)) c.build_statement.ensures.built

pub build_else-returns-in-Some-clause-short : goal.build_else-returns-in-Some-clause-short
build_else-returns-in-Some-clause-short t c = subst (λ (p : Steps). IfErr c.build_statement.result (λ (e : ElabError). IsShort (length c.args.builder.now.cells + cells_of p) e)) (sym (else-as (names_of c.args.scope.now) c.args.no.now c.in-Some.no c.get.result.now c.in-Some.is c.get.ensures)) c.build_statement.ensures.short

pub build_else-returns-in-None-clause-built : goal.build_else-returns-in-None-clause-built
build_else-returns-in-None-clause-built t c = none-built (names_of c.args.scope.now) c.args.no.now (work c.args.builder.now c.args.variables.now) c.new.result c.in-None.is c.new.ensures

pub build_statement-build_block-requires : goal.build_statement-build_block-requires
build_statement-build_block-requires t c = (search (rules, the_lemmas), (ready-as (names_of c.args.scope.now) _ _ (work c.args.builder.now c.args.variables.now) (block-as (names_of c.args.scope.now) c.args.stmt.now c.in-SeqBlock.field-0 c.in-SeqBlock.field-1 c.in-SeqBlock.body c.as_slice.result.now c.in-SeqBlock.is c.as_slice.ensures) c.requires.ready, c.requires.places))

pub build_statement-returns-in-SeqBlock-clause-built : goal.build_statement-returns-in-SeqBlock-clause-built
build_statement-returns-in-SeqBlock-clause-built t c = subst (λ (p : Steps). IfOk c.build_block.result (λ (l : List Change). Built p (work c.args.builder.now c.args.variables.now) (work c.build_block.new.builder c.build_block.new.variables) l)) (sym (block-as (names_of c.args.scope.now) c.args.stmt.now c.in-SeqBlock.field-0 c.in-SeqBlock.field-1 c.in-SeqBlock.body c.as_slice.result.now c.in-SeqBlock.is c.as_slice.ensures)) c.build_block.ensures.built

pub build_statement-returns-in-SeqBlock-clause-short : goal.build_statement-returns-in-SeqBlock-clause-short
build_statement-returns-in-SeqBlock-clause-short t c = subst (λ (p : Steps). IfErr c.build_block.result (λ (e : ElabError). IsShort (length c.args.builder.now.cells + cells_of p) e)) (sym (block-as (names_of c.args.scope.now) c.args.stmt.now c.in-SeqBlock.field-0 c.in-SeqBlock.field-1 c.in-SeqBlock.body c.as_slice.result.now c.in-SeqBlock.is c.as_slice.ensures)) c.build_block.ensures.short

pub build_statement-build_assignment-requires-clause-can : goal.build_statement-build_assignment-requires-clause-can
build_statement-build_assignment-requires-clause-can t c = (assign-ready (names_of c.args.scope.now) (assigning true c.in-BlockingAssignment.assignment (names_of c.args.scope.now)) (work c.args.builder.now c.args.variables.now) (ready-as (names_of c.args.scope.now) _ _ (work c.args.builder.now c.args.variables.now) (blocking-is (names_of c.args.scope.now) c.args.stmt.now c.in-BlockingAssignment.assignment c.in-BlockingAssignment.is) c.requires.ready)).0

pub build_statement-build_assignment-requires-clause-held : goal.build_statement-build_assignment-requires-clause-held
build_statement-build_assignment-requires-clause-held t c = (assign-ready (names_of c.args.scope.now) (assigning true c.in-BlockingAssignment.assignment (names_of c.args.scope.now)) (work c.args.builder.now c.args.variables.now) (ready-as (names_of c.args.scope.now) _ _ (work c.args.builder.now c.args.variables.now) (blocking-is (names_of c.args.scope.now) c.args.stmt.now c.in-BlockingAssignment.assignment c.in-BlockingAssignment.is) c.requires.ready)).1

pub build_statement-returns-in-BlockingAssignment-clause-built : goal.build_statement-returns-in-BlockingAssignment-clause-built
build_statement-returns-in-BlockingAssignment-clause-built t c = subst (λ (p : Steps). IfOk c.build_assignment.result (λ (l : List Change). Built p (work c.args.builder.now c.args.variables.now) (work c.build_assignment.new.builder c.build_assignment.new.variables) l)) (sym (blocking-is (names_of c.args.scope.now) c.args.stmt.now c.in-BlockingAssignment.assignment c.in-BlockingAssignment.is)) c.build_assignment.ensures.built

pub build_statement-returns-in-BlockingAssignment-clause-short : goal.build_statement-returns-in-BlockingAssignment-clause-short
build_statement-returns-in-BlockingAssignment-clause-short t c = IfErr-weaker c.build_assignment.result _ _ (λ e h. subst (λ (p : Steps). IsShort (length c.args.builder.now.cells + cells_of p) e) (sym (blocking-is (names_of c.args.scope.now) c.args.stmt.now c.in-BlockingAssignment.assignment c.in-BlockingAssignment.is)) (alone-short (assigning true c.in-BlockingAssignment.assignment (names_of c.args.scope.now)) (length c.args.builder.now.cells) e h)) c.build_assignment.ensures.short

pub build_statement-build_assignment-requires-in-NonblockingAssignment-clause-can : goal.build_statement-build_assignment-requires-in-NonblockingAssignment-clause-can
build_statement-build_assignment-requires-in-NonblockingAssignment-clause-can t c = (assign-ready (names_of c.args.scope.now) (assigning false c.in-NonblockingAssignment.assignment (names_of c.args.scope.now)) (work c.args.builder.now c.args.variables.now) (ready-as (names_of c.args.scope.now) _ _ (work c.args.builder.now c.args.variables.now) (nonblocking-is (names_of c.args.scope.now) c.args.stmt.now c.in-NonblockingAssignment.assignment c.in-NonblockingAssignment.is) c.requires.ready)).0

pub build_statement-build_assignment-requires-in-NonblockingAssignment-clause-held : goal.build_statement-build_assignment-requires-in-NonblockingAssignment-clause-held
build_statement-build_assignment-requires-in-NonblockingAssignment-clause-held t c = (assign-ready (names_of c.args.scope.now) (assigning false c.in-NonblockingAssignment.assignment (names_of c.args.scope.now)) (work c.args.builder.now c.args.variables.now) (ready-as (names_of c.args.scope.now) _ _ (work c.args.builder.now c.args.variables.now) (nonblocking-is (names_of c.args.scope.now) c.args.stmt.now c.in-NonblockingAssignment.assignment c.in-NonblockingAssignment.is) c.requires.ready)).1

pub build_statement-returns-in-NonblockingAssignment-clause-built : goal.build_statement-returns-in-NonblockingAssignment-clause-built
build_statement-returns-in-NonblockingAssignment-clause-built t c = subst (λ (p : Steps). IfOk c.build_assignment-in-NonblockingAssignment.result (λ (l : List Change). Built p (work c.args.builder.now c.args.variables.now) (work c.build_assignment-in-NonblockingAssignment.new.builder c.build_assignment-in-NonblockingAssignment.new.variables) l)) (sym (nonblocking-is (names_of c.args.scope.now) c.args.stmt.now c.in-NonblockingAssignment.assignment c.in-NonblockingAssignment.is)) c.build_assignment-in-NonblockingAssignment.ensures.built

pub build_statement-returns-in-NonblockingAssignment-clause-short : goal.build_statement-returns-in-NonblockingAssignment-clause-short
build_statement-returns-in-NonblockingAssignment-clause-short t c = IfErr-weaker c.build_assignment-in-NonblockingAssignment.result _ _ (λ e h. subst (λ (p : Steps). IsShort (length c.args.builder.now.cells + cells_of p) e) (sym (nonblocking-is (names_of c.args.scope.now) c.args.stmt.now c.in-NonblockingAssignment.assignment c.in-NonblockingAssignment.is)) (alone-short (assigning false c.in-NonblockingAssignment.assignment (names_of c.args.scope.now)) (length c.args.builder.now.cells) e h)) c.build_assignment-in-NonblockingAssignment.ensures.short

pub build_statement-returns-in-Null-clause-built : goal.build_statement-returns-in-Null-clause-built
build_statement-returns-in-Null-clause-built t c = null-built (names_of c.args.scope.now) c.args.stmt.now c.in-Null.field-0 (work c.args.builder.now c.args.variables.now) c.new.result c.in-Null.is c.new.ensures

pub build_statement-build_test-requires-clause-clear : goal.build_statement-build_test-requires-clause-clear
build_statement-build_test-requires-clause-clear t c = choice-clear (names_of c.args.scope.now) c.in-Conditional.span c.get-condition.result.now (steps_of c.get-yes.result.now (names_of c.args.scope.now)) (else_steps (option_map steps_of c.in-Conditional.no) (names_of c.args.scope.now)) (work c.args.builder.now c.args.variables.now) (ready-as (names_of c.args.scope.now) _ _ (work c.args.builder.now c.args.variables.now) (choice-as (names_of c.args.scope.now) c.args.stmt.now c.in-Conditional.span c.in-Conditional.condition c.get-condition.result.now c.in-Conditional.yes c.get-yes.result.now c.in-Conditional.no c.in-Conditional.is c.get-condition.ensures c.get-yes.ensures) c.requires.ready)

pub build_statement-build_statement-requires : goal.build_statement-build_statement-requires
build_statement-build_statement-requires t c = (search (rules, the_lemmas), (first-ready (names_of c.args.scope.now) c.in-Conditional.span c.get-condition.result.now (steps_of c.get-yes.result.now (names_of c.args.scope.now)) (else_steps (option_map steps_of c.in-Conditional.no) (names_of c.args.scope.now)) (work c.args.builder.now c.args.variables.now) (work c.build_test.new.builder c.args.variables.now) c.in_ok-test-in-Conditional.test (ready-as (names_of c.args.scope.now) _ _ (work c.args.builder.now c.args.variables.now) (choice-as (names_of c.args.scope.now) c.args.stmt.now c.in-Conditional.span c.in-Conditional.condition c.get-condition.result.now c.in-Conditional.yes c.get-yes.result.now c.in-Conditional.no c.in-Conditional.is c.get-condition.ensures c.get-yes.ensures) c.requires.ready) (c.in_ok-test-in-Conditional.ensures.built (work c.args.builder.now c.args.variables.now).pending), test-places (record { names = (names_of c.args.scope.now); condition = c.get-condition.result.now }) (work c.args.builder.now c.args.variables.now) (work c.build_test.new.builder c.args.variables.now) c.in_ok-test-in-Conditional.test _ (c.in_ok-test-in-Conditional.ensures.built (work c.args.builder.now c.args.variables.now).pending) c.requires.places))

pub build_statement-set_aside-requires-clause-fit : goal.build_statement-set_aside-requires-clause-fit
build_statement-set_aside-requires-clause-fit t c = first-fit (names_of c.args.scope.now) (steps_of c.get-yes.result.now (names_of c.args.scope.now)) (work c.build_test.new.builder c.args.variables.now) (work c.build_statement.new.builder c.build_statement.new.variables) c.in_ok-changes-in-Conditional.changes c.as_slice-in-Conditional.result.now (first-ready (names_of c.args.scope.now) c.in-Conditional.span c.get-condition.result.now (steps_of c.get-yes.result.now (names_of c.args.scope.now)) (else_steps (option_map steps_of c.in-Conditional.no) (names_of c.args.scope.now)) (work c.args.builder.now c.args.variables.now) (work c.build_test.new.builder c.args.variables.now) c.in_ok-test-in-Conditional.test (ready-as (names_of c.args.scope.now) _ _ (work c.args.builder.now c.args.variables.now) (choice-as (names_of c.args.scope.now) c.args.stmt.now c.in-Conditional.span c.in-Conditional.condition c.get-condition.result.now c.in-Conditional.yes c.get-yes.result.now c.in-Conditional.no c.in-Conditional.is c.get-condition.ensures c.get-yes.ensures) c.requires.ready) (c.in_ok-test-in-Conditional.ensures.built (work c.args.builder.now c.args.variables.now).pending)) c.in_ok-changes-in-Conditional.ensures.built c.as_slice-in-Conditional.ensures

pub build_statement-build_else-requires : goal.build_statement-build_else-requires
build_statement-build_else-requires t c = (search (rules, the_lemmas), (subst (λ (n : Names). IsReady n (else_steps (option_map steps_of c.in-Conditional.no) n) (work c.set_aside.new.builder c.set_aside.new.variables)) (sym c.in_ok-changes-in-Conditional.ensures.kept) (second-ready (names_of c.args.scope.now) c.in-Conditional.span c.get-condition.result.now (steps_of c.get-yes.result.now (names_of c.args.scope.now)) (else_steps (option_map steps_of c.in-Conditional.no) (names_of c.args.scope.now)) (work c.args.builder.now c.args.variables.now) (work c.build_test.new.builder c.args.variables.now) (work c.build_statement.new.builder c.build_statement.new.variables) (work c.set_aside.new.builder c.set_aside.new.variables) c.in_ok-test-in-Conditional.test c.in_ok-changes-in-Conditional.changes (ready-as (names_of c.args.scope.now) _ _ (work c.args.builder.now c.args.variables.now) (choice-as (names_of c.args.scope.now) c.args.stmt.now c.in-Conditional.span c.in-Conditional.condition c.get-condition.result.now c.in-Conditional.yes c.get-yes.result.now c.in-Conditional.no c.in-Conditional.is c.get-condition.ensures c.get-yes.ensures) c.requires.ready) (c.in_ok-test-in-Conditional.ensures.built (work c.args.builder.now c.args.variables.now).pending) c.in_ok-changes-in-Conditional.ensures.built (backs (work c.build_statement.new.builder c.build_statement.new.variables) (work c.set_aside.new.builder c.set_aside.new.variables) c.in_ok-changes-in-Conditional.changes c.as_slice-in-Conditional.result.now c.in_ok-first-in-Conditional.ensures.back c.as_slice-in-Conditional.ensures)), c.in_ok-first-in-Conditional.ensures.places))

pub build_statement-choose-requires-clause-fit : goal.build_statement-choose-requires-clause-fit
build_statement-choose-requires-clause-fit t c = choices-ready (names_of c.args.scope.now) c.in-Conditional.span c.get-condition.result.now (steps_of c.get-yes.result.now (names_of c.args.scope.now)) (else_steps (option_map steps_of c.in-Conditional.no) (names_of c.args.scope.now)) (work c.args.builder.now c.args.variables.now) (work c.build_test.new.builder c.args.variables.now) (work c.build_statement.new.builder c.build_statement.new.variables) (work c.set_aside.new.builder c.set_aside.new.variables) (work c.build_else.new.builder c.build_else.new.variables) c.in_ok-test-in-Conditional.test c.in_ok-changes-in-Conditional.changes c.in_ok-others-in-Conditional.others c.in_ok-first-in-Conditional.first.items (ready-as (names_of c.args.scope.now) _ _ (work c.args.builder.now c.args.variables.now) (choice-as (names_of c.args.scope.now) c.args.stmt.now c.in-Conditional.span c.in-Conditional.condition c.get-condition.result.now c.in-Conditional.yes c.get-yes.result.now c.in-Conditional.no c.in-Conditional.is c.get-condition.ensures c.get-yes.ensures) c.requires.ready) (c.in_ok-test-in-Conditional.ensures.built (work c.args.builder.now c.args.variables.now).pending) c.in_ok-changes-in-Conditional.ensures.built (backs (work c.build_statement.new.builder c.build_statement.new.variables) (work c.set_aside.new.builder c.set_aside.new.variables) c.in_ok-changes-in-Conditional.changes c.as_slice-in-Conditional.result.now c.in_ok-first-in-Conditional.ensures.back c.as_slice-in-Conditional.ensures) (subst (λ (n : Names). Built (else_steps (option_map steps_of c.in-Conditional.no) n) (work c.set_aside.new.builder c.set_aside.new.variables) (work c.build_else.new.builder c.build_else.new.variables) c.in_ok-others-in-Conditional.others) c.in_ok-changes-in-Conditional.ensures.kept c.in_ok-others-in-Conditional.ensures.built) (haves (work c.build_statement.new.builder c.build_statement.new.variables) c.in_ok-first-in-Conditional.first.items c.in_ok-changes-in-Conditional.changes c.as_slice-in-Conditional.result.now c.in_ok-first-in-Conditional.ensures.have c.as_slice-in-Conditional.ensures)

pub build_statement-choose-requires-clause-test : goal.build_statement-choose-requires-clause-test
build_statement-choose-requires-clause-test t c = test-below (steps_of c.get-yes.result.now (names_of c.args.scope.now)) (else_steps (option_map steps_of c.in-Conditional.no) (names_of c.args.scope.now)) (work c.build_test.new.builder c.args.variables.now) (work c.build_statement.new.builder c.build_statement.new.variables) (work c.set_aside.new.builder c.set_aside.new.variables) (work c.build_else.new.builder c.build_else.new.variables) c.in_ok-test-in-Conditional.test c.in_ok-changes-in-Conditional.changes c.in_ok-others-in-Conditional.others c.in_ok-changes-in-Conditional.ensures.built (backs (work c.build_statement.new.builder c.build_statement.new.variables) (work c.set_aside.new.builder c.set_aside.new.variables) c.in_ok-changes-in-Conditional.changes c.as_slice-in-Conditional.result.now c.in_ok-first-in-Conditional.ensures.back c.as_slice-in-Conditional.ensures) (subst (λ (n : Names). Built (else_steps (option_map steps_of c.in-Conditional.no) n) (work c.set_aside.new.builder c.set_aside.new.variables) (work c.build_else.new.builder c.build_else.new.variables) c.in_ok-others-in-Conditional.others) c.in_ok-changes-in-Conditional.ensures.kept c.in_ok-others-in-Conditional.ensures.built) c.in_ok-test-in-Conditional.ensures.below

pub build_statement-choose-requires-clause-stands : goal.build_statement-choose-requires-clause-stands
build_statement-choose-requires-clause-stands t c = both-stand (steps_of c.get-yes.result.now (names_of c.args.scope.now)) (else_steps (option_map steps_of c.in-Conditional.no) (names_of c.args.scope.now)) (work c.build_test.new.builder c.args.variables.now) (work c.build_statement.new.builder c.build_statement.new.variables) (work c.set_aside.new.builder c.set_aside.new.variables) (work c.build_else.new.builder c.build_else.new.variables) c.in_ok-changes-in-Conditional.changes c.in_ok-others-in-Conditional.others c.in_ok-changes-in-Conditional.ensures.built (backs (work c.build_statement.new.builder c.build_statement.new.variables) (work c.set_aside.new.builder c.set_aside.new.variables) c.in_ok-changes-in-Conditional.changes c.as_slice-in-Conditional.result.now c.in_ok-first-in-Conditional.ensures.back c.as_slice-in-Conditional.ensures) (subst (λ (n : Names). Built (else_steps (option_map steps_of c.in-Conditional.no) n) (work c.set_aside.new.builder c.set_aside.new.variables) (work c.build_else.new.builder c.build_else.new.variables) c.in_ok-others-in-Conditional.others) c.in_ok-changes-in-Conditional.ensures.kept c.in_ok-others-in-Conditional.ensures.built) (first-ready (names_of c.args.scope.now) c.in-Conditional.span c.get-condition.result.now (steps_of c.get-yes.result.now (names_of c.args.scope.now)) (else_steps (option_map steps_of c.in-Conditional.no) (names_of c.args.scope.now)) (work c.args.builder.now c.args.variables.now) (work c.build_test.new.builder c.args.variables.now) c.in_ok-test-in-Conditional.test (ready-as (names_of c.args.scope.now) _ _ (work c.args.builder.now c.args.variables.now) (choice-as (names_of c.args.scope.now) c.args.stmt.now c.in-Conditional.span c.in-Conditional.condition c.get-condition.result.now c.in-Conditional.yes c.get-yes.result.now c.in-Conditional.no c.in-Conditional.is c.get-condition.ensures c.get-yes.ensures) c.requires.ready) (c.in_ok-test-in-Conditional.ensures.built (work c.args.builder.now c.args.variables.now).pending)).stands

pub build_statement-returns-in_ok-choose-in-Conditional-clause-built : goal.build_statement-returns-in_ok-choose-in-Conditional-clause-built
build_statement-returns-in_ok-choose-in-Conditional-clause-built t c = choice-built (names_of c.args.scope.now) c.in-Conditional.span c.get-condition.result.now (steps_of c.get-yes.result.now (names_of c.args.scope.now)) (else_steps (option_map steps_of c.in-Conditional.no) (names_of c.args.scope.now)) (steps_of c.args.stmt.now (names_of c.args.scope.now)) (work c.args.builder.now c.args.variables.now) (work c.build_test.new.builder c.args.variables.now) (work c.build_statement.new.builder c.build_statement.new.variables) (work c.set_aside.new.builder c.set_aside.new.variables) (work c.build_else.new.builder c.build_else.new.variables) (work c.choose.new.builder c.choose.new.variables) c.in_ok-test-in-Conditional.test c.in_ok-changes-in-Conditional.changes c.in_ok-others-in-Conditional.others c.in_ok-choose-in-Conditional.field-0 c.in_ok-first-in-Conditional.first.items (choice-as (names_of c.args.scope.now) c.args.stmt.now c.in-Conditional.span c.in-Conditional.condition c.get-condition.result.now c.in-Conditional.yes c.get-yes.result.now c.in-Conditional.no c.in-Conditional.is c.get-condition.ensures c.get-yes.ensures) (c.in_ok-test-in-Conditional.ensures.built (work c.args.builder.now c.args.variables.now).pending) c.in_ok-changes-in-Conditional.ensures.built (backs (work c.build_statement.new.builder c.build_statement.new.variables) (work c.set_aside.new.builder c.set_aside.new.variables) c.in_ok-changes-in-Conditional.changes c.as_slice-in-Conditional.result.now c.in_ok-first-in-Conditional.ensures.back c.as_slice-in-Conditional.ensures) (subst (λ (n : Names). Built (else_steps (option_map steps_of c.in-Conditional.no) n) (work c.set_aside.new.builder c.set_aside.new.variables) (work c.build_else.new.builder c.build_else.new.variables) c.in_ok-others-in-Conditional.others) c.in_ok-changes-in-Conditional.ensures.kept c.in_ok-others-in-Conditional.ensures.built) (haves (work c.build_statement.new.builder c.build_statement.new.variables) c.in_ok-first-in-Conditional.first.items c.in_ok-changes-in-Conditional.changes c.as_slice-in-Conditional.result.now c.in_ok-first-in-Conditional.ensures.have c.as_slice-in-Conditional.ensures) c.in_ok-choose-in-Conditional.ensures.chooses c.in_ok-choose-in-Conditional.ensures.joined

pub build_statement-returns-in_err-test-in-Conditional-clause-short : goal.build_statement-returns-in_err-test-in-Conditional-clause-short
build_statement-returns-in_err-test-in-Conditional-clause-short t c = same_err c.from_residual.result c.in_err-test-in-Conditional.field-0.0 _ c.from_residual.ensures.1 (test-short (names_of c.args.scope.now) c.in-Conditional.span c.get-condition.result.now (steps_of c.get-yes.result.now (names_of c.args.scope.now)) (else_steps (option_map steps_of c.in-Conditional.no) (names_of c.args.scope.now)) (steps_of c.args.stmt.now (names_of c.args.scope.now)) (length c.args.builder.now.cells) c.in_err-test-in-Conditional.field-0.0 (choice-as (names_of c.args.scope.now) c.args.stmt.now c.in-Conditional.span c.in-Conditional.condition c.get-condition.result.now c.in-Conditional.yes c.get-yes.result.now c.in-Conditional.no c.in-Conditional.is c.get-condition.ensures c.get-yes.ensures) c.in_err-test-in-Conditional.ensures.short)

pub build_statement-returns-in_err-changes-in-Conditional-clause-short : goal.build_statement-returns-in_err-changes-in-Conditional-clause-short
build_statement-returns-in_err-changes-in-Conditional-clause-short t c = same_err c.from_residual-in_err-changes-in-Conditional.result c.in_err-changes-in-Conditional.field-0.0 _ c.from_residual-in_err-changes-in-Conditional.ensures.1 (first-short (names_of c.args.scope.now) c.in-Conditional.span c.get-condition.result.now (steps_of c.get-yes.result.now (names_of c.args.scope.now)) (else_steps (option_map steps_of c.in-Conditional.no) (names_of c.args.scope.now)) (steps_of c.args.stmt.now (names_of c.args.scope.now)) (work c.args.builder.now c.args.variables.now) (work c.build_test.new.builder c.args.variables.now) c.in_ok-test-in-Conditional.test c.in_err-changes-in-Conditional.field-0.0 (choice-as (names_of c.args.scope.now) c.args.stmt.now c.in-Conditional.span c.in-Conditional.condition c.get-condition.result.now c.in-Conditional.yes c.get-yes.result.now c.in-Conditional.no c.in-Conditional.is c.get-condition.ensures c.get-yes.ensures) (c.in_ok-test-in-Conditional.ensures.built (work c.args.builder.now c.args.variables.now).pending) c.in_err-changes-in-Conditional.ensures.short)

pub build_statement-returns-in_err-others-in-Conditional-clause-short : goal.build_statement-returns-in_err-others-in-Conditional-clause-short
build_statement-returns-in_err-others-in-Conditional-clause-short t c = same_err c.from_residual-in_err-others-in-Conditional.result c.in_err-others-in-Conditional.field-0.0 _ c.from_residual-in_err-others-in-Conditional.ensures.1 (second-short (names_of c.args.scope.now) c.in-Conditional.span c.get-condition.result.now (steps_of c.get-yes.result.now (names_of c.args.scope.now)) (else_steps (option_map steps_of c.in-Conditional.no) (names_of c.args.scope.now)) (steps_of c.args.stmt.now (names_of c.args.scope.now)) (work c.args.builder.now c.args.variables.now) (work c.build_test.new.builder c.args.variables.now) (work c.build_statement.new.builder c.build_statement.new.variables) (work c.set_aside.new.builder c.set_aside.new.variables) c.in_ok-test-in-Conditional.test c.in_ok-changes-in-Conditional.changes c.in_err-others-in-Conditional.field-0.0 (choice-as (names_of c.args.scope.now) c.args.stmt.now c.in-Conditional.span c.in-Conditional.condition c.get-condition.result.now c.in-Conditional.yes c.get-yes.result.now c.in-Conditional.no c.in-Conditional.is c.get-condition.ensures c.get-yes.ensures) (c.in_ok-test-in-Conditional.ensures.built (work c.args.builder.now c.args.variables.now).pending) c.in_ok-changes-in-Conditional.ensures.built (backs (work c.build_statement.new.builder c.build_statement.new.variables) (work c.set_aside.new.builder c.set_aside.new.variables) c.in_ok-changes-in-Conditional.changes c.as_slice-in-Conditional.result.now c.in_ok-first-in-Conditional.ensures.back c.as_slice-in-Conditional.ensures) (subst (λ (n : Names). IsShort (length c.set_aside.new.builder.cells + cells_of (else_steps (option_map steps_of c.in-Conditional.no) n)) c.in_err-others-in-Conditional.field-0.0) c.in_ok-changes-in-Conditional.ensures.kept c.in_err-others-in-Conditional.ensures.short))

pub build_statement-returns-in_err-choose-in-Conditional-clause-short : goal.build_statement-returns-in_err-choose-in-Conditional-clause-short
build_statement-returns-in_err-choose-in-Conditional-clause-short t c = same_err c.from_residual-in_err-choose-in-Conditional.result c.in_err-choose-in-Conditional.field-0.0 _ c.from_residual-in_err-choose-in-Conditional.ensures.1 (muxes-short (names_of c.args.scope.now) c.in-Conditional.span c.get-condition.result.now (steps_of c.get-yes.result.now (names_of c.args.scope.now)) (else_steps (option_map steps_of c.in-Conditional.no) (names_of c.args.scope.now)) (steps_of c.args.stmt.now (names_of c.args.scope.now)) (work c.args.builder.now c.args.variables.now) (work c.build_test.new.builder c.args.variables.now) (work c.build_statement.new.builder c.build_statement.new.variables) (work c.set_aside.new.builder c.set_aside.new.variables) (work c.build_else.new.builder c.build_else.new.variables) c.in_ok-test-in-Conditional.test c.in_ok-changes-in-Conditional.changes c.in_ok-others-in-Conditional.others c.in_ok-first-in-Conditional.first.items c.in_err-choose-in-Conditional.field-0.0 (choice-as (names_of c.args.scope.now) c.args.stmt.now c.in-Conditional.span c.in-Conditional.condition c.get-condition.result.now c.in-Conditional.yes c.get-yes.result.now c.in-Conditional.no c.in-Conditional.is c.get-condition.ensures c.get-yes.ensures) (c.in_ok-test-in-Conditional.ensures.built (work c.args.builder.now c.args.variables.now).pending) c.in_ok-changes-in-Conditional.ensures.built (backs (work c.build_statement.new.builder c.build_statement.new.variables) (work c.set_aside.new.builder c.set_aside.new.variables) c.in_ok-changes-in-Conditional.changes c.as_slice-in-Conditional.result.now c.in_ok-first-in-Conditional.ensures.back c.as_slice-in-Conditional.ensures) (subst (λ (n : Names). Built (else_steps (option_map steps_of c.in-Conditional.no) n) (work c.set_aside.new.builder c.set_aside.new.variables) (work c.build_else.new.builder c.build_else.new.variables) c.in_ok-others-in-Conditional.others) c.in_ok-changes-in-Conditional.ensures.kept c.in_ok-others-in-Conditional.ensures.built) (haves (work c.build_statement.new.builder c.build_statement.new.variables) c.in_ok-first-in-Conditional.first.items c.in_ok-changes-in-Conditional.changes c.as_slice-in-Conditional.result.now c.in_ok-first-in-Conditional.ensures.have c.as_slice-in-Conditional.ensures) c.in_err-choose-in-Conditional.ensures.short)

pub build_statement-unreachable-requires : goal.build_statement-unreachable-requires
build_statement-unreachable-requires t c = no-other (names_of c.args.scope.now) c.args.stmt.now c.in_default.not-Null c.in_default.not-SeqBlock c.in_default.not-Conditional c.in_default.not-Case c.in_default.not-For c.in_default.not-BlockingAssignment c.in_default.not-NonblockingAssignment c.requires.ready.clear

pub build_block-build_statement-requires : goal.build_block-build_statement-requires
build_block-build_statement-requires t c = (search (rules, the_lemmas), (subst (λ (n : Names). IsReady n (steps_of c.stmt-item.result n) (work c.loop-stmt.builder c.loop-stmt.variables)) (sym c.loop-stmt.invariant.kept) (block-ready (names_of c.args.scope.now) c.args.body.now c.loop-stmt.stmt-index c.stmt-item.result (work c.args.builder.now c.args.variables.now) (work c.loop-stmt.builder c.loop-stmt.variables) c.loop-stmt.changes c.stmt-item.is (omega arith) c.requires.ready c.loop-stmt.invariant.built), c.loop-stmt.invariant.places))

pub build_block-loop-stmt-preserved : goal.build_block-loop-stmt-preserved
build_block-loop-stmt-preserved t c = record {
  built = (block-built (names_of c.args.scope.now) c.args.body.now c.loop-stmt.stmt-index c.stmt-item.result (work c.args.builder.now c.args.variables.now) (work c.loop-stmt.builder c.loop-stmt.variables) (work c.build_statement.new.builder c.build_statement.new.variables) c.loop-stmt.changes c.in_ok-more.more c.join.new.self c.stmt-item.is (omega arith) c.loop-stmt.invariant.built (subst (λ (n : Names). Built (steps_of c.stmt-item.result n) (work c.loop-stmt.builder c.loop-stmt.variables) (work c.build_statement.new.builder c.build_statement.new.variables) c.in_ok-more.more) c.loop-stmt.invariant.kept c.in_ok-more.ensures.built) c.in_ok-join.ensures);
  places = c.in_ok-more.ensures.places;
  kept = c.in_ok-more.ensures.kept ∙ c.loop-stmt.invariant.kept;
}

pub build_block-returns-in_err-more-clause-short : goal.build_block-returns-in_err-more-clause-short
build_block-returns-in_err-more-clause-short t c = same_err c.from_residual.result c.in_err-more.field-0.0 _ c.from_residual.ensures.1 (block-short (names_of c.args.scope.now) c.args.body.now c.loop-stmt.stmt-index c.stmt-item.result (work c.args.builder.now c.args.variables.now) (work c.loop-stmt.builder c.loop-stmt.variables) c.loop-stmt.changes c.in_err-more.field-0.0 c.stmt-item.is (omega arith) c.loop-stmt.invariant.built (subst (λ (n : Names). IsShort (length c.loop-stmt.builder.cells + cells_of (steps_of c.stmt-item.result n)) c.in_err-more.field-0.0) c.loop-stmt.invariant.kept c.in_err-more.ensures.short))

pub build_statement-returns-in-Case-clause-laid : goal.build_statement-returns-in-Case-clause-laid
build_statement-returns-in-Case-clause-laid t c = result-laid (steps_of c.args.stmt.now (names_of c.args.scope.now)) (work c.args.builder.now c.args.variables.now) (work c.build_case.new.builder c.build_case.new.variables) c.build_case.result (build_statement-returns-in-Case-clause-built t c)

pub build_statement-returns-in-For-clause-laid : goal.build_statement-returns-in-For-clause-laid
build_statement-returns-in-For-clause-laid t c = result-laid (steps_of c.args.stmt.now (names_of c.args.scope.now)) (work c.args.builder.now c.args.variables.now) (work c.build_loop.new.builder c.build_loop.new.variables) c.build_loop.result (build_statement-returns-in-For-clause-built t c)

pub build_statement-returns-in-SeqBlock-clause-laid : goal.build_statement-returns-in-SeqBlock-clause-laid
build_statement-returns-in-SeqBlock-clause-laid t c = result-laid (steps_of c.args.stmt.now (names_of c.args.scope.now)) (work c.args.builder.now c.args.variables.now) (work c.build_block.new.builder c.build_block.new.variables) c.build_block.result (build_statement-returns-in-SeqBlock-clause-built t c)

pub build_statement-returns-in-BlockingAssignment-clause-laid : goal.build_statement-returns-in-BlockingAssignment-clause-laid
build_statement-returns-in-BlockingAssignment-clause-laid t c = result-laid (steps_of c.args.stmt.now (names_of c.args.scope.now)) (work c.args.builder.now c.args.variables.now) (work c.build_assignment.new.builder c.build_assignment.new.variables) c.build_assignment.result (build_statement-returns-in-BlockingAssignment-clause-built t c)

pub build_statement-returns-in-NonblockingAssignment-clause-laid : goal.build_statement-returns-in-NonblockingAssignment-clause-laid
build_statement-returns-in-NonblockingAssignment-clause-laid t c = result-laid (steps_of c.args.stmt.now (names_of c.args.scope.now)) (work c.args.builder.now c.args.variables.now) (work c.build_assignment-in-NonblockingAssignment.new.builder c.build_assignment-in-NonblockingAssignment.new.variables) c.build_assignment-in-NonblockingAssignment.result (build_statement-returns-in-NonblockingAssignment-clause-built t c)

pub build_statement-returns-in-Null-clause-laid : goal.build_statement-returns-in-Null-clause-laid
build_statement-returns-in-Null-clause-laid t c = steps-laid (steps_of c.args.stmt.now (names_of c.args.scope.now)) (work c.args.builder.now c.args.variables.now) (work c.args.builder.now c.args.variables.now) (build_statement-returns-in-Null-clause-built t c).builds

pub build_statement-returns-in_ok-choose-in-Conditional-clause-laid : goal.build_statement-returns-in_ok-choose-in-Conditional-clause-laid
build_statement-returns-in_ok-choose-in-Conditional-clause-laid t c = steps-laid (steps_of c.args.stmt.now (names_of c.args.scope.now)) (work c.args.builder.now c.args.variables.now) (work c.choose.new.builder c.choose.new.variables) (build_statement-returns-in_ok-choose-in-Conditional-clause-built t c).builds
