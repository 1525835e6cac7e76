-- What plans come to in a scene, in its world.
use Rattle.tb_evaluator.proofs.Common.{◌≡◌, ℕ, Bool, not, ◌==◌, List, Option, Some, ap, sym, ◌∙◌, subst, All, Lcg, Names, Store, Update, Test, Choose, Assign, World, assigned, scheduled, Fits}
use Rattle.tb_evaluator.proofs.Common.{AreOfSignals, all_fit, chosen, formula_value, condition_in, choice_in, writing_in, condition, store_in, in_world, meaning, CanAnswer, HasSignals}
use Rattle.vlog_syntax.specs.declared.expr.Expr.{Expr}
use Rattle.vlog_syntax.specs.declared.stmt.Assignment.{Assignment}
use Rattle.vlog_syntax.specs.declared.stmt.CaseKind.{CaseKind}
use Rattle.tb_machine.specs.declared.node.Part.{Part}
use Rattle.tb_machine.specs.Steps.{assign}
use Rattle.tb_assigns.specs.Updates.{updates}
use Rattle.tb_formulas.specs.declared.formula.Formula.{Formula}
use Rattle.tb_plans.specs.declared.plan.Plan.{Plan}
use Rattle.tb_plans.specs.declared.selection.Selection.{Selection}
use Rattle.tb_plans.specs.declared.transfer.Draw.{Draw}
use Rattle.tb_plans.specs.declared.transfer.Transfer.{Transfer}
use Rattle.tb_plans.specs.declared.transfer.Writing.{Writing}
use Rattle.tb_plans.specs.declared.transfer.Writing.TheVariants as p
use Rattle.tb_plans.specs.Selections.{IsConditionOf, IsSelectionOf, OfCondition, OfChoice, selection_taken}
use Rattle.tb_plans.specs.Transfers.{IsWritingOf, OfWriting, transfer_updates, draw_updates}
use Rattle.tb_evaluator.specs.Planned.{writing_updates, WritingFits}
use Rattle.tb_evaluator.proofs.Served.{updates_fit}

-- The plan of what is asked.

pub condition_plan : (names : Names) (plan : Plan) (x : Expr) (f : Formula) → CanAnswer names plan (Test x) → condition_in plan ≡ Some f → IsConditionOf names x f
condition_plan names plan x f can is = subst (OfCondition names x) is can.1

pub choice_plan : (names : Names) (plan : Plan) (kind : CaseKind) (x : Expr) (labels : List (List Expr)) (s : Selection) → CanAnswer names plan (Choose kind x labels) → choice_in plan ≡ Some s → IsSelectionOf names kind x labels s
choice_plan names plan kind x labels s can is = subst (OfChoice names kind x labels) is can.1

pub writing_plan : (names : Names) (plan : Plan) (part : Part) (a : Assignment) (x : Writing) → CanAnswer names plan (Assign part a) → writing_in plan part ≡ Some x → IsWritingOf names a x
writing_plan names plan part a x can is = subst (OfWriting names a) is can.1

-- What it comes to.

pub condition_holds : (names : Names) (phase : ℕ) (x : Expr) (f : Formula) (w : World) (b : Bool) → IsConditionOf names x f → b ≡ not (formula_value f (store_in w) == 0) → (b, w) ≡ (meaning names phase).holds x w
condition_holds names phase x f w b of is =
    let means : condition names phase x (store_in w) w.words ≡ (not (formula_value f (store_in w) == 0), w.words) = of.means phase (store_in w) w.words in
    ap (λ (k : Bool). (k, w)) is ∙ sym (ap (λ (z : Bool × Lcg). in_world w z) means)

pub choice_taken : (names : Names) (phase : ℕ) (kind : CaseKind) (x : Expr) (labels : List (List Expr)) (s : Selection) (w : World) (i : Option ℕ) → IsSelectionOf names kind x labels s → i ≡ selection_taken s (store_in w) → (i, w) ≡ (meaning names phase).choice kind x labels w
choice_taken names phase kind x labels s w i of is =
    let means : chosen names phase kind x labels (store_in w) w.words ≡ (selection_taken s (store_in w), w.words) = of.means phase (store_in w) w.words in
    ap (λ (k : Option ℕ). (k, w)) is ∙ sym (ap (λ (z : Option ℕ × Lcg). in_world w z) means)

-- Assignments.

writing_means : (names : Names) (a : Assignment) (x : Writing) (phase : ℕ) (store : Store) (g : Lcg) → IsWritingOf names a x → updates names phase a store g ≡ writing_updates x store g
writing_means names a (p.Transfer t) phase store g of = of.means phase store g
writing_means names a (p.Draw d) phase store g of = of.means phase store g

pub writing_fits : (names : Names) (a : Assignment) (x : Writing) (widths : List ℕ) → IsWritingOf names a x → HasSignals names widths → WritingFits widths x
writing_fits names a (p.Transfer t) widths of has = of.fits widths has
writing_fits names a (p.Draw d) widths of has = of.fits widths has

written : (names : Names) (phase : ℕ) (a : Assignment) (x : Writing) (w v : World) (us : List Update) → IsWritingOf names a x → (us, v) ≡ in_world w (writing_updates x (store_in w) w.words) → (us, v) ≡ (meaning names phase).updates a w
written names phase a x w v us of is = is ∙ sym (ap (λ (z : List Update × Lcg). in_world w z) (writing_means names a x phase (store_in w) w.words of))

pub assigned_by_plan : (names : Names) (phase : ℕ) (a : Assignment) (x : Writing) (w v new : World) (us : List Update) → IsWritingOf names a x → (us, v) ≡ in_world w (writing_updates x (store_in w) w.words) → new ≡ assigned v us → new ≡ assign (meaning names phase) a w
assigned_by_plan names phase a x w v new us of is goes = goes ∙ ap (λ (z : List Update × World). assigned z.1 z.0) (written names phase a x w v us of is)

pub scheduled_by_plan : (names : Names) (phase : ℕ) (a : Assignment) (x : Writing) (w v new : World) (us : List Update) → IsWritingOf names a x → (us, v) ≡ in_world w (writing_updates x (store_in w) w.words) → new ≡ scheduled v us → new ≡ scheduled ((meaning names phase).updates a w).1 ((meaning names phase).updates a w).0
scheduled_by_plan names phase a x w v new us of is goes = goes ∙ ap (λ (z : List Update × World). scheduled z.1 z.0) (written names phase a x w v us of is)

same_widths : (names : Names) (phase : ℕ) (a : Assignment) (x : Writing) (w v : World) (us : List Update) → IsWritingOf names a x → (us, v) ≡ in_world w (writing_updates x (store_in w) w.words) → v.widths ≡ w.widths
same_widths names phase a x w v us of is = ap (λ (z : List Update × World). z.1.widths) is

pub still_signals : (names : Names) (a : Assignment) (x : Writing) (w v new : World) (us : List Update) → IsWritingOf names a x → (us, v) ≡ in_world w (writing_updates x (store_in w) w.words) → new.widths ≡ v.widths → HasSignals names w.widths → HasSignals names new.widths
still_signals names a x w v new us of is stays has = subst (HasSignals names) (sym (stays ∙ same_widths names 0 a x w v us of is)) has

pub planned_fit : (names : Names) (a : Assignment) (x : Writing) (w v : World) (us : List Update) → IsWritingOf names a x → HasSignals names w.widths → (us, v) ≡ in_world w (writing_updates x (store_in w) w.words) → All (Fits v.widths) us
planned_fit names a x w v us of has is =
    let comes : (us, v) ≡ (meaning names 0).updates a w = written names 0 a x w v us of is in
    let us_is : us ≡ (updates names 0 a (store_in w) w.words).0 = ap (λ (z : List Update × World). z.0) comes in
    let signals : AreOfSignals names us = subst (AreOfSignals names) (sym us_is) (all_fit names 0 a (store_in w) w.words) in
    subst (λ (widths : List ℕ). All (Fits widths) us) (sym (same_widths names 0 a x w v us of is)) (updates_fit names w.widths us has signals)

-- What a plan draws and writes.

pub transferred : (x : Writing) (t : Transfer) (w : World) (store : Store) (us : List Update) → x ≡ p.Transfer t → us ≡ transfer_updates t store → store ≡ store_in w → (us, w) ≡ in_world w (writing_updates x (store_in w) w.words)
transferred x t w store us is comes at = ap (λ (l : List Update). (l, w)) (comes ∙ ap (transfer_updates t) at) ∙ sym (ap (λ (y : Writing). in_world w (writing_updates y (store_in w) w.words)) is)

pub drawn : (x : Writing) (d : Draw) (w v : World) (store : Store) (g h : Lcg) (us : List Update) → x ≡ p.Draw d → (us, h) ≡ draw_updates d store g → store ≡ store_in w → g ≡ w.words → v ≡ record w { words = h } → (us, v) ≡ in_world w (writing_updates x (store_in w) w.words)
drawn x d w v store g h us is comes at words goes =
    let all : (us, h) ≡ draw_updates d (store_in w) w.words = comes ∙ (λ i. draw_updates d (at i) (words i)) in
    ap (λ (z : World). (us, z)) goes ∙ ap (λ (z : List Update × Lcg). in_world w z) all ∙ sym (ap (λ (y : Writing). in_world w (writing_updates y (store_in w) w.words)) is)
