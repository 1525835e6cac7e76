-- What statements do, by their variants.
use Rattle.vlog_effects.proofs.Common.{◌≡◌, true, false, ◌∷◌, map, refl, sym, ◌∙◌, ap, Assignment, Stmt, fold-roll-Stmt, Names, Steps, Done, Assign, Choose, Case, Refuse, InNames, Item, in_turn}
use Rattle.vlog_effects.proofs.Common.{step_of, item_of, steps_of, assigning, assigned, effect, arm_effect, EffectsFollow, BlocksRun, ConditionalsRun, AssignmentsRun}
use Rattle.vlog_syntax.specs.declared.stmt.Stmt.TheVariants.{BlockingAssignment, NonblockingAssignment, rolls-BlockingAssignment, rolls-NonblockingAssignment}
use Rattle.vlog_syntax.specs.declared.stmt.Stmt.TheOpen as t
use Rattle.vlog_effects.proofs.Variants.{steps-block, steps-conditional}

pub effects-follow : EffectsFollow
effects-follow Done b s = refl
effects-follow (Assign a more) b s = effects-follow more b (assigned a s)
effects-follow (Choose at c then_part else_part more) b s = effects-follow more b _
effects-follow (Case c arms bodies more) b s = effects-follow more b (arm_effect c arms s)
effects-follow (Refuse x more) b s = effects-follow more b s

pub steps-blocking : (a : Assignment) (names : Names) → steps_of (BlockingAssignment a) names ≡ Assign (assigning true a names) Done
steps-blocking a names =
    ap (λ (s : Stmt). steps_of s names) (sym (rolls-BlockingAssignment a)) ∙
    ap (λ (f : InNames). f names) (fold-roll-Stmt InNames Item step_of item_of (t.BlockingAssignment a))

pub steps-nonblocking : (a : Assignment) (names : Names) → steps_of (NonblockingAssignment a) names ≡ Assign (assigning false a names) Done
steps-nonblocking a names =
    ap (λ (s : Stmt). steps_of s names) (sym (rolls-NonblockingAssignment a)) ∙
    ap (λ (f : InNames). f names) (fold-roll-Stmt InNames Item step_of item_of (t.NonblockingAssignment a))

pub blocks-run : BlocksRun
blocks-run at label first more names s =
    ap (λ (x : Steps). effect x s) (steps-block at label (first ∷ more) names) ∙
    effects-follow (steps_of first names) (in_turn (map steps_of more) names) s ∙
    ap (λ (x : Steps). effect x (effect (steps_of first names) s)) (sym (steps-block at label more names))

pub conditionals-run : ConditionalsRun
conditionals-run at c first second names s = ap (λ (x : Steps). effect x s) (steps-conditional at c first second names)

pub assignments-run : AssignmentsRun
assignments-run a names s = (ap (λ (x : Steps). effect x s) (steps-blocking a names), ap (λ (x : Steps). effect x s) (steps-nonblocking a names))
