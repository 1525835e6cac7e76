-- Case statements with a plan take the item that they take without.
use Rattle.tb_plans.proofs.Common.{◌≡◌, ℕ, ◌+◌, Bool, true, false, List, [], ◌∷◌, map, refl, ap, sym, ◌∙◌, Option, Some, ◌||◌, if◌then◌else◌, AllZip, Lcg, Expr, Shape, Names, Choice, choice_labels}
use Rattle.tb_plans.proofs.Common.{formula_value, IsLabelOf, IsItemArm, one_agrees, first_arm, selection_taken, LabelFits, ArmFits, IsSelectionOf, IsValueOf}
use Rattle.vlog_syntax.specs.declared.stmt.CaseKind.{CaseKind}
use Rattle.vlog_effects.specs.Steps.{dont_care}
use Rattle.tb_choices.specs.Choices.{Matching, agrees, one_matches, first_match, default_item, or_default, case_size}
use Rattle.tb_choices.proofs.Matches.{chosen_is}
use Rattle.tb_plans.specs.declared.selection.Arm.{Arm}
use Rattle.tb_plans.specs.declared.selection.Label.{Label}
use Rattle.tb_plans.specs.declared.selection.Selection.{Selection}
use Rattle.tb_plans.proofs.Zips.{zip_all}

or_match : (b c : Bool) (r : Bool × Lcg) (g : Lcg) → r ≡ (c, g) → (if b then (true, g) else r) ≡ (b || c, g)
or_match true c r g e = refl
or_match false c r g e = e

one_matches_is : (m : Matching) (v : ℕ) (xs : List Expr) (ls : List Label) (g : Lcg) → AllZip (IsLabelOf m.names m.kind m.size) xs ls → one_matches m v xs g ≡ (one_agrees m.store v ls, g)
one_matches_is m v [] [] g all = refl
one_matches_is m v [] (l ∷ ls) g all = absurd all
one_matches_is m v (x ∷ xs) [] g all = absurd all
one_matches_is m v (x ∷ xs) (l ∷ ls) g all =
    let after : ℕ × Lcg → Bool × Lcg = λ a. if agrees (dont_care m.kind x) v a.0 then (true, a.1) else one_matches m v xs a.1 in
    ap after (all.0.value.means m.phase m.store g)
    ∙ ap (λ (n : ℕ). if agrees n v (formula_value l.value m.store) then (true, g) else one_matches m v xs g) (sym all.0.ignored)
    ∙ or_match (agrees l.ignored v (formula_value l.value m.store)) (one_agrees m.store v ls) (one_matches m v xs g) g (one_matches_is m v xs ls g all.1)

if_match : (b : Bool) (i : ℕ) (o : Option ℕ) (r : Option ℕ × Lcg) (g : Lcg) → r ≡ (o, g) → (if b then (Some i, g) else r) ≡ ((if b then Some i else o), g)
if_match true i o r g e = refl
if_match false i o r g e = e

first_match_is : (m : Matching) (v i : ℕ) (items : List Choice) (arms : List Arm) (g : Lcg) → AllZip (IsItemArm m.names m.kind m.size) items arms → first_match m v i (map choice_labels items) g ≡ (first_arm m.store v i arms, g)
first_match_is m v i [] [] g all = refl
first_match_is m v i [] (a ∷ arms) g all = absurd all
first_match_is m v i (x ∷ items) [] g all = absurd all
first_match_is m v i (x ∷ items) (a ∷ arms) g all =
    let onward : Bool × Lcg → Option ℕ × Lcg = λ p. if p.0 then (Some i, p.1) else first_match m v (i + 1) (map choice_labels items) p.1 in
    ap onward (one_matches_is m v (choice_labels x) a.labels g all.0)
    ∙ if_match (one_agrees m.store v a.labels) i (first_arm m.store v (i + 1) arms) (first_match m v (i + 1) (map choice_labels items) g) g (first_match_is m v (i + 1) items arms g all.1)

arm_fits : (names : Names) (kind : CaseKind) (size : Shape) (widths : List ℕ) → ((x : Expr) (l : Label) → IsLabelOf names kind size x l → LabelFits widths l) → (x : Choice) (a : Arm) → IsItemArm names kind size x a → ArmFits widths a
arm_fits names kind size widths gives x a all = zip_all (IsLabelOf names kind size) (LabelFits widths) (choice_labels x) a.labels gives all

pub selection_is : (names : Names) (kind : CaseKind) (selector : Expr) (items : List Choice) (size : Shape) (s : Selection) → size ≡ case_size names selector (map choice_labels items) → IsValueOf names selector size s.selector → AllZip (IsItemArm names kind size) items s.arms → s.default ≡ default_item 0 (map choice_labels items) → IsSelectionOf names kind selector (map choice_labels items) s
selection_is names kind selector items size s is value all default = record {
  means = λ phase store g.
      let m : Matching = record { names = names; phase = phase; kind = kind; store = store; size = size } in
      let v : ℕ = formula_value s.selector store in
      sym (chosen_is names phase kind selector (map choice_labels items) store size g g g v (first_arm store v 0 s.arms) (selection_taken s store) is (sym (value.means phase store g)) (sym (first_match_is m v 0 items s.arms g all)) (ap (or_default (first_arm store v 0 s.arms)) default));
  fits = λ widths has. record {
    selector = (size.width, value.fits widths has);
    arms = zip_all (IsItemArm names kind size) (ArmFits widths) items s.arms (arm_fits names kind size widths (λ x l is. (size.width, is.value.fits widths has))) all;
  };
}
