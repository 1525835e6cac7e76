-- The steps of a statement, by its variant.
use Rattle.vlog_effects.proofs.Common.{◌≡◌, List, Option, Some, None, map, refl, sym, ◌∙◌, ap, Span, Identifier, Expr, out-LeftSide, Assignment, CaseKind, CaseItem, Stmt, fold-roll-Stmt, map-Stmt}
use Rattle.vlog_effects.proofs.Common.{Names, item_steps, Choose, Done, InNames, Item, in_turn, step_of, item_of, steps_of, else_steps, case_steps, loop_steps, name_alone}
use Rattle.std.specs.Option.{option_map}
use Rattle.vlog_syntax.specs.declared.stmt.Stmt.TheVariants.{SeqBlock, Conditional, Case, For, rolls-SeqBlock, rolls-Conditional, rolls-Case, rolls-For}
use Rattle.vlog_syntax.specs.declared.stmt.Stmt.TheOpen as t

pub steps-block : (at : Span) (label : Option Identifier) (body : List Stmt) (names : Names) → steps_of (SeqBlock at label body) names ≡ in_turn (map steps_of body) names
steps-block at label body names =
    ap (λ (s : Stmt). steps_of s names) (sym (rolls-SeqBlock at label body)) ∙
    ap (λ (f : InNames). f names) (fold-roll-Stmt InNames Item step_of item_of (t.SeqBlock at label body))

pub steps-conditional : (at : Span) (c : Expr) (first : Stmt) (second : Option Stmt) (names : Names) → steps_of (Conditional at c first second) names ≡ Choose at (record { names = names; condition = c }) (steps_of first names) (else_steps (option_map steps_of second) names) Done
steps-conditional at c first second names =
    ap (λ (s : Stmt). steps_of s names) (sym (rolls-Conditional at c first second)) ∙
    ap (λ (f : InNames). f names) (fold-roll-Stmt InNames Item step_of item_of (t.Conditional at c first second)) ∙ by_else second where
      by_else : (o : Option Stmt) → step_of (map-Stmt Stmt CaseItem InNames Item steps_of item_steps (t.Conditional at c first o)) names ≡ Choose at (record { names = names; condition = c }) (steps_of first names) (else_steps (option_map steps_of o) names) Done
      by_else None = refl
      by_else (Some s) = refl

pub steps-case : (at : Span) (kind : CaseKind) (selector : Expr) (items : List CaseItem) (names : Names) → steps_of (Case at kind selector items) names ≡ case_steps kind selector (map item_steps items) names
steps-case at kind selector items names =
    ap (λ (s : Stmt). steps_of s names) (sym (rolls-Case at kind selector items)) ∙
    ap (λ (f : InNames). f names) (fold-roll-Stmt InNames Item step_of item_of (t.Case at kind selector items))

pub steps-loop : (at : Span) (start : Assignment) (condition : Expr) (step : Assignment) (body : Stmt) (names : Names) → steps_of (For at start condition step body) names ≡ loop_steps at start condition step (steps_of body) names (name_alone (out-LeftSide start.left))
steps-loop at start condition step body names =
    ap (λ (s : Stmt). steps_of s names) (sym (rolls-For at start condition step body)) ∙
    ap (λ (f : InNames). f names) (fold-roll-Stmt InNames Item step_of item_of (t.For at start condition step body))
