-- Statements in which nothing is refused are of seven kinds.
use Rattle.proc_muxes.proofs.Common.{◌≡◌, List, Option, refl, sym, ◌∙◌, ap, subst, Span, Identifier, Expr, Assignment, CaseItem, CaseKind, Stmt, roll-Stmt, out-Stmt, roll-out-Stmt, Null, SeqBlock}
use Rattle.proc_muxes.proofs.Common.{Conditional, BlockingAssignment, NonblockingAssignment, rolls-Null, rolls-SeqBlock, rolls-Conditional, rolls-Case, rolls-BlockingAssignment}
use Rattle.proc_muxes.proofs.Common.{rolls-NonblockingAssignment, For, rolls-For, fold-roll-Stmt, Names, InNames, Item, step_of, item_of, steps_of, IsClear}
use Rattle.vlog_syntax.specs.declared.stmt.Stmt.TheVariants.{Case}
use Rattle.vlog_syntax.specs.declared.stmt.Stmt.TheOpen as t

-- Any other statement is refused.

other-layer : (names : Names) (f : t.Stmt-F Stmt CaseItem) → ((at : Span) → f ≡ t.Null at → ⊥) → ((at : Span) (label : Option Identifier) (body : List Stmt) → f ≡ t.SeqBlock at label body → ⊥) → ((at : Span) (c : Expr) (first : Stmt) (second : Option Stmt) → f ≡ t.Conditional at c first second → ⊥) → ((at : Span) (kind : CaseKind) (selector : Expr) (items : List CaseItem) → f ≡ t.Case at kind selector items → ⊥) → ((at : Span) (start : Assignment) (condition : Expr) (step : Assignment) (body : Stmt) → f ≡ t.For at start condition step body → ⊥) → ((x : Assignment) → f ≡ t.BlockingAssignment x → ⊥) → ((x : Assignment) → f ≡ t.NonblockingAssignment x → ⊥) → IsClear (steps_of (roll-Stmt f) names) → ⊥
other-layer names (t.Null at) a b c k l d e clear = a at refl
other-layer names (t.SeqBlock at label body) a b c k l d e clear = b at label body refl
other-layer names (t.Conditional at x first second) a b c k l d e clear = c at x first second refl
other-layer names (t.BlockingAssignment x) a b c k l d e clear = d x refl
other-layer names (t.NonblockingAssignment x) a b c k l d e clear = e x refl
other-layer names (t.Case at kind selector items) a b c k l d e clear = k at kind selector items refl
other-layer names (t.For at start condition step body) a b c k l d e clear = l at start condition step body refl
other-layer names (t.While at condition body) a b c k l d e clear = subst IsClear (ap (λ (g : InNames). g names) (fold-roll-Stmt InNames Item step_of item_of (t.While at condition body))) clear
other-layer names (t.Repeat at count body) a b c k l d e clear = subst IsClear (ap (λ (g : InNames). g names) (fold-roll-Stmt InNames Item step_of item_of (t.Repeat at count body))) clear
other-layer names (t.Forever at body) a b c k l d e clear = subst IsClear (ap (λ (g : InNames). g names) (fold-roll-Stmt InNames Item step_of item_of (t.Forever at body))) clear
other-layer names (t.EventControl at control body) a b c k l d e clear = subst IsClear (ap (λ (g : InNames). g names) (fold-roll-Stmt InNames Item step_of item_of (t.EventControl at control body))) clear
other-layer names (t.DelayControl at delay body) a b c k l d e clear = subst IsClear (ap (λ (g : InNames). g names) (fold-roll-Stmt InNames Item step_of item_of (t.DelayControl at delay body))) clear
other-layer names (t.SystemTaskEnable name arguments) a b c k l d e clear = subst IsClear (ap (λ (g : InNames). g names) (fold-roll-Stmt InNames Item step_of item_of (t.SystemTaskEnable name arguments))) clear

pub no-other : (names : Names) (s : Stmt) → ((at : Span) → s ≡ Null at → ⊥) → ((at : Span) (label : Option Identifier) (body : List Stmt) → s ≡ SeqBlock at label body → ⊥) → ((at : Span) (c : Expr) (first : Stmt) (second : Option Stmt) → s ≡ Conditional at c first second → ⊥) → ((at : Span) (kind : CaseKind) (selector : Expr) (items : List CaseItem) → s ≡ Case at kind selector items → ⊥) → ((at : Span) (start : Assignment) (condition : Expr) (step : Assignment) (body : Stmt) → s ≡ For at start condition step body → ⊥) → ((x : Assignment) → s ≡ BlockingAssignment x → ⊥) → ((x : Assignment) → s ≡ NonblockingAssignment x → ⊥) → IsClear (steps_of s names) → ⊥
no-other names s a b c r l d e clear =
    let is : s ≡ roll-Stmt (out-Stmt s) = sym (roll-out-Stmt s) in
    other-layer names (out-Stmt s)
    (λ at k. a at (is ∙ ap roll-Stmt k ∙ rolls-Null at))
    (λ at label body k. b at label body (is ∙ ap roll-Stmt k ∙ rolls-SeqBlock at label body))
    (λ at x first second k. c at x first second (is ∙ ap roll-Stmt k ∙ rolls-Conditional at x first second))
    (λ at kind selector items k. r at kind selector items (is ∙ ap roll-Stmt k ∙ rolls-Case at kind selector items))
    (λ at start condition step body k. l at start condition step body (is ∙ ap roll-Stmt k ∙ rolls-For at start condition step body))
    (λ x k. d x (is ∙ ap roll-Stmt k ∙ rolls-BlockingAssignment x))
    (λ x k. e x (is ∙ ap roll-Stmt k ∙ rolls-NonblockingAssignment x))
    (subst (λ (z : Stmt). IsClear (steps_of z names)) is clear)
