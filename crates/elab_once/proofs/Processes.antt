-- The first refusal of a process is one in builders that are alike.
use Rattle.elab_once.proofs.Common.{◌≡◌, Bool, true, false, List, ◌++◌, Option, refl, sym, ap, ◌∙◌, subst, option_map, Span, Bit, Stmt, out-Stmt, Names, steps_of, Building, Refusal, first_once}
use Rattle.elab_once.proofs.Common.{Reason, Found, RefusesProcess, AreAlike}
use Rattle.vlog_syntax.specs.declared.item.Process.{Process}
use Rattle.vlog_syntax.specs.declared.stmt.CaseItem.{CaseItem}
use Rattle.vlog_syntax.specs.declared.stmt.EventControl.{EventControl}
use Rattle.vlog_syntax.specs.declared.stmt.Stmt.TheOpen as s
use Rattle.vlog_syntax.specs.declared.stmt.Stmt.TheOpen.{Stmt-F}
use Rattle.elab_proc.specs.Order.{IsFirst}
use Rattle.process_events.specs.Events.{Sensitivity, Once, Combinational, Clocked, Refused, sensitivity}
use Rattle.process_latches.specs.Mixed.{mixed_refusals}
use Rattle.process_latches.specs.Refused.{body_refusals, control_refusals, latch_refusals, process_refusals, refusals_by, waiting_refusals}
use Rattle.process_latches.specs.Sound.{sound}
use Rattle.process_latches.specs.Writes.{writes}
use Rattle.elab_once.proofs.Steps.{AreKnown, TellSame, statement_once}
use Rattle.elab_once.proofs.Writing.{told_once}

module _ (written others : List Bool) (signals : List (List Bit)) (names : Names) (same : TellSame written others signals) (known : AreKnown signals names) (always : Span) where
  body_once : (comb : Bool) (control : EventControl) (body : Stmt) → body_refusals comb names written always control body ≡ body_refusals comb names others always control body
  body_once comb control body =
      let rest : List Refusal = mixed_refusals (writes (sound (steps_of body names))) ++ latch_refusals comb always (sound (steps_of body names)) in
      ap (λ (xs : List Refusal). control_refusals names control ++ (xs ++ rest)) (statement_once written others signals comb body names same known)

  waiting_once : (comb : Bool) (body : Stmt-F Stmt CaseItem) → waiting_refusals comb names written always body ≡ waiting_refusals comb names others always body
  waiting_once comb (s.EventControl at control body) = body_once comb control body
  waiting_once comb other = refl

  by_once : (when : Sensitivity) (body : Stmt) → refusals_by names written always when body ≡ refusals_by names others always when body
  by_once (Refused at feature) body = refl
  by_once Combinational body = waiting_once true (out-Stmt body)
  by_once (Clocked n) body = waiting_once false (out-Stmt body)
  by_once Once body = refl

-- what is found is the reason
pub found_once : (f g : Option Refusal) (x y : Option Reason) → f ≡ g → x ≡ option_map Found f → y ≡ option_map Found g → x ≡ y
found_once f g x y h d e = d ∙ ap (option_map Found) h ∙ sym e

pub process_once : (b c : Building) (inputs : List Bool) (names : Names) (p : Process) (x y : Option Reason) → AreAlike b c → AreKnown b.signals names → RefusesProcess b inputs names p x → RefusesProcess c inputs names p y → x ≡ y
process_once b c inputs names p x y h known (written, f, tells, first, d) (others, g, also, last, e) =
    let is : process_refusals names written p ≡ process_refusals names others p = by_once written others b.signals names (λ k less. told_once b c inputs written others k h tells also less) known p.span (sensitivity p) p.body in
    let here : IsFirst (process_refusals names written p) g = subst (λ (xs : List Refusal). IsFirst xs g) (sym is) last in
    found_once f g x y (first_once (process_refusals names written p) f g first here) d e
