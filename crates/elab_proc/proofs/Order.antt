-- Of two refusals that differ one comes before the other, so just one of several stands first.
use Rattle.elab_proc.proofs.Common.{◌≡◌, ap, ◌∙◌, arith, Span, Refusal, FirstIsOne, place}
use Rattle.vlog_meaning.specs.declared.fault.Cause.{Cause}
use Rattle.vlog_refusals.specs.declared.precedence.Precedence.{Precedence}
use Rattle.vlog_refusals.proofs.Order.{first_once as first_once_by}
use Rattle.vlog_refusals.proofs.Ranks.{cause_same, feature_same}
use Rattle.elab_proc.specs.declared.refusal.Refusal.TheVariants as r

-- A refusal is told by its place, its kind and what is told of it.
told : (x y : Refusal) → (place x).span ≡ (place y).span → (place x).kind ≡ (place y).kind → (place x).detail ≡ (place y).detail → x ≡ y
told (r.Wrong x) (r.Wrong y) at kind d =
    let cause : x.cause ≡ y.cause = cause_same x.cause y.cause d in
    ap (λ (k : Cause). r.Wrong (record { cause = k; span = x.span })) cause ∙ ap (λ (s : Span). r.Wrong (record { cause = y.cause; span = s })) at
told (r.Unsupported s x) (r.Unsupported t y) at kind d = ap (λ (z : Span). r.Unsupported z x) at ∙ ap (r.Unsupported t) (feature_same x y d)
told (r.TwoWriters s n) (r.TwoWriters t m) at kind d = ap (λ (z : Span). r.TwoWriters z n) at ∙ ap (r.TwoWriters t) d
told (r.Latch s n) (r.Latch t m) at kind d = ap (λ (z : Span). r.Latch z n) at ∙ ap (r.Latch t) d
told (r.LoopTurns s) (r.LoopTurns t) at kind d = ap r.LoopTurns at
told x y at kind d = absurd (omega (arith, kind))

pub first_once : FirstIsOne
first_once = first_once_by place (λ x y e. told x y (ap (λ (p : Precedence). p.span) e) (ap (λ (p : Precedence). p.kind) e) (ap (λ (p : Precedence). p.detail) e))
