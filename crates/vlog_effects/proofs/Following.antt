-- Steps that follow others.
use Rattle.vlog_effects.proofs.Common.{◌≡◌, refl, ap, Steps, Done, Assign, Choose, Case, Refuse, followed}

pub followed-done : (p : Steps) → followed p Done ≡ p
followed-done Done = refl
followed-done (Assign x more) = ap (λ (t : Steps). Assign x t) (followed-done more)
followed-done (Choose at c then_part else_part more) = ap (λ (t : Steps). Choose at c then_part else_part t) (followed-done more)
followed-done (Case c arms bodies more) = ap (λ (t : Steps). Case c arms bodies t) (followed-done more)
followed-done (Refuse x more) = ap (λ (t : Steps). Refuse x t) (followed-done more)

pub followed-again : (p q r : Steps) → followed (followed p q) r ≡ followed p (followed q r)
followed-again Done q r = refl
followed-again (Assign x more) q r = ap (λ (t : Steps). Assign x t) (followed-again more q r)
followed-again (Choose at c then_part else_part more) q r = ap (λ (t : Steps). Choose at c then_part else_part t) (followed-again more q r)
followed-again (Case c arms bodies more) q r = ap (λ (t : Steps). Case c arms bodies t) (followed-again more q r)
followed-again (Refuse x more) q r = ap (λ (t : Steps). Refuse x t) (followed-again more q r)
