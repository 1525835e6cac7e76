-- A formula by its kind: what it comes to, and what it takes to fit, from its parts.
use Rattle.tb_formulas.proofs.Common.{◌≡◌, ℕ, List, refl, sym, ap, ◌∙◌, subst, Store, Formula, Formula-F, roll-Formula, value_step, formula_value, fits_step, FitsIn}
use Rattle.tb_formulas.specs.declared.formula.Formula.TheOpen as o
use Rattle.tb_formulas.specs.declared.formula.Formula.TheFolds.{map-Formula, fold-roll-Formula, rec-roll-Formula}

natural : (widths : List ℕ) (X : Type 0) (v : X → Formula) (k : Formula → ℕ → Type 0) (x : Formula-F X) → fits_step widths X v (λ p. k (v p)) x ≡ fits_step widths Formula (λ y. y) k (map-Formula X Formula v x)
natural widths X v k (o.Number n) = refl
natural widths X v k (o.Signal s w) = refl
natural widths X v k (o.SignedSignal s w t) = refl
natural widths X v k (o.Slice s a w) = refl
natural widths X v k (o.Select s p x) = refl
natural widths X v k (o.NumberSelect b p x) = refl
natural widths X v k (o.Extended s t x) = refl
natural widths X v k (o.Unary op s x) = refl
natural widths X v k (o.Binary op s t x y) = refl
natural widths X v k (o.Conditional x y z) = refl
natural widths X v k (o.Joined x w y) = refl
natural widths X v k (o.Repeated c w x) = refl

layer_is : (widths : List ℕ) (d : Formula-F Formula) (f : Formula) → roll-Formula d ≡ f → FitsIn widths f ≡ fits_step widths Formula (λ y. y) (FitsIn widths) d
layer_is widths d f e = ap (FitsIn widths) (sym e) ∙ rec-roll-Formula (ℕ → Type 0) (fits_step widths) (natural widths) d

pub opened : (widths : List ℕ) (d : Formula-F Formula) (f : Formula) (n : ℕ) → roll-Formula d ≡ f → FitsIn widths f n → fits_step widths Formula (λ y. y) (FitsIn widths) d n
opened widths d f n e h = subst (λ (T : ℕ → Type 0). T n) (layer_is widths d f e) h

pub closed : (widths : List ℕ) (d : Formula-F Formula) (f : Formula) (n : ℕ) → roll-Formula d ≡ f → fits_step widths Formula (λ y. y) (FitsIn widths) d n → FitsIn widths f n
closed widths d f n e h = subst (λ (T : ℕ → Type 0). T n) (sym (layer_is widths d f e)) h

pub valued : (d : Formula-F Formula) (f : Formula) (store : Store) → roll-Formula d ≡ f → formula_value f store ≡ value_step (map-Formula Formula (Store → ℕ) formula_value d) store
valued d f store e = ap (λ (g : Store → ℕ). g store) (ap formula_value (sym e) ∙ fold-roll-Formula (Store → ℕ) value_step d)
