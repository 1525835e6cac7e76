-- What fits a width fits a greater one.
use Rattle.tb_formulas.proofs.Common.{ℕ, ◌≤◌, List, refl, arith, subst, wider, Formula, Formula-F, roll-Formula, FitsIn}
use Rattle.tb_formulas.specs.declared.formula.Formula.TheOpen as o
use Rattle.tb_formulas.specs.declared.formula.Formula.TheFolds.{map-Formula, ind-Formula}
use Rattle.tb_formulas.proofs.Layers.{opened, closed}

abbrev Widens : List ℕ → Formula → Type 0
Widens widths f = (n m : ℕ) → n ≤ m → FitsIn widths f n → FitsIn widths f m

-- a formula with the proof for it
abbrev Proved : List ℕ → Type 0
Proved widths = (f : Formula) × Widens widths f

layer : (widths : List ℕ) (y : Formula-F (Proved widths)) → Widens widths (roll-Formula (map-Formula (Proved widths) Formula (λ (w : Proved widths). w.0) y))
layer widths (o.Number b) n m le h = closed widths (o.Number b) _ m refl (wider b n m (opened widths (o.Number b) _ n refl h) le)
layer widths (o.Signal s w) n m le h = let g = opened widths (o.Signal s w) _ n refl h in closed widths (o.Signal s w) _ m refl (g.0, omega (arith, g.1, le))
layer widths (o.SignedSignal s w t) n m le h = let g = opened widths (o.SignedSignal s w t) _ n refl h in closed widths (o.SignedSignal s w t) _ m refl (g.0, g.1, g.2, g.3, omega (arith, g.4, le))
layer widths (o.Slice s a w) n m le h = let g = opened widths (o.Slice s a w) _ n refl h in closed widths (o.Slice s a w) _ m refl (g.0, g.1, g.2, omega (arith, g.3, le))
layer widths (o.Select s p x) n m le h = let g = opened widths (o.Select s p x.0) _ n refl h in closed widths (o.Select s p x.0) _ m refl (g.0, g.1, omega (arith, g.2, le), g.3, g.4)
layer widths (o.NumberSelect b p x) n m le h = let g = opened widths (o.NumberSelect b p x.0) _ n refl h in closed widths (o.NumberSelect b p x.0) _ m refl (g.0, omega (arith, g.1, le), g.2, g.3)
layer widths (o.Extended s t x) n m le h = let g = opened widths (o.Extended s t x.0) _ n refl h in closed widths (o.Extended s t x.0) _ m refl (g.0, g.1, g.2, omega (arith, g.3, le), g.4)
layer widths (o.Unary op s x) n m le h = let g = opened widths (o.Unary op s x.0) _ n refl h in closed widths (o.Unary op s x.0) _ m refl (g.0, omega (arith, g.1, le), g.2)
layer widths (o.Binary op s t x y) n m le h = let g = opened widths (o.Binary op s t x.0 y.0) _ n refl h in closed widths (o.Binary op s t x.0 y.0) _ m refl (g.0, g.1, g.2, omega (arith, g.3, le), g.4, g.5)
layer widths (o.Conditional x y z) n m le h = let g = opened widths (o.Conditional x.0 y.0 z.0) _ n refl h in closed widths (o.Conditional x.0 y.0 z.0) _ m refl (g.0, y.1 n m le g.1, z.1 n m le g.2)
layer widths (o.Joined x w y) n m le h = let g = opened widths (o.Joined x.0 w y.0) _ n refl h in closed widths (o.Joined x.0 w y.0) _ m refl ((g.0.0, g.0.1, omega (arith, g.0.2, le), g.0.3), g.1)
layer widths (o.Repeated c w x) n m le h = let g = opened widths (o.Repeated c w x.0) _ n refl h in closed widths (o.Repeated c w x.0) _ m refl (g.0, omega (arith, g.1, le), g.2)

pub widens : (widths : List ℕ) (f : Formula) → (n m : ℕ) → n ≤ m → FitsIn widths f n → FitsIn widths f m
widens widths = ind-Formula (Widens widths) (λ x y is. subst (λ (z : Formula-F Formula). Widens widths (roll-Formula z)) is (layer widths y))
