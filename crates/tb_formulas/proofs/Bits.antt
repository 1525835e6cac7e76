-- Formulas of names and of their bits.
use Rattle.tb_formulas.proofs.Common.{◌≡◌, ℕ, zero, suc, ◌+◌, ◌<◌, ◌≤◌, ◌^◌, Bool, pos, negsuc, List, length, Option, Some, sym, ap, ◌∙◌, arith, subst, ◌-ℤ◌, Decl, Shape, window, decl_shape}
use Rattle.tb_formulas.proofs.Common.{IsContext, Formula, Part, HasSignal, FitsIn}
use Rattle.std.proofs.Math.IntN.{+ℤ_idl}
use Rattle.vlog_meaning.specs.declared.scope.Decl.TheVariants.{Signal}
use Rattle.vlog_meaning.specs.Operators.{IsSized}
use Rattle.vlog_meaning.proofs.Powers.{shifted_out}
use Rattle.tb_formulas.specs.declared.formula.Formula.TheOpen as o
use Rattle.tb_formulas.specs.declared.formula.Formula.TheVariants as v
use Rattle.tb_formulas.proofs.Layers.{closed}

pub number_fits : (widths : List ℕ) (b n : ℕ) → b < 2 ^ n → FitsIn widths (v.Number b) n
number_fits widths b n h = closed widths (o.Number b) (v.Number b) n (v.rolls-Number b) h

pub select_fits : (widths : List ℕ) (s : ℕ) (p : Part) (f : Formula) → s < length widths → p.width ≤ 128 → IsSized p.index → FitsIn widths f p.index.width → FitsIn widths (v.Select s p f) p.width
select_fits widths s p f known narrow sized inner = closed widths (o.Select s p f) (v.Select s p f) p.width (v.rolls-Select s p f) (known, narrow, omega arith, sized, inner)

pub number_select_fits : (widths : List ℕ) (b : ℕ) (p : Part) (f : Formula) → p.width ≤ 128 → IsSized p.index → FitsIn widths f p.index.width → FitsIn widths (v.NumberSelect b p f) p.width
number_select_fits widths b p f narrow sized inner = closed widths (o.NumberSelect b p f) (v.NumberSelect b p f) p.width (v.rolls-NumberSelect b p f) (narrow, omega arith, sized, inner)

pub slice_fits : (widths : List ℕ) (s at w : ℕ) → s < length widths → at < 128 → w ≤ 128 → FitsIn widths (v.Slice s at w) w
slice_fits widths s at w known inside narrow = closed widths (o.Slice s at w) (v.Slice s at w) w (v.rolls-Slice s at w) (known, inside, narrow, omega arith)

-- a formula that is a number
pub some_number : (widths : List ℕ) (f : Formula) (b n : ℕ) → f ≡ v.Number b → b < 2 ^ n → FitsIn widths f n
some_number widths f b n is h = rw is (number_fits widths b n h)

module _ (widths : List ℕ) (d : Option Decl) (w low : ℕ) (s : Bool) (k : ℕ) (e : Decl) (is_some : d ≡ Some e) (is_signal : e ≡ Signal w low s k) where
  is : d ≡ Some (Signal w low s k)
  is = is_some ∙ ap Some is_signal

  pub known_signal : HasSignal widths d → k < length widths
  known_signal has = (subst (HasSignal widths) is has).0

  named : (c : Shape) → IsContext (decl_shape d) c → w ≤ c.width
  named c at = (subst (λ (e : Option Decl). IsContext (decl_shape e) c) is at).wide

  pub signal_fits : (c : Shape) → IsContext (decl_shape d) c → HasSignal widths d → FitsIn widths (v.Signal k c.width) c.width
  signal_fits c at has =
      let h : HasSignal widths (Some (Signal w low s k)) = subst (HasSignal widths) is has in
      closed widths (o.Signal k c.width) (v.Signal k c.width) c.width (v.rolls-Signal k c.width) (record { known = h.0; narrow = omega (arith, h.1, named c at) }, omega arith)

  pub signed_fits : (c : Shape) → IsSized (decl_shape d) → IsContext (decl_shape d) c → HasSignal widths d → FitsIn widths (v.SignedSignal k w c.width) c.width
  signed_fits c sized at has =
      let h : HasSignal widths (Some (Signal w low s k)) = subst (HasSignal widths) is has in
      let some : 1 ≤ w = (subst (λ (e : Option Decl). IsSized (decl_shape e)) is sized).some in
      closed widths (o.SignedSignal k w c.width) (v.SignedSignal k w c.width) c.width (v.rolls-SignedSignal k w c.width) (record { known = h.0; narrow = omega (arith, h.1) }, some, named c at, at.narrow, omega arith)

-- bits that all lie below a signal
pub below_all : (x places w : ℕ) → 1 ≤ w → w ≤ places → 0 ≡ window (pos 0 -ℤ pos places) w x
below_all x zero w some h = absurd (omega (arith, some, h))
below_all x (suc n) w some h = let z : pos 0 -ℤ pos (suc n) ≡ negsuc n = +ℤ_idl (negsuc n) in rw z (sym (shifted_out x (n + 1) w (omega arith)))
