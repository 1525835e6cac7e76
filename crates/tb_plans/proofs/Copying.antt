-- A signal that gets the word of another one.
use Rattle.tb_plans.proofs.Common.{◌≡◌, ℕ, ◌<◌, ◌≤◌, ◌%◌, ◌^◌, List, [], ◌∷◌, map, length, ap, sym, ◌∙◌, subst, arith, Option, slice_index, IfSome, mod-eq_of_lt, length-map, IfSome_then, Word}
use Rattle.tb_plans.proofs.Common.{store_of, wider, Update, formula_value, opened, valued, Target, Filled, Transfer, target_updates, transfer_updates, TargetFits, TransferFits}
use Rattle.tb_formulas.specs.declared.formula.Formula.TheOpen as o
use Rattle.tb_formulas.specs.declared.formula.Formula.TheVariants as v
use Rattle.tb_plans.specs.declared.copy.Copied.{Copied}
use Rattle.tb_plans.specs.Copies.{IsWordFor, IsCopied}
use Rattle.tb_plans.proofs.Targets.{filled}

abbrev widths_of : List Word → List ℕ
widths_of ws = map (λ (w : Word). w.width) ws

module _ (t : Transfer) (ws : List Word) (from k signal width : ℕ) (value_is : t.value ≡ v.Signal from k) (target_is : t.target ≡ Filled signal 0 width) (fits : TransferFits (widths_of ws) t) where
  pub copy_known : from < length ws
  copy_known =
      let f = opened (widths_of ws) (o.Signal from k) t.value fits.bits (v.rolls-Signal from k ∙ sym value_is) fits.value in
      let known = f.0.known in
      omega (arith, known, length-map ws (λ (w : Word). w.width))

  copy_is : (c : Copied) → IsWordFor ws from signal width c → IsCopied (widths_of ws) (transfer_updates t (store_of ws)) c
  copy_is c is =
      let f = opened (widths_of ws) (o.Signal from k) t.value fits.bits (v.rolls-Signal from k ∙ sym value_is) fits.value in
      let room : (1 ≤ width) × (fits.bits ≤ width) = subst (λ (x : Target). TargetFits (widths_of ws) fits.bits x) target_is fits.target in
      let small : c.word.bits < 2 ^ c.word.width = c.word.fits in
      let wide : c.word.width ≤ k = subst (λ (n : ℕ). n ≤ k) (sym is.held) f.0.narrow in
      let kept : formula_value t.value (store_of ws) ≡ c.word.bits =
      valued (o.Signal from k) t.value (store_of ws) (v.rolls-Signal from k ∙ sym value_is)
      ∙ ap (λ (n : ℕ). n % 2 ^ k) (sym is.bits_are)
      ∙ mod-eq_of_lt (wider c.word.bits c.word.width k small wide) in
      let made : ℕ → ℕ → ℕ → List Update = λ s w n. record { signal = s; low = 0; width = w; value = n } ∷ [] in
      record {
        known = subst (λ (s : ℕ). s < length (widths_of ws)) (sym is.signal_is) is.known;
        width = is.width_is ∙ sym is.as_wide ∙ ap (slice_index (widths_of ws)) (sym is.signal_is);
        updates_are =
            ap (λ (x : Target). target_updates x (store_of ws) (formula_value t.value (store_of ws))) target_is
            ∙ ap (λ (n : ℕ). target_updates (Filled signal 0 width) (store_of ws) n) kept
            ∙ sym (filled signal 0 width c.word.bits room.0 (subst (λ (n : ℕ). c.word.bits < 2 ^ n) is.width_is small))
            ∙ ap (λ (w : ℕ). made signal w c.word.bits) (sym is.width_is)
            ∙ ap (λ (s : ℕ). made s c.word.width c.word.bits) (sym is.signal_is);
      }

  pub copied_is : (r : Option Copied) → IfSome r (IsWordFor ws from signal width) → IfSome r (IsCopied (widths_of ws) (transfer_updates t (store_of ws)))
  copied_is r is = IfSome_then r is copy_is
