-- What plans of assigns give, and signals that get values whole.
use Rattle.tb_settling.proofs.Common.{◌≡◌, zero, suc, ℕ, ◌+◌, ◌*◌, ◌/◌, ◌%◌, ◌^◌, ◌<◌, List, [], ◌∷◌, map, length, Option, Some, None, sym, ap, ◌∙◌, subst, zero-add, arith, slice_index, slice_set}
use Rattle.tb_settling.proofs.Common.{All, All-head, Word, Lcg, Assignment, Names, store_of, Update, World, assigned, Fits, all_fit, store_in, HasSignals, same_store, updates_fit, Transfer}
use Rattle.tb_settling.proofs.Common.{IsTransferOf, transfer_updates, assign_updates, still}
use Rattle.std.proofs.Math.Nat.{div-eq_of_lt, mod-one}
use Rattle.tb_assigns.specs.Pieces.{listed}
use Rattle.tb_plans.specs.declared.copy.Copied.{Copied}
use Rattle.tb_plans.specs.Copies.{IsCopied}

-- What a plan gives, from words and from a world with their numbers.

module _ (t : Transfer) (ws : List Word) (w : World) (values : map (λ x. x.bits) ws ≡ w.store) (o : Option Update) (gives : listed o ≡ transfer_updates t (store_of ws)) where
  given : transfer_updates t (store_in w) ≡ listed o
  given = sym (gives ∙ ap (transfer_updates t) (same_store ws w values))

  pub one_fits : (u : Update) → o ≡ Some u → All (Fits w.widths) (transfer_updates t (store_in w)) → Fits w.widths u
  one_fits u is all = All-head (Fits w.widths) u [] (subst (All (Fits w.widths)) (given ∙ ap listed is) all)

  pub one_applies : (u : Update) → o ≡ Some u → (after : World) → after ≡ assigned w (u ∷ []) → after ≡ assigned w (transfer_updates t (store_in w))
  one_applies u is after goes = goes ∙ ap (assigned w) (sym (given ∙ ap listed is))

  pub none_applies : o ≡ None → w ≡ assigned w (transfer_updates t (store_in w))
  none_applies is = ap (assigned w) (sym (given ∙ ap listed is))

-- A copy of a whole signal is one update of it.

module _ (t : Transfer) (ws : List Word) (w : World) (values : map (λ x. x.bits) ws ≡ w.store) (widths : map (λ x. x.width) ws ≡ w.widths) (c : Copied) (is : IsCopied (map (λ x. x.width) ws) (transfer_updates t (store_of ws)) c) where
  pub copied_known : c.signal < length w.widths
  copied_known = subst (λ (l : List ℕ). c.signal < length l) widths is.known

  pub copied_wide : c.word.width ≡ slice_index w.widths c.signal
  copied_wide = is.width ∙ ap (λ (l : List ℕ). slice_index l c.signal) widths

  pub copied_applies : (after : World) → after ≡ assigned w (record { signal = c.signal; low = 0; width = c.word.width; value = c.word.bits } ∷ []) → after ≡ assigned w (transfer_updates t (store_in w))
  copied_applies after goes = goes ∙ ap (assigned w) (sym is.updates_are ∙ ap (transfer_updates t) (same_store ws w values))

-- The plan of an assign gives what the assign does, which fits.

module _ (names : Names) (a : Assignment) (t : Transfer) (of : IsTransferOf names a t) (phase : ℕ) (w : World) where
  same_updates : assign_updates names a phase w.store ≡ transfer_updates t (store_in w)
  same_updates = ap (λ (r : List Update × Lcg). r.0) (of.means phase (store_in w) still)

  pub plan_fits : HasSignals names w.widths → All (Fits w.widths) (transfer_updates t (store_in w))
  plan_fits has = subst (All (Fits w.widths)) same_updates (updates_fit names w.widths (assign_updates names a phase w.store) has (all_fit names phase a (store_in w) still))

  pub plan_applies : (after : World) → after ≡ assigned w (transfer_updates t (store_in w)) → after ≡ assigned w (assign_updates names a phase w.store)
  plan_applies after goes = goes ∙ ap (assigned w) (sym same_updates)

-- A value that is replaced as a whole.

pub fits_at : (ws : List Word) (k : ℕ) → slice_index (map (λ x. x.bits) ws) k < 2 ^ slice_index (map (λ x. x.width) ws) k
fits_at [] k = omega arith
fits_at (x ∷ xs) zero = x.fits
fits_at (x ∷ xs) (suc k) = fits_at xs k

none_above : (q n x : ℕ) → q ≡ zero → 0 + x * 1 + q * n ≡ x
none_above q n x e = ap (λ (k : ℕ). 0 + x * 1 + k * n) e ∙ (let h : 0 + x * 1 + zero * n ≡ x = omega arith in h)

whole_is : (v w x : ℕ) → v < 2 ^ w → v % 2 ^ 0 + x * 2 ^ 0 + v / 2 ^ (0 + w) * 2 ^ (0 + w) ≡ x
whole_is v w x fits =
    let low : v % 2 ^ 0 ≡ 0 = mod-one v in
    let above : v / 2 ^ (0 + w) ≡ zero = div-eq_of_lt (subst (λ (n : ℕ). v < 2 ^ n) (sym (zero-add w)) fits) in
    ap (λ (k : ℕ). k + x * 2 ^ 0 + v / 2 ^ (0 + w) * 2 ^ (0 + w)) low ∙ none_above (v / 2 ^ (0 + w)) (2 ^ (0 + w)) x above

pub set_applies : (ws : List Word) (w : World) → map (λ x. x.bits) ws ≡ w.store → map (λ x. x.width) ws ≡ w.widths → (k width value : ℕ) → width ≡ slice_index w.widths k → (after : World) → after ≡ record w { store = slice_set w.store k value } → after ≡ assigned w (record { signal = k; low = 0; width = width; value = value } ∷ [])
set_applies ws w values widths k width value wide after goes =
    let u : Update = record { signal = k; low = 0; width = width; value = value } in
    let at : slice_index w.store k < 2 ^ slice_index w.widths k = subst (λ (l : List ℕ). slice_index w.store k < 2 ^ slice_index l k) widths (subst (λ (l : List ℕ). slice_index l k < 2 ^ slice_index (map (λ x. x.width) ws) k) values (fits_at ws k)) in
    let fits : slice_index w.store k < 2 ^ width = subst (λ (n : ℕ). slice_index w.store k < 2 ^ n) (sym wide) at in
    goes ∙ ap (λ (v : ℕ). record w { store = slice_set w.store k v }) (sym (whole_is (slice_index w.store k) width value fits))
