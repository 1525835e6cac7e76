-- The values of a scene are those of its signals.
use Rattle.tb_settling.proofs.Common.{◌≡◌, zero, suc, ℕ, ◌<◌, ◌≤◌, ◌^◌, List, [], ◌∷◌, map, length, sym, ap, ◌∙◌, subst, arith, slice_index, length-map, pow_pos, Word, Names, Store, AreWithin}
use Rattle.tb_settling.proofs.Common.{words_within, World, HasSignals, signals_fit, same_store, IsStore}
use Rattle.std.proofs.Math.Pow.{pow_mono}

pub some_widths : (ws : List Word) (n : ℕ) → n < length (map (λ w. w.width) ws) → 1 ≤ slice_index (map (λ w. w.width) ws) n
some_widths [] n h = absurd (omega (arith, h))
some_widths (w ∷ ws) zero h = w.some
some_widths (w ∷ ws) (suc n) h = some_widths ws n (omega (arith, h))

pub most_widths : (ws : List Word) (n : ℕ) → slice_index (map (λ w. w.width) ws) n ≤ 128
most_widths [] n = omega arith
most_widths (w ∷ ws) zero = w.narrow
most_widths (w ∷ ws) (suc n) = most_widths ws n

narrow_bits : (ws : List Word) (n : ℕ) → slice_index (map (λ w. w.bits) ws) n < 2 ^ 128
narrow_bits [] n = pow_pos 128
narrow_bits (w ∷ ws) zero = let fits = w.fits in let most : 2 ^ w.width ≤ 2 ^ 128 = pow_mono w.narrow in omega (arith, fits, most)
narrow_bits (w ∷ ws) (suc n) = narrow_bits ws n

pub store_is : (names : Names) (ws : List Word) (w : World) → map (λ x. x.bits) ws ≡ w.store → map (λ x. x.width) ws ≡ w.widths → HasSignals names w.widths → IsStore names w.widths w.store
store_is names ws w values widths has = record {
  long = sym (ap (λ (l : List ℕ). length l) values) ∙ length-map ws (λ x. x.bits) ∙ sym (length-map ws (λ x. x.width)) ∙ ap (λ (l : List ℕ). length l) widths;
  some = subst (λ (l : List ℕ). (n : ℕ) → n < length l → 1 ≤ slice_index l n) widths (some_widths ws);
  most = subst (λ (l : List ℕ). (n : ℕ) → slice_index l n ≤ 128) widths (most_widths ws);
  within = subst (λ (s : Store). AreWithin names s) (same_store ws w values) (words_within names ws (signals_fit names ws w.widths widths has));
  narrow = subst (λ (l : List ℕ). (n : ℕ) → slice_index l n < 2 ^ 128) values (narrow_bits ws);
}
