-- The put that the code adds.
use Rattle.proc_muxes.proofs.Common.{◌≡◌, ℕ, ℤ, ◌≤◌, Bool, true, false, List, [], ◌∷◌, length, refl, sym, ◌∙◌, ap, Span, Bit, Put, Building, Grows, fresh_bits, with_cell, grown_by, length_fresh}
use Rattle.proc_muxes.proofs.Common.{Vector, bits_from, written, Work, held, with_held, StandsBelow, AreBits, PutsAt}
use Rattle.proc_muxes.proofs.Bits.{length-written}
use Rattle.proc_muxes.proofs.Frames.{stands-held}

pub puts-at : (at : Span) (kind : Bool) (n : ℕ) (h index bits y : List Bit) (a b : Work) (mid : Building) (w : ℕ) → h ≡ held a kind n → w ≡ length h → mid ≡ with_cell a.building Put false (h ∷ index ∷ bits ∷ []) w at → 1 ≤ length (held a kind n) → length (held a kind n) ≤ 128 → AreBits a.building.nets index → AreBits a.building.nets bits → StandsBelow a → y ≡ fresh_bits a.building.nets w → b ≡ with_held kind n y (record a { building = mid }) → PutsAt at kind n index bits a b
puts-at at kind n h index bits y a b mid w is_h is_w is_mid some narrow is ds stands is_y is_b =
    let g : List Bit = held a kind n in
    let v : ℕ = length g in
    let w_is : w ≡ v = is_w ∙ ap (λ (l : List Bit). length l) is_h in
    let cell : mid ≡ with_cell a.building Put false (g ∷ index ∷ bits ∷ []) v at = is_mid ∙ ap (λ (l : List Bit). with_cell a.building Put false (l ∷ index ∷ bits ∷ []) w at) is_h ∙ ap (λ (m : ℕ). with_cell a.building Put false (g ∷ index ∷ bits ∷ []) m at) w_is in
    let grows : Grows a.building mid = grown_by a.building mid Put false (g ∷ index ∷ bits ∷ []) v at cell refl (some, narrow, (is.0, is.1, (ds.0, ds.1, tt))) some narrow (stands-held a kind n stands, (is.2, (ds.2, tt))) in
    (mid, (grows, cell), is_b ∙ ap (λ (l : List Bit). with_held kind n l (record a { building = mid })) (is_y ∙ ap (fresh_bits a.building.nets) w_is))

-- the bits that the put gives are as many as the variable has
pub put-wide : (a : Work) (mid : Building) (kind : Bool) (n : ℕ) (h index bits y : List Bit) (w : ℕ) (at : Span) → mid ≡ with_cell a.building Put false (h ∷ index ∷ bits ∷ []) w at → y ≡ fresh_bits a.building.nets w → w ≡ length h → h ≡ held a kind n → length y ≡ length (held (record a { building = mid }) kind n)
put-wide a mid kind n h index bits y w at is_mid is_y is_w is_h =
    ap (λ (l : List Bit). length l) is_y ∙ length_fresh a.building.nets w ∙ is_w ∙ ap (λ (l : List Bit). length l) is_h
    ∙ ap (λ (l : List Bit). length l) (sym (ap (λ (b : Building). held (record a { building = b }) kind n) is_mid ∙ same kind)) where
      same : (k : Bool) → held (record a { building = with_cell a.building Put false (h ∷ index ∷ bits ∷ []) w at }) k n ≡ held a k n
      same true = refl
      same false = refl

-- bits that were laid over others are as many as these
pub laid-wide : (h old found target bits : List Bit) (low : ℕ) (z : ℤ) → ((v : Vector) → v.low ≡ low → v.width ≡ length old → found ≡ written old (bits_from v z (length bits)) bits) → old ≡ h → h ≡ target → length found ≡ length target
laid-wide h old found target bits low z f e g =
    let v : Vector = record { number = 0; width = length old; low = low } in
    ap (λ (l : List Bit). length l) (f v refl refl) ∙ length-written old (bits_from v z (length bits)) bits ∙ ap (λ (l : List Bit). length l) (e ∙ g)
