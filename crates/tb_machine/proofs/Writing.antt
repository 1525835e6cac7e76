-- Words that get new values, as a whole or by updates.
use Rattle.tb_machine.proofs.Common.{◌≡◌, ℕ, zero, suc, ◌+◌, ◌<◌, List, [], ◌∷◌, map, length, drop, get_or, set, slice_index, refl, ap, sym, subst, arith, All, All-tail, applied, all_applied, Fits}
use Rattle.std.proofs.Math.Seq.{map-set}
use Rattle.std.proofs.lemmas.List.{drop_more}
use Rattle.mcy_base.specs.declared.word.Word.{Word}
use Rattle.tb_machine.specs.declared.update.Update.{Update}

-- what is told of the word at a place
pub told_at : (f : Word → ℕ) (ws : List Word) (k : ℕ) (w : Word) → w ≡ get_or ws k w → k < length ws → f w ≡ slice_index (map f ws) k
told_at f [] k w is h = absurd (omega arith)
told_at f (x ∷ xs) zero w is h = ap f is
told_at f (x ∷ xs) (suc k) w is h = told_at f xs k w is (omega arith)

pub length_told : (f : Word → ℕ) (ws : List Word) → length (map f ws) ≡ length ws
length_told f [] = refl
length_told f (x ∷ xs) = ap suc (length_told f xs)

pub same_widths : (ws : List Word) (k : ℕ) (w : Word) → w.width ≡ slice_index (map (λ x. x.width) ws) k → map (λ x. x.width) (set ws k w) ≡ map (λ x. x.width) ws
same_widths [] k w is = refl
same_widths (x ∷ xs) zero w is = ap (λ (n : ℕ). n ∷ map (λ x. x.width) xs) is
same_widths (x ∷ xs) (suc k) w is = ap (λ (ns : List ℕ). x.width ∷ ns) (same_widths xs k w is)

pub one_set : (ws : List Word) (k : ℕ) (w : Word) → map (λ x. x.bits) (set ws k w) ≡ set (map (λ x. x.bits) ws) k w.bits
one_set ws k w = map-set (λ x. x.bits) ws k w

-- One update after another.

pub rest_fits : (widths : List ℕ) (us : List Update) (k : ℕ) → k < length us → All (Fits widths) (drop k us) → All (Fits widths) (drop (k + 1) us)
rest_fits widths us k inside all =
    let none : Update = record { signal = 0; low = 0; width = 0; value = 0 } in
    All-tail (Fits widths) (get_or us k none) (drop (k + 1) us) (subst (All (Fits widths)) (drop_more us k none inside) all)

pub next_applied : (store : List ℕ) (us : List Update) (k : ℕ) (d : Update) → k < length us → all_applied (applied store (get_or us k d)) (drop (k + 1) us) ≡ all_applied store (drop k us)
next_applied store us k d inside = ap (all_applied store) (sym (drop_more us k d inside))
