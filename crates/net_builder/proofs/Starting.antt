-- Signals and their start values have the same widths.
use Rattle.net_builder.proofs.Common.{◌≡◌, ℕ, zero, suc, ◌<◌, List, [], ◌∷◌, ◌++◌, length, map, get_or, set, sym, ◌∙◌, ap, arith, length-map, map-append, Word, Bit, word_widths}
use Rattle.std.proofs.Math.Seq.{map-set_same}

-- as many
pub starts_counted : (words : List Word) (signals : List (List Bit)) → word_widths words ≡ map length signals → length signals ≡ length words
starts_counted words signals e = sym (length-map signals length) ∙ ap (λ (ns : List ℕ). length ns) (sym e) ∙ length-map words (λ (w : Word). w.width)

-- at each place
pub widths_at : (words : List Word) (signals : List (List Bit)) (k : ℕ) (d : Word) → word_widths words ≡ map length signals → k < length signals → (get_or words k d).width ≡ length (get_or signals k [])
widths_at words [] k d e h = absurd (omega (arith, h))
widths_at [] (s ∷ more) k d e h = absurd cc
widths_at (w ∷ ws) (s ∷ more) zero d e h = cc
widths_at (w ∷ ws) (s ∷ more) (suc k) d e h = let rest : word_widths ws ≡ map length more = cc in let less : k < length more = omega (arith, h) in widths_at ws more k d rest less

-- one more of each
pub widths_pushed : (words after : List Word) (signals longer : List (List Bit)) (w : Word) (bits : List Bit) → after ≡ words ++ w ∷ [] → longer ≡ signals ++ bits ∷ [] → w.width ≡ length bits → word_widths words ≡ map length signals → word_widths after ≡ map length longer
widths_pushed words after signals longer w bits a l same e =
    let left : word_widths after ≡ word_widths words ++ w.width ∷ [] = ap word_widths a ∙ map-append (λ (x : Word). x.width) words (w ∷ []) in
    let right : map length longer ≡ map length signals ++ length bits ∷ [] = ap (map length) l ∙ map-append (length {A = Bit}) signals (bits ∷ []) in
    left ∙ ap (λ (ns : List ℕ). ns ++ w.width ∷ []) e ∙ ap (λ (n : ℕ). map length signals ++ n ∷ []) same ∙ sym right

-- other bits of a signal, and another start value
pub widths_other : (words : List Word) (signals : List (List Bit)) (k : ℕ) (bits : List Bit) → word_widths words ≡ map length signals → length bits ≡ length (get_or signals k []) → word_widths words ≡ map length (set signals k bits)
widths_other words signals k bits e same = e ∙ sym (map-set_same length signals k bits [] same)

pub widths_start : (words : List Word) (signals : List (List Bit)) (k : ℕ) (w : Word) → word_widths words ≡ map length signals → k < length signals → w.width ≡ length (get_or signals k []) → word_widths (set words k w) ≡ map length signals
widths_start words signals k w e h same = map-set_same (λ (x : Word). x.width) words k w w (same ∙ sym (widths_at words signals k w e h)) ∙ e
