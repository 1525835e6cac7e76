-- Hidden signals of ports behind others: each is as wide as its port, and is among the signals.
use Rattle.tb_reading.proofs.Common.{◌≡◌, ℕ, ◌+◌, ◌<◌, List, [], ◌∷◌, ◌++◌, map, length, refl, sym, ap, ◌∙◌, subst, arith, slice_index, All, append_assoc, All-nil, All-cons, Port, bits_at}
use Rattle.tb_reading.proofs.Common.{numbers_from, port_widths}

abbrev pub Fit : List ℕ → ℕ → List Port → Type 0
Fit widths n ports = (map (slice_index widths) (numbers_from n ports) ≡ map length (bits_at ports)) × All (λ k. k < length widths) (numbers_from n ports)

first_at : (before rest : List ℕ) (w : ℕ) → slice_index (before ++ (w ∷ rest)) (length before) ≡ w
first_at [] rest w = refl
first_at (x ∷ xs) rest w = first_at xs rest w

first_inside : (before rest : List ℕ) (w : ℕ) → length before < length (before ++ (w ∷ rest))
first_inside [] rest w = omega arith
first_inside (x ∷ xs) rest w = let h : length xs < length (xs ++ (w ∷ rest)) = first_inside xs rest w in omega arith

longer : (before : List ℕ) (w n : ℕ) → length before ≡ n → length (before ++ w ∷ []) ≡ n + 1
longer [] w n e = omega arith
longer (x ∷ xs) w n e = let h : length (xs ++ w ∷ []) ≡ length xs + 1 = longer xs w (length xs) refl in omega arith

one_more : (widths : List ℕ) (n : ℕ) (p : Port) (ps : List Port) → slice_index widths n ≡ length p.bits → n < length widths → Fit widths (n + 1) ps → Fit widths n (p ∷ ps)
one_more widths n p ps is inside more = (ap (λ (k : ℕ). k ∷ map (slice_index widths) (numbers_from (n + 1) ps)) is ∙ ap (λ (ks : List ℕ). length p.bits ∷ ks) more.0, All-cons (λ k. k < length widths) n (numbers_from (n + 1) ps) inside more.1)

pub ports_fit : (n : ℕ) (before : List ℕ) (ports : List Port) (more : List ℕ) → length before ≡ n → Fit (before ++ (port_widths ports ++ more)) n ports
ports_fit n before [] more e = (refl, All-nil (λ k. k < length (before ++ more)))
ports_fit n before (p ∷ ps) more e =
    let w : ℕ = length p.bits in
    let rest : List ℕ = port_widths ps ++ more in
    let widths : List ℕ = before ++ (w ∷ rest) in
    one_more widths n p ps
    (ap (slice_index widths) (sym e) ∙ first_at before rest w)
    (subst (λ (k : ℕ). k < length widths) e (first_inside before rest w))
    (subst (λ (ws : List ℕ). Fit ws (n + 1) ps) (append_assoc before (w ∷ []) rest) (ports_fit (n + 1) (before ++ w ∷ []) ps more (longer before w n e)))
