-- What each of several left sides has, and how many bits they write together.
use Rattle.tb_assigns.proofs.Common.{◌≡◌, zero, suc, ℕ, ◌+◌, ◌<◌, ◌≤◌, List, [], ◌∷◌, ◌++◌, map, ap, subst, sym, ◌∙◌, arith, length, get_or, take, LeftSide, Names, Part, parts_of, parts_width}
use Rattle.tb_assigns.proofs.Common.{concatenated, parts_take, AreParts}
use Rattle.tb_assigns.proofs.Checked.{width_both}

parts_right : (names : Names) (ps qs : List Part) → AreParts names (ps ++ qs) → AreParts names qs
parts_right names [] qs h = h
parts_right names (p ∷ ps) qs h = parts_right names ps qs h.1

parts_left : (names : Names) (ps qs : List Part) → AreParts names (ps ++ qs) → AreParts names ps
parts_left names [] qs h = tt
parts_left names (p ∷ ps) qs h = (h.0, parts_left names ps qs h.1)

pub parts_element : (names : Names) (parts : List LeftSide) (k : ℕ) (x : LeftSide) → x ≡ get_or parts k x → k < length parts → AreParts names (concatenated (map parts_of parts)) → AreParts names (parts_of x)
parts_element names [] k x is h can = absurd (omega arith)
parts_element names (y ∷ ys) zero x is h can = subst (λ (z : LeftSide). AreParts names (parts_of z)) (sym is) (parts_left names (parts_of y) (concatenated (map parts_of ys)) can)
parts_element names (y ∷ ys) (suc k) x is h can = parts_element names ys k x is (omega arith) (parts_right names (parts_of y) (concatenated (map parts_of ys)) can)

width_within : (names : Names) (parts : List LeftSide) (k : ℕ) → parts_width names (concatenated (map parts_of (take k parts))) ≤ parts_width names (concatenated (map parts_of parts))
width_within names [] zero = omega arith
width_within names [] (suc k) = omega arith
width_within names (y ∷ ys) zero = omega arith
width_within names (y ∷ ys) (suc k) =
    let e = width_within names ys k in
    let f = width_both names (parts_of y) (concatenated (map parts_of (take k ys))) in
    let g = width_both names (parts_of y) (concatenated (map parts_of ys)) in
    omega (arith, e, f, g)

pub width_next : (names : Names) (parts : List LeftSide) (k : ℕ) (x : LeftSide) → x ≡ get_or parts k x → k < length parts → parts_width names (concatenated (map parts_of (take (suc k) parts))) ≡ parts_width names (concatenated (map parts_of (take k parts))) + parts_width names (parts_of x)
width_next names parts k x is h = ap (parts_width names) (parts_take parts k x is h) ∙ width_both names (concatenated (map parts_of (take k parts))) (parts_of x)

-- one part more has no more bits than all
pub width_fits : (names : Names) (parts : List LeftSide) (k : ℕ) (x : LeftSide) (n : ℕ) → x ≡ get_or parts k x → k < length parts → parts_width names (concatenated (map parts_of parts)) ≤ n → parts_width names (concatenated (map parts_of (take k parts))) + parts_width names (parts_of x) ≤ n
width_fits names parts k x n is h all =
    let e = width_next names parts k x is h in
    let f = width_within names parts (suc k) in
    omega (arith, e, f, all)
