-- The lines of a file, from its parts between newlines.
use Rattle.source_report.proofs.Common.{◌≡◌, ℕ, zero, suc, ◌<◌, List, [], ◌∷◌, length, drop, get_or, sym, ap, subst, arith, lines_of_parts, strip_carriage_return}

inside : (parts : List (List ℕ)) (row : ℕ) (part : List ℕ) → suc row < length parts → part ≡ get_or parts row part → lines_of_parts (drop row parts) ≡ strip_carriage_return part ∷ lines_of_parts (drop (suc row) parts)
inside [] row part within is = absurd (omega (arith, within))
inside (x ∷ []) row part within is = absurd (omega (arith, within))
inside (x ∷ y ∷ more) zero part within is = ap (λ p. strip_carriage_return p ∷ lines_of_parts (y ∷ more)) (sym is)
inside (x ∷ y ∷ more) (suc row) part within is = inside (y ∷ more) row part (omega (arith, within)) is

-- A part that another one follows is a line.
pub line-inside : (parts : List (List ℕ)) (row next : ℕ) (part : List ℕ) → next ≡ suc row → next < length parts → part ≡ get_or parts row part → lines_of_parts (drop row parts) ≡ strip_carriage_return part ∷ lines_of_parts (drop next parts)
line-inside parts row next part after within is =
    subst (λ n. lines_of_parts (drop row parts) ≡ strip_carriage_return part ∷ lines_of_parts (drop n parts)) (sym after) (inside parts row part (omega (arith, within, after)) is)
