-- What is written at places, into bits that are partly the same.
use Rattle.vlog_effects.proofs.Common.{◌≡◌, ℕ, zero, suc, ◌≤◌, ℤ, pos, ◌+ℤ◌, Bool, true, false, List, [], ◌∷◌, length, Option, Some, None, get_or, set, refl, sym, ◌∙◌, ap, subst, inl, inr, arith}
use Rattle.vlog_effects.proofs.Common.{eqb_tells, Vector, bits_from, written, stands_in}
use Rattle.std.proofs.lemmas.List.{length-set}

set-at : (xs ys : List Bool) (j : ℕ) (v : Bool) (i : ℕ) → length xs ≡ length ys → get_or xs i false ≡ get_or ys i false → get_or (set xs j v) i false ≡ get_or (set ys j v) i false
set-at [] [] j v i l e = refl
set-at [] (y ∷ ys) j v i l e = cc
set-at (x ∷ xs) [] j v i l e = cc
set-at (x ∷ xs) (y ∷ ys) zero v zero l e = refl
set-at (x ∷ xs) (y ∷ ys) zero v (suc i) l e = e
set-at (x ∷ xs) (y ∷ ys) (suc j) v zero l e = e
set-at (x ∷ xs) (y ∷ ys) (suc j) v (suc i) l e = set-at xs ys j v i (omega arith) e

set-here : (xs ys : List Bool) (j : ℕ) (v : Bool) → length xs ≡ length ys → get_or (set xs j v) j false ≡ get_or (set ys j v) j false
set-here [] [] j v l = refl
set-here [] (y ∷ ys) j v l = cc
set-here (x ∷ xs) [] j v l = cc
set-here (x ∷ xs) (y ∷ ys) zero v l = refl
set-here (x ∷ xs) (y ∷ ys) (suc j) v l = set-here xs ys j v (omega arith)

set-lengths : (xs ys : List Bool) (j : ℕ) (v : Bool) → length xs ≡ length ys → length (set xs j v) ≡ length (set ys j v)
set-lengths xs ys j v l = length-set xs j v ∙ l ∙ sym (length-set ys j v)

-- bits that were the same stay the same
pub written-at : (xs ys : List Bool) (ps : List (Option ℕ)) (vs : List Bool) (i : ℕ) → length xs ≡ length ys → get_or xs i false ≡ get_or ys i false → get_or (written xs ps vs) i false ≡ get_or (written ys ps vs) i false
written-at xs ys [] vs i l e = e
written-at xs ys (p ∷ ps) [] i l e = e
written-at xs ys (None ∷ ps) (v ∷ vs) i l e = written-at xs ys ps vs i l e
written-at xs ys (Some j ∷ ps) (v ∷ vs) i l e = written-at (set xs j v) (set ys j v) ps vs i (set-lengths xs ys j v l) (set-at xs ys j v i l e)

-- bits at the places are the same, whatever they were
pub written-stands : (xs ys : List Bool) (ps : List (Option ℕ)) (vs : List Bool) (i : ℕ) → length xs ≡ length ys → length ps ≤ length vs → stands_in ps i ≡ true → get_or (written xs ps vs) i false ≡ get_or (written ys ps vs) i false
written-stands xs ys [] vs i l h e = cc
written-stands xs ys (p ∷ ps) [] i l h e = absurd (omega arith)
written-stands xs ys (None ∷ ps) (v ∷ vs) i l h e = written-stands xs ys ps vs i l (omega arith) e
written-stands xs ys (Some j ∷ ps) (v ∷ vs) i l h e = elim (eqb_tells j i) [
  | inl k ↦ let P : ℕ → Type 0 = λ (m : ℕ). get_or (written (set xs j v) ps vs) m false ≡ get_or (written (set ys j v) ps vs) m false in subst P k.1 (written-at (set xs j v) (set ys j v) ps vs j (set-lengths xs ys j v l) (set-here xs ys j v l))
  | inr k ↦ written-stands (set xs j v) (set ys j v) ps vs i (set-lengths xs ys j v l) (omega arith) (rw k.0 at e)
]

pub length-written : (old : List Bool) (ps : List (Option ℕ)) (vs : List Bool) → length (written old ps vs) ≡ length old
length-written old [] vs = refl
length-written old (p ∷ ps) [] = refl
length-written old (None ∷ ps) (v ∷ vs) = length-written old ps vs
length-written old (Some i ∷ ps) (v ∷ vs) = length-written (set old i v) ps vs ∙ length-set old i v

pub length-bits_from : (v : Vector) (base : ℤ) (count : ℕ) → length (bits_from v base count) ≡ count
length-bits_from v base zero = refl
length-bits_from v base (suc count) = ap suc (length-bits_from v (base +ℤ pos 1) count)
