-- One row more with the bound in its place.
use Rattle.std.proofs.Common.{◌≡◌, ℕ, ◌+◌, ◌<◌, List, [], ◌∷◌, ◌++◌, get_or, length, length-take, take, arith, refl, sym, ap, ◌∙◌}
use Rattle.std.proofs.lemmas.List.{take_more}
use Rattle.mcy_keeper.specs.declared.book.Entry.{Entry}
use Rattle.mcy_keeper.specs.Books.{with_bounds}

bounds_push : (bounds : List ℕ) (rows : List Entry) (e : Entry) → with_bounds bounds (rows ++ e ∷ []) ≡ with_bounds bounds rows ++ record e { bound = get_or bounds (length rows) e.bound } ∷ []
bounds_push [] [] e = refl
bounds_push [] (r ∷ rows) e = refl
bounds_push (bound ∷ bounds) [] e = refl
bounds_push (bound ∷ bounds) (r ∷ rows) e = ap (λ l. record r { bound = bound } ∷ l) (bounds_push bounds rows e)

-- the row at this place has the bound in its place, or keeps its own
pub bounds_step : (bounds : List ℕ) (entries rows new : List Entry) (at bound : ℕ) (d : Entry) → at < length entries → rows ≡ with_bounds bounds (take at entries) → bound ≡ get_or bounds at (get_or entries at d).bound
    → new ≡ rows ++ record (get_or entries at d) { bound = bound } ∷ [] → new ≡ with_bounds bounds (take (at + 1) entries)
bounds_step bounds entries rows new at bound d inside so_far is pushed =
    let e = get_or entries at d in
    let number : length (take at entries) ≡ at = omega (arith, length-take at entries) in
    let whole : with_bounds bounds (take (at + 1) entries) ≡ with_bounds bounds (take at entries) ++ record e { bound = get_or bounds at e.bound } ∷ [] =
    ap (with_bounds bounds) (take_more entries at d inside) ∙ bounds_push bounds (take at entries) e ∙ ap (λ n. with_bounds bounds (take at entries) ++ record e { bound = get_or bounds n e.bound } ∷ []) number in
    pushed ∙ ap (λ l. l ++ record e { bound = bound } ∷ []) so_far ∙ ap (λ b. with_bounds bounds (take at entries) ++ record e { bound = b } ∷ []) is ∙ sym whole
