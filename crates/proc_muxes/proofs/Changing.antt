-- Lists of changes.
use Rattle.proc_muxes.proofs.Common.{◌≡◌, Bool, true, false, List, [], ◌∷◌, ◌++◌, refl, if◌then◌else◌, Change, is_changed, joined}

-- one later change more
pub joined-push : (cs ds : List Change) (d : Change) → joined cs (ds ++ d ∷ []) ≡ (if is_changed d.is_blocking (joined cs ds) d.number then joined cs ds else joined cs ds ++ d ∷ [])
joined-push cs [] d = refl
joined-push cs (x ∷ ds) d = go (is_changed x.is_blocking cs x.number) (joined-push cs ds d) (joined-push (cs ++ x ∷ []) ds d) where
  go : (b : Bool) → joined cs (ds ++ d ∷ []) ≡ (if is_changed d.is_blocking (joined cs ds) d.number then joined cs ds else joined cs ds ++ d ∷ []) → joined (cs ++ x ∷ []) (ds ++ d ∷ []) ≡ (if is_changed d.is_blocking (joined (cs ++ x ∷ []) ds) d.number then joined (cs ++ x ∷ []) ds else joined (cs ++ x ∷ []) ds ++ d ∷ []) → (if b then joined cs (ds ++ d ∷ []) else joined (cs ++ x ∷ []) (ds ++ d ∷ [])) ≡ (if is_changed d.is_blocking (if b then joined cs ds else joined (cs ++ x ∷ []) ds) d.number then (if b then joined cs ds else joined (cs ++ x ∷ []) ds) else (if b then joined cs ds else joined (cs ++ x ∷ []) ds) ++ d ∷ [])
  go true e f = e
  go false e f = f
