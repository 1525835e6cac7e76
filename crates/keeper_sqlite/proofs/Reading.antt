-- What a query inside a transaction leaves, and what an empty answer says.
use Rattle.keeper_sqlite.proofs.Common.{◌≡◌, ◌⊎◌, arith, length, map, inl, inr, None, List, [], ◌∷◌, ℕ, IsTrue, IsPermutation, refl, sym, subst, length-map, length_permutation, Error, timed}
use Rattle.keeper_sqlite.proofs.Common.{understood, State, FailsToQuery, FailsToShow, IsRolledBack, IsTooLate, IsUnchanged, KeepsCommit}
use Rattle.sqlite.specs.Given.{IsPlain}

pub unchanged_keeps : (old new : State) → IsUnchanged old new → KeepsCommit old new
unchanged_keeps old new same = record { was_open = λ is_open. same.0.was_open; committed = λ is_open. same.0.committed_is }

undone_keeps : (old new : State) → IsRolledBack old new → KeepsCommit old new
undone_keeps old new undone = record { was_open = undone.was_open; committed = λ is_open. (undone.undone is_open).1 }

failed_keeps : (text : List ℕ) (old new : State) (e : Error) → IsPlain (understood old.now.schema text) → FailsToQuery text [] old new e → KeepsCommit old new
unfolding FailsToQuery Rattle.sqlite.specs.State.IsNotRun
failed_keeps text old new e plain (inl (inl h)) = unchanged_keeps old new h.1
failed_keeps text old new e plain (inl (inr h)) = undone_keeps old new h.3
failed_keeps text old new e plain (inr h) =
    let bare = subst IsPlain h.1.is plain in
    let it : FailsToShow old new text h.0 (timed [] h.0.formats h.1.now) e None = rw bare.0 at h.2 in
    unchanged_keeps old new it.3

-- a query that was refused has committed nothing
pub query_keeps : (text : List ℕ) (old new : State) (e : Error) → IsPlain (understood old.now.schema text) → FailsToQuery text [] old new e ⊎ IsTooLate text [] old new e → KeepsCommit old new
query_keeps text old new e plain (inl failed) = failed_keeps text old new e plain failed
query_keeps text old new e plain (inr late) = unchanged_keeps old new late.5

-- while the transaction is under way it was not too late for it
pub failed_inside : (text : List ℕ) (old new : State) (e : Error) → IsTrue old.in_transaction → FailsToQuery text [] old new e ⊎ IsTooLate text [] old new e → FailsToQuery text [] old new e
failed_inside text old new e inside (inl failed) = failed
failed_inside text old new e inside (inr late) = absurd (let no = sym inside in let yes = late.3 in cc)

-- where no row is shown there is none
pub none_left : {X Y : Type 0} (f : X → Y) (xs : List X) (ys : List Y) → length xs ≡ 0 → IsPermutation (map f xs) ys → ys ≡ []
none_left f xs [] none same = refl
none_left f xs (y ∷ ys) none same = absurd (omega (arith, length_permutation _ _ same, length-map xs f))
