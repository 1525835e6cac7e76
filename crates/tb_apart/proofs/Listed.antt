-- A list of nodes, one more.
use Rattle.tb_apart.proofs.Common.{◌≡◌, ◌⊎◌, inl, inr, zero, suc, ℕ, true, List, [], ◌∷◌, ◌++◌, length, refl, sym, ap, ◌∙◌, arith, Option, Some, None, slice_get, NetNode}
use Rattle.tb_nets.specs.Nets.{Wiring, node_writes, writes_of, AreApart}

-- one of the list, or the new one
pub one_of : (xs : List NetNode) (x y : NetNode) (k : ℕ) → slice_get (xs ++ x ∷ []) k ≡ Some y → (slice_get xs k ≡ Some y) ⊎ ((k ≡ length xs) × (y ≡ x))
one_of [] x y zero e = inr (refl, some_same y x (sym e))
  where
    some_same : (a b : NetNode) → Some a ≡ Some b → a ≡ b
    some_same a b h = cc
one_of [] x y (suc k) e = absurd cc
one_of (z ∷ xs) x y zero e = inl e
one_of (z ∷ xs) x y (suc k) e = go (one_of xs x y k e)
  where
    go : ((slice_get xs k ≡ Some y) ⊎ ((k ≡ length xs) × (y ≡ x))) → (slice_get (z ∷ xs) (suc k) ≡ Some y) ⊎ ((suc k ≡ length (z ∷ xs)) × (y ≡ x))
    go (inl h) = inl h
    go (inr h) = let same : k ≡ length xs = h.0 in inr (omega arith, h.1)

pub some_writes : (w : Wiring) (o : Option NetNode) (n i : ℕ) → writes_of w o n i ≡ true → (x : NetNode) × ((o ≡ Some x) × (node_writes w x n i ≡ true))
some_writes w None n i e = absurd cc
some_writes w (Some x) n i e = (x, (refl, e))

-- a node whose bits none of the others writes
pub apart_more : (w : Wiring) (xs : List NetNode) (x : NetNode) → AreApart w xs → ((k n i : ℕ) → writes_of w (slice_get xs k) n i ≡ true → node_writes w x n i ≡ true → ⊥) → AreApart w (xs ++ x ∷ [])
apart_more w xs x apart clash c d n i e f = go (some_writes w (slice_get (xs ++ x ∷ []) c) n i e) (some_writes w (slice_get (xs ++ x ∷ []) d) n i f)
  where
    old : (k : ℕ) (y : NetNode) → slice_get xs k ≡ Some y → node_writes w y n i ≡ true → writes_of w (slice_get xs k) n i ≡ true
    old k y at h = ap (λ (o : Option NetNode). writes_of w o n i) at ∙ h

    new : (y : NetNode) → y ≡ x → node_writes w y n i ≡ true → node_writes w x n i ≡ true
    new y is h = ap (λ (z : NetNode). node_writes w z n i) (sym is) ∙ h

    pick : (y z : NetNode) → node_writes w y n i ≡ true → node_writes w z n i ≡ true → ((slice_get xs c ≡ Some y) ⊎ ((c ≡ length xs) × (y ≡ x))) → ((slice_get xs d ≡ Some z) ⊎ ((d ≡ length xs) × (z ≡ x))) → c ≡ d
    pick y z h k (inl at) (inl there) = apart c d n i (old c y at h) (old d z there k)
    pick y z h k (inl at) (inr is) = absurd (clash c n i (old c y at h) (new z is.1 k))
    pick y z h k (inr is) (inl there) = absurd (clash d n i (old d z there k) (new y is.1 h))
    pick y z h k (inr is) (inr also) = is.0 ∙ sym also.0

    go : ((y : NetNode) × ((slice_get (xs ++ x ∷ []) c ≡ Some y) × (node_writes w y n i ≡ true))) → ((z : NetNode) × ((slice_get (xs ++ x ∷ []) d ≡ Some z) × (node_writes w z n i ≡ true))) → c ≡ d
    go a b = pick a.0 b.0 a.1.1 b.1.1 (one_of xs x a.0 c a.1.0) (one_of xs x b.0 d b.1.0)
