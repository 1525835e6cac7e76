-- Nodes that read and are read, and lists of nodes.
use Rattle.net_order.proofs.Common.{◌≡◌, ℕ, zero, suc, ◌<◌, ◌≤◌, List, [], ◌∷◌, length, get_or, take, ◌⊎◌, inl, inr, refl, sym, ◌∙◌, subst, arith, Contains, insert_key, nat_cmp, match_ordering, Less}
use Rattle.net_order.proofs.Common.{Equal, Greater, get_or-take, length-take-le, get_or_default, Reads, IsLeastReady, IsInOrder}
use Rattle.std.specs.declared.cmp.Ordering.{Ordering}
use Rattle.std.proofs.lemmas.Map.Lookups.{exact_unsigned}

-- a node that reads is one of the nodes
pub reader-inside : (rows : List (List ℕ)) (c d : ℕ) → Reads rows c d → c < length rows
reader-inside [] c d h = absurd (omega (arith, h.1))
reader-inside (row ∷ more) zero d h = omega arith
reader-inside (row ∷ more) (suc c) d h = let rest = reader-inside more c d h in omega (arith, rest)

-- What a list has.

pub Contains-head : (x : ℕ) (xs : List ℕ) → Contains (x ∷ xs) x
Contains-head x xs = (0, omega arith, refl)

pub Contains-tail : (x y : ℕ) (xs : List ℕ) → Contains xs y → Contains (x ∷ xs) y
Contains-tail x y xs h = (suc h.0, omega (arith, h.1), h.2)

cons_at : (x y : ℕ) (xs : List ℕ) (k : ℕ) → k < length (x ∷ xs) → get_or (x ∷ xs) k y ≡ y → (x ≡ y) ⊎ Contains xs y
cons_at x y xs zero inside e = inl e
cons_at x y xs (suc k) inside e = inr (k, omega (arith, inside), e)

pub Contains-cases : (x y : ℕ) (xs : List ℕ) → Contains (x ∷ xs) y → (x ≡ y) ⊎ Contains xs y
Contains-cases x y xs h = cons_at x y xs h.0 h.1 h.2

pub Contains-empty : (x : ℕ) → Contains [] x → ⊥
Contains-empty x h = omega (arith, h.1)

pub Contains-take : (k : ℕ) (xs : List ℕ) (x : ℕ) → k ≤ length xs → Contains (take k xs) x → Contains xs x
Contains-take k xs x le h =
    let inside : h.0 < k = omega (arith, h.1, length-take-le k xs le) in
    (h.0, omega (arith, inside, le), sym (get_or-take k xs h.0 x inside) ∙ h.2)

-- What an insertion leaves.

insert_by : (o : Ordering) (c y : ℕ) (more : List ℕ) → nat_cmp c y ≡ o → Contains (insert_key nat_cmp more c) c → Contains (match_ordering o (c ∷ y ∷ more) (y ∷ more) (y ∷ insert_key nat_cmp more c)) c
insert_by Less c y more e h = Contains-head c (y ∷ more)
insert_by Equal c y more e h = let same : c ≡ y = exact_unsigned c y e in subst (λ (k : ℕ). Contains (k ∷ more) c) same (Contains-head c more)
insert_by Greater c y more e h = Contains-tail y c (insert_key nat_cmp more c) h

pub insert-has : (keys : List ℕ) (c : ℕ) → Contains (insert_key nat_cmp keys c) c
insert-has [] c = Contains-head c []
insert-has (y ∷ more) c = insert_by (nat_cmp c y) c y more refl (insert-has more c)

keep_by : (o : Ordering) (c y x : ℕ) (more : List ℕ) → (Contains more x → Contains (insert_key nat_cmp more c) x) → Contains (y ∷ more) x → Contains (match_ordering o (c ∷ y ∷ more) (y ∷ more) (y ∷ insert_key nat_cmp more c)) x
keep_by Less c y x more rest h = Contains-tail c x (y ∷ more) h
keep_by Equal c y x more rest h = h
keep_by Greater c y x more rest h = elim (Contains-cases y x more h) [ inl e ↦ subst (λ (k : ℕ). Contains (y ∷ insert_key nat_cmp more c) k) e (Contains-head y (insert_key nat_cmp more c)) | inr t ↦ Contains-tail y x (insert_key nat_cmp more c) (rest t) ]

pub insert-keeps : (keys : List ℕ) (c x : ℕ) → Contains keys x → Contains (insert_key nat_cmp keys c) x
insert-keeps [] c x h = absurd (Contains-empty x h)
insert-keeps (y ∷ more) c x h = keep_by (nat_cmp c y) c y x more (insert-keeps more c x) h

only_by : (o : Ordering) (c y x : ℕ) (more : List ℕ) → (Contains (insert_key nat_cmp more c) x → Contains more x ⊎ (c ≡ x)) → Contains (match_ordering o (c ∷ y ∷ more) (y ∷ more) (y ∷ insert_key nat_cmp more c)) x → Contains (y ∷ more) x ⊎ (c ≡ x)
only_by Less c y x more rest h = elim (Contains-cases c x (y ∷ more) h) [ inl e ↦ inr e | inr t ↦ inl t ]
only_by Equal c y x more rest h = inl h
only_by Greater c y x more rest h = elim (Contains-cases y x (insert_key nat_cmp more c) h) [
  | inl e ↦ inl (subst (λ (k : ℕ). Contains (y ∷ more) k) e (Contains-head y more))
  | inr t ↦ elim (rest t) [ inl k ↦ inl (Contains-tail y x more k) | inr e ↦ inr e ]
]

pub insert-only : (keys : List ℕ) (c x : ℕ) → Contains (insert_key nat_cmp keys c) x → Contains keys x ⊎ (c ≡ x)
insert-only [] c x h = elim (Contains-cases c x [] h) [ inl e ↦ inr e | inr t ↦ inl t ]
insert-only (y ∷ more) c x h = only_by (nat_cmp c y) c y x more (insert-only more c x) h

-- Listed nodes.

-- what a listed node reads was listed before
pub listed-reads : (graph : List (List ℕ)) (order : List ℕ) → IsInOrder (length graph) (Reads graph) order → (c d : ℕ) → Contains order c → Reads graph c d → Contains order d
listed-reads graph order places c d h r =
    let at : IsLeastReady (length graph) (Reads graph) (take h.0 order) (get_or order h.0 0) = places h.0 h.1 in
    let is : get_or order h.0 0 ≡ c = get_or_default order h.0 0 c h.1 ∙ h.2 in
    let here : IsLeastReady (length graph) (Reads graph) (take h.0 order) c = subst (λ (k : ℕ). IsLeastReady (length graph) (Reads graph) (take h.0 order) k) is at in
    Contains-take h.0 order d (omega (arith, h.1)) (here.ready.reads d r)
