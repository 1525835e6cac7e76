-- Where steps lead: to one bit at most, and those on a loop to none.
use Rattle.net_builder.proofs.Common.{◌≡◌, ℕ, zero, suc, Bool, ◌≤◌, List, [], ◌∷◌, length, ◌⊎◌, inl, inr, refl, sym, ◌∙◌, ap, subst, arith, Bit, Fixed, Step, Stays, Constant, On, next_in, LeadsTo}
use Rattle.net_builder.proofs.Common.{stays, fixed, goes, Follows, direct, further, IsOnLoop}

module _ (next : ℕ → Step) where
  on_same : (n m k : ℕ) → next n ≡ On m → next n ≡ On k → m ≡ k
  on_same n m k a b = let s : On m ≡ On k = sym a ∙ b in cc

  not_stays : (n m : ℕ) → next n ≡ On m → next n ≡ Stays → ⊥
  not_stays n m a b = absurd (let s : On m ≡ Stays = sym a ∙ b in cc)

  not_fixed : (n m : ℕ) (v : Bool) → next n ≡ On m → next n ≡ Constant v → ⊥
  not_fixed n m v a b = absurd (let s : On m ≡ Constant v = sym a ∙ b in cc)

  -- a net leads to one bit at most
  pub leads_once : (n : ℕ) (e f : Bit) → LeadsTo next n e → LeadsTo next n f → e ≡ f
  leads_once n _ _ (stays _ a) (stays _ b) = refl
  leads_once n _ _ (stays _ a) (fixed _ v b) = absurd (let s : Stays ≡ Constant v = sym a ∙ b in cc)
  leads_once n _ _ (stays _ a) (goes _ k f b j) = absurd (not_stays n k b a)
  leads_once n _ _ (fixed _ v a) (stays _ b) = absurd (let s : Stays ≡ Constant v = sym b ∙ a in cc)
  leads_once n _ _ (fixed _ v a) (fixed _ w b) = let s : Constant v ≡ Constant w = sym a ∙ b in let t : v ≡ w = cc in ap Fixed t
  leads_once n _ _ (fixed _ v a) (goes _ k f b j) = absurd (not_fixed n k v b a)
  leads_once n _ _ (goes _ m e a l) (stays _ b) = absurd (not_stays n m a b)
  leads_once n _ _ (goes _ m e a l) (fixed _ v b) = absurd (not_fixed n m v a b)
  leads_once n _ _ (goes _ m e a l) (goes _ k f b j) = leads_once m e f l (subst (λ (x : ℕ). LeadsTo next x f) (on_same n k m b a) j)

  pub trans : (n m k : ℕ) → Follows next n m → Follows next m k → Follows next n k
  trans n m k (direct _ _ a) g = further n m k a g
  trans n m k (further _ x _ a h) g = further n x k a (trans x m k h g)

  first_step : (n k : ℕ) → Follows next n k → (m : ℕ) × (next n ≡ On m)
  first_step n k (direct _ _ a) = (k, a)
  first_step n k (further _ m _ a h) = (m, a)

  -- what a net leads to, its next net leads to or is
  follow_next : (n m k : ℕ) → next n ≡ On m → Follows next n k → (m ≡ k) ⊎ Follows next m k
  follow_next n m k a (direct _ _ b) = inl (on_same n m k a b)
  follow_next n m k a (further _ x _ b h) = inr (subst (λ (y : ℕ). Follows next y k) (on_same n x m b a) h)

  pub loop_next : (n m : ℕ) → next n ≡ On m → IsOnLoop next n → IsOnLoop next m
  loop_next n m a loop = elim (follow_next n m n a loop) [
    | inl same ↦ subst (λ (x : ℕ). IsOnLoop next x) (sym same) loop
    | inr h ↦ trans m n m h (direct n m a)
  ]

  pub loop_goes : (n : ℕ) → IsOnLoop next n → (m : ℕ) × (next n ≡ On m)
  loop_goes n loop = first_step n n loop

  pub leads_no_loop : (n : ℕ) (e : Bit) → LeadsTo next n e → IsOnLoop next n → ⊥
  leads_no_loop n _ (stays _ a) loop = let f = first_step n n loop in not_stays n f.0 f.1 a
  leads_no_loop n _ (fixed _ v a) loop = let f = first_step n n loop in not_fixed n f.0 v f.1 a
  leads_no_loop n _ (goes _ m e a l) loop = leads_no_loop m e l (loop_next n m a loop)

  -- a net on a loop is led back to from where it leads
  pub loop_back : (n c : ℕ) → IsOnLoop next n → Follows next n c → Follows next c n
  loop_back n c loop (direct _ _ a) = elim (follow_next n c n a loop) [
    | inl same ↦ subst (λ (x : ℕ). Follows next x n) (sym same) loop
    | inr h ↦ h
  ]
  loop_back n c loop (further _ m _ a h) =
      let back : Follows next c m = loop_back m c (loop_next n m a loop) h in
      elim (follow_next n m n a loop) [
        | inl same ↦ subst (λ (x : ℕ). Follows next c x) same back
        | inr on ↦ trans c m n back on
      ]

  pub leads_from : (n m : ℕ) (e : Bit) → Follows next n m → LeadsTo next m e → LeadsTo next n e
  leads_from n m e (direct _ _ a) l = goes n m e a l
  leads_from n m e (further _ x _ a h) l = goes n x e a (leads_from x m e h l)

  -- what is closed under steps has all that a net leads to
  pub closed_follows : (S : ℕ → Type 0) → ((n m : ℕ) → S n → next n ≡ On m → S m) → (n k : ℕ) → Follows next n k → S n → S k
  closed_follows S closed n k (direct _ _ a) s = closed n k s a
  closed_follows S closed n k (further _ m _ a h) s = closed_follows S closed m k h (closed n m s a)

-- what is past the table's end is no part of a loop
pub past_end : (table : List Step) (n : ℕ) → length table ≤ n → next_in table n ≡ Stays
past_end [] n h = refl
past_end (s ∷ more) zero h = absurd (omega (arith, h))
past_end (s ∷ more) (suc n) h = past_end more n (omega (arith, h))
