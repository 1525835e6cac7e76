-- Going round loops.
use Rattle.net_builder.proofs.Common.{◌≡◌, ℕ, zero, suc, ◌+◌, ◌<◌, ◌≤◌, min, Bool, true, false, List, [], ◌∷◌, length, set, replicate, ◌⊎◌, inl, inr, sym, ◌∙◌, ap, subst, if◌then◌else◌, arith}
use Rattle.net_builder.proofs.Common.{false≢true, eqb_tells, get_or-set_same, get_or-set_other, Step, Stays, On, Follows, IsOnLoop, next_in, seen_in, IsRound, IsClosed}
use Rattle.net_builder.proofs.Following.{loop_goes, closed_follows, past_end}

-- how many nets were not gone through
abbrev pub unseen : List Bool → ℕ
unseen [] = 0
unseen (b ∷ more) = (if b then 0 else 1) + unseen more

pub seen_inside : (seen : List Bool) (n : ℕ) → seen_in seen n ≡ false → n < length seen
seen_inside [] n e = absurd (false≢true (sym e))
seen_inside (b ∷ more) zero e = omega arith
seen_inside (b ∷ more) (suc n) e = let less = seen_inside more n e in omega (arith, less)

pub set_unseen : (seen : List Bool) (n : ℕ) → seen_in seen n ≡ false → unseen (set seen n true) + 1 ≡ unseen seen
set_unseen [] n e = absurd (false≢true (sym e))
set_unseen (b ∷ more) zero e = rw e (omega arith)
set_unseen (b ∷ more) (suc n) e = let rest = set_unseen more n e in omega (arith, rest)

set_seen : (seen : List Bool) (n k : ℕ) → n < length seen → seen_in (set seen n true) k ≡ true → (k ≡ n) ⊎ (seen_in seen k ≡ true)
set_seen seen n k h e = elim (eqb_tells k n) [ inl t ↦ inl t.1 | inr t ↦ inr (sym (get_or-set_other seen n k true true t.1) ∙ e) ]

pub seen_here : (seen : List Bool) (n : ℕ) → n < length seen → seen_in (set seen n true) n ≡ true
seen_here seen n h = get_or-set_same seen n true true h

pub seen_stays : (seen : List Bool) (n k : ℕ) → n < length seen → seen_in seen k ≡ true → seen_in (set seen n true) k ≡ true
seen_stays seen n k h e = elim (eqb_tells k n) [
  | inl t ↦ ap (λ (i : ℕ). seen_in (set seen n true) i) t.1 ∙ seen_here seen n h
  | inr t ↦ get_or-set_other seen n k true true t.1 ∙ e
]

least_two : (P : ℕ → Type 0) (a b : ℕ) → P a → P b → P (min a b)
least_two P a b p q = elim (split a b) [ inl e ↦ subst P (sym e) p | inr e ↦ subst P (sym e) q ]
  where
    split : (a b : ℕ) → (min a b ≡ a) ⊎ (min a b ≡ b)
    split a b = grind arith

module _ (next : ℕ → Step) where
  -- one net more
  pub round_on : (seen : List Bool) (least net m : ℕ) → seen_in seen net ≡ false → next net ≡ On m → IsRound next seen least (λ k. net ≡ k) → IsRound next (set seen net true) (min least net) (λ k. m ≡ k)
  round_on seen least net m new e h =
      let here = seen_inside seen net new in
      record {
        least = λ n is loop. elim (set_seen seen net n here is) [
          | inl same ↦ omega (arith, same)
          | inr old ↦ (let below : least ≤ n = h.least n old loop in omega (arith, below))
        ];
        closed = λ n k is go. elim (set_seen seen net n here is) [
          | inl same ↦ inl (let s : On m ≡ On k = sym e ∙ sym (ap next same) ∙ go in cc)
          | inr old ↦ elim (h.closed n k old go) [
            | inl same ↦ inr (subst (λ (i : ℕ). seen_in (set seen net true) i ≡ true) same (seen_here seen net here))
            | inr was ↦ inr (seen_stays seen net k here was)
          ]
        ];
      }

  pub least_loop : (a b : ℕ) → IsOnLoop next a → IsOnLoop next b → IsOnLoop next (min a b)
  least_loop = least_two (IsOnLoop next)

  -- a loop that was gone through from one of its nets
  pub round_below : (seen : List Bool) (least c n : ℕ) → IsClosed next seen least → seen_in seen c ≡ true → (n ≡ c) ⊎ Follows next c n → IsOnLoop next n → least ≤ n
  round_below seen least c n h at from loop = h.least n (reached from) loop
    where
      onward : (a b : ℕ) → seen_in seen a ≡ true → next a ≡ On b → seen_in seen b ≡ true
      onward a b is go = elim (h.closed a b is go) [ inl bad ↦ absurd bad | inr was ↦ was ]

      reached : (n ≡ c) ⊎ Follows next c n → seen_in seen n ≡ true
      reached (inl same) = ap (seen_in seen) same ∙ at
      reached (inr follows) = closed_follows next (λ k. seen_in seen k ≡ true) onward c n follows at

none_seen : (count n : ℕ) → seen_in (replicate count false) n ≡ true → count ≤ n
none_seen zero n e = omega arith
none_seen (suc count) zero e = absurd (false≢true e)
none_seen (suc count) (suc n) e = let le = none_seen count n e in omega (arith, le)

-- nothing is gone through yet
pub round_none : (table : List Step) (least : ℕ) (seen : List Bool) → seen ≡ replicate (length table) false → IsClosed (next_in table) seen least
round_none table least seen is = record {
  least = λ n e loop. absurd (let f = loop_goes (next_in table) n loop in let s : On f.0 ≡ Stays = sym f.1 ∙ outside n e in cc);
  closed = λ n m e go. absurd (let s : On m ≡ Stays = sym go ∙ outside n e in cc);
} where
  outside : (n : ℕ) → seen_in seen n ≡ true → next_in table n ≡ Stays
  outside n e = past_end table n (none_seen (length table) n (ap (λ (l : List Bool). seen_in l n) (sym is) ∙ e))
