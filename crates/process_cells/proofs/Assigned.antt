-- Variables and the kinds of their assignments.
use Rattle.process_cells.proofs.Common.{◌≡◌, ℕ, Bool, true, false, not, ◌&&◌, ◌||◌, List, [], ◌∷◌, ◌++◌, map, nat_eq, Option, Some, None, refl, sym, ap, ◌∙◌, subst, inl, inr, if◌then◌else◌, Contains}
use Rattle.process_cells.proofs.Common.{or_left, or_right, Names, Part, Vector, parts_of, part_vector, Steps, Done, Assign, Choose, Case, Refuse, Arms, Otherwise, Arm, bit_same, IsBlocking}
use Rattle.process_cells.proofs.Common.{AreBlocking, Target, targets, arms_targets, part_targets, parts_targets, is_assigned, Work, distinct_after, stands, Conforms, signal, variables, AllWait}
use Rattle.process_cells.proofs.Common.{nat_eq_same, has_none, has_cases, exact_unsigned_eq}

-- variables are assigned

distinct_assigned : (seen ts : List Target) (n : ℕ) → Contains (map (λ x. x.number) (distinct_after seen ts)) n → is_assigned ts n ≡ true
distinct_assigned seen [] n has = absurd (has_none n has)
distinct_assigned seen (x ∷ more) n has = go (stands x.is_blocking seen x.number) has (distinct_assigned seen more n) (distinct_assigned (x ∷ seen) more n)
  where
    go : (b : Bool) → Contains (map (λ y. y.number) (if b then distinct_after seen more else x ∷ distinct_after (x ∷ seen) more)) n → (Contains (map (λ y. y.number) (distinct_after seen more)) n → is_assigned more n ≡ true) → (Contains (map (λ y. y.number) (distinct_after (x ∷ seen) more)) n → is_assigned more n ≡ true) → (nat_eq n x.number || is_assigned more n) ≡ true
    go true h same_seen more_seen = or_right (nat_eq n x.number) (is_assigned more n) (same_seen h)
    go false h same_seen more_seen = elim (has_cases (map (λ y. y.number) (distinct_after (x ∷ seen) more)) x.number n h) [
      | inl same ↦ or_left (nat_eq n x.number) (is_assigned more n) (ap (λ (m : ℕ). nat_eq n m) same ∙ nat_eq_same n)
      | inr later ↦ or_right (nat_eq n x.number) (is_assigned more n) (more_seen later)
    ]

pub variables_assigned : (steps : Steps) (n : ℕ) → Contains (variables steps) n → is_assigned (targets steps) n ≡ true
variables_assigned steps n has = distinct_assigned [] (targets steps) n has

pub unassigned : (steps : Steps) (n : ℕ) → is_assigned (targets steps) n ≡ false → Contains (variables steps) n → ⊥
unassigned steps n e has = let f = variables_assigned steps n has in let g : true ≡ false = sym f ∙ e in cc

-- Blocking assignments alone.

conforms_both : (kinds : ℕ → Bool) (xs ys : List Target) → Conforms kinds xs → Conforms kinds ys → Conforms kinds (xs ++ ys)
conforms_both kinds [] ys k l = l
conforms_both kinds (x ∷ xs) ys k l = (k.0, conforms_both kinds xs ys k.1 l)

part_conforms : (b : Bool) (p : Part) (o : Option Vector) → b ≡ true → Conforms (λ n. true) (part_targets b p o)
part_conforms b p None e = tt
part_conforms b p (Some v) e = (e, tt)

parts_conform : (b : Bool) (names : Names) (ps : List Part) → b ≡ true → Conforms (λ n. true) (parts_targets b names ps)
parts_conform b names [] e = tt
parts_conform b names (p ∷ ps) e = conforms_both (λ n. true) (part_targets b p (part_vector names p)) (parts_targets b names ps) (part_conforms b p (part_vector names p) e) (parts_conform b names ps e)

mutual
  pub blocking_conform : (steps : Steps) → IsBlocking steps → Conforms (λ n. true) (targets steps)
  blocking_conform Done k = tt
  blocking_conform (Assign a more) k = conforms_both (λ n. true) (parts_targets a.is_blocking a.names (parts_of a.left)) (targets more) (parts_conform a.is_blocking a.names (parts_of a.left) k.0) (blocking_conform more k.1)
  blocking_conform (Choose at c p q more) k = conforms_both (λ n. true) (targets p) (targets q ++ targets more) (blocking_conform p k.0) (conforms_both (λ n. true) (targets q) (targets more) (blocking_conform q k.1) (blocking_conform more k.2))
  blocking_conform (Case c arms bodies more) k = conforms_both (λ n. true) (arms_targets arms) (targets more) (arms_conform arms k.0) (blocking_conform more k.1)
  blocking_conform (Refuse x more) k = blocking_conform more k

  arms_conform : (arms : Arms) → AreBlocking arms → Conforms (λ n. true) (arms_targets arms)
  arms_conform (Otherwise body) k = blocking_conform body k
  arms_conform (Arm at labels body others) k = conforms_both (λ n. true) (targets body) (arms_targets others) (blocking_conform body k.0) (arms_conform others k.1)

-- Where bits wait.

pub waits_at : (a : Work) (ts : List Target) (n : ℕ) → AllWait a ts → not (stands false ts n) ≡ false → a.pending n ≡ signal a.building n
waits_at a [] n h e = cc
waits_at a (x ∷ more) n h e = go (nat_eq x.number n) refl x.is_blocking refl (waits_at a more n h.1)
  where
    go : (b : Bool) → nat_eq x.number n ≡ b → (c : Bool) → x.is_blocking ≡ c → (not (stands false more n) ≡ false → a.pending n ≡ signal a.building n) → a.pending n ≡ signal a.building n
    go true same false kind rest = let P : ℕ → Type 0 = λ m. a.pending m ≡ signal a.building m in subst P (exact_unsigned_eq x.number n same) (h.0 kind)
    go true same true kind rest = rest (let f : not ((nat_eq x.number n && bit_same false x.is_blocking) || stands false more n) ≡ false = e in rw (same, kind) at f)
    go false other c kind rest = rest (let f : not ((nat_eq x.number n && bit_same false x.is_blocking) || stands false more n) ≡ false = e in rw other at f)
