-- Parts and left sides one after the other.
use Rattle.tb_writers.proofs.Common.{◌≡◌, ℕ, zero, suc, ◌<◌, List, [], ◌∷◌, ◌++◌, map, take, length, get_or, refl, sym, ap, ◌∙◌, subst, append_assoc, arith, Option, append-nil, LeftSide, Names, Part}
use Rattle.tb_writers.proofs.Common.{parts_of, concatenated, BenchFault, IsFirst, Writer, Written, with_part, part_faults, with_parts, parts_faults, with_lefts, lefts_faults}
use Rattle.elab_proc.proofs.Lists.{parts_take}

module _ (names : Names) (kind : Writer) where
  parts_after : (w : Written) (xs ys : List Part) → with_parts names kind w (xs ++ ys) ≡ with_parts names kind (with_parts names kind w xs) ys
  parts_after w [] ys = refl
  parts_after w (x ∷ xs) ys = parts_after (with_part names kind w x) xs ys

  faults_after : (w : Written) (xs ys : List Part) → parts_faults names kind w (xs ++ ys) ≡ parts_faults names kind w xs ++ parts_faults names kind (with_parts names kind w xs) ys
  faults_after w [] ys = refl
  faults_after w (x ∷ xs) ys = ap (λ (l : List BenchFault). part_faults names kind w x ++ l) (faults_after (with_part names kind w x) xs ys) ∙ sym (append_assoc (part_faults names kind w x) (parts_faults names kind (with_part names kind w x) xs) (parts_faults names kind (with_parts names kind (with_part names kind w x) xs) ys))

  -- a left side that is one part
  pub one_part : (w new : Written) (left : LeftSide) (p : Part) → parts_of left ≡ p ∷ [] → new ≡ with_part names kind w p → new ≡ with_parts names kind w (parts_of left)
  one_part w new left p is e = e ∙ sym (ap (with_parts names kind w) is)

  pub one_fault : (w : Written) (left : LeftSide) (p : Part) (f : Option BenchFault) → parts_of left ≡ p ∷ [] → IsFirst (part_faults names kind w p) f → IsFirst (parts_faults names kind w (parts_of left)) f
  one_fault w left p f is e = subst (λ (l : List BenchFault). IsFirst l f) (sym (ap (parts_faults names kind w) is ∙ append-nil (part_faults names kind w p))) e

  -- the parts of several left sides, one more
  pub joined_more : (w now new : Written) (xs : List LeftSide) (k : ℕ) (x : LeftSide) → x ≡ get_or xs k x → k < length xs → now ≡ with_parts names kind w (concatenated (map parts_of (take k xs))) → new ≡ with_parts names kind now (parts_of x) → new ≡ with_parts names kind w (concatenated (map parts_of (take (suc k) xs)))
  joined_more w now new xs k x is h before e =
      e ∙ ap (λ (v : Written). with_parts names kind v (parts_of x)) before ∙ sym (parts_after w (concatenated (map parts_of (take k xs))) (parts_of x)) ∙ sym (ap (with_parts names kind w) (parts_take xs k x is h))

  pub joined_faults : (w now : Written) (xs : List LeftSide) (k : ℕ) (x : LeftSide) (f : Option BenchFault) → x ≡ get_or xs k x → k < length xs → now ≡ with_parts names kind w (concatenated (map parts_of (take k xs))) → IsFirst (parts_faults names kind w (concatenated (map parts_of (take k xs))) ++ parts_faults names kind now (parts_of x)) f → IsFirst (parts_faults names kind w (concatenated (map parts_of (take (suc k) xs)))) f
  joined_faults w now xs k x f is h before e =
      let ps : List Part = concatenated (map parts_of (take k xs)) in
      let same = ap (parts_faults names kind w) (parts_take xs k x is h) ∙ faults_after w ps (parts_of x) ∙ ap (λ (v : Written). parts_faults names kind w ps ++ parts_faults names kind v (parts_of x)) (sym before) in
      subst (λ (l : List BenchFault). IsFirst l f) (sym same) e

  -- left sides one after the other

  pub lefts_more : (w now new : Written) (xs : List LeftSide) (k : ℕ) (x : LeftSide) → x ≡ get_or xs k x → k < length xs → now ≡ with_lefts names kind w (take k xs) → new ≡ with_parts names kind now (parts_of x) → new ≡ with_lefts names kind w (take (suc k) xs)
  lefts_more w now new [] k x is h before e = absurd (omega arith)
  lefts_more w now new (y ∷ ys) zero x is h before e = e ∙ ap (λ (v : Written). with_parts names kind v (parts_of x)) before ∙ ap (λ (z : LeftSide). with_parts names kind w (parts_of z)) is
  lefts_more w now new (y ∷ ys) (suc k) x is h before e = lefts_more (with_parts names kind w (parts_of y)) now new ys k x is (omega arith) before e

  left_faults_more : (w now : Written) (xs : List LeftSide) (k : ℕ) (x : LeftSide) → x ≡ get_or xs k x → k < length xs → now ≡ with_lefts names kind w (take k xs) → lefts_faults names kind w (take (suc k) xs) ≡ lefts_faults names kind w (take k xs) ++ parts_faults names kind now (parts_of x)
  left_faults_more w now [] k x is h before = absurd (omega arith)
  left_faults_more w now (y ∷ ys) zero x is h before = append-nil (parts_faults names kind w (parts_of y)) ∙ ap (λ (z : LeftSide). parts_faults names kind w (parts_of z)) (sym is) ∙ ap (λ (v : Written). parts_faults names kind v (parts_of x)) (sym before)
  left_faults_more w now (y ∷ ys) (suc k) x is h before =
      ap (λ (l : List BenchFault). parts_faults names kind w (parts_of y) ++ l) (left_faults_more (with_parts names kind w (parts_of y)) now ys k x is (omega arith) before) ∙ sym (append_assoc (parts_faults names kind w (parts_of y)) (lefts_faults names kind (with_parts names kind w (parts_of y)) (take k ys)) (parts_faults names kind now (parts_of x)))

  pub first_more : (w now : Written) (xs : List LeftSide) (k : ℕ) (x : LeftSide) (f : Option BenchFault) → x ≡ get_or xs k x → k < length xs → now ≡ with_lefts names kind w (take k xs) → IsFirst (lefts_faults names kind w (take k xs) ++ parts_faults names kind now (parts_of x)) f → IsFirst (lefts_faults names kind w (take (suc k) xs)) f
  first_more w now xs k x f is h before e = subst (λ (l : List BenchFault). IsFirst l f) (sym (left_faults_more w now xs k x is h before)) e

  -- one left side
  pub one_first : (w : Written) (x : LeftSide) (f : Option BenchFault) → IsFirst (parts_faults names kind w (parts_of x)) f → IsFirst (lefts_faults names kind w (x ∷ [])) f
  one_first w x f e = subst (λ (l : List BenchFault). IsFirst l f) (sym (append-nil (parts_faults names kind w (parts_of x)))) e
