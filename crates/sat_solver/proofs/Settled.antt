-- Clauses under a part of the values, and under more of them.
use Rattle.sat_solver.proofs.Common.{◌≡◌, ℕ, suc, ◌+◌, ◌-◌, ◌<◌, ◌≤◌, Bool, true, false, not, cond, List, [], ◌∷◌, length, take, ℤ, pos, negsuc, neg_ℤ, Option, Some, None, refl, ap, sym, ◌∙◌, inl}
use Rattle.sat_solver.proofs.Common.{inr, arith, All, filter, eqb_tells, take_all, length-filter, count_by-le-length, variable, Known, with_true, literal, is_some_false, left, IsUnit, IsQuiet}
use Rattle.sat_solver.proofs.Common.{assigned, AreApart, IsSettled, times, valued}
use Rattle.sat_solver.proofs.Valued.{left-count, valued-false}
use Rattle.sat_solver.proofs.Walks.{with_true-other, with_true-same, assigned-kept}

-- each value of the one is a value of the other
abbrev pub IsBelow : Known → Known → Type 0
IsBelow few many = (v : ℕ) (b : Bool) → few v ≡ Some b → many v ≡ Some b

pub below-with : (known : Known) (m : ℤ) → known (variable m) ≡ None → IsBelow known (with_true known m)
below-with known m open_ v b e = elim (eqb_tells v (variable m)) [
  | inl same ↦ absurd (let wrong : None ≡ Some b = sym open_ ∙ ap known (sym same.1) ∙ e in cc)
  | inr other ↦ with_true-other known m v other.1 ∙ e
]

-- the values of a part of a trail
pub below-take : (limit : ℕ) (literals : List ℤ) (n : ℕ) → AreApart limit literals → n ≤ length literals → IsBelow (assigned (take n literals)) (assigned literals)
below-take limit literals n apart h v b e =
    let place : n + (length literals - n) ≡ length literals = omega (arith, h) in
    let whole : take (n + (length literals - n)) literals ≡ literals = ap (λ (k : ℕ). take k literals) place ∙ take_all (length literals) literals (omega arith) in
    ap (λ (ls : List ℤ). assigned ls v) (sym whole) ∙ assigned-kept limit literals n (length literals - n) v b apart (omega (arith, h)) e

pub literal-below : (few many : Known) → IsBelow few many → (l : ℤ) (b : Bool) → literal few l ≡ Some b → literal many l ≡ Some b
literal-below few many below (pos n) b e = below n b e
literal-below few many below (negsuc n) b e = at (few (suc n)) refl where
  at : (o : Option Bool) → few (suc n) ≡ o → Rattle.std.proofs.Common.option_map not (many (suc n)) ≡ Some b
  at None w = absurd (let wrong : None ≡ Some b = sym (ap (Rattle.std.proofs.Common.option_map not) w) ∙ e in cc)
  at (Some c) w = ap (Rattle.std.proofs.Common.option_map not) (below (suc n) c w) ∙ sym (ap (Rattle.std.proofs.Common.option_map not) w) ∙ e

-- what is left under more values is left of what was left
left-below : (few many : Known) → IsBelow few many → (clause : List ℤ) → left many clause ≡ left many (left few clause)
left-below few many below [] = refl
left-below few many below (l ∷ more) = by (left-below few many below more) (literal few l) refl where
  stays : left many more ≡ left many (left few more) → left few (l ∷ more) ≡ l ∷ left few more → left many (l ∷ more) ≡ left many (left few (l ∷ more))
  stays rest e = ap (λ (xs : List ℤ). cond (not (is_some_false (literal many l))) (l ∷ xs) xs) rest ∙ ap (left many) (sym e)

  by : left many more ≡ left many (left few more) → (o : Option Bool) → literal few l ≡ o → left many (l ∷ more) ≡ left many (left few (l ∷ more))
  by rest None e = stays rest (rw e refl)
  by rest (Some true) e = stays rest (rw e refl)
  by rest (Some false) e =
      let gone : left few (l ∷ more) ≡ left few more = rw e refl in
      let also : left many (l ∷ more) ≡ left many more = rw (literal-below few many below l false e) refl in
      also ∙ rest ∙ ap (left many) (sym gone)

pub settled-more : (before now later : Known) (clause : List ℤ) → IsBelow now later → IsSettled before now clause → IsSettled before later clause
settled-more before now later clause below settled = record { not_false = settled.not_false; made_true = λ l unit. literal-below now later below l true (settled.made_true l unit) }

-- a clause that is quiet now was settled before
pub settled-quiet : (before now : Known) (clause : List ℤ) → IsBelow before now → IsQuiet now clause → IsSettled before now clause
settled-quiet before now clause below quiet = record {
  not_false = λ e. quiet.not_false (left-below before now below clause ∙ ap (left now) e);
  made_true = λ l unit.
      let same : left now clause ≡ left now (l ∷ []) = left-below before now below clause ∙ ap (left now) unit.alone in
      at l (literal now l) refl same;
} where
  at : (l : ℤ) (o : Option Bool) → literal now l ≡ o → left now clause ≡ left now (l ∷ []) → literal now l ≡ Some true
  at l None e same = let alone : left now (l ∷ []) ≡ l ∷ [] = rw e refl in absurd (quiet.not_unit l (record { alone = same ∙ alone; open_ = e }))
  at l (Some true) e same = e
  at l (Some false) e same = let gone : left now (l ∷ []) ≡ [] = rw e refl in absurd (quiet.not_false (same ∙ gone))

-- where all values are those of before, a settled clause is quiet
pub quiet-settled : (now : Known) (clause : List ℤ) → IsSettled now now clause → IsQuiet now clause
quiet-settled now clause settled = record {
  not_false = settled.not_false;
  not_unit = λ l unit. let wrong : None ≡ Some true = sym unit.open_ ∙ settled.made_true l unit in cc;
}

-- The clauses that a true literal leaves alone.

filter-whole : (p : ℤ → Bool) (xs : List ℤ) → length (filter p xs) ≡ length xs → filter p xs ≡ xs
filter-whole p [] e = refl
filter-whole p (x ∷ xs) e = by (filter-whole p xs) (p x) refl where
  by : (length (filter p xs) ≡ length xs → filter p xs ≡ xs) → (b : Bool) → p x ≡ b → filter p (x ∷ xs) ≡ x ∷ xs
  by rest true w =
      let kept : filter p (x ∷ xs) ≡ x ∷ filter p xs = rw w refl in
      let count : length (filter p (x ∷ xs)) ≡ suc (length (filter p xs)) = ap (length {A = ℤ}) kept in
      kept ∙ ap (λ (ys : List ℤ). x ∷ ys) (rest (omega (arith, count, e)))
  by rest false w =
      let gone : filter p (x ∷ xs) ≡ filter p xs = rw w refl in
      let count : length (filter p (x ∷ xs)) ≡ length (filter p xs) = ap (length {A = ℤ}) gone in
      absurd (omega (arith, count, e, length-filter p xs, count_by-le-length p xs))

left-same : (few many : Known) (clause : List ℤ) → IsBelow few many → valued many false clause ≡ valued few false clause → left many clause ≡ left few clause
left-same few many clause below same =
    let part : left many clause ≡ left many (left few clause) = left-below few many below clause in
    let long : length (left many (left few clause)) ≡ length (left few clause) = (let e : length (left many clause) ≡ length (left many (left few clause)) = ap (length {A = ℤ}) part in omega (arith, e, same, left-count few clause, left-count many clause)) in
    part ∙ filter-whole (λ l. not (is_some_false (literal many l))) (left few clause) long

open-before : (few many : Known) → IsBelow few many → (l : ℤ) → literal many l ≡ None → literal few l ≡ None
open-before few many below l e = by (literal few l) refl where
  by : (o : Option Bool) → literal few l ≡ o → literal few l ≡ None
  by None w = w
  by (Some b) w = absurd (let wrong : None ≡ Some b = sym e ∙ literal-below few many below l b w in cc)

-- a clause without the negation of a literal stays settled where the literal is true too
pub settled-next : (before now : Known) (m : ℤ) (clause : List ℤ) → before (variable m) ≡ None → All (λ l. 0 < variable l) clause → times (neg_ℤ m) clause ≡ 0 → IsSettled before now clause → IsSettled (with_true before m) now clause
settled-next before now m clause open_ positive none_ settled =
    let below : IsBelow before (with_true before m) = below-with before m open_ in
    let same : left (with_true before m) clause ≡ left before clause = left-same before (with_true before m) clause below (omega (arith, valued-false before m open_ clause positive, none_)) in
    record {
      not_false = λ e. settled.not_false (sym same ∙ e);
      made_true = λ l unit. settled.made_true l (record { alone = sym same ∙ unit.alone; open_ = open-before before (with_true before m) below l unit.open_ });
    }

-- a unit clause whose literal was made true is quiet
pub quiet-made : (known : Known) (l : ℤ) (clause : List ℤ) → IsUnit known clause l → known (variable l) ≡ None → IsQuiet (with_true known l) clause
quiet-made known l clause unit open_ =
    let below : IsBelow known (with_true known l) = below-with known l open_ in
    let true_ : literal (with_true known l) l ≡ Some true = literal-made known l in
    let one : left (with_true known l) (l ∷ []) ≡ l ∷ [] = rw true_ refl in
    let alone : left (with_true known l) clause ≡ l ∷ [] = left-below known (with_true known l) below clause ∙ ap (left (with_true known l)) unit.alone ∙ one in
    record {
      not_false = λ e. let wrong : l ∷ [] ≡ [] = sym alone ∙ e in cc;
      not_unit = λ k made.
          let same : l ∷ [] ≡ k ∷ [] = sym alone ∙ made.alone in
          let it : l ≡ k = cc in
          let wrong : Some true ≡ None = sym true_ ∙ ap (literal (with_true known l)) it ∙ made.open_ in
          cc;
    } where
      literal-made : (known : Known) (l : ℤ) → literal (with_true known l) l ≡ Some true
      literal-made known (pos n) = with_true-same known (pos n)
      literal-made known (negsuc n) = ap (Rattle.std.proofs.Common.option_map not) (with_true-same known (negsuc n))
