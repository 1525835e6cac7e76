-- Why a variable is settled.
use Rattle.std.proofs.Common.{◌≡◌, ℕ, zero, suc, ◌+◌, ◌<◌, ◌≤◌, arith, replicate, Bool, true, false, List, length, get_or, set, ℤ, Option, Some, None, refl, sym, ◌∙◌, inl, inr, subst, ap}
use Rattle.std.specs.Prelude.{All}
use Rattle.std.proofs.lemmas.Bool.Decides.{eqb_tells}
use Rattle.clause_store.specs.Clauses.{variable}
use Rattle.clause_store.specs.Propagation.{Known, none, with_value, literal, is_some_false, IsUnit, IsFalsified, IsQuiet}
use Rattle.clause_encoder.specs.Miters.{Settles}
use Rattle.lrat_checker.specs.Tables.{known_of}
use Rattle.lrat_checker.proofs.Within.{literal-same}
use Rattle.sat_solver.proofs.Needs.{left-same, left_none, left_one, false-variable}
use Rattle.sat_solver.proofs.Pushes.{table-with, last_or}
use Rattle.search_cases.specs.Settling.{Extends, IsSettled, HasStep}
use Rattle.sat_solver.proofs.Choosing.{is-open}

-- a false literal stays false
false-stays : (start known : Known) (l : ℤ) → Extends start known → is_some_false (literal start l) ≡ true → is_some_false (literal known l) ≡ true
false-stays start known l more is =
    let was = false-variable start l is in
    ap is_some_false (literal-same known start l (more (variable l) _ was ∙ sym was)) ∙ is

false-step : (start known : Known) (clause : List ℤ) → Extends start known → IsFalsified start clause → IsFalsified known clause
false-step start known clause more none_ = left-same known start clause (λ k d h.
    let was : is_some_false (literal start (get_or clause k d)) ≡ true = left_none start clause k d none_ h in
    false-stays start known (get_or clause k d) more was ∙ sym was) ∙ none_

unit-step : (start known : Known) (clause : List ℤ) (l : ℤ) → Extends start known → known (variable l) ≡ None → IsUnit start clause l → IsUnit known clause l
unit-step start known clause l more open_ unit =
    let one : (k : ℕ) (d : ℤ) → k < length clause → (b : Bool) → is_some_false (literal start (get_or clause k d)) ≡ b → is_some_false (literal known (get_or clause k d)) ≡ b = λ k d within b. elim b as (λ (b : Bool). is_some_false (literal start (get_or clause k d)) ≡ b → is_some_false (literal known (get_or clause k d)) ≡ b) [
      | true ↦ λ e. false-stays start known (get_or clause k d) more e
      | false ↦ λ e. rw (left_one start clause l k d unit.alone within e, is-open known l open_) refl
    ] in
    let same : All (λ m. is_some_false (literal known m) ≡ is_some_false (literal start m)) clause = λ k d within. one k d within (is_some_false (literal start (get_or clause k d))) refl in
    record { alone = left-same known start clause same ∙ unit.alone; open_ = is-open known l open_ }

-- a clause that is false, or unit by the variable, settles it
pub settled-by_step : (clauses : List (List ℤ)) (start : Known) (v : ℕ) → HasStep clauses start v → IsSettled clauses start v
settled-by_step clauses start v has known more lesser open_ quiet =
    let P : List ℤ → Type 0 = IsQuiet known in
    let here : IsQuiet known has.clause = subst P has.there.2 (quiet has.there.0 has.clause has.there.1) in
    elim has.step [
      | inl none_ ↦ here.not_false (false-step start known has.clause more none_)
      | inr one ↦ here.not_unit one.0 (unit-step start known has.clause one.0 more (ap known one.1 ∙ open_) one.2)
    ]

extends-with : (start known : Known) (w : ℕ) (b : Bool) → Extends start known → known w ≡ Some b → Extends (with_value start w b) known
extends-with start known w b more is = λ v c has. elim (eqb_tells v w) [
  | inl same ↦ (let e : Some b ≡ Some c = rw same.0 at has in ap known same.1 ∙ is ∙ e)
  | inr other ↦ more v c (rw other.0 at has)
]

-- where a lesser variable settles it by either value, it is settled
pub settled-by_cases : (clauses : List (List ℤ)) (table : List (Option Bool)) (v w : ℕ) → 0 < w → w < v → w < length table → IsSettled clauses (known_of (set table w (Some false))) v → IsSettled clauses (known_of (set table w (Some true))) v → IsSettled clauses (known_of table) v
settled-by_cases clauses table v w low less within no_case yes_case known more lesser open_ quiet = by (known w) refl where
  P : Known → Type 0
  P start = Extends start known

  by : (o : Option Bool) → known w ≡ o → ⊥
  by None e = lesser w low less e
  by (Some false) e = no_case known (subst P (sym (table-with table w false within)) (extends-with (known_of table) known w false more e)) lesser open_ quiet
  by (Some true) e = yes_case known (subst P (sym (table-with table w true within)) (extends-with (known_of table) known w true more e)) lesser open_ quiet

-- a table on which all is open
pub known-opened : (n : ℕ) → known_of (replicate n None) ≡ none
known-opened n = λ i v. at n v i where
  at : (n v : ℕ) → known_of (replicate n None) v ≡ None
  at zero v = refl
  at (suc n) zero = refl
  at (suc n) (suc v) = at n v

-- one more variable is settled
pub settled-more : (clauses : List (List ℤ)) (free v : ℕ) → ((u : ℕ) → free < u → u ≤ v → IsSettled clauses none u) → IsSettled clauses none (v + 1) → (u : ℕ) → free < u → u ≤ v + 1 → IsSettled clauses none u
settled-more clauses free v each here u low high = elim (last_or (v + 1) u (omega (arith, high))) [
  | inl less ↦ each u low (omega (arith, less))
  | inr last ↦ (let P : ℕ → Type 0 = IsSettled clauses none in subst P (sym last) here)
]

-- where each variable past the free bits is settled, the free bits settle them all
pub settles-from : (clauses : List (List ℤ)) (variables free n : ℕ) → variables ≤ n → ((v : ℕ) → free < v → v ≤ n → IsSettled clauses none v) → Settles clauses variables free
settles-from clauses variables free n h each known v low high lesser open_ quiet = each v low (omega (arith, high, h)) known (λ u b is. absurd (let wrong : None ≡ Some b = is in cc)) lesser open_ quiet
