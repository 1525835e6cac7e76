-- The judging of a lemma, from the judgements of its parts.
use Rattle.lrat_checker.proofs.Common.{◌≡◌, ℕ, ◌≤◌, List, ◌++◌, length, take, drop, ℤ, sym, subst, arith, Result, Ok, Err, All, IfErr, OnOk, take-append-drop, length-take-le, All-weaker, CheckError}
use Rattle.lrat_checker.proofs.Common.{Known, none, with_false, EndsInConflict, AreFree, IsWithin, IsNew, GoesOnBy, Log, IsContained, IsRefused, IsFit, IsFalse, IsFirstFalsified, IsFollowing}
use Rattle.lrat_checker.specs.declared.refusal.CheckError.TheVariants.{BadLiteral, Contained, BadHint, NotUnit, NoConflict, Memory}
use Rattle.lrat_checker.proofs.Within.{within-from_false, false-from_within}

pub new-from_unfalsified : (free : ℕ) (lemmas : List (List ℤ)) (lemma : List ℤ) (known : Known) → AreFree free lemma → known ≡ with_false none lemma → All (λ earlier. All (IsFalse known) earlier → ⊥) lemmas → IsNew lemmas lemma
new-from_unfalsified free lemmas lemma known are is all = All-weaker (λ earlier. All (IsFalse known) earlier → ⊥) (λ earlier. IsWithin earlier lemma → ⊥)
    (λ earlier unlike within. let P : Known → Type 0 = λ k. All (IsFalse k) earlier in unlike (subst P (sym is) (false-from_within free lemma earlier are within)))
    lemmas all

pub contained-from_first : (free clauses n : ℕ) (store : List (List ℤ)) (lemma : List ℤ) (known : Known) → clauses ≤ length store → AreFree free lemma → known ≡ with_false none lemma → IsFirstFalsified known store clauses n → IsContained (take clauses store) (drop clauses store) lemma n
contained-from_first free clauses n store lemma known split are is first = record {
  place = first.place;
  number = let count : length (take clauses store) ≡ clauses = length-take-le clauses store split in omega (arith, first.number);
  earlier = first.earlier;
  there = first.there;
  contained = let P : Known → Type 0 = λ k. All (IsFalse k) first.earlier in within-from_false lemma first.earlier (subst P is first.falsified);
  least = new-from_unfalsified free (take first.place (drop clauses store)) lemma known are is first.least;
}

pub ok-weaker : {T E : Type 0} (P Q : Type 0) (r : Result T E) → (P → Q) → OnOk r P → OnOk r Q
ok-weaker P Q (Ok x) f h = f h
ok-weaker P Q (Err e) f h = tt

pub err-weaker : {T E : Type 0} (P Q : E → Type 0) (r : Result T E) → ((e : E) → P e → Q e) → IfErr r P → IfErr r Q
err-weaker P Q (Ok x) f h = tt
err-weaker P Q (Err e) f h = f e h

pub goes-on : (free clauses : ℕ) (store : List (List ℤ)) (lemma : List ℤ) (hints : List ℕ) (known : Known) → AreFree free lemma → IsNew (drop clauses store) lemma → known ≡ with_false none lemma → EndsInConflict store known hints → GoesOnBy (take clauses store) free (drop clauses store) lemma hints
goes-on free clauses store lemma hints known are new is ends = record {
  over_free = are;
  new = new;
  follows = let P : Known → Type 0 = λ k. EndsInConflict store k hints in rw take-append-drop (subst P is ends);
}

-- why the hints were refused is why the lemma is
pub refused-following : (log : Log) (lemma : List ℤ) (hints : List ℕ) (e : CheckError) → IsFit log lemma → IsFollowing (log.clauses ++ log.lemmas) (with_false none lemma) hints e → IsRefused log lemma hints e
refused-following log lemma hints (BadLiteral i) fit h = absurd h
refused-following log lemma hints (Contained n) fit h = absurd h
refused-following log lemma hints (BadHint i) fit h = (fit, h)
refused-following log lemma hints (NotUnit i) fit h = (fit, h)
refused-following log lemma hints NoConflict fit h = (fit, h)
refused-following log lemma hints Memory fit h = tt
