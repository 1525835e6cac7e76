-- Searches that go on.
use Rattle.sat_solver.proofs.Common.{◌≡◌, ℕ, zero, suc, ◌+◌, ◌<◌, List, [], ◌∷◌, ◌++◌, length, ℤ, Option, Some, None, refl, ap, ◌∙◌, get_or, replicate, cond, Bool, is_some, arith, All, IfSome}
use Rattle.sat_solver.proofs.Common.{MatchOption, ⊤, count_by, length_push, All-push, sum_by-cons, EndsEmpty, Trail, IsOpened, IsReady, Hunt, IsRunning, Finds, IsEnd}
use Rattle.sat_solver.specs.declared.found.Found.{Found}
use Rattle.sat_solver.specs.declared.found.Found.TheVariants.{Model, Refuted, Spent}

abbrev opened : Option Bool
opened = None

-- where the last lemma isn't empty none is
pub none-empty-push : (lemmas : List (List ℤ)) (lemma : List ℤ) → All (λ e. 0 < length e) lemmas → (EndsEmpty (lemmas ++ lemma ∷ []) → ⊥) → All (λ e. 0 < length e) (lemmas ++ lemma ∷ [])
none-empty-push lemmas [] all no_end = absurd (no_end (lemmas, refl))
none-empty-push lemmas (x ∷ xs) all no_end = All-push (λ e. 0 < length e) lemmas (x ∷ xs) all (omega arith)

pub end-found : (h : Hunt) (lemmas : List (List ℤ)) (lemma : List ℤ) (o : Option Found) → h.log.lemmas ≡ lemmas ++ lemma ∷ [] → All (λ e. 0 < length e) lemmas → IsEnd h.log.lemmas h.limit o → IfSome o (Finds h)
end-found h lemmas lemma None e all end = tt
end-found h lemmas lemma (Some (Model a)) e all end = absurd end
end-found h lemmas lemma (Some Refuted) e all end = end
end-found h lemmas lemma (Some Spent) e all end = (end.1, rw e (none-empty-push lemmas lemma all (λ ends. end.0 (rw e ends))))

pub end-none : (h : Hunt) (lemmas : List (List ℤ)) (lemma : List ℤ) (o : Option Found) → h.log.lemmas ≡ lemmas ++ lemma ∷ [] → All (λ e. 0 < length e) lemmas → length lemmas < h.limit → IsEnd h.log.lemmas h.limit o → MatchOption o ((length h.log.lemmas ≡ length lemmas + 1) × IsRunning h) (λ f. ⊤)
end-none h lemmas lemma None e all few end =
    let count : length h.log.lemmas ≡ length lemmas + 1 = ap (length {A = List ℤ}) e ∙ length_push lemmas lemma in
    (count, record { fewer = omega (arith, count, few, end.1); none_empty = rw e (none-empty-push lemmas lemma all (λ ends. end.0 (rw e ends))) })
end-none h lemmas lemma (Some f) e all few end = tt

opened-known : (n v : ℕ) → get_or (replicate n opened) v None ≡ None
opened-known zero v = refl
opened-known (suc n) zero = refl
opened-known (suc n) (suc v) = opened-known n v

opened-count : (n : ℕ) → count_by is_some (replicate n opened) ≡ 0
opened-count zero = refl
opened-count (suc n) =
    let more : count_by is_some (opened ∷ replicate n opened) ≡ cond (is_some opened) 1 0 + count_by is_some (replicate n opened) = sum_by-cons (λ (o : Option Bool). cond (is_some o) 1 0) opened (replicate n opened) in
    omega (arith, more, opened-count n)

-- a trail on which all is open is ready
pub ready-opened : (clauses : List (List ℤ)) (free limit : ℕ) (t : Trail) → IsOpened limit t → IsReady clauses free t
ready-opened clauses free limit t o = record {
  trail = rw (o.values, o.literals, o.reasons, o.starts) (record {
    known = λ i v. opened-known limit v i;
    apart = record { open_ = λ p h. absurd (omega (arith, h)); within = λ p h. absurd (omega (arith, h)) };
    reasoned = record { paired = refl; each = λ p h. absurd (omega (arith, h)) };
    starts_ = record { within = λ j h. absurd (omega (arith, h)); ascend = λ i j h k. absurd (omega (arith, k)) };
    counted = opened-count limit;
  });
  quiet = rw (o.starts) (λ j h. absurd (omega (arith, h)));
}
