-- What holds of a search's trail between its steps.
use Rattle.sat_solver.proofs.Common.{◌≡◌, ℕ, zero, suc, ◌+◌, ◌-◌, ◌<◌, ◌≤◌, Bool, List, [], ◌∷◌, ◌++◌, length, take, get_or, set, ℤ, pos, Option, Some, None, refl, ap, sym, ◌∙◌, inl, inr, ◌⊎◌, subst}
use Rattle.sat_solver.proofs.Common.{arith, All, Contains, leb_tells, take-append-le, length_push, take_all, take-take, length-take-le, get_or-take, get_or_append_left, get_or_push, get_or-append-add}
use Rattle.sat_solver.proofs.Common.{length-append, All-push, slice_get-get_or, slice_get_within, variable, literal, is_some_false, is_positive, IsQuiet, clause_at, known_of, AreFree, IsNew}
use Rattle.sat_solver.proofs.Common.{IsLegalAfter, IsFalse, literal-same, Trail, assigned, literal_at, AreApart, IsReason, IsTrail, IsUnwound, IsGrown, IsUnchanged, IsReady, last_start, IsLearned}
use Rattle.sat_solver.proofs.Walks.{assigned-kept}
use Rattle.sat_solver.proofs.Pushes.{trail-decide, trail-undo, last_or}
use Rattle.sat_solver.proofs.New.{new-by_quiet, quiet-by_two}
use Rattle.sat_solver.proofs.Choosing.{is-open}

pub ready-grown : (clauses : List (List ℤ)) (free : ℕ) (old new : Trail) → IsReady clauses free old → IsGrown clauses old new → IsReady clauses free new
ready-grown clauses free old new ready grown = record {
  trail = grown.trail free ready.trail;
  quiet = λ j h.
      let within : j < length old.starts.items = rw grown.starts at h in
      let below : get_or old.starts.items j 0 < length old.literals.items = ready.trail.starts_.within j within in
      let same : take (get_or old.starts.items j 0) new.literals.items ≡ take (get_or old.starts.items j 0) old.literals.items = (grown.prefix (get_or old.starts.items j 0) (omega (arith, below))).1 in
      rw (grown.starts, same) (ready.quiet j within);
}

pub ready-decide : (clauses : List (List ℤ)) (free : ℕ) (old new : Trail) (l : ℤ) → IsReady clauses free old → All (IsQuiet (known_of old.values.items)) clauses → variable l < length old.values.items → known_of old.values.items (variable l) ≡ None → 0 < variable l → variable l ≤ free → new.values.items ≡ set old.values.items (variable l) (Some (is_positive l)) → new.literals.items ≡ old.literals.items ++ l ∷ [] → new.reasons.items ≡ old.reasons.items ++ 0 ∷ [] → new.starts.items ≡ old.starts.items ++ length old.literals.items ∷ [] → IsReady clauses free new
ready-decide clauses free old new l ready quiet within open_ low high values literals reasons starts = record {
  trail = rw (values, literals, reasons, starts) (trail-decide clauses free old.values.items old.literals.items old.reasons.items old.starts.items l ready.trail within open_ low high);
  quiet = λ j h.
      let inside : j < length old.starts.items + 1 = rw (starts, length_push old.starts.items (length old.literals.items)) at h in
      rw (starts, literals) (elim (last_or (length old.starts.items) j inside) [
        | inl early ↦
            let below : get_or old.starts.items j 0 < length old.literals.items = ready.trail.starts_.within j early in
            rw (get_or_append_left old.starts.items (length old.literals.items ∷ []) 0 j early, take-append-le (get_or old.starts.items j 0) old.literals.items (l ∷ []) (omega (arith, below))) (ready.quiet j early)
        | inr last ↦
            rw (last, get_or_push old.starts.items (length old.literals.items) 0 (length old.starts.items) refl, take-append-le (length old.literals.items) old.literals.items (l ∷ []) (omega arith), take_all (length old.literals.items) old.literals.items (omega arith), ← ready.trail.known) quiet
      ]);
}

pub ready-same : (clauses : List (List ℤ)) (free : ℕ) (old new : Trail) → IsUnchanged old new → new.starts.items ≡ old.starts.items → IsReady clauses free old → IsReady clauses free new
ready-same clauses free old new same starts ready = record {
  trail = rw (same.values, same.literals, same.reasons, starts) ready.trail;
  quiet = rw (same.literals, starts) ready.quiet;
}

-- the clauses by number are there after more were added
pub at-more : (clauses more : List (List ℤ)) (id : ℕ) (clause : List ℤ) → clause_at clauses id ≡ Some clause → clause_at (clauses ++ more) id ≡ Some clause
at-more clauses more zero clause at = absurd (let wrong : None ≡ Some clause = at in cc)
at-more clauses more (suc k) clause at =
    let within : k < length clauses = slice_get_within clauses k clause at in
    let longer : k < length (clauses ++ more) = (let e : length (clauses ++ more) ≡ length clauses + length more = length-append clauses more in omega (arith, within, e)) in
    slice_get-get_or (clauses ++ more) k [] longer ∙ ap Some (get_or_append_left clauses more [] k within) ∙ sym (slice_get-get_or clauses k [] within) ∙ at

reason-more : (clauses more : List (List ℤ)) (free : ℕ) (starts : List ℕ) (literals : List ℤ) (p reason : ℕ) → IsReason clauses free starts literals p reason → IsReason (clauses ++ more) free starts literals p reason
reason-more clauses more free starts literals p zero is = is
reason-more clauses more free starts literals p (suc k) is = (is.0, at-more clauses more (suc k) is.0 is.1, is.2)

pub trail-more : (clauses more : List (List ℤ)) (free : ℕ) (values : List (Option Bool)) (literals : List ℤ) (reasons starts : List ℕ) → IsTrail clauses free values literals reasons starts → IsTrail (clauses ++ more) free values literals reasons starts
trail-more clauses more free values literals reasons starts trail = record {
  known = trail.known;
  apart = trail.apart;
  reasoned = record { paired = trail.reasoned.paired; each = λ p h. reason-more clauses more free starts literals p (get_or reasons p 0) (trail.reasoned.each p h) };
  starts_ = trail.starts_;
  counted = trail.counted;
}

-- the lemmas of a legal log are over free bits
pub legal-free : (clauses : List (List ℤ)) (free : ℕ) (earlier lemmas : List (List ℤ)) → IsLegalAfter clauses free earlier lemmas → All (AreFree free) lemmas
legal-free clauses free earlier [] legal k d h = absurd (omega (arith, h))
legal-free clauses free earlier (lemma ∷ more) legal zero d h = legal.0.1.over_free
legal-free clauses free earlier (lemma ∷ more) legal (suc k) d h = legal-free clauses free (earlier ++ lemma ∷ []) more legal.1 k d (omega (arith, h))

-- a literal that is false on the whole trail is false or open before
false-before : (limit : ℕ) (literals : List ℤ) (n : ℕ) (l : ℤ) → AreApart limit literals → n ≤ length literals → IsFalse (assigned literals) l → IsFalse (assigned (take n literals)) l ⊎ (literal (assigned (take n literals)) l ≡ None)
false-before limit literals n l apart h false_ = by (assigned (take n literals) (variable l)) refl where
  by : (o : Option Bool) → assigned (take n literals) (variable l) ≡ o → IsFalse (assigned (take n literals)) l ⊎ (literal (assigned (take n literals)) l ≡ None)
  by None e = inr (is-open (assigned (take n literals)) l e)
  by (Some b) e =
      let place : n + (length literals - n) ≡ length literals = omega (arith, h) in
      let later : assigned (take (n + (length literals - n)) literals) (variable l) ≡ Some b = assigned-kept limit literals n (length literals - n) (variable l) b apart (omega (arith, h)) e in
      let whole : assigned literals (variable l) ≡ Some b = rw (place, take_all (length literals) literals (omega arith)) at later in
      inl (ap is_some_false (literal-same (assigned (take n literals)) (assigned literals) l (e ∙ sym whole)) ∙ false_)

-- a learned lemma contains no earlier one
pub learned-new : (clauses lemmas : List (List ℤ)) (free : ℕ) (t : Trail) (lemma : List ℤ) (hints : List ℕ) (back : ℕ) → IsReady (clauses ++ lemmas) free t → All (AreFree free) lemmas → All (λ e. 0 < length e) lemmas → IsLearned (clauses ++ lemmas) free t.literals.items t.starts.items lemma hints back → IsNew lemmas lemma
learned-new clauses lemmas free t lemma hints back ready are some learned k d h within =
    let earlier : List ℤ = get_or lemmas k d in
    elim (leb_tells (length t.starts.items) 0) [
      | inl none_ ↦
          let empty : lemma ≡ [] = learned.levels (omega (arith, none_.1)) in
          let first : Contains [] (literal_at (get_or lemmas k d) 0) = rw empty at (within 0 (pos 0) (some k d h)) in
          let no_one : first.0 < 0 = first.1 in
          omega (arith, no_one)
      | inr levels ↦
          let last : length t.starts.items - 1 < length t.starts.items = omega (arith, levels.1) in
          let start : last_start t.starts.items < length t.literals.items = ready.trail.starts_.within (length t.starts.items - 1) last in
          let place : get_or (clauses ++ lemmas) (length clauses + k) d ≡ get_or lemmas k d = get_or-append-add clauses lemmas k d in
          let inside : length clauses + k < length (clauses ++ lemmas) = (let e : length (clauses ++ lemmas) ≡ length clauses + length lemmas = length-append clauses lemmas in omega (arith, h, e)) in
          let P : List ℤ → Type 0 = IsQuiet (assigned (take (last_start t.starts.items) t.literals.items)) in
          let quiet : IsQuiet (assigned (take (last_start t.starts.items) t.literals.items)) (get_or lemmas k d) = subst P place (ready.quiet (length t.starts.items - 1) last (length clauses + k) d inside) in
          new-by_quiet free (assigned (take (last_start t.starts.items) t.literals.items)) lemma (get_or lemmas k d) (are k d h) quiet learned.below
          (λ has. false-before (length t.values.items) t.literals.items (last_start t.starts.items) (literal_at lemma 0) ready.trail.apart (omega (arith, start)) (learned.all_false 0 (pos 0) has)) within
    ]

-- the new lemma is quiet on the levels that are kept
quiet-learned : (store : List (List ℤ)) (free : ℕ) (t : Trail) (lemma : List ℤ) (hints : List ℕ) (back j : ℕ) → IsReady store free t → IsLearned store free t.literals.items t.starts.items lemma hints back → j < back → All (IsQuiet (assigned (take (get_or t.starts.items j 0) t.literals.items))) (store ++ lemma ∷ [])
quiet-learned store free t lemma hints back j ready learned h =
    let kept = learned.kept j h in
    All-push (IsQuiet (assigned (take (get_or t.starts.items j 0) t.literals.items))) store lemma (ready.quiet j (omega (arith, h, learned.back_within))) (quiet-by_two (assigned (take (get_or t.starts.items j 0) t.literals.items)) lemma kept.0 kept.1 kept.2)

-- the search is ready again where levels were taken back
pub ready-undone : (store : List (List ℤ)) (free : ℕ) (old new : Trail) (lemma : List ℤ) (hints : List ℕ) (back : ℕ) → IsReady store free old → IsLearned store free old.literals.items old.starts.items lemma hints back → back < length old.starts.items → IsUnwound new.values.items new.literals.items old.literals.items → length new.literals.items ≡ get_or old.starts.items back 0 → new.reasons.items ≡ take (get_or old.starts.items back 0) old.reasons.items → new.starts.items ≡ take back old.starts.items → length new.values.items ≡ length old.values.items → IsReady (store ++ lemma ∷ []) free new
ready-undone store free old new lemma hints back ready learned h un count reasons starts len =
    let literals : new.literals.items ≡ take (get_or old.starts.items back 0) old.literals.items = un.first ∙ ap (λ (n : ℕ). take n old.literals.items) count in
    let unwound : IsUnwound new.values.items (take (get_or old.starts.items back 0) old.literals.items) old.literals.items = (let P : List ℤ → Type 0 = λ ls. IsUnwound new.values.items ls old.literals.items in subst P literals un) in
    record {
      trail = rw (literals, reasons, starts) (trail-more store (lemma ∷ []) free new.values.items (take (get_or old.starts.items back 0) old.literals.items) (take (get_or old.starts.items back 0) old.reasons.items) (take back old.starts.items) (trail-undo store free old.values.items new.values.items old.literals.items old.reasons.items old.starts.items back ready.trail h unwound len));
      quiet = λ j k.
          let few : length (take back old.starts.items) ≡ back = length-take-le back old.starts.items (omega (arith, h)) in
          let inside : j < back = rw (starts, few) at k in
          let less : get_or old.starts.items j 0 < get_or old.starts.items back 0 = ready.trail.starts_.ascend j back inside h in
          rw (starts, literals, get_or-take back old.starts.items j 0 inside, take-take (get_or old.starts.items j 0) (get_or old.starts.items back 0) old.literals.items (omega (arith, less))) (quiet-learned store free old lemma hints back j ready learned inside);
    }

-- or where none is taken back
pub ready-kept : (store : List (List ℤ)) (free : ℕ) (t : Trail) (lemma : List ℤ) (hints : List ℕ) (back : ℕ) → IsReady store free t → IsLearned store free t.literals.items t.starts.items lemma hints back → length t.starts.items ≤ back → IsReady (store ++ lemma ∷ []) free t
ready-kept store free t lemma hints back ready learned h = record {
  trail = trail-more store (lemma ∷ []) free t.values.items t.literals.items t.reasons.items t.starts.items ready.trail;
  quiet = λ j k. quiet-learned store free t lemma hints back j ready learned (omega (arith, k, h));
}
