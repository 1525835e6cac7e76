-- An assignment in which nothing is refused writes bits that nothing wrote before, each once.
use Rattle.elab_writers.proofs.Common.{◌≡◌, ◌⊎◌, ℕ, Bool, List, [], ◌∷◌, ◌++◌, map, Option, Some, None, refl, sym, subst, inl, inr, append_assoc, Contains, Contains-append_left, Contains-append_right}
use Rattle.elab_writers.proofs.Common.{Contains-append_cases, Contains-push, Span, Expr, LeftSide, parts_of, Fault, Names, Store, Building, Assign, NamesOnce, IsNew, IsRefusal, assignment_faults}
use Rattle.elab_writers.proofs.Common.{first_refusal, Slice, all_places, placed, slice_places, slices, AreFlagged, has_cases, has_first, has_more, has_none}
use Rattle.std.proofs.lemmas.List.{append-nil}
use Rattle.vlog_meaning.specs.Answers.{least}
use Rattle.flat_runs.specs.Meanings.{Place}
use Rattle.flat_assigns.specs.Seen.{places_of}
use Rattle.flat_assigns.specs.Writers.{HasWriter, IsFirstWritten, Target, bit_targets, targets}
use Rattle.flat_assigns.proofs.Firsts.{places_append}

grown : (b : Building) (inputs : List Bool) (before : List Place) (q p : Place) → HasWriter b inputs before p → HasWriter b inputs (before ++ q ∷ []) p
grown b inputs before q p (inl i) = inl i
grown b inputs before q p (inr (inl w)) = inr (inl w)
grown b inputs before q p (inr (inr c)) = inr (inr (Contains-append_left before (q ∷ []) p c))

-- bits of which none has a writer
passed : (b : Building) (inputs : List Bool) (before : List Place) (ts : List Target) → IsFirstWritten b inputs before ts None → (p : Place) → Contains (places_of ts) p → ¬ HasWriter b inputs before p
passed b inputs before [] h p c = absurd (has_none p c)
passed b inputs before (t ∷ ts) (inl w) p c = absurd (let e : None ≡ Some t = w.1 in cc)
passed b inputs before (t ∷ ts) (inr w) p c = λ has. elim (has_cases (places_of ts) t.place p c) [
  | inl e ↦ w.0 (subst (HasWriter b inputs before) (sym e) has)
  | inr more ↦ passed b inputs (before ++ t.place ∷ []) ts w.1 p more (grown b inputs before t.place p has)
]

-- those of two lists
both : (b : Building) (inputs : List Bool) (before : List Place) (ts us : List Target) → IsFirstWritten b inputs before (ts ++ us) None → IsFirstWritten b inputs before ts None × IsFirstWritten b inputs (before ++ places_of ts) us None
both b inputs before [] us h = (refl, subst (λ (l : List Place). IsFirstWritten b inputs l us None) (sym (append-nil before)) h)
both b inputs before (t ∷ ts) us (inl w) = absurd (let e : None ≡ Some t = w.1 in cc)
both b inputs before (t ∷ ts) us (inr w) =
    let rest = both b inputs (before ++ t.place ∷ []) ts us w.1 in
    (inr (w.0, rest.0), subst (λ (l : List Place). IsFirstWritten b inputs l us None) (append_assoc before (t.place ∷ []) (places_of ts)) rest.1)

-- One part.

bit_met : (span : Span) (k : ℕ) (xs : List (Option ℕ)) (p : Place) → Contains (map (placed k) xs) (Some p) → Contains (places_of (bit_targets span k xs)) p
bit_met span k [] p c = absurd (has_none (Some p) c)
bit_met span k (None ∷ more) p c = elim (has_cases (map (placed k) more) None (Some p) c) [
  | inl e ↦ absurd cc
  | inr m ↦ bit_met span k more p m
]
bit_met span k (Some i ∷ more) p c =
    let here : Place = record { signal = k; bit = i } in
    elim (has_cases (map (placed k) more) (Some here) (Some p) c) [
      | inl e ↦ (let same : here ≡ p = cc in subst (Contains (here ∷ places_of (bit_targets span k more))) same (has_first (places_of (bit_targets span k more)) here))
      | inr m ↦ has_more (places_of (bit_targets span k more)) here p (bit_met span k more p m)
    ]

bits_once : (b : Building) (inputs : List Bool) (before : List Place) (span : Span) (k : ℕ) (xs : List (Option ℕ)) → IsFirstWritten b inputs before (bit_targets span k xs) None → NamesOnce (map (placed k) xs)
bits_once b inputs before span k [] h = tt
bits_once b inputs before span k (None ∷ more) h = bits_once b inputs before span k more h
bits_once b inputs before span k (Some i ∷ more) (inl w) = absurd (let e = w.1 in cc)
bits_once b inputs before span k (Some i ∷ more) (inr w) =
    let here : Place = record { signal = k; bit = i } in
    (λ c. passed b inputs (before ++ here ∷ []) (bit_targets span k more) w.1 here (bit_met span k more here c) (inr (inr (Contains-push before here))), bits_once b inputs (before ++ here ∷ []) span k more w.1)

-- All parts.

met : (ss : List Slice) (p : Place) → Contains (all_places ss) (Some p) → Contains (places_of (targets ss)) p
met [] p c = absurd (has_none (Some p) c)
met (s ∷ more) p c = subst (λ (l : List Place). Contains l p) (sym (places_append (bit_targets s.span s.signal s.bits) (targets more))) (elim (Contains-append_cases (all_places more) (slice_places s) (Some p) c) [
  | inl m ↦ Contains-append_right (places_of (bit_targets s.span s.signal s.bits)) (places_of (targets more)) p (met more p m)
  | inr m ↦ Contains-append_left (places_of (bit_targets s.span s.signal s.bits)) (places_of (targets more)) p (bit_met s.span s.signal s.bits p m)
])

names_both : (xs ys : List (Option Place)) → NamesOnce xs → NamesOnce ys → ((p : Place) → Contains xs (Some p) → ¬ Contains ys (Some p)) → NamesOnce (xs ++ ys)
names_both [] ys h g apart = g
names_both (None ∷ xs) ys h g apart = names_both xs ys h g (λ p c. apart p (has_more xs None (Some p) c))
names_both (Some q ∷ xs) ys h g apart = (λ c. go (Contains-append_cases xs ys (Some q) c), names_both xs ys h.1 g (λ p c. apart p (has_more xs (Some q) (Some p) c))) where
  go : Contains xs (Some q) ⊎ Contains ys (Some q) → ⊥
  go (inl c) = h.0 c
  go (inr c) = apart q (has_first xs (Some q)) c

all_once : (b : Building) (inputs : List Bool) (before : List Place) (ss : List Slice) → IsFirstWritten b inputs before (targets ss) None → NamesOnce (all_places ss)
all_once b inputs before [] h = tt
all_once b inputs before (s ∷ more) h =
    let own = bit_targets s.span s.signal s.bits in
    let parts = both b inputs before own (targets more) h in
    names_both (all_places more) (slice_places s) (all_once b inputs (before ++ places_of own) more parts.1) (bits_once b inputs before s.span s.signal s.bits parts.0)
    (λ p c d. passed b inputs (before ++ places_of own) (targets more) parts.1 p (met more p c) (inr (inr (Contains-append_right before (places_of own) p (bit_met s.span s.signal s.bits p d)))))

no_second : (x : Option Fault) (second : Option Target) → None ≡ first_refusal x second → second ≡ None
no_second x None e = refl
no_second None (Some t) e = absurd cc
no_second (Some f) (Some t) e = absurd cc

-- none of the bits has a writer where nothing is refused
pub none_written : (b : Building) (flags : List Bool) (lefts rights : Names) (left : LeftSide) (right : Expr) → IsRefusal b flags lefts left rights right None → IsFirstWritten b flags [] (targets (slices lefts (parts_of left))) None
none_written b flags lefts rights left right h =
    subst (IsFirstWritten b flags [] (targets (slices lefts (parts_of left)))) (no_second (least (assignment_faults lefts left rights right)) h.0 h.2) h.1

pub slices_new : (b : Building) (flags : List Bool) (ins : List ℕ) (ss : List Slice) (value : Store → ℕ) → AreFlagged flags ins → IsFirstWritten b flags [] (targets ss) None → IsNew b ins (Assign (all_places ss) value)
slices_new b flags ins ss value flagged none = record {
  unwritten = λ k i less w written. passed b flags [] (targets ss) none (record { signal = k; bit = i }) (met ss (record { signal = k; bit = i }) w) (inr (inl written));
  no_input = λ k i less w c. passed b flags [] (targets ss) none (record { signal = k; bit = i }) (met ss (record { signal = k; bit = i }) w) (inl (flagged k c));
  once = all_once b flags [] ss none;
}
