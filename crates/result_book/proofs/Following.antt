-- What may come next after rows, and how the script stands then.
use Rattle.result_book.proofs.Common.{◌≡◌, inl, inr, arith, ℕ, ◌<◌, ◌≤◌, Bool, false, List, length, slice_get, Option, None, Some, refl, ◌∙◌, ap, IsSomeAnd, Any, slice_get_within, Entry, Campaign}
use Rattle.result_book.proofs.Common.{IsFit, IsProofWord, IsSimWord, IsWordOf, IsWordOfKind, is_sim_test, bound_in, IsGivenUp, IsPair, IsRow, MayFollow}
use Rattle.std.specs.Prelude.{if◌then◌else◌}
use Rattle.result_book.proofs.Pairs.{not_both}

-- A row of a pair that has one already: its last word is UNKNOWN, found under a smaller bound.
pub row_again : (c : Campaign) (earlier : List Entry) (e : Entry) → IsRow c earlier e → Any (IsPair e.mutation e.test) earlier → IsGivenUp earlier e.mutation e.test e.bound
row_again c earlier e row some = elim row.follows [
  | inl new ↦ absurd (not_both e.mutation e.test earlier new.0.new some)
  | inr again ↦ again.given_up
]

-- the bound of a proof test is from 1 to 100,000
pub bound_within : (c : Campaign) (earlier : List Entry) (m t bound : ℕ) → IsFit c → is_sim_test c t ≡ false → MayFollow c earlier m t bound → (1 ≤ bound) × (bound ≤ 100000)
bound_within c earlier m t bound fit proof follows = elim follows [
  | inl new ↦ (let is : bound ≡ c.conflicts = new.1 ∙ ap (λ (b : Bool). if b then 0 else c.conflicts) proof in (omega (arith, is, fit.some_conflicts), omega (arith, is, fit.few_conflicts)))
  | inr again ↦ (above (bound_in m t earlier) again.given_up.below, again.most)
]
  where
    above : (o : Option ℕ) → IsSomeAnd o (λ before. before < bound) → 1 ≤ bound
    above None h = absurd h
    above (Some before) h = omega (arith, h)

-- The word of a test: there is such a test, and the word is a code of one.

proof_word : (word : ℕ) → IsProofWord word → word < 4
proof_word word is = elim is [
  | inl pass ↦ omega (arith, pass)
  | inr rest ↦ elim rest [ inl fail ↦ omega (arith, fail) | inr unknown ↦ omega (arith, unknown) ]
]

sim_word : (word : ℕ) → IsSimWord word → word < 4
sim_word word is = elim is [
  | inl pass ↦ omega (arith, pass)
  | inr rest ↦ elim rest [ inl fail ↦ omega (arith, fail) | inr hang ↦ omega (arith, hang) ]
]

word_few : (kind word : ℕ) → IsWordOfKind kind word → word < 4
word_few kind word is = elim is [ inl proof ↦ proof_word word proof.1 | inr sim ↦ sim_word word sim.1 ]

pub word_inside : (c : Campaign) (t word : ℕ) → IsWordOf c t word → (t < length c.kinds) × (word < 4)
word_inside c t word is = by (slice_get c.kinds t) refl is
  where
    by : (o : Option ℕ) → slice_get c.kinds t ≡ o → IsSomeAnd o (λ kind. IsWordOfKind kind word) → (t < length c.kinds) × (word < 4)
    by None at h = absurd h
    by (Some kind) at h = (slice_get_within c.kinds t kind at, word_few kind word h)
