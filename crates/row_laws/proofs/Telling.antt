-- Rows of a good book have right words, at the sites of their mutations.
use Rattle.std.proofs.Common.{◌≡◌, ◌⊎◌, inl, inr, ℕ, zero, suc, ◌<◌, ◌^◌, List, [], ◌∷◌, length, Option, None, Some, refl, subst, arith}
use Rattle.std.specs.Prelude.{slice_get, slice_index_or}
use Rattle.std.specs.List.{Contains}
use Rattle.netlist_core.specs.declared.raw.RawNetlist.{RawNetlist}
use Rattle.netlist_core.specs.Checked.{free_bits}
use Rattle.mutation_sites.specs.declared.site.Site.{Site}
use Rattle.mcy_keeper.specs.declared.book.Entry.{Entry}
use Rattle.step_trials.specs.Equal.{EqualOnAllRuns, OneStepEqual, design, mutant}
use Rattle.step_trials.specs.EqualLaws.{OneStepEqualityLasts}
use Rattle.sat_solver.proofs.Bound.{short_log}
use Rattle.pair_gates.specs.Copies.{pair_clauses}
use Rattle.result_book.specs.declared.script.TestWord.TheVariants.{Pass, Fail, Unknown}
use Rattle.result_book.specs.Rows.{history}
use Rattle.result_book.specs.Scripts.{word_code}
use Rattle.campaign_run.specs.Prepared.{Prepared}
use Rattle.tb_bench.specs.declared.parts.Parts.{Parts}
use Rattle.tb_turns.specs.declared.verdict.SimVerdict.{SimVerdict}
use Rattle.tb_turns.specs.declared.verdict.SimVerdict.TheVariants as v
use Rattle.campaign_run.specs.Trial.{Trial}
use Rattle.campaign_run.specs.Trial.TheVariants.{Equality, Simulation}
use Rattle.campaign_run.specs.Simulated.{told_verdict}
use Rattle.campaign_run.specs.GivenUp.{HasAttempt}
use Rattle.campaign_run.specs.Rows.{AreRight, IsGivenUpAt, IsRightWord, IsTrueWordAt}
use Rattle.row_laws.specs.Laws.{FailsDiffer, IsOfEquality, IsOfMutant, PassesAreAlike, SaysOfMutant, SimulationsAreSaid, UnknownsAreLong}

right_at : (c : Prepared) (rows : List Entry) (row : Entry) (k : ℕ) → k < length rows → slice_index_or rows k row ≡ row → AreRight c rows → IsRightWord c row.mutation row.test row.bound row.word
right_at c [] row k less is h = absurd (omega (arith, less))
right_at c (e ∷ more) row zero less is h = subst (λ (x : Entry). IsRightWord c x.mutation x.test x.bound x.word) is h.0
right_at c (e ∷ more) row (suc k) less is h = right_at c more row k (omega (arith, less)) is h.1

right_row : (c : Prepared) (rows : List Entry) (row : Entry) → Contains rows row → AreRight c rows → IsRightWord c row.mutation row.test row.bound row.word
right_row c rows row (k, less, is) h = right_at c rows row k less is h

-- a word of a test on a site, true or given up
abbrev pub IsRightAt : Prepared → ℕ → Option Site → Option Trial → (bound word : ℕ) → Type 0
IsRightAt c test o t bound word = IsTrueWordAt c test o t word ⊎ IsGivenUpAt c o t bound word

-- that of an equality
right_equality : (c : Prepared) (row : Entry) → IsOfEquality c row → IsRightWord c row.mutation row.test row.bound row.word → IsRightAt c row.test (slice_get c.sites row.mutation) (Some Equality) row.bound row.word
right_equality c row at right = subst (λ (t : Option Trial). IsRightAt c row.test (slice_get c.sites row.mutation) t row.bound row.word) at right

pub pass_at : OneStepEqualityLasts → (c : Prepared) (test number bound word : ℕ) (o : Option Site) → slice_get c.sites number ≡ o → IsRightAt c test o (Some Equality) bound word → word ≡ word_code Pass → IsOfMutant c number EqualOnAllRuns
pass_at lasts c test number bound word None placed (inl h) is = absurd h
pass_at lasts c test number bound word None placed (inr h) is = absurd h
pass_at lasts c test number bound word (Some site) placed (inl (inl h)) is = record { site = site; placed = placed; is = lasts (design c.netlist) (mutant c.netlist site) h.1 }
pass_at lasts c test number bound word (Some site) placed (inl (inr h)) is = let other = h.0 in absurd (omega (arith, is, other))
pass_at lasts c test number bound word (Some site) placed (inr h) is = let other = h.0 in absurd (omega (arith, is, other))

pub passes_alike : OneStepEqualityLasts → PassesAreAlike
passes_alike lasts book good row has at is = pass_at lasts good.prepared row.test row.mutation row.bound row.word (slice_get good.prepared.sites row.mutation) refl (right_equality good.prepared row at (right_row good.prepared (history good.prepared.campaign book).journal row has good.words_right)) is

fail_at : (c : Prepared) (test number bound word : ℕ) (o : Option Site) → slice_get c.sites number ≡ o → IsRightAt c test o (Some Equality) bound word → word ≡ word_code Fail → IsOfMutant c number (λ a b. ¬ OneStepEqual a b)
fail_at c test number bound word None placed (inl h) is = absurd h
fail_at c test number bound word None placed (inr h) is = absurd h
fail_at c test number bound word (Some site) placed (inl (inl h)) is = let other = h.0 in absurd (omega (arith, is, other))
fail_at c test number bound word (Some site) placed (inl (inr h)) is = record { site = site; placed = placed; is = h.1 }
fail_at c test number bound word (Some site) placed (inr h) is = let other = h.0 in absurd (omega (arith, is, other))

pub fails_differ : FailsDiffer
fails_differ book good row has at is = fail_at good.prepared row.test row.mutation row.bound row.word (slice_get good.prepared.sites row.mutation) refl (right_equality good.prepared row at (right_row good.prepared (history good.prepared.campaign book).journal row has good.words_right)) is

-- an attempt is shorter than 3 ^ k
attempt_short : (netlist : RawNetlist) (site : Site) (limit : ℕ) → HasAttempt netlist site limit → limit < 3 ^ free_bits netlist
attempt_short netlist site limit has =
    subst (λ (n : ℕ). n < 3 ^ free_bits netlist) has.attempt.count (short_log (pair_clauses has.original has.mutated) (free_bits netlist) has.lemmas has.attempt.legal has.attempt.none_empty)

-- a simulation never says UNKNOWN
said_known : (verdict : SimVerdict) (word : ℕ) → word ≡ told_verdict verdict → ¬ (word ≡ word_code Unknown)
said_known v.Pass word told is = absurd (omega (arith, told, is))
said_known v.Fail word told is = absurd (omega (arith, told, is))
said_known v.Hang word told is = absurd (omega (arith, told, is))

unknown_at : (c : Prepared) (test bound word : ℕ) (o : Option Site) (t : Option Trial) → IsRightAt c test o t bound word → word ≡ word_code Unknown → bound < 3 ^ free_bits c.netlist
unknown_at c test bound word None t (inl h) is = absurd h
unknown_at c test bound word None t (inr h) is = absurd h
unknown_at c test bound word (Some site) None (inl h) is = absurd h
unknown_at c test bound word (Some site) None (inr h) is = absurd h
unknown_at c test bound word (Some site) (Some Equality) (inl (inl h)) is = let other = h.0 in absurd (omega (arith, is, other))
unknown_at c test bound word (Some site) (Some Equality) (inl (inr h)) is = let other = h.0 in absurd (omega (arith, is, other))
unknown_at c test bound word (Some site) (Some Equality) (inr h) is = attempt_short c.netlist site bound h.1
unknown_at c test bound word (Some site) (Some (Simulation bench pass fail)) (inl h) is = absurd (said_known h.said.verdict word h.said.word_is is)
unknown_at c test bound word (Some site) (Some (Simulation bench pass fail)) (inr h) is = absurd h

pub unknowns_long : UnknownsAreLong
unknowns_long book good row has is = unknown_at good.prepared row.test row.bound row.word (slice_get good.prepared.sites row.mutation) (slice_get good.prepared.trials row.test) (right_row good.prepared (history good.prepared.campaign book).journal row has good.words_right) is

said_at : (c : Prepared) (test number bound word : ℕ) (bench : Parts) (pass fail : List ℕ) (o : Option Site) → slice_get c.sites number ≡ o → IsRightAt c test o (Some (Simulation bench pass fail)) bound word → SaysOfMutant c test number word
said_at c test number bound word bench pass fail None placed (inl h) = absurd h
said_at c test number bound word bench pass fail None placed (inr h) = absurd h
said_at c test number bound word bench pass fail (Some site) placed (inl h) = record { site = site; placed = placed; is = h }
said_at c test number bound word bench pass fail (Some site) placed (inr h) = absurd h

pub simulations_said : SimulationsAreSaid
simulations_said book good row bench pass fail has at =
    let right = right_row good.prepared (history good.prepared.campaign book).journal row has good.words_right in
    said_at good.prepared row.test row.mutation row.bound row.word bench pass fail (slice_get good.prepared.sites row.mutation) refl (subst (λ (t : Option Trial). IsRightAt good.prepared row.test (slice_get good.prepared.sites row.mutation) t row.bound row.word) at right)
