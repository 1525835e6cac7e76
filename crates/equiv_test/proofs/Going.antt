-- A job that goes on.
use Rattle.equiv_test.proofs.Common.{◌≡◌, ℕ, ◌+◌, ◌<◌, ◌≤◌, List, ◌++◌, length, Option, Some, None, refl, sym, ap, subst, ◌∙◌, arith, ℤ, Result, Ok, Err, IsErrAnd, IfErr, IsSome, MatchOption, ⊤, Plan}
use Rattle.equiv_test.proofs.Common.{IsSound, free_bits, Hunt, IsRunning, AreAlike, pair_clauses, TellDifferences, Difference, Job, IsJob, GoesOn, IsPairSearch, HasSeen, lemmas_in, lemmas_of}
use Rattle.pair_gates.specs.Refusals.{IsRefused, IsAccepted, max_free}
use Rattle.pair_gates.specs.declared.error.EncodeError.{EncodeError}
use Rattle.pair_gates.specs.declared.error.EncodeError.TheVariants.{Memory}
use Rattle.equiv_test.specs.Turns.{CanGoOn}
use Rattle.equiv_test.proofs.Telling.{some-is}

-- there is a search while nothing was found
pub going-some : (search : Option Hunt) → MatchOption search ⊥ IsRunning → IsSome search
going-some None going = absurd going
going-some (Some hunt) going = refl

-- the search that was taken out of a job runs
pub taken-running : (taken search : Option Hunt) (hunt : Hunt) → taken ≡ Some hunt → taken ≡ search → MatchOption search ⊥ IsRunning → IsRunning hunt
taken-running taken search hunt is same going = some-is IsRunning ⊥ search hunt (sym same ∙ is) going

-- A job over plans that are those of the netlists.
pub new-job : (a b x y : Plan) (limit : ℕ) (hunt : Hunt) (seen : Option Difference) → x ≡ a → y ≡ b → IsSound a → IsSound b → IsAccepted a b → TellDifferences a.raw b.raw (pair_clauses a b) → IsPairSearch a b limit hunt → HasSeen a.raw b.raw seen → IsJob (record { original = x; mutant = y; limit = limit; search = Some hunt }) seen
new-job a b x y limit hunt seen is_x is_y sound_a sound_b accepted tell search has =
    subst (λ (p : Plan). IsJob (record { original = p; mutant = y; limit = limit; search = Some hunt }) seen) (sym is_x)
    (subst (λ (p : Plan). IsJob (record { original = a; mutant = p; limit = limit; search = Some hunt }) seen) (sym is_y)
    (record { original = sound_a; mutant = sound_b; alike = accepted.alike; few_free = accepted.few_free; tell = tell; search = search; seen = has }))

pub still-job : (job : Job) (before seen : Option Difference) (x y : Plan) (search : Option Hunt) → x ≡ job.original → y ≡ job.mutant → IsJob job before → MatchOption search ⊤ (IsPairSearch job.original job.mutant job.limit) → seen ≡ None → IsJob (record { original = x; mutant = y; limit = job.limit; search = search }) seen
still-job job before seen x y search is_x is_y was pair none =
    subst (λ (p : Plan). IsJob (record { original = p; mutant = y; limit = job.limit; search = search }) seen) (sym is_x)
    (subst (λ (p : Plan). IsJob (record { original = job.original; mutant = p; limit = job.limit; search = search }) seen) (sym is_y)
    (record { original = was.original; mutant = was.mutant; alike = was.alike; few_free = was.few_free; tell = was.tell; search = pair; seen = subst (HasSeen job.original.raw job.mutant.raw) (sym none) tt }))

-- a search that runs has fewer lemmas than the job may have
pub still-fewer : (a b : Plan) (limit most : ℕ) (hunt : Hunt) → IsPairSearch a b limit hunt → limit ≡ most → IsRunning hunt → length hunt.log.lemmas < most
still-fewer a b limit most hunt pair same running = omega (arith, running.fewer, pair.limit, same)

-- want of memory is always a cause
pub memory-refused : {T : Type 0} (a b : Plan) (r : Result T EncodeError) → IsErrAnd r (λ e. e ≡ Memory) → IfErr r (IsRefused a b)
memory-refused a b (Ok x) is = absurd is
memory-refused a b (Err e) is = subst (IsRefused a b) (sym is) tt

-- what is asked of simulators, of copies of a pair whose clauses can be made
pub alike-copies : (a b x y : Plan) → x ≡ a → y ≡ b → IsAccepted a b → AreAlike x.raw y.raw
alike-copies a b x y is_x is_y accepted = subst (λ (p : Plan). AreAlike p.raw y.raw) (sym is_x) (subst (λ (p : Plan). AreAlike a.raw p.raw) (sym is_y) accepted.alike)

pub few-copy : (a b x : Plan) → x ≡ a → IsAccepted a b → free_bits x.raw ≤ max_free
few-copy a b x is_x accepted = subst (λ (p : Plan). free_bits p.raw ≤ max_free) (sym is_x) accepted.few_free

-- what was seen is a difference of netlists that are the same
pub still-seen : (a b x y : Plan) (seen : Option Difference) → x ≡ a → y ≡ b → HasSeen x.raw y.raw seen → HasSeen a.raw b.raw seen
still-seen a b x y seen is_x is_y has =
    subst (λ (p : Plan). HasSeen p.raw b.raw seen) is_x (subst (λ (p : Plan). HasSeen x.raw p.raw seen) is_y has)

module _ (old new : Job) (before after : Hunt) (most : ℕ) (was : old.search ≡ Some before) (is : new.search ≡ Some after) (can : CanGoOn before most after) where
  pub goes-on : GoesOn old new most
  goes-on = record {
    going = subst (λ (o : Option Hunt). MatchOption o ⊥ IsRunning) (sym is) can.0;
    more = can.1.more;
    lemmas = ap lemmas_in is ∙ can.1.lemmas ∙ ap (λ (l : List (List ℤ)). l ++ can.1.more) (sym (ap lemmas_in was));
    few = can.1.few;
  }

  pub goes-long : length after.log.lemmas ≡ length before.log.lemmas + most → length (lemmas_of new) ≡ length (lemmas_of old) + most
  goes-long long = ap (λ (o : Option Hunt). length (lemmas_in o)) is ∙ long ∙ ap (λ (n : ℕ). n + most) (sym (ap (λ (o : Option Hunt). length (lemmas_in o)) was))
