-- How a test ended is right.
use Rattle.project_tester.proofs.Common.{◌≡◌, arith, ℕ, List, ◌<◌, Option, None, Some, sym, ap, subst, RawNetlist, free_bits, IsAttempt, Log, MutantsAreNetlists, Comparing, EqVerdict, NoChange}
use Rattle.project_tester.proofs.Common.{Change, Unknown, Tells, Simulating, Says, Simulated, SimVerdict, Open, word_code, Prepared, IsPlan, told_verdict, Asked, IsWordIn, Ended, Work, attempt_in}
use Rattle.project_tester.proofs.Common.{may_give, word_in, HasEnded, IsAttemptOf, IsComparing, IsSimulating, IsWorkOf, TellsAttempt, IsToldBy}
use Rattle.tb_turns.specs.declared.verdict.SimVerdict.TheVariants as v
use Rattle.project_tester.specs.declared.job.Work.TheVariants as work
use Rattle.project_tester.proofs.Verdicts.{right_sim_word, right_word, told_word}
use Rattle.project_tester.proofs.Words.{plan_word}

some_is : (x y : ℕ) → Some x ≡ Some y → x ≡ y
some_is x y e = cc

-- a word that is another code than UNKNOWN's
not_open : (word code : ℕ) → word ≡ code → code < 3 → ¬ (Some word ≡ Some (word_code Open))
not_open word code is less e = let open_is : word ≡ 3 = some_is word 3 e in omega (arith, open_is, is, less)

module _ (laws : MutantsAreNetlists) (c : Prepared) (asked : Asked) (job : Comparing) (is : IsComparing c asked job) where
  word_right : (verdict : EqVerdict) → Tells job.original job.mutant job.limit verdict → may_give c asked (told_word verdict)
  word_right verdict tells =
      right_word laws c asked.mutation asked.test asked.bound job.original job.mutant verdict is.test is.original is.sound is.mutant_sound is.broken
      (subst (λ (n : ℕ). Tells job.original job.mutant n verdict) is.limit tells)

  attempt_right : (log : Log) → Tells job.original job.mutant job.limit (Unknown log) → IsAttemptOf c asked log
  attempt_right log tells = record {
    original = job.original;
    mutated = job.mutant;
    is = is.original;
    sound = is.sound;
    mutated_sound = is.mutant_sound;
    broken = is.broken;
    clauses = tells.0.0;
    free = subst (λ (n : RawNetlist). log.free ≡ free_bits n) is.original tells.0.1;
    attempt = subst (λ (n : ℕ). IsAttempt log.clauses log.free n log.lemmas) is.limit tells.1;
  }

  -- an equality with its verdict
  pub equality_ended : (verdict : EqVerdict) (ended : Ended) → Tells job.original job.mutant job.limit verdict → IsToldBy verdict ended → HasEnded c asked ended
  equality_ended (NoChange log) ended tells told = record {
    word = subst (may_give c asked) (sym told.0) (word_right (NoChange log) tells);
    attempt = subst (TellsAttempt c asked (Some (word_code ended.word))) (sym told.1) (not_open (word_code ended.word) 0 told.0 (omega arith));
  }
  equality_ended (Change difference) ended tells told = record {
    word = subst (may_give c asked) (sym told.0) (word_right (Change difference) tells);
    attempt = subst (TellsAttempt c asked (Some (word_code ended.word))) (sym told.1) (not_open (word_code ended.word) 1 told.0 (omega arith));
  }
  equality_ended (Unknown log) ended tells told = record {
    word = subst (may_give c asked) (sym told.0) (word_right (Unknown log) tells);
    attempt = subst (TellsAttempt c asked (Some (word_code ended.word))) (sym told.1) (ap (λ (n : ℕ). Some n) told.0, attempt_right log tells);
  }

-- a simulation gives no UNKNOWN
no_unknown : (verdict : SimVerdict) (word : ℕ) → word ≡ told_verdict verdict → ¬ (Some word ≡ Some (word_code Open))
no_unknown v.Pass word is = not_open word 0 is (omega arith)
no_unknown v.Fail word is = not_open word 1 is (omega arith)
no_unknown v.Hang word is = not_open word 2 is (omega arith)

-- a simulation with its verdict
pub simulation_ended : (c : Prepared) (asked : Asked) (job : Simulating) (verdict : SimVerdict) (ended : Ended) → IsSimulating c asked job → Says job.simulated job.limit job.pass job.fail verdict → word_code ended.word ≡ told_verdict verdict → ended.attempt ≡ None → HasEnded c asked ended
simulation_ended c asked job verdict ended is says word none = record {
  word = subst (may_give c asked) (sym word)
      (right_sim_word c asked.mutation asked.test asked.bound is.bench is.pass is.fail is.mutated verdict is.testable is.test is.runnable is.sound is.broken is.fits said);
  attempt = subst (TellsAttempt c asked (Some (word_code ended.word))) (sym none) (no_unknown verdict (word_code ended.word) word);
}
  where
    said : Says (record { bench = is.bench; netlist = is.mutated.raw; seed = c.word_seed }) c.cycles is.pass is.fail verdict
    said = subst (λ (s : Simulated). Says s c.cycles is.pass is.fail verdict) is.simulated
        (subst (λ (n : ℕ). Says job.simulated n is.pass is.fail verdict) is.limit
        (subst (λ (p : List ℕ). Says job.simulated job.limit p is.fail verdict) is.pass_is (subst (λ (f : List ℕ). Says job.simulated job.limit job.pass f verdict) is.fail_is says)))

-- ---- what callers see of it

-- the word that it is told by is one that the test may give, and one of its kind
pub word_given : (c : Prepared) (asked : Asked) (ended : Ended) (word : ℕ) → IsPlan c → HasEnded c asked ended → word ≡ word_code ended.word → may_give c asked word × IsWordIn c.campaign.kinds asked.test word
word_given c asked ended word plan has is =
    let right : may_give c asked word = subst (may_give c asked) (sym is) has.word in (right, plan_word c asked.mutation asked.test asked.bound word plan right)

none_open : ¬ (◌≡◌ {A = Option ℕ} None (Some (word_code Open)))
none_open e = cc

-- a job has an attempt just where it gave UNKNOWN
pub attempt_told : (c : Prepared) (asked : Asked) (w : Work) → IsWorkOf c asked w → TellsAttempt c asked (word_in w) (attempt_in w)
attempt_told c asked (work.Equality job) is = none_open
attempt_told c asked (work.Simulation job) is = none_open
attempt_told c asked work.Refused is = none_open
attempt_told c asked (work.Over ended) is = is.attempt
