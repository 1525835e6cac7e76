-- What a test of a mutant finds is a right word.
use Rattle.project_tester.proofs.Common.{◌≡◌, ℕ, ◌<◌, ◌≤◌, ◌⊎◌, List, length, get_or, slice_get, Option, None, Some, inl, inr, refl, sym, subst, RawNetlist, Plan, IsSound, free_bits, Log, IsAttempt}
use Rattle.project_tester.proofs.Common.{Site, MutantsAreNetlists, EqVerdict, NoChange, Change, Unknown, Tells, Pass, Fail, Open, word_code, Prepared, Parts, FitsDesign, IsRunnable, Says, SimVerdict}
use Rattle.project_tester.proofs.Common.{Trial, Equality, Simulation, told_verdict, IsSimulated, IsTestable, HasAttempt, IsMutantAt, IsBroken, IsBrokenAt, IsGivenUpAt, IsRightWord, IsSaid}
use Rattle.project_tester.proofs.Common.{IsTrueWordAt, HasEachRun, HasOneMore, HasSameNames, HasSameShapes, RunsAlike}
use Rattle.std.proofs.lemmas.Option.{slice_get-get_or}
use Rattle.step_trials.specs.Equal.{OneStepEqual, design, mutant}
use Rattle.pair_gates.specs.Copies.{pair_clauses}
use Rattle.pair_gates.specs.Laws.{MutantsAreAccepted}
use Rattle.pair_gates.specs.Refusals.{max_free, IsAccepted}
use Rattle.pair_gates.specs.Weights.{design_gates, max_design_gates}

-- the word of a verdict of the equivalence test
abbrev pub told_word : EqVerdict → ℕ
told_word (NoChange refutation) = word_code Pass
told_word (Change difference) = word_code Fail
told_word (Unknown attempt) = word_code Open

-- the word of a test on a site, true or given up
abbrev IsRightAt : Prepared → ℕ → Option Site → Option Trial → (bound word : ℕ) → Type 0
IsRightAt c t site trial bound word = IsTrueWordAt c t site trial word ⊎ IsGivenUpAt c site trial bound word

-- an attempt of a pair of netlists is one of the clauses of a mutant
attempt_of : (netlist : RawNetlist) (site : Site) (limit : ℕ) (original mutated : Plan) (log : Log) → original.raw ≡ netlist → IsSound original → IsSound mutated → IsMutantAt netlist mutated.raw site → Tells original mutated limit (Unknown log) → HasAttempt netlist site limit
attempt_of netlist site limit original mutated log is sound mutated_sound broken tells =
    let free : log.free ≡ free_bits netlist = subst (λ (n : RawNetlist). log.free ≡ free_bits n) is tells.0.1 in
    record {
      original = original;
      mutated = mutated;
      is = is;
      sound = sound;
      mutated_sound = mutated_sound;
      broken = broken;
      lemmas = log.lemmas;
      attempt = subst (λ (n : ℕ). IsAttempt (pair_clauses original mutated) n limit log.lemmas) free (subst (λ cs. IsAttempt cs log.free limit log.lemmas) tells.0.0 tells.1);
    }

-- the netlist that runs as a mutant is equal to the design just where the mutant is
equal_there : MutantsAreNetlists → (netlist : RawNetlist) (site : Site) (original mutated : Plan) → original.raw ≡ netlist → IsMutantAt netlist mutated.raw site → OneStepEqual (design original.raw) (design mutated.raw) → OneStepEqual (design netlist) (mutant netlist site)
equal_there laws netlist site original mutated is broken equal =
    (laws netlist mutated.raw site broken.runs broken.each_run).0 (subst (λ (n : RawNetlist). OneStepEqual (design n) (design mutated.raw)) is equal)

equal_here : MutantsAreNetlists → (netlist : RawNetlist) (site : Site) (original mutated : Plan) → original.raw ≡ netlist → IsMutantAt netlist mutated.raw site → OneStepEqual (design netlist) (mutant netlist site) → OneStepEqual (design original.raw) (design mutated.raw)
equal_here laws netlist site original mutated is broken equal =
    subst (λ (n : RawNetlist). OneStepEqual (design n) (design mutated.raw)) (sym is) ((laws netlist mutated.raw site broken.runs broken.each_run).1 equal)

right_at : MutantsAreNetlists → (c : Prepared) (t bound : ℕ) (site : Site) (original mutated : Plan) (verdict : EqVerdict) → original.raw ≡ c.netlist → IsSound original → IsSound mutated → IsMutantAt c.netlist mutated.raw site → Tells original mutated bound verdict → IsRightAt c t (Some site) (Some Equality) bound (told_word verdict)
right_at laws c t bound site original mutated (NoChange log) is sound mutated_sound broken tells = inl (inl (refl, equal_there laws c.netlist site original mutated is broken tells.2))
right_at laws c t bound site original mutated (Change difference) is sound mutated_sound broken tells = inl (inr (refl, λ equal. tells.1 (equal_here laws c.netlist site original mutated is broken equal)))
right_at laws c t bound site original mutated (Unknown log) is sound mutated_sound broken tells = inr (refl, attempt_of c.netlist site bound original mutated log is sound mutated_sound broken tells)

-- What the equivalence test of a mutant finds is the word of its mutation.
pub right_word : MutantsAreNetlists → (c : Prepared) (m t bound : ℕ) (original mutated : Plan) (verdict : EqVerdict) → slice_get c.trials t ≡ Some Equality → original.raw ≡ c.netlist → IsSound original → IsSound mutated → IsBrokenAt c m mutated.raw → Tells original mutated bound verdict → IsRightWord c m t bound (told_word verdict)
right_word laws c m t bound original mutated verdict test is sound mutated_sound broken tells =
    elim (slice_get c.sites m) as (λ o. IsBroken c.netlist o mutated.raw → IsRightAt c t o (slice_get c.trials t) bound (told_word verdict)) [
      | None ↦ λ b. absurd b
      | Some site ↦ λ b. subst (λ (o : Option Trial). IsRightAt c t (Some site) o bound (told_word verdict)) (sym test) (right_at laws c t bound site original mutated verdict is sound mutated_sound b tells)
    ] broken

-- What a simulation of a mutant comes to is the word of its mutation.
pub right_sim_word : (c : Prepared) (m t bound : ℕ) (bench : Parts) (pass fail : List ℕ) (mutated : Plan) (verdict : SimVerdict) → IsTestable c → slice_get c.trials t ≡ Some (Simulation bench pass fail) → IsRunnable bench → IsSound mutated → IsBrokenAt c m mutated.raw → FitsDesign bench mutated.raw → Says (record { bench = bench; netlist = mutated.raw; seed = c.word_seed }) c.cycles pass fail verdict → IsRightWord c m t bound (told_verdict verdict)
right_sim_word c m t bound bench pass fail mutated verdict testable test runnable sound broken fits says =
    elim (slice_get c.sites m) as (λ o. IsBroken c.netlist o mutated.raw → IsRightAt c t o (slice_get c.trials t) bound (told_verdict verdict)) [
      | None ↦ λ b. absurd b
      | Some site ↦ λ b. (
          let said : IsSimulated c.netlist site (record { bench = bench; seed = c.word_seed; cycles = c.cycles; pass = pass; fail = fail }) (told_verdict verdict) = record { runnable = runnable; mutated = mutated; sound = sound; broken = b; fits = fits; verdict = verdict; says = says; word_is = refl } in
          let word : IsSaid c.campaign.meta t site (told_verdict verdict) = record { other = c; plan = testable.plan; limit = testable.limit; same = refl; bench = bench; pass = pass; fail = fail; at = test; said = said } in
          subst (λ (o : Option Trial). IsRightAt c t (Some site) o bound (told_verdict verdict)) (sym test) (inl word))
    ] broken

-- a netlist with the clauses of `mutate` is the mutant of the mutation at this place
pub broken_at : (c : Prepared) (list : List Site) (m : ℕ) (d : Site) (original mutated : RawNetlist) → list ≡ c.sites → m < length c.sites → original ≡ c.netlist → RunsAlike original mutated (get_or list m d) → HasEachRun original mutated (get_or list m d)
    → HasOneMore original mutated → HasSameNames original mutated → HasSameShapes original mutated (get_or list m d).mode → IsBrokenAt c m mutated
broken_at c list m d original mutated are below is runs each more names shapes =
    let here : IsMutantAt original mutated (get_or list m d) = record { runs = runs; each_run = each; one_more = more; names = names; shapes = shapes } in
    let there : IsMutantAt c.netlist mutated (get_or c.sites m d) = subst (λ (l : List Site). IsMutantAt c.netlist mutated (get_or l m d)) are (subst (λ (n : RawNetlist). IsMutantAt n mutated (get_or list m d)) is here) in
    subst (λ (o : Option Site). IsBroken c.netlist o mutated) (sym (slice_get-get_or c.sites m d below)) there

-- such a netlist has clauses beside the design
pub accepted_at : MutantsAreAccepted → (c : Prepared) (m : ℕ) (original mutated : Plan) → original.raw ≡ c.netlist → IsSound original → IsSound mutated → IsBrokenAt c m mutated.raw → (free_bits c.netlist ≤ max_free) × (design_gates c.netlist ≤ max_design_gates) → IsAccepted original mutated
accepted_at laws c m original mutated is sound mutated_sound broken limits =
    elim (slice_get c.sites m) as (λ o. IsBroken c.netlist o mutated.raw → IsAccepted original mutated) [
      | None ↦ λ b. absurd b
      | Some site ↦ λ b. (
          let here : IsMutantAt original.raw mutated.raw site = subst (λ (n : RawNetlist). IsMutantAt n mutated.raw site) (sym is) b in
          laws original mutated site.mode sound mutated_sound here.one_more here.names here.shapes (rw is limits.0) (rw is limits.1))
    ] broken
